-- States that are apart: they do not behave alike, with a witness. Not being apart is a congruence.
-- Assumes nothing.
use Prim.Native.Nat.{ℕ, ◌^◌, ◌<◌}
use mathlib.Core.Path.{◌≡◌, refl, sym, ap, subst, subst₂, ◌∙◌, fun_ext}
use mathlib.Core.Logic.{◌≢◌, ◌⊎◌, inl, inr, ⊎_elim}
use mathlib.Core.Bool.{Bool, true, false, cond, ◌||◌, Bool-discrete}
use mathlib.Core.List.{List, [], ◌∷◌}
use Rattle.logic.specs.Meaning.{Branch, is_same_branch}
use Rattle.logic.specs.Tree.{Tree, node, Proper, branches}
use Rattle.logic.specs.Machine.{Machine, Bounded, run}
use Rattle.logic.specs.Alike.{Full}
use Rattle.logic.proofs.Places.{true→T, branch_eq, among, among-all}
use Rattle.logic.proofs.Settle.{run-below}
use Rattle.logic.proofs.Satisfiable.{reached-tree}
use Rattle.logic.specs.Joined.{gap, around, ProperContext, beside, resume, BehaveAlike}
use Rattle.logic.specs.Least.{SameTrees}

-- some tree around them is accepted with one of p and q and not with the other
pub data Apart {k : ℕ} (n c : ℕ) (M : Machine k ℕ) : ℕ → ℕ → Type 0 where
  seen : {p q : ℕ} → M.accepting p ≢ M.accepting q → Apart n c M p q
  later : {p q : ℕ} (l : ℕ) → l < 2 ^ n → (b : Branch k) (s : Branch k → ℕ) → ((d : Branch k) → s d < c)
      → Apart n c M (M.step l (beside b p s)) (M.step l (beside b q s)) → Apart n c M p q

module _ {k : ℕ} (n c : ℕ) (M : Machine k ℕ) (B : Bounded n c M) where
  pub apart-≢ : {p q : ℕ} → Apart n c M p q → p ≡ q → ⊥
  apart-≢ (seen d) e = d (ap M.accepting e)
  apart-≢ (later l h b s u a) e = apart-≢ a (ap (λ (z : ℕ). M.step l (beside b z s)) e)

  pub apart-sym : {p q : ℕ} → Apart n c M p q → Apart n c M q p
  apart-sym (seen d) = seen (λ e. d (sym e))
  apart-sym (later l h b s u a) = later l h b s u (apart-sym a)

  pub beside_lt : (b : Branch k) (p : ℕ) (s : Branch k → ℕ) → p < c → ((d : Branch k) → s d < c) → (d : Branch k) → beside b p s d < c
  beside_lt b p s hp hs d = go (is_same_branch d b)
    where
      go : (v : Bool) → cond v p (s d) < c
      go true = hp
      go false = hs d

  -- of two that are apart, any third is apart from one
  pub apart-third : {p q : ℕ} → Apart n c M p q → (r : ℕ) → r < c → Apart n c M p r ⊎ Apart n c M r q
  apart-third {p} {q} (seen d) r h = go (Bool-discrete (M.accepting p) (M.accepting r))
    where
      go : Dec (M.accepting p ≡ M.accepting r) → Apart n c M p r ⊎ Apart n c M r q
      go (yes e) = inr (seen (λ e'. d (e ∙ e')))
      go (no e) = inl (seen e)
  apart-third {p} {q} (later l h b s u a) r hr =
      ⊎_elim (λ x. inl (later l h b s u x)) (λ x. inr (later l h b s u x)) (apart-third a (M.step l (beside b r s)) (B.1 l h (beside b r s) (beside_lt b r s hr u)))

  abbrev pub Like : ℕ → ℕ → Type 0
  Like p q = Apart n c M p q → ⊥

  like_trans : (p r q : ℕ) → r < c → Like p r → Like r q → Like p q
  like_trans p r q h x y a = ⊎_elim x y (apart-third a r h)

  -- s' at the branches of the list, s at the others
  mix : List (Branch k) → (Branch k → ℕ) → (Branch k → ℕ) → Branch k → ℕ
  mix bs s s' d = cond (among bs d) (s' d) (s d)

  mix_lt : (bs : List (Branch k)) (s s' : Branch k → ℕ) → ((d : Branch k) → s d < c) → ((d : Branch k) → s' d < c) → (d : Branch k) → mix bs s s' d < c
  unfolding mix
  mix_lt bs s s' h h' d = go (among bs d)
    where
      go : (v : Bool) → cond v (s' d) (s d) < c
      go true = h' d
      go false = h d

  -- alike branches give alike states
  like-step : (l : ℕ) → l < 2 ^ n → (s s' : Branch k → ℕ) → ((d : Branch k) → s d < c) → ((d : Branch k) → s' d < c) → ((d : Branch k) → Like (s d) (s' d))
      → (bs : List (Branch k)) → Like (M.step l s) (M.step l (mix bs s s'))
  unfolding mix among
  like-step l h s s' hs hs' x [] = λ a. apart-≢ a refl
  like-step l h s s' hs hs' x (b ∷ bs) =
      like_trans (M.step l s) (M.step l (mix bs s s')) (M.step l (mix (b ∷ bs) s s')) (B.1 l h (mix bs s s') (mix_lt bs s s' hs hs')) (like-step l h s s' hs hs' x bs)
      (λ a. one (among bs b) (later l h b (mix bs s s') (mix_lt bs s s' hs hs')
      (subst₂ (λ (y z : ℕ). Apart n c M y z) (ap (M.step l) (fun_ext (λ d. old d (is_same_branch d b) refl))) (ap (M.step l) (fun_ext (λ d. new d (is_same_branch d b) refl))) a)))
    where
      old : (d : Branch k) (v : Bool) → is_same_branch d b ≡ v → mix bs s s' d ≡ cond v (mix bs s s' b) (mix bs s s' d)
      old d true e = ap (mix bs s s') (branch_eq d b (true→T e))
      old d false e = refl

      new : (d : Branch k) (v : Bool) → is_same_branch d b ≡ v → cond (v || among bs d) (s' d) (s d) ≡ cond v (s' b) (mix bs s s' d)
      new d true e = ap s' (branch_eq d b (true→T e))
      new d false e = refl

      one : (v : Bool) → Apart n c M (cond v (s' b) (s b)) (s' b) → ⊥
      one true a = apart-≢ a refl
      one false a = x b a

  pub like_cong : (l : ℕ) → l < 2 ^ n → (s s' : Branch k → ℕ) → ((d : Branch k) → s d < c) → ((d : Branch k) → s' d < c) → ((d : Branch k) → Like (s d) (s' d)) → Like (M.step l s) (M.step l s')
  unfolding mix
  like_cong l h s s' hs hs' x =
      subst (λ (z : Branch k → ℕ). Like (M.step l s) (M.step l z)) (fun_ext (λ d. rw (among-all d) refl)) (like-step l h s s' hs hs' x (branches k))

module _ {k : ℕ} (n c : ℕ) (M : Machine k ℕ) (F : Full n c M) where
  tree_of : (q : ℕ) → q < c → (t : Tree k) × Proper n t × (run M t ≡ q)
  tree_of q h = reached-tree n M q (F.1 q h)

  -- being apart is not behaving alike
  pub apart-differ : {p q : ℕ} → Apart n c M p q → BehaveAlike n M p q → ⊥
  unfolding resume ProperContext
  apart-differ (seen d) x = d (x gap tt)
  apart-differ {p} {q} (later l h b s u a) x = apart-differ a (λ C o.
      subst₂ (λ (y z : Branch k → ℕ). M.accepting (resume M C (M.step l y)) ≡ M.accepting (resume M C (M.step l z)))
      (fun_ext (λ d. ap (λ (z : ℕ). cond (is_same_branch d b) p z) (w d).2)) (fun_ext (λ d. ap (λ (z : ℕ). cond (is_same_branch d b) q z) (w d).2))
      (x (around l b (λ d. (w d).0) C) (h, (λ d. (w d).1), o)))
    where
      w : (d : Branch k) → (v : Tree k) × Proper n v × (run M v ≡ s d)
      w d = tree_of (s d) (u d)

  pub like_behave : (p q : ℕ) → (Apart n c M p q → ⊥) → BehaveAlike n M p q
  unfolding resume ProperContext
  like_behave p q x gap o = go (Bool-discrete (M.accepting p) (M.accepting q))
    where
      go : Dec (M.accepting p ≡ M.accepting q) → M.accepting p ≡ M.accepting q
      go (yes e) = e
      go (no d) = absurd (x (seen d))
  like_behave p q x (around l b f C) o =
      like_behave (M.step l (beside b p (λ d. run M (f d)))) (M.step l (beside b q (λ d. run M (f d))))
      (λ a. x (later l o.0 b (λ d. run M (f d)) (λ d. run-below n c M F (f d) (o.1 d)) a)) C o.2

  -- trees with states that are apart are told apart by every machine that accepts the same trees
  pub told-apart : {Q : Type 0} (N : Machine k Q) → SameTrees n M N → {p q : ℕ} → Apart n c M p q → (t u : Tree k) → Proper n t → Proper n u → run M t ≡ p → run M u ≡ q → run N t ≡ run N u → ⊥
  unfolding run Proper
  told-apart N agree (seen d) t u ot ou et eu e = d (ap M.accepting (sym et) ∙ agree t ot ∙ ap N.accepting e ∙ sym (agree u ou) ∙ ap M.accepting eu)
  told-apart N agree {p} {q} (later l h b s us a) t u ot ou et eu e =
      told-apart N agree a (over t) (over u) (h, λ d. proper t ot d (is_same_branch d b)) (h, λ d. proper u ou d (is_same_branch d b))
      (ap (M.step l) (fun_ext (λ d. state t p et d (is_same_branch d b)))) (ap (M.step l) (fun_ext (λ d. state u q eu d (is_same_branch d b))))
      (ap (N.step l) (fun_ext (λ d. both d (is_same_branch d b))))
    where
      w : (d : Branch k) → (v : Tree k) × Proper n v × (run M v ≡ s d)
      w d = tree_of (s d) (us d)

      over : Tree k → Tree k
      over v = node l (λ d. cond (is_same_branch d b) v (w d).0)

      proper : (v : Tree k) → Proper n v → (d : Branch k) (x : Bool) → Proper n (cond x v (w d).0)
      proper v o d true = o
      proper v o d false = (w d).1

      state : (v : Tree k) (r : ℕ) → run M v ≡ r → (d : Branch k) (x : Bool) → run M (cond x v (w d).0) ≡ cond x r (s d)
      state v r f d true = f
      state v r f d false = (w d).2

      both : (d : Branch k) (x : Bool) → run N (cond x t (w d).0) ≡ run N (cond x u (w d).0)
      both d true = e
      both d false = refl
