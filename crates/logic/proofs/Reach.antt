-- The rounds find exactly the states that can be reached.
-- Assumes nothing.
use Prim.Native.Nat.{ℕ, zero, suc, ◌<◌}
use mathlib.Core.Path.{◌≡◌, refl, ap, sym, subst, ◌∙◌, fun_ext}
use mathlib.Core.Logic.{◌↔◌, ◌⊎◌, inl, inr, ⊎_elim}
use mathlib.Core.Bool.{Bool, true, false, cond, ◌||◌, true≢false}
use mathlib.Core.List.{List, [], ◌∷◌, ◌++◌}
use native.Mathlib.Nat.{not-suc-le-zero}
use native.Mathlib.Omega.{arith}
use lib.Dec.{T, eqb, eqb→eq}
use Rattle.logic.specs.Meaning.{Branch, is_same_branch}
use Rattle.logic.specs.Tree.{branches}
use Rattle.logic.specs.Machine.{Machine}
use Rattle.logic.specs.Reach.{elem, below, flat, select, outcomes, successors}
use Rattle.logic.proofs.Places.{true→T, neqb, branch_eq, among, among-all}
use Rattle.logic.proofs.Connectives.{or_iff}
use Rattle.logic.proofs.Branches.{eqb_iff, same_branch}

pub elem-cons : (q r : ℕ) (L : List ℕ) → T (elem q (r ∷ L)) ↔ ((q ≡ r) ⊎ T (elem q L))
unfolding elem
elem-cons q r L = or_iff (eqb q r) (elem q L) (eqb_iff q r) (λ t. t, λ t. t)

pub elem-none : (q : ℕ) → T (elem q []) → ⊥
unfolding elem
elem-none q t = t

pub elem-one : (q a : ℕ) → T (elem q (a ∷ [])) → q ≡ a
elem-one q a t = ⊎_elim (λ e. e) (λ u. absurd (elem-none q u)) ((elem-cons q a []).0 t)

pub elem-two : (q a b : ℕ) → T (elem q (a ∷ b ∷ [])) → (q ≡ a) ⊎ (q ≡ b)
elem-two q a b t = ⊎_elim inl (λ u. inr (elem-one q b u)) ((elem-cons q a (b ∷ [])).0 t)

pub elem-first : (q : ℕ) (L : List ℕ) → T (elem q (q ∷ L))
elem-first q L = (elem-cons q q L).1 (inl refl)

pub elem-second : (q r : ℕ) → T (elem r (q ∷ r ∷ []))
elem-second q r = (elem-cons r q (r ∷ [])).1 (inr (elem-first r []))

pub elem-append : (q : ℕ) (L N : List ℕ) → T (elem q (L ++ N)) ↔ (T (elem q L) ⊎ T (elem q N))
unfolding elem
elem-append q [] N = (inr, ⊎_elim (λ t. absurd t) (λ t. t))
elem-append q (r ∷ L) N =
    let i = elem-cons q r (L ++ N) in
    let j = elem-append q L N in
    let h = elem-cons q r L in (
      λ t. ⊎_elim (λ e. inl (h.1 (inl e))) (λ u. ⊎_elim (λ v. inl (h.1 (inr v))) inr (j.0 u)) (i.0 t),
      λ s. i.1 (⊎_elim (λ t. ⊎_elim inl (λ v. inr (j.1 (inl v))) (h.0 t)) (λ v. inr (j.1 (inr v))) s),
    )

pub elem-flat : (q : ℕ) (g : ℕ → List ℕ) (L : List ℕ) → T (elem q (flat g L)) ↔ ((r : ℕ) × T (elem r L) × T (elem q (g r)))
unfolding elem flat
elem-flat q g [] = (λ t. absurd t, λ w. w.1)
elem-flat q g (r ∷ L) =
    let i = elem-append q (g r) (flat g L) in
    let j = elem-flat q g L in (
      λ t. ⊎_elim (λ u. (r, (elem-cons r r L).1 (inl refl), u)) (λ u. let w = j.0 u in (w.0, (elem-cons w.0 r L).1 (inr w.1), w.2)) (i.0 t),
      λ w. i.1 (⊎_elim (λ e. inl (subst (λ (z : ℕ). T (elem q (g z))) e w.2)) (λ u. inr (j.1 (w.0, u, w.2))) ((elem-cons w.0 r L).0 w.1)),
    )

pub elem_below : (q m : ℕ) → T (elem q (below m)) ↔ (q < m)
unfolding elem below
elem_below q zero = (λ t. absurd t, λ h. not-suc-le-zero h)
elem_below q (suc m) =
    let i = elem-cons q m (below m) in
    let j = elem_below q m in (
      λ t. ⊎_elim (λ e. omega arith) (λ u. let h = j.0 u in omega arith) (i.0 t),
      λ h. i.1 (last (eqb q m) refl h j.1),
    )
  where
    last : (v : Bool) → eqb q m ≡ v → q < suc m → (q < m → T (elem q (below m))) → (q ≡ m) ⊎ T (elem q (below m))
    last true e h ih = inl (eqb→eq q m (true→T e))
    last false e h ih = inr (ih (let d = neqb q m e in omega arith))

pub elem-select : (q : ℕ) (g : ℕ → Bool) (L : List ℕ) → T (elem q (select g L)) ↔ (T (elem q L) × T (g q))
unfolding elem select
elem-select q g [] = (λ t. absurd t, λ w. w.0)
elem-select q g (r ∷ L) = go (g r) refl (elem-select q g L)
  where
    go : (v : Bool) → g r ≡ v → T (elem q (select g L)) ↔ (T (elem q L) × T (g q))
        → T (elem q (cond v (r ∷ select g L) (select g L))) ↔ (T (elem q (r ∷ L)) × T (g q))
    go true e j = (
      λ t. ⊎_elim (λ p. ((elem-cons q r L).1 (inl p), true→T (ap g p ∙ e))) (λ u. ((elem-cons q r L).1 (inr (j.0 u).0), (j.0 u).1))
          ((elem-cons q r (select g L)).0 t),
      λ w. (elem-cons q r (select g L)).1 (⊎_elim inl (λ u. inr (j.1 (u, w.1))) ((elem-cons q r L).0 w.0)),
    )
    go false e j = (
      λ t. ((elem-cons q r L).1 (inr (j.0 t).0), (j.0 t).1),
      λ w. j.1 (⊎_elim (λ p. absurd (subst T (ap g p ∙ e) w.1)) (λ u. u) ((elem-cons q r L).0 w.0), w.1),
    )

module _ {k : ℕ} where
  pub outcomes-only : (bs : List (Branch k)) (L : Branch k → List ℕ) (f : (Branch k → ℕ) → ℕ) (v : ℕ) → T (elem v (outcomes bs L f))
      → (r : Branch k → ℕ) × ((c : Branch k) → T (among bs c) → T (elem (r c) (L c))) × (f r ≡ v)
  unfolding outcomes among elem
  outcomes-only [] L f v t = ((λ b. 0), (λ c u. absurd u), ⊎_elim sym (λ u. absurd u) ((elem-cons v (f (λ b. 0)) []).0 t))
  outcomes-only (b ∷ bs) L f v t =
      let w = (elem-flat v (λ q. outcomes bs L (λ r. f (λ c. cond (is_same_branch c b) q (r c)))) (L b)).0 t in
      let q = w.0 in
      let z = outcomes-only bs L (λ r. f (λ c. cond (is_same_branch c b) q (r c))) v w.2 in
      ((λ c. cond (is_same_branch c b) q (z.0 c)), (λ c. go q z.0 w.1 z.1 c (is_same_branch c b) refl), z.2)
    where
      go : (q : ℕ) (r : Branch k → ℕ) → T (elem q (L b)) → ((c : Branch k) → T (among bs c) → T (elem (r c) (L c)))
          → (c : Branch k) (x : Bool) → is_same_branch c b ≡ x → T (x || among bs c) → T (elem (cond x q (r c)) (L c))
      go q r h ih c true e u = rw (branch_eq c b (true→T e)) h
      go q r h ih c false e u = ih c u

  pub outcomes-all : (bs : List (Branch k)) (L : Branch k → List ℕ) (f : (Branch k → ℕ) → ℕ) (r : Branch k → ℕ)
      → ((c : Branch k) → T (among bs c) → T (elem (r c) (L c)))
      → ((c : Branch k) → among bs c ≡ false → r c ≡ 0) → T (elem (f r) (outcomes bs L f))
  unfolding outcomes among elem
  outcomes-all [] L f r h z = (elem-cons (f r) (f (λ b. 0)) []).1 (inl (ap f (fun_ext (λ c. z c refl))))
  outcomes-all (b ∷ bs) L f r h z =
      let f' : (Branch k → ℕ) → ℕ = λ s. f (λ c. cond (is_same_branch c b) (r b) (s c)) in
      let r' : Branch k → ℕ = λ c. cond (among bs c) (r c) 0 in
      let e : f' r' ≡ f r = ap f (fun_ext (λ c. same c (is_same_branch c b) refl (among bs c) refl)) in
      (elem-flat (f r) (λ q. outcomes bs L (λ s. f (λ c. cond (is_same_branch c b) q (s c)))) (L b)).1
      (r b, h b (first b), subst (λ (v : ℕ). T (elem v (outcomes bs L f'))) e (outcomes-all bs L f' r' (λ c. some c (among bs c) refl) (λ c q. rw q refl)))
    where
      first : (c : Branch k) → T (is_same_branch c c || among bs c)
      first c = rw (same_branch c) tt

      same : (c : Branch k) (x : Bool) → is_same_branch c b ≡ x → (y : Bool) → among bs c ≡ y → cond x (r b) (cond y (r c) 0) ≡ r c
      same c true e y e' = ap r (sym (branch_eq c b (true→T e)))
      same c false e true e' = refl
      same c false e false e' = sym (z c (rw (e, e') refl))

      some : (c : Branch k) (y : Bool) → among bs c ≡ y → T y → T (elem (cond y (r c) 0) (L c))
      some c true e t = h c (later c (is_same_branch c b) (true→T e))
        where
          later : (c : Branch k) (x : Bool) → T (among bs c) → T (x || among bs c)
          later c true u = tt
          later c false u = u
      some c false e t = absurd t

  pub successors_iff : (M : Machine k ℕ) (ls : List ℕ) (L : Branch k → List ℕ) (q : ℕ)
      → T (elem q (successors M ls L)) ↔ ((l : ℕ) × T (elem l ls) × (r : Branch k → ℕ) × ((b : Branch k) → T (elem (r b) (L b))) × (M.step l r ≡ q))
  unfolding successors
  successors_iff M ls L q =
      let i = elem-flat q (λ l. outcomes (branches k) L (M.step l)) ls in (
        λ t. let w = i.0 t in
            let z = outcomes-only (branches k) L (M.step w.0) q w.2 in
            (w.0, w.1, z.0, (λ b. z.1 b (true→T (among-all b))), z.2),
        λ w. i.1 (
          w.0,
          w.1,
          subst (λ (v : ℕ). T (elem v (outcomes (branches k) L (M.step w.0)))) w.4
              (outcomes-all (branches k) L (M.step w.0) w.2 (λ c u. w.3 c) (λ c e. absurd (true≢false (sym (among-all c) ∙ e)))),
        ),
      )
