-- The joined machine, for any test that tells which states are apart: it accepts the same trees, comes to all of its states, and has the fewest.
-- Assumes nothing.
use Prim.Native.Nat.{ℕ, zero, suc, ◌^◌, ◌≤◌, ◌<◌}
use mathlib.Core.Path.{◌≡◌, refl, sym, ap, ap₂, subst, ◌∙◌}
use mathlib.Core.Logic.{◌↔◌, ◌⊎◌, inl, inr, ⊎_elim}
use mathlib.Core.Bool.{Bool, true, false, cond, not, Bool-discrete}
use mathlib.Core.List.{List, [], ◌∷◌, ◌++◌}
use native.Mathlib.Nat.{not-suc-le-zero}
use native.Mathlib.Decide.{dec_lt}
use native.Mathlib.Omega.{arith}
use lib.Dec.{T, T_not, not_T, eqb, eqb→eq}
use lib.ListN.{length, get_or}
use Rattle.logic.specs.Meaning.{Branch}
use Rattle.logic.specs.Tree.{Tree, empty, Proper}
use Rattle.logic.specs.Machine.{Machine, Bounded, run, Simulates}
use Rattle.logic.specs.Reach.{elem, below, Reached, numbered}
use Rattle.logic.specs.Alike.{Full, Distinct, Lists, Agrees}
use Rattle.logic.specs.Table.{Table}
use Rattle.logic.proofs.Places.{true→T, neqb, T-ext}
use Rattle.logic.proofs.Branches.{eqb_iff}
use Rattle.logic.proofs.Connectives.{run_simulates}
use Rattle.logic.proofs.Reach.{elem-cons, elem-append, elem-select, elem_below}
use Rattle.logic.proofs.Rounds.{select-distinct}
use Rattle.logic.proofs.Numbered.{numbered_simulates}
use Rattle.logic.proofs.Satisfiable.{reached-tree, tree-reached}
use Rattle.logic.proofs.Settle.{run-below}
use Rattle.logic.proofs.Pigeon.{pigeon}
use Rattle.logic.proofs.Alike.{numbered-alike}
use Rattle.logic.proofs.Counts.{full-numbered}
use Rattle.logic.proofs.Agreement.{run-agrees}
use Rattle.logic.specs.Joined.{first, numbers, class_of, merged, classes, join_by}
use Rattle.logic.specs.Least.{SameTrees, AtLeast, Least}
use Rattle.logic.proofs.Apart.{Apart, seen, apart-≢, apart-sym, apart-third, like_cong, told-apart}

pub elem-numbers : (q m : ℕ) → T (elem q (numbers m)) ↔ (q < m)
unfolding elem numbers
elem-numbers q zero = (λ t. absurd t, λ h. not-suc-le-zero h)
elem-numbers q (suc m) =
    let i = elem-append q (numbers m) (m ∷ []) in
    let j = elem-numbers q m in (
      λ t. ⊎_elim (λ u. let h = j.0 u in omega arith) (λ u. ⊎_elim (λ e. omega arith) (λ z. absurd z) ((elem-cons q m []).0 u)) (i.0 t),
      λ h. i.1 (place (eqb q m) refl h j.1),
    )
  where
    place : (v : Bool) → eqb q m ≡ v → q < suc m → (q < m → T (elem q (numbers m))) → T (elem q (numbers m)) ⊎ T (elem q (m ∷ []))
    place true e h ih = inr ((elem-cons q m []).1 (inl (eqb→eq q m (true→T e))))
    place false e h ih = inl (ih (let d = neqb q m e in omega arith))

snoc-distinct : (L : List ℕ) (q : ℕ) → Distinct L → (T (elem q L) → ⊥) → Distinct (L ++ (q ∷ []))
unfolding Distinct elem
snoc-distinct [] q d n = ((λ t. t), tt)
snoc-distinct (r ∷ L) q d n = (
  (λ t. ⊎_elim d.0 (λ u. ⊎_elim (λ e. n ((elem-cons q r L).1 (inl (sym e)))) (λ v. v) ((elem-cons r q []).0 u)) ((elem-append r L (q ∷ [])).0 t)),
  snoc-distinct L q d.1 (λ t. n ((elem-cons q r L).1 (inr t))),
)

pub numbers-distinct : (m : ℕ) → Distinct (numbers m)
unfolding numbers Distinct
numbers-distinct zero = tt
numbers-distinct (suc m) = snoc-distinct (numbers m) m (numbers-distinct m) (λ t. let h = (elem-numbers m m).0 t in omega arith)

pub first_found : (g : ℕ → Bool) (L : List ℕ) (r : ℕ) → T (elem r L) → T (g r) → T (elem (first g L) L) × T (g (first g L))
unfolding first elem
first_found g [] r t h = absurd t
first_found g (q ∷ L) r t h = go (g q) refl (first_found g L r)
  where
    go : (v : Bool) → g q ≡ v → (T (elem r L) → T (g r) → T (elem (first g L) L) × T (g (first g L))) → T (elem (cond v q (first g L)) (q ∷ L)) × T (g (cond v q (first g L)))
    go true e ih = ((elem-cons q q L).1 (inl refl), true→T e)
    go false e ih =
        let w = ih (⊎_elim (λ p. absurd (subst T (ap g p ∙ e) h)) (λ u. u) ((elem-cons r q L).0 t)) h in
        ((elem-cons (first g L) q L).1 (inr w.0), w.1)

pub first_cong : (g h : ℕ → Bool) (L : List ℕ) → ((r : ℕ) → T (elem r L) → g r ≡ h r) → first g L ≡ first h L
unfolding first
first_cong g h [] e = refl
first_cong g h (q ∷ L) e =
    ap₂ (λ (v : Bool) (z : ℕ). cond v q z) (e q ((elem-cons q q L).1 (inl refl))) (first_cong g h L (λ r t. e r ((elem-cons r q L).1 (inr t))))

-- N has d states and no more: what is at least there is at most d
pub at_most : {k : ℕ} (n c d : ℕ) (N : Machine k ℕ) → Bounded n d N → AtLeast n N c → c ≤ d
at_most n c d N B w = pigeon d c (λ i. run N (w.0 i)) (λ i h. (run-agrees n d N N B own (w.0 i) (w.1 i h)).1) w.2
  where
    own : Agrees n d N N
    own = record { starts = refl; steps = λ l h s u. refl; accepts = λ q h. refl }

-- g gives each state below c one of its class, the same one for the whole class; Like says which are of a class
pub record Chooses {k : ℕ} (n c : ℕ) (M : Machine k ℕ) (g : ℕ → ℕ) : Type 0 where
  pub inside : (q : ℕ) → q < c → g q < c
  pub alike : (q : ℕ) → q < c → Apart n c M (g q) q → ⊥
  pub same : (p q : ℕ) → p < c → q < c → (Apart n c M p q → ⊥) → g p ≡ g q

-- the first of a class will do
pub chooses_first : {k : ℕ} (n c : ℕ) (M : Machine k ℕ) → Bounded n c M → (apart : ℕ → ℕ → Bool) → ((p q : ℕ) → p < c → q < c → T (apart p q) ↔ Apart n c M p q) → Chooses n c M (class_of c apart)
unfolding class_of
chooses_first n c M B apart tells = record { inside = λ q h. (like q h).0; alike = λ q h. (like q h).1; same = same }
  where
    like : (q : ℕ) → q < c → (first (λ r. not (apart r q)) (numbers c) < c) × (Apart n c M (first (λ r. not (apart r q)) (numbers c)) q → ⊥)
    like q h =
        let w = first_found (λ r. not (apart r q)) (numbers c) q ((elem-numbers q c).1 h) (not_T (apart q q) (λ t. apart-≢ n c M B ((tells q q h h).0 t) refl)) in
        let lt = (elem-numbers (first (λ r. not (apart r q)) (numbers c)) c).0 w.0 in
        (lt, λ a. T_not (apart (first (λ r. not (apart r q)) (numbers c)) q) w.1 ((tells (first (λ r. not (apart r q)) (numbers c)) q lt h).1 a))

    equal : (p q : ℕ) → p < c → q < c → (Apart n c M p q → ⊥) → (r : ℕ) → r < c → apart r p ≡ apart r q
    equal p q hp hq x r h = T-ext (apart r p) (apart r q)
        (λ t. ⊎_elim (λ a. (tells r q h hq).1 a) (λ a. absurd (x (apart-sym n c M B a))) (apart-third n c M B ((tells r p h hp).0 t) q hq))
        (λ t. ⊎_elim (λ a. (tells r p h hp).1 a) (λ a. absurd (x a)) (apart-third n c M B ((tells r q h hq).0 t) p hp))

    same : (p q : ℕ) → p < c → q < c → (Apart n c M p q → ⊥) → first (λ r. not (apart r p)) (numbers c) ≡ first (λ r. not (apart r q)) (numbers c)
    same p q hp hq x = first_cong (λ r. not (apart r p)) (λ r. not (apart r q)) (numbers c) (λ r t. ap not (equal p q hp hq x r ((elem-numbers r c).0 t)))

module _ {k : ℕ} (n c : ℕ) (M : Machine k ℕ) (F : Full n c M) (g : ℕ → ℕ) (G : Chooses n c M g) where
  abbrev J : Machine k ℕ
  J = merged g M

  abbrev L : List ℕ
  L = classes c g

  abbrev Stands : ℕ → ℕ → Type 0
  Stands q r = (q < c) × (r < c) × (q ≡ g r)

  stands-like : (q r : ℕ) → Stands q r → Apart n c M q r → ⊥
  stands-like q r u = subst (λ (z : ℕ). Apart n c M z r → ⊥) (sym u.2) (G.alike r u.1)

  pub merged_simulates : Simulates n J M Stands
  unfolding merged
  merged_simulates = record {
    at_start = (G.inside M.start F.0.0, F.0.0, refl);
    at_step = λ l h s r u.
        let hs = F.0.1 l h s (λ b. (u b).0) in
        let hr = F.0.1 l h r (λ b. (u b).1) in
        (G.inside (M.step l s) hs, hr, G.same (M.step l s) (M.step l r) hs hr (like_cong n c M F.0 l h s r (λ b. (u b).0) (λ b. (u b).1) (λ b. stands-like (s b) (r b) (u b))));
    at-end = λ q r u. equal q r (stands-like q r u) (Bool-discrete (M.accepting q) (M.accepting r));
  }
    where
      equal : (q r : ℕ) → (Apart n c M q r → ⊥) → Dec (M.accepting q ≡ M.accepting r) → M.accepting q ≡ M.accepting r
      equal q r x (yes e) = e
      equal q r x (no d) = absurd (x (seen d))

  merged-run : (t : Tree k) → Proper n t → run J t ≡ g (run M t)
  merged-run t o = (run_simulates n J M Stands merged_simulates t o).2

  -- the chosen state of a class is its own
  idem : (q : ℕ) → q < c → g (g q) ≡ g q
  idem q h = G.same (g q) q (G.inside q h) h (G.alike q h)

  class_iff : (q : ℕ) → T (elem q L) ↔ ((q < c) × (g q ≡ q))
  unfolding classes
  class_iff q =
      let i = elem-select q (λ z. eqb (g z) z) (numbers c) in
      let j = elem-numbers q c in
      let e = eqb_iff (g q) q in
      ((λ t. (j.0 (i.0 t).0, e.0 (i.0 t).1)), λ w. i.1 (j.1 w.0, e.1 w.1))

  pub classes-list : Lists n J L
  unfolding classes merged
  classes-list = record {
    distinct = select-distinct (λ z. eqb (g z) z) (numbers c) (numbers-distinct c);
    only = λ q t.
        let w = (class_iff q).0 t in
        let u = reached-tree n M q (F.1 q w.0) in
        subst (λ (z : ℕ). Reached J (below (2 ^ n)) z) (merged-run u.0 u.1 ∙ ap g u.2 ∙ w.1) (tree-reached n J u.0 u.1);
    begins = (class_iff (g M.start)).1 (G.inside M.start F.0.0, idem M.start F.0.0);
    closed = λ l t s u. let h = step_lt l t s u in (class_iff (g (M.step l s))).1 (G.inside (M.step l s) h, idem (M.step l s) h);
  }
    where
      step_lt : (l : ℕ) → T (elem l (below (2 ^ n))) → (s : Branch k → ℕ) → ((b : Branch k) → T (elem (s b) L)) → M.step l s < c
      step_lt l t s u = F.0.1 l ((elem_below l (2 ^ n)).0 t) s (λ b. ((class_iff (s b)).0 (u b)).0)

  abbrev K : Table k
  K = join_by c g M

  -- ALL STATES of the joined machine are reached
  pub join-full : Full n K.count K.machine
  unfolding join_by
  join-full = full-numbered n J L classes-list

  -- THE SAME TREES are accepted
  pub join-accepts : SameTrees n K.machine M
  unfolding join_by
  join-accepts t o =
      let s = numbered_simulates n J L classes-list.begins classes-list.closed in
      s.at-end (run (numbered J L) t) (run J t) (run_simulates n (numbered J L) J (λ q r. (q < length L) × (get_or L q 0 ≡ r)) s t o)
      ∙ merged_simulates.at-end (run J t) (run M t) (run_simulates n J M Stands merged_simulates t o)

  -- it tells two trees apart exactly if M's states for them are apart
  pub join-kernel : (t u : Tree k) → Proper n t → Proper n u → (run K.machine t ≡ run K.machine u) ↔ (Apart n c M (run M t) (run M u) → ⊥)
  unfolding join_by
  join-kernel t u o o' =
      let i = numbered-alike n J L classes-list.begins classes-list.closed t u o o' in
      let ht = run-below n c M F t o in let hu = run-below n c M F u o' in (
        (λ e a. kernel a ht hu (sym (merged-run t o) ∙ i.0 e ∙ merged-run u o')),
        λ x. i.1 (merged-run t o ∙ G.same (run M t) (run M u) ht hu x ∙ sym (merged-run u o')),
      )
    where
      kernel : {p q : ℕ} → Apart n c M p q → p < c → q < c → g p ≡ g q → ⊥
      kernel {p} {q} a hp hq e = ⊎_elim
          (λ x. G.alike p hp (apart-sym n c M F.0 x))
          (λ x. G.alike q hq (subst (λ (z : ℕ). Apart n c M z q) e x))
          (apart-third n c M F.0 a (g p) (G.inside p hp))

  -- THE LEAST: no machine with fewer states accepts the same trees
  pub join-least : Least n M K.count
  join-least Q N agree = ((λ i. (at i).0), (λ i h. ((at i).1 h).0), λ i j h l e. distinct i j h l e)
    where
      at : (i : ℕ) → (t : Tree k) × (i < K.count → Proper n t × (run K.machine t ≡ i))
      at i = elim (dec_lt i K.count) [ yes p ↦ (let w = reached-tree n K.machine i (join-full.1 i p) in (w.0, λ _. (w.1, w.2))) | no p ↦ (empty, λ l. absurd (p l)) ]

      distinct : (i j : ℕ) → i < j → j < K.count → run N (at i).0 ≡ run N (at j).0 → ⊥
      distinct i j h l e =
          let hi : i < K.count = omega arith in
          let a = (at i).1 hi in let b = (at j).1 l in
          let z : i ≡ j = sym a.1 ∙ (join-kernel (at i).0 (at j).0 a.0 b.0).1 (λ x. told-apart n c M F N agree x (at i).0 (at j).0 a.0 b.0 refl refl e) ∙ b.1 in
          omega arith
