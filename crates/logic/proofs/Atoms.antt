-- The atoms' machines decide the atoms.
-- Assumes nothing.
use Prim.Native.Nat.{ℕ, ◌<◌}
use mathlib.Core.Path.{◌≡◌, refl, ap, ap₂, sym, subst, subst₂, ◌∙◌, fun_ext}
use mathlib.Core.Logic.Iff
use mathlib.Core.Logic.{◌↔◌, ◌≢◌}
use mathlib.Core.Bool.{Bool, true, false, cond, not, ◌&&◌, ◌||◌, true≢false}
use mathlib.Core.List.{[], ◌∷◌, ◌++◌, nil≢cons, cons≢nil, head-eq_of_cons-eq, tail-eq_of_cons-eq}
use native.Mathlib.Omega.{arith}
use lib.Dec.{T}
use Rattle.logic.specs.Meaning.{Branch, Place, has, Assignment, subset, singleton, successor, root, Holds}
use Rattle.logic.specs.Tree.{branches, Tree, empty, node, bit_at, Represents, bit}
use Rattle.logic.specs.Machine.{run, Decides, any_of}
use Rattle.logic.specs.Atom.{idle, alone, singleton_step, successor_step, root_step, subset_machine, singleton_machine, successor_machine, root_machine}
use Rattle.logic.proofs.Places.{T→true, true→T, not_T, branch-dec}
use Rattle.logic.proofs.Connectives.{and_iff}
use Rattle.logic.proofs.Branches.{eqb_iff, idle_iff, Alone, alone_iff, any_iff, total-zero, total-one}

-- cond v a b is r exactly if v, where a is r and b is not
when_true : (v : Bool) (a b r : ℕ) → a ≡ r → b ≢ r → (cond v a b ≡ r) ↔ T v
when_true true a b r e d = (λ _. tt, λ _. e)
when_true false a b r e d = (λ p. absurd (d p), λ t. absurd t)

never : (v : Bool) (a b r : ℕ) → a ≢ r → b ≢ r → cond v a b ≢ r
never true a b r d e = d
never false a b r d e = e

imp_iff : (a b : Bool) → T (not a || b) ↔ (T a → T b)
imp_iff true b = (λ t _. t, λ f. f tt)
imp_iff false b = (λ t u. absurd u, λ f. tt)

clash : {A : Type 0} {b : Bool} → b ≡ true → b ≡ false → A
clash e f = absurd (true≢false (sym e ∙ f))

module _ {k : ℕ} where
  abbrev None : (Place k → Bool) → Type 0
  None g = (p : Place k) → g p ≡ false

  abbrev Only : Place k → (Place k → Bool) → Type 0
  Only p g = (q : Place k) → T (g q) ↔ (q ≡ p)

  abbrev at : (Place k → Bool) → Branch k → Place k → Bool
  at g c p = g (c ∷ p)

  none-node : (g : Place k → Bool) → g [] ≡ false → ((c : Branch k) → None (at g c)) → None g
  none-node g e u [] = e
  none-node g e u (c ∷ p) = u c p

  only-root : (g : Place k → Bool) → g [] ≡ true → ((c : Branch k) → None (at g c)) → Only [] g
  only-root g e u [] = (λ _. refl, λ _. true→T e)
  only-root g e u (c ∷ p) = (λ t. absurd (subst T (u c p) t), λ q. absurd (cons≢nil q))

  root-bit : (g : Place k → Bool) → Only [] g → g [] ≡ true
  root-bit g o = T→true (g []) ((o []).1 refl)

  root_none : (g : Place k → Bool) → Only [] g → (c : Branch k) → None (at g c)
  root_none g o c p = not_T (g (c ∷ p)) (λ t. cons≢nil ((o (c ∷ p)).0 t))

  only-cons : (g : Place k → Bool) (c : Branch k) (p : Place k) → g [] ≡ false → Only p (at g c) → ((d : Branch k) → d ≢ c → None (at g d)) → Only (c ∷ p) g
  only-cons g c p e o u [] = (λ t. absurd (subst T e t), λ q. absurd (nil≢cons q))
  only-cons g c p e o u (d ∷ q) = (go (branch-dec d c), λ r. subst (λ (z : Place k). T (g z)) (sym r) ((o p).1 refl))
    where
      go : Dec (d ≡ c) → T (g (d ∷ q)) → ◌≡◌ {A = Place k} (d ∷ q) (c ∷ p)
      go (yes m) t = ap₂ (λ (x : Branch k) (y : Place k). x ∷ y) m ((o q).0 (rw m at t))
      go (no ne) t = absurd (subst T (u d ne q) t)

  cons-bit : (g : Place k → Bool) (c : Branch k) (p : Place k) → Only (c ∷ p) g → g [] ≡ false
  cons-bit g c p o = not_T (g []) (λ t. nil≢cons ((o []).0 t))

  cons-only : (g : Place k → Bool) (c : Branch k) (p : Place k) → Only (c ∷ p) g → Only p (at g c)
  cons-only g c p o q = (λ t. tail-eq_of_cons-eq ((o (c ∷ q)).0 t), λ e. (o (c ∷ q)).1 (ap (λ (r : Place k). c ∷ r) e))

  cons-none : (g : Place k → Bool) (c : Branch k) (p : Place k) → Only (c ∷ p) g → (d : Branch k) → d ≢ c → None (at g d)
  cons-none g c p o d ne q = not_T (g (d ∷ q)) (λ t. ne (head-eq_of_cons-eq ((o (d ∷ q)).0 t)))

  -- X = ε
  root-node : (g : Place k → Bool) (s : Branch k → ℕ) → ((c : Branch k) → (s c ≡ 0) ↔ None (at g c)) → (v : Bool) → g [] ≡ v
      → ((root_step v s ≡ 0) ↔ None g) × ((root_step v s ≡ 1) ↔ Only [] g)
  root-node g s ih true e = (
    (λ t. absurd (never (idle s) 1 2 0 (omega arith) (omega arith) t), λ u. clash e (u [])),
    (
      λ t. only-root g e (λ c. (ih c).0 ((idle_iff s).0 ((when_true (idle s) 1 2 1 refl (omega arith)).0 t) c)),
      λ o. (when_true (idle s) 1 2 1 refl (omega arith)).1 ((idle_iff s).1 (λ c. (ih c).1 (root_none g o c))),
    ),
  )
  root-node g s ih false e = (
    (
      λ t. none-node g e (λ c. (ih c).0 ((idle_iff s).0 ((when_true (idle s) 0 2 0 refl (omega arith)).0 t) c)),
      λ u. (when_true (idle s) 0 2 0 refl (omega arith)).1 ((idle_iff s).1 (λ c. (ih c).1 (λ p. u (c ∷ p)))),
    ),
    (λ t. absurd (never (idle s) 0 2 1 (omega arith) (omega arith) t), λ o. clash (root-bit g o) e),
  )

  root-run : (n x : ℕ) (t : Tree k) → ((run (root_machine n x) t ≡ 0) ↔ None (bit_at n t x)) × ((run (root_machine n x) t ≡ 1) ↔ Only [] (bit_at n t x))
  unfolding run bit_at
  root-run n x empty = ((λ _ p. refl, λ _. refl), (λ t. absurd (omega arith), λ o. absurd ((o []).1 refl)))
  root-run n x (node l f) = root-node (bit_at n (node l f) x) (λ c. run (root_machine n x) (f c)) (λ c. (root-run n x (f c)).0) (bit n l x) refl

  -- from the sets of a tree to the sets of an assignment
  transfer : (n : ℕ) (t : Tree k) (A : Assignment k) → Represents n t A → (x : ℕ) → x < n → bit_at n t x ≡ has (A x)
  unfolding Represents
  transfer n t A r x h = fun_ext (λ p. r x h p)

  pub decides-root : (n x : ℕ) → x < n → Decides {k = k} n (root_machine n x) (root x)
  unfolding Holds
  decides-root n x h t o A r =
      Iff.trans (eqb_iff (run (root_machine n x) t) 1)
      (subst (λ (g : Place k → Bool). (run (root_machine n x) t ≡ 1) ↔ Only [] g) (transfer n t A r x h) (root-run n x t).1)

  -- X ⊆ Y
  subset-run : (n x y : ℕ) (t : Tree k) → (run (subset_machine n x y) t ≡ 0) ↔ ((p : Place k) → T (bit_at n t x p) → T (bit_at n t y p))
  unfolding run bit_at
  subset-run n x y empty = (λ _ p u. u, λ _. refl)
  subset-run n x y (node l f) =
      let s : Branch k → ℕ = λ c. run (subset_machine n x y) (f c) in
      let i = and_iff (idle s) (not (bit n l x) || bit n l y) (idle_iff s) (imp_iff (bit n l x) (bit n l y)) in
      let j = when_true (idle s && (not (bit n l x) || bit n l y)) 0 1 0 refl (omega arith) in (
        λ e p. elim p as (λ r. T (bit_at n (node l f) x r) → T (bit_at n (node l f) y r)) [ [] ↦ (i.0 (j.0 e)).1 | c ∷ q ↦ (subset-run n x y (f c)).0 ((i.0 (j.0 e)).0 c) q ],
        λ u. j.1 (i.1 (λ c. (subset-run n x y (f c)).1 (λ q. u (c ∷ q)), u [])),
      )

  pub decides-subset : (n x y : ℕ) → x < n → y < n → Decides {k = k} n (subset_machine n x y) (subset x y)
  unfolding Holds
  decides-subset n x y hx hy t o A r =
      Iff.trans (eqb_iff (run (subset_machine n x y) t) 0)
      (subst₂ (λ (g h : Place k → Bool). (run (subset_machine n x y) t ≡ 0) ↔ ((p : Place k) → T (g p) → T (h p))) (transfer n t A r x hx)
      (transfer n t A r y hy) (subset-run n x y t))

  -- Sing
  single-node : (g : Place k → Bool) (s : Branch k → ℕ) → ((c : Branch k) → (s c ≡ 0) ↔ None (at g c))
      → ((c : Branch k) → (s c ≡ 1) ↔ ((p : Place k) × Only p (at g c)))
      → (v : Bool) → g [] ≡ v → ((singleton_step v s ≡ 0) ↔ None g) × ((singleton_step v s ≡ 1) ↔ ((p : Place k) × Only p g))
  single-node g s i0 i1 true e = (
    (λ t. absurd (omega arith), λ u. clash e (u [])),
    (
      λ t. ([], only-root g e (λ c. (i0 c).0 ((total-zero s).0 (omega arith) c))),
      λ w. back w.0 w.1,
    ),
  )
    where
      back : (p : Place k) → Only p g → singleton_step true s ≡ 1
      back [] o = let z = (total-zero s).1 (λ c. (i0 c).1 (root_none g o c)) in omega arith
      back (c ∷ p) o = clash e (cons-bit g c p o)
  single-node g s i0 i1 false e = (
    (
      λ t. none-node g e (λ c. (i0 c).0 ((total-zero s).0 (omega arith) c)),
      λ u. let z = (total-zero s).1 (λ c. (i0 c).1 (λ p. u (c ∷ p))) in omega arith,
    ),
    (
      λ t. let b = (total-one s).0 (omega arith) in
          let w = (i1 b.0).0 b.1.0 in
          (b.0 ∷ w.0, only-cons g b.0 w.0 e w.1 (λ d ne. (i0 d).0 (b.1.1 d ne))),
      λ w. back w.0 w.1,
    ),
  )
    where
      back : (p : Place k) → Only p g → singleton_step false s ≡ 1
      back [] o = clash (root-bit g o) e
      back (c ∷ p) o =
          let z = (total-one s).1 (c, ((i1 c).1 (p, cons-only g c p o), λ d ne. (i0 d).1 (cons-none g c p o d ne))) in
          omega arith

  single-run : (n x : ℕ) (t : Tree k)
      → ((run (singleton_machine n x) t ≡ 0) ↔ None (bit_at n t x)) × ((run (singleton_machine n x) t ≡ 1) ↔ ((p : Place k) × Only p (bit_at n t x)))
  unfolding run bit_at
  single-run n x empty = ((λ _ p. refl, λ _. refl), (λ t. absurd (omega arith), λ w. absurd ((w.1 w.0).1 refl)))
  single-run n x (node l f) =
      single-node (bit_at n (node l f) x) (λ c. run (singleton_machine n x) (f c)) (λ c. (single-run n x (f c)).0) (λ c. (single-run n x (f c)).1)
      (bit n l x) refl

  pub decides-singleton : (n x : ℕ) → x < n → Decides {k = k} n (singleton_machine n x) (singleton x)
  unfolding Holds
  decides-singleton n x h t o A r =
      Iff.trans (eqb_iff (run (singleton_machine n x) t) 1)
      (subst (λ (g : Place k → Bool). (run (singleton_machine n x) t ≡ 1) ↔ ((p : Place k) × Only p g)) (transfer n t A r x h) (single-run n x t).1)

  -- X = Y followed by branch i
  abbrev Child : Branch k → (Place k → Bool) → (Place k → Bool) → Type 0
  Child i g h = (p : Place k) × Only p h × Only (p ++ (i ∷ [])) g

  -- the sets g and h of a tree in each state
  abbrev States : Branch k → (Place k → Bool) → (Place k → Bool) → ℕ → Type 0
  States i g h q = ((q ≡ 0) ↔ (None g × None h)) × ((q ≡ 1) ↔ (Only [] g × None h)) × ((q ≡ 2) ↔ Child i g h)

  longer : (g : Place k → Bool) (p : Place k) (i : Branch k) → Only (p ++ (i ∷ [])) g → g [] ≡ false
  longer g [] i o = cons-bit g i [] o
  longer g (c ∷ p) i o = cons-bit g c (p ++ (i ∷ [])) o

  child_node : (i : Branch k) (g h : Place k → Bool) (s : Branch k → ℕ) → ((c : Branch k) → States i (at g c) (at h c) (s c))
      → (v w : Bool) → g [] ≡ v → h [] ≡ w → States i g h (successor_step i v w s)
  child_node i g h s ih true true e f = (
    (λ t. absurd (omega arith), λ u. clash e (u.0 [])),
    (λ t. absurd (omega arith), λ u. clash f (u.1 [])),
    (λ t. absurd (omega arith), λ u. clash e (longer g u.0 i u.2)),
  )
  child_node i g h s ih true false e f =
      let j = when_true (idle s) 1 3 1 refl (omega arith) in (
        (λ t. absurd (never (idle s) 1 3 0 (omega arith) (omega arith) t), λ u. clash e (u.0 [])),
        (
          λ t. let z = (idle_iff s).0 (j.0 t) in
              (only-root g e (λ c. ((ih c).0.0 (z c)).0), none-node h f (λ c. ((ih c).0.0 (z c)).1)),
          λ u. j.1 ((idle_iff s).1 (λ c. (ih c).0.1 (root_none g u.0 c, λ p. u.1 (c ∷ p)))),
        ),
        (λ t. absurd (never (idle s) 1 3 2 (omega arith) (omega arith) t), λ u. clash e (longer g u.0 i u.2)),
      )
  child_node i g h s ih false true e f =
      let j = when_true (alone 1 s i) 2 3 2 refl (omega arith) in (
        (λ t. absurd (never (alone 1 s i) 2 3 0 (omega arith) (omega arith) t), λ u. clash f (u.1 [])),
        (λ t. absurd (never (alone 1 s i) 2 3 1 (omega arith) (omega arith) t), λ u. clash f (u.1 [])),
        (
          λ t. let z = (alone_iff 1 s i).0 (j.0 t) in
              let m = (ih i).1.0 z.0 in
              ([], only-root h f (λ c. below z m c (branch-dec c i)), only-cons g i [] e m.0 (λ d ne. ((ih d).0.0 (z.1 d ne)).0)),
          λ u. j.1 ((alone_iff 1 s i).1 (back u.0 u.1 u.2)),
        ),
      )
    where
      below : Alone 1 s i → Only [] (at g i) × None (at h i) → (c : Branch k) → Dec (c ≡ i) → None (at h c)
      below z m c (yes p) = rw p m.1
      below z m c (no ne) = ((ih c).0.0 (z.1 c ne)).1

      back : (p : Place k) → Only p h → Only (p ++ (i ∷ [])) g → Alone 1 s i
      back [] oh og = ((ih i).1.1 (cons-only g i [] og, root_none h oh i), λ c ne. (ih c).0.1 (cons-none g i [] og c ne, root_none h oh c))
      back (c ∷ p) oh og = clash f (cons-bit h c p oh)
  child_node i g h s ih false false e f =
      let j0 = when_true (idle s) 0 (cond (any_of (alone 2 s) (branches k)) 2 3) 0 refl
      (never (any_of (alone 2 s) (branches k)) 2 3 0 (omega arith) (omega arith)) in (
        (
          λ t. let z = (idle_iff s).0 (j0.0 t) in
              (none-node g e (λ c. ((ih c).0.0 (z c)).0), none-node h f (λ c. ((ih c).0.0 (z c)).1)),
          λ u. j0.1 ((idle_iff s).1 (λ c. (ih c).0.1 (λ p. u.0 (c ∷ p), λ p. u.1 (c ∷ p)))),
        ),
        (
          λ t. absurd (never (idle s) 0 (cond (any_of (alone 2 s) (branches k)) 2 3) 1 (omega arith)
              (never (any_of (alone 2 s) (branches k)) 2 3 1 (omega arith) (omega arith)) t),
          λ u. clash (root-bit g u.0) e,
        ),
        (λ t. there (idle s) t, λ u. back u.0 u.1 u.2),
      )
    where
      there : (v : Bool) → ◌≡◌ {A = ℕ} (cond v 0 (cond (any_of (alone 2 s) (branches k)) 2 3)) 2 → Child i g h
      there true t = absurd (omega arith)
      there false t =
          let b = (any_iff (alone 2 s)).0 ((when_true (any_of (alone 2 s) (branches k)) 2 3 2 refl (omega arith)).0 t) in
          let z = (alone_iff 2 s b.0).0 b.1 in
          let m = (ih b.0).2.0 z.0 in (
            b.0 ∷ m.0,
            only-cons h b.0 m.0 f m.1 (λ d ne. ((ih d).0.0 (z.1 d ne)).1),
            only-cons g b.0 (m.0 ++ (i ∷ [])) e m.2 (λ d ne. ((ih d).0.0 (z.1 d ne)).0),
          )

      back : (p : Place k) → Only p h → Only (p ++ (i ∷ [])) g → ◌≡◌ {A = ℕ} (cond (idle s) 0 (cond (any_of (alone 2 s) (branches k)) 2 3)) 2
      back [] oh og = clash (root-bit h oh) f
      back (c ∷ p) oh og =
          let z : s c ≡ 2 = (ih c).2.1 (p, cons-only h c p oh, cons-only g c (p ++ (i ∷ [])) og) in
          let a = (any_iff (alone 2 s)).1
          (c, (alone_iff 2 s c).1 (z, λ d ne. (ih d).0.1 (cons-none g c (p ++ (i ∷ [])) og d ne, cons-none h c p oh d ne))) in
          let busy : idle s ≡ false = not_T (idle s) (λ t. let y = (idle_iff s).0 t c in omega arith) in
          rw (busy, T→true (any_of (alone 2 s) (branches k)) a) refl

  child_run : (n x y : ℕ) (i : Branch k) (t : Tree k) → States i (bit_at n t x) (bit_at n t y) (run (successor_machine n i x y) t)
  unfolding run bit_at
  child_run n x y i empty = (
    (λ _. (λ p. refl, λ p. refl), λ _. refl),
    (λ t. absurd (omega arith), λ u. absurd ((u.0 []).1 refl)),
    (λ t. absurd (omega arith), λ u. absurd ((u.1 u.0).1 refl)),
  )
  child_run n x y i (node l f) =
      child_node i (bit_at n (node l f) x) (bit_at n (node l f) y) (λ c. run (successor_machine n i x y) (f c)) (λ c. child_run n x y i (f c)) (bit n l x)
      (bit n l y) refl refl

  pub decides-successor : (n x y : ℕ) (i : Branch k) → x < n → y < n → Decides {k = k} n (successor_machine n i x y) (successor i x y)
  unfolding Holds
  decides-successor n x y i hx hy t o A r =
      Iff.trans (eqb_iff (run (successor_machine n i x y) t) 2)
      (subst₂ (λ (g h : Place k → Bool). (run (successor_machine n i x y) t ≡ 2) ↔ Child i g h) (transfer n t A r x hx) (transfer n t A r y hy)
      (child_run n x y i t).2)
