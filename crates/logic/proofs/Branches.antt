-- All, some and the sum over the branches.
-- Assumes nothing.
use Prim.Native.Nat.{ℕ, zero, suc, ◌+◌, ◌≤◌, ◌<◌}
use mathlib.Core.Path.{◌≡◌, refl, ap, sym, subst, ◌∙◌}
use mathlib.Core.Logic.{◌↔◌, ◌≢◌, ◌⊎◌, inl, inr, ⊎_elim}
use mathlib.Core.Bool.{Bool, true, false, cond}
use native.Mathlib.Nat.{le_refl, le_of_lt, not-suc-le-zero}
use native.Mathlib.Omega.{arith}
use lib.Dec.{T, eqb, eqb→eq, eqb_refl}
use Rattle.logic.specs.Machine.{all_of, any_of}
use Rattle.logic.specs.Meaning.{Branch, is_same_branch}
use Rattle.logic.specs.Tree.{down_from, branches, sum_of}
use Rattle.logic.specs.Atom.{idle, alone}
use Rattle.logic.proofs.Places.{T→true, true→T, not_T, neqb, branch_eq}
use Rattle.logic.proofs.Connectives.{and_iff, or_iff}

pub eqb_iff : (m n : ℕ) → T (eqb m n) ↔ (m ≡ n)
eqb_iff m n = (eqb→eq m n, λ e. subst (λ z. T (eqb m z)) e (eqb_refl m))

module _ {k : ℕ} where
  pub branch_same : (b c : Branch k) → b.number ≡ c.number → b ≡ c
  branch_same b c e = branch_eq b c ((eqb_iff b.number c.number).1 e)

  unfoldable pub last : (m : ℕ) → suc m ≤ k → Branch k
  last m h = record { number = m; below = h }

  pub is_last : (m : ℕ) (h : suc m ≤ k) (b : Branch k) → b.number < suc m → (b ≡ last m h) ⊎ (b.number < m)
  unfolding last
  is_last m h b l = go (eqb b.number m) refl
    where
      go : (v : Bool) → eqb b.number m ≡ v → (b ≡ last m h) ⊎ (b.number < m)
      go true e = inl (branch_eq b (last m h) (true→T e))
      go false e = inr (let d = neqb b.number m e in omega arith)

  all_from : (g : Branch k → Bool) (m : ℕ) (h : m ≤ k) → T (all_of g (down_from m h)) ↔ ((b : Branch k) → b.number < m → T (g b))
  unfolding all_of down_from last
  all_from g zero h = (λ t b l. absurd (not-suc-le-zero l), λ t. tt)
  all_from g (suc m) h =
      let i = and_iff (g (last m h)) (all_of g (down_from m (le_of_lt h))) (λ t. t, λ t. t) (all_from g m (le_of_lt h)) in (
        λ t b l. ⊎_elim (λ e. subst (λ c. T (g c)) (sym e) (i.0 t).0) (λ l'. (i.0 t).1 b l') (is_last m h b l),
        λ u. i.1 (u (last m h) (le_refl (suc m)), λ b l. u b (omega arith)),
      )

  pub all_iff : (g : Branch k → Bool) → T (all_of g (branches k)) ↔ ((b : Branch k) → T (g b))
  all_iff g = let i = all_from g k (le_refl k) in (λ t b. i.0 t b b.below, λ u. i.1 (λ b l. u b))

  any-from : (g : Branch k → Bool) (m : ℕ) (h : m ≤ k) → T (any_of g (down_from m h)) ↔ ((b : Branch k) × (b.number < m) × T (g b))
  unfolding any_of down_from last
  any-from g zero h = (λ t. absurd t, λ t. not-suc-le-zero t.1)
  any-from g (suc m) h =
      let i = or_iff (g (last m h)) (any_of g (down_from m (le_of_lt h))) (λ t. t, λ t. t) (any-from g m (le_of_lt h)) in (
        λ t. ⊎_elim (λ e. (last m h, le_refl (suc m), e)) (λ w. (w.0, omega arith, w.2)) (i.0 t),
        λ w. i.1 (⊎_elim (λ e. inl (subst (λ c. T (g c)) e w.2)) (λ l'. inr (w.0, l', w.2)) (is_last m h w.0 w.1)),
      )

  pub any_iff : (g : Branch k → Bool) → T (any_of g (branches k)) ↔ ((b : Branch k) × T (g b))
  any_iff g = let i = any-from g k (le_refl k) in (λ t. ((i.0 t).0, (i.0 t).2), λ w. i.1 (w.0, w.0.below, w.1))

  pub idle_iff : (s : Branch k → ℕ) → T (idle s) ↔ ((b : Branch k) → s b ≡ 0)
  idle_iff s = let i = all_iff (λ b. eqb (s b) 0) in (λ t b. eqb→eq (s b) 0 (i.0 t b), λ u. i.1 (λ b. (eqb_iff (s b) 0).1 (u b)))

  -- branch b is in state v, the others in state 0
  abbrev pub Alone : ℕ → (Branch k → ℕ) → Branch k → Type 0
  Alone v s b = (s b ≡ v) × ((c : Branch k) → c ≢ b → s c ≡ 0)

  pub same_branch : (b : Branch k) → is_same_branch b b ≡ true
  same_branch b = T→true (is_same_branch b b) (eqb_refl b.number)

  pub other-branch : (c b : Branch k) → c ≢ b → is_same_branch c b ≡ false
  other-branch c b d = not_T (is_same_branch c b) (λ t. d (branch_eq c b t))

  pub alone_iff : (v : ℕ) (s : Branch k → ℕ) (b : Branch k) → T (alone v s b) ↔ Alone v s b
  alone_iff v s b =
      let i = all_iff (λ c. eqb (s c) (cond (is_same_branch c b) v 0)) in (
        λ t. (eqb→eq (s b) v (rw (same_branch b) at (i.0 t b)), λ c d. eqb→eq (s c) 0 (rw (other-branch c b d) at (i.0 t c))),
        λ u. i.1 (λ c. go u c (is_same_branch c b) refl),
      )
    where
      go : Alone v s b → (c : Branch k) (w : Bool) → is_same_branch c b ≡ w → T (eqb (s c) (cond w v 0))
      go u c true e = (eqb_iff (s c) v).1 (ap s (branch_eq c b (true→T e)) ∙ u.0)
      go u c false e = (eqb_iff (s c) 0).1 (u.1 c (λ p. neqb c.number b.number e (ap (λ (x : Branch k). x.number) p)))

  sum-zero : (s : Branch k → ℕ) (m : ℕ) (h : m ≤ k) → (sum_of s (down_from m h) ≡ 0) ↔ ((b : Branch k) → b.number < m → s b ≡ 0)
  unfolding sum_of down_from last
  sum-zero s zero h = (λ t b l. absurd (not-suc-le-zero l), λ t. refl)
  sum-zero s (suc m) h =
      let i = sum-zero s m (le_of_lt h) in (
        λ t b l. ⊎_elim (λ e. ap s e ∙ omega arith) (λ l'. i.0 (omega arith) b l') (is_last m h b l),
        λ u. let e = u (last m h) (le_refl (suc m)) in let f = i.1 (λ b l. u b (omega arith)) in omega arith,
      )

  abbrev OneBelow : (Branch k → ℕ) → ℕ → Type 0
  OneBelow s m = (b : Branch k) × (b.number < m) × (s b ≡ 1) × ((c : Branch k) → c.number < m → c ≢ b → s c ≡ 0)

  sum_one : (s : Branch k → ℕ) (m : ℕ) (h : m ≤ k) → (sum_of s (down_from m h) ≡ 1) ↔ OneBelow s m
  unfolding sum_of down_from last
  sum_one s zero h = (λ t. absurd (omega arith), λ t. absurd (not-suc-le-zero t.1))
  sum_one s (suc m) h = let i = sum_one s m (le_of_lt h) in (λ t. there i (s (last m h)) refl t, back i)
    where
      R : ℕ
      R = sum_of s (down_from m (le_of_lt h))

      there : (R ≡ 1) ↔ OneBelow s m → (a : ℕ) → s (last m h) ≡ a → a + R ≡ 1 → OneBelow s (suc m)
      there i zero e t =
          let w = i.0 (omega arith) in
          (w.0, omega arith, w.2, λ c l d. ⊎_elim (λ p. ap s p ∙ e) (λ l'. w.3 c l' d) (is_last m h c l))
      there i (suc a) e t = (
        last m h,
        le_refl (suc m),
        omega arith,
        λ c l d. ⊎_elim (λ p. absurd (d p))
            (λ l'. (sum-zero s m (le_of_lt h)).0 (omega arith) c l') (is_last m h c l),
      )

      back : (R ≡ 1) ↔ OneBelow s m → OneBelow s (suc m) → s (last m h) + R ≡ 1
      back i w = ⊎_elim first later (is_last m h w.0 w.1)
        where
          first : w.0 ≡ last m h → s (last m h) + R ≡ 1
          first p =
              let a = ap s p in let e = w.2 in
              let z : R ≡ 0 = (sum-zero s m (le_of_lt h)).1 (λ c l. w.3 c (omega arith)
              (λ q. let r = ap (λ (x : Branch k). x.number) (q ∙ p) in omega arith)) in
              omega arith

          later : w.0.number < m → s (last m h) + R ≡ 1
          later l =
              let z : s (last m h) ≡ 0 = w.3 (last m h) (le_refl (suc m)) (λ q. let r = ap (λ (x : Branch k). x.number) q in omega arith) in
              let o : R ≡ 1 = i.1 (w.0, l, w.2, λ c l' d. w.3 c (omega arith) d) in
              omega arith

  pub total-zero : (s : Branch k → ℕ) → (sum_of s (branches k) ≡ 0) ↔ ((b : Branch k) → s b ≡ 0)
  total-zero s = let i = sum-zero s k (le_refl k) in (λ t b. i.0 t b b.below, λ u. i.1 (λ b l. u b))

  pub total-one : (s : Branch k → ℕ) → (sum_of s (branches k) ≡ 1) ↔ ((b : Branch k) × Alone 1 s b)
  total-one s =
      let i = sum_one s k (le_refl k) in (
        λ t. let w = i.0 t in (w.0, (w.2, λ c d. w.3 c c.below d)),
        λ w. i.1 (w.0, w.0.below, w.1.0, λ c l d. w.1.1 c d),
      )
