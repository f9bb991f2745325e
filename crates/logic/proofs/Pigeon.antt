-- n different numbers below m: n is at most m.
-- Assumes nothing.
use mathlib.Core.Path.{◌≡◌, refl, sym, ◌∙◌}
use Prim.Native.Nat.{ℕ, zero, suc, ◌≤◌, ◌<◌}
use native.Mathlib.Omega.{arith}
use native.Mathlib.Decide.{ℕ_discrete}

-- where f gives m, last is put for it
patch : ℕ → ℕ → ℕ → ℕ
patch m last x = elim (ℕ_discrete x m) [ yes e ↦ last | no h ↦ x ]

patch_at : (m last x : ℕ) → x ≡ m → patch m last x ≡ last
unfolding patch
patch_at m last x e = elim (ℕ_discrete x m) as (λ d. elim d as (λ _. ℕ) [ yes e ↦ last | no h ↦ x ] ≡ last) [ yes e' ↦ refl | no h ↦ absurd (h e) ]

patch-off : (m last x : ℕ) → (x ≡ m → ⊥) → patch m last x ≡ x
unfolding patch
patch-off m last x h = elim (ℕ_discrete x m) as (λ d. elim d as (λ _. ℕ) [ yes e ↦ last | no h ↦ x ] ≡ x) [ yes e ↦ absurd (h e) | no h' ↦ refl ]

pub pigeon : (m n : ℕ) (f : ℕ → ℕ) → ((i : ℕ) → i < n → f i < m) → ((i j : ℕ) → i < j → j < n → f i ≡ f j → ⊥) → n ≤ m
pigeon m zero f below apart = omega arith
pigeon zero (suc n) f below apart = omega (arith, below n (omega arith))
pigeon (suc m) (suc n) f below apart = omega (arith, pigeon m n (λ i. patch m (f n) (f i)) below' apart')
  where
    below' : (i : ℕ) → i < n → patch m (f n) (f i) < m
    below' i h = elim (ℕ_discrete (f i) m) [
      | yes e ↦ rw (patch_at m (f n) (f i) e) (let d : f n ≡ m → ⊥ = λ e'. apart i n h (omega arith) (e ∙ sym e') in omega (arith, below n (omega arith)))
      | no d ↦ rw (patch-off m (f n) (f i) d) (omega (arith, below i (omega arith)))
    ]

    apart' : (i j : ℕ) → i < j → j < n → patch m (f n) (f i) ≡ patch m (f n) (f j) → ⊥
    apart' i j h k e = elim (ℕ_discrete (f i) m) [
      | yes p ↦ elim (ℕ_discrete (f j) m) [
        | yes q ↦ apart i j h (omega arith) (p ∙ sym q)
        | no q ↦ apart j n k (omega arith) (sym (sym (patch_at m (f n) (f i) p) ∙ e ∙ patch-off m (f n) (f j) q))
      ]
      | no p ↦ elim (ℕ_discrete (f j) m) [
        | yes q ↦ apart i n (omega arith) (omega arith) (sym (patch-off m (f n) (f i) p) ∙ e ∙ patch_at m (f n) (f j) q)
        | no q ↦ apart i j h (omega arith) (sym (patch-off m (f n) (f i) p) ∙ e ∙ patch-off m (f n) (f j) q)
      ]
    ]
