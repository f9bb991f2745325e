-- Binary digits of a number, and how setting one changes them. Assumes nothing.
use mathlib.Core.Path.{◌≡◌, refl, sym, ap, ◌∙◌}
use Prim.Native.Nat.{ℕ, zero, suc, ◌/◌, ◌%◌, ◌^◌, ◌<◌, max}
use native.Mathlib.Nat.{mod-lt, zero-lt-suc, div-one, suc-add, zero-add, zero-div}
use native.Mathlib.Omega.{arith}
use lib.Pow.{shr-shr}
use lib.Arith.{digits_mod}
use lib.Bits.{bit_or, or_step, or_shr}

-- the i-th binary digit of w
abbrev pub bit : ℕ → ℕ → ℕ
bit i w = w / 2 ^ i % 2

-- 1 where the two are equal, else 0
abbrev pub same : ℕ → ℕ → ℕ
same zero zero = 1
same zero (suc i) = 0
same (suc j) zero = 0
same (suc j) (suc i) = same j i

pub bit_lt : (i w : ℕ) → bit i w < 2
bit_lt i w = mod-lt (w / 2 ^ i) (zero-lt-suc 1)

max-lt : (a b : ℕ) → a < 2 → b < 2 → max a b < 2
max-lt a b p q = omega arith

or_low : (a b : ℕ) → bit_or a b % 2 ≡ max (a % 2) (b % 2)
or_low a b =
    ap (λ (x : ℕ). x % 2) (or_step a b)
    ∙ digits_mod (bit_or (a / 2) (b / 2)) (max-lt (a % 2) (b % 2) (mod-lt a (zero-lt-suc 1)) (mod-lt b (zero-lt-suc 1)))

-- i is a member of the union where it is a member of either
pub or_bit : (i a b : ℕ) → bit i (bit_or a b) ≡ max (bit i a) (bit i b)
or_bit i a b = ap (λ (x : ℕ). x % 2) (or_shr a b i) ∙ or_low (a / 2 ^ i) (b / 2 ^ i)

-- bit 0 and the bits above
pub bit_suc : (i w : ℕ) → bit (suc i) w ≡ bit i (w / 2)
bit_suc i w = ap (λ (x : ℕ). x % 2) (sym (shr-shr w 1 i ∙ ap (λ (x : ℕ). w / 2 ^ x) (suc-add 0 i ∙ ap suc (zero-add i))))

pub bit-zero : (w : ℕ) → bit 0 w ≡ w % 2
bit-zero w = ap (λ (x : ℕ). x % 2) (div-one w)

bit-none : (j : ℕ) → bit j 0 ≡ 0
bit-none j = ap (λ (x : ℕ). x % 2) (zero-div (2 ^ j))

pub pow_bit : (j i : ℕ) → bit j (2 ^ i) ≡ same j i
pow_bit zero zero = refl
pow_bit zero (suc i) = bit-zero (2 ^ suc i) ∙ omega arith
pow_bit (suc j) zero = bit_suc j 1 ∙ bit-none j
pow_bit (suc j) (suc i) = bit_suc j (2 ^ suc i) ∙ ap (bit j) (omega arith) ∙ pow_bit j i

pub with_bit : (i w j : ℕ) → bit j (bit_or w (2 ^ i)) ≡ max (bit j w) (same j i)
with_bit i w j = or_bit j w (2 ^ i) ∙ ap (max (bit j w)) (pow_bit j i)
