-- The bit of a variable in a label. Assumes nothing.
use Rattle.words.proofs.Vocabulary.{ℕ, ◌≤◌, ◌<◌, ◌+◌, ◌-◌, ◌*◌, suc, ◌%◌, ◌^◌, ◌/◌, ◌≡◌, digits_lt, mod-mul, pow_pos, pow-lt}
use Rattle.words.proofs.Vocabulary.{pow-add, pow-suc, mod-lt, div-add-mod', zero-div, zero-mod, arith}
use native.Mathlib.Nat.{div-lt_iff_lt-mul}
use Rattle.table.specs.Entry.{off, on, Bit}

-- a label without a bit is no larger
pub off_le : (w l : ℕ) → 0 < w → off w l ≤ l
unfolding off
off_le w l h = omega (arith, div-add-mod' l (2 * w), mod-mul l {m = 2} {c = w} (omega arith) h)

-- the label 0, with the bit cleared and set
pub off_zero : (w : ℕ) → off w 0 ≡ 0
unfolding off
off_zero w = let a = zero-div (2 * w) in let b = zero-mod w in rw (a, b) (omega arith)

pub on_zero : (w : ℕ) → on w 0 ≡ w
unfolding on
on_zero w = omega (arith, off_zero w)

-- the weight of a bit below n
pub bit_of : (n k : ℕ) → k < n → Bit (2 ^ k) (2 ^ n)
unfolding off on
bit_of n k h = record {
  is_label = pow-lt h;
  off-label = λ l hl. put l (l % 2 ^ k) hl (omega (arith, mod-lt l (pow_pos k)));
  on_label = λ l hl. omega (arith, put l (l % 2 ^ k + 2 ^ k) hl (omega (arith, mod-lt l (pow_pos k))));
}
  where
    size : 2 ^ (n - suc k) * (2 * 2 ^ k) ≡ 2 ^ n
    size =
        let e : n - suc k + suc k ≡ n = omega arith in
        let two : 2 * 2 ^ k ≡ 2 ^ suc k = omega (arith, pow-suc 2 k) in
        rw (two, ← pow-add, e)

    put : (l x : ℕ) → l < 2 ^ n → x < 2 * 2 ^ k → l / (2 * 2 ^ k) * (2 * 2 ^ k) + x < 2 ^ n
    put l x hl hx = rw (← size) (digits_lt ((div-lt_iff_lt-mul (omega arith)).1 (rw (← size) at hl)) hx)
