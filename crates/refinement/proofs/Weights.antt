-- A variable's bit by its weight.
-- Assumes nothing.
use Rattle.words.proofs.Vocabulary.{ℕ, ◌+◌, ◌-◌, ◌*◌, suc, ◌%◌, zero, ◌^◌, ◌/◌, Bool, true, false, ◌≡◌, ◌∙◌, sym, ap, ap₂, mod-mul, eqb, pow_pos}
use Rattle.words.proofs.Vocabulary.{pow-suc, div-div-eq-div-mul, mul_assoc, arith}
use Rattle.records.specs.Decode.{bit_weight}
use Rattle.logic.specs.Tree.{bit}
use Rattle.logic.specs.Machine.{bit_of, set_low, with_bit}
use Rattle.logic.proofs.Bits.{low-shift}
use Rattle.table.specs.Entry.{off, on}

pub bit_is : (n l x : ℕ) → bit n l x ≡ eqb (l / bit_weight n x % 2) 1
unfolding bit
bit_is n l x = low-shift l (n - suc x)

set_is : (j : ℕ) (b : Bool) (l : ℕ) → set_low j b l ≡ l / (2 * 2 ^ j) * (2 * 2 ^ j) + l % 2 ^ j + bit_of b * 2 ^ j
unfolding set_low
set_is zero b l = omega arith
set_is (suc j) b l =
    let p : ℕ = 2 ^ j in
    let e : 2 ^ suc j ≡ p * 2 = omega (arith, pow-suc 2 j) in
    let ih : set_low j b (l / 2) ≡ l / 2 / (2 * p) * (2 * p) + l / 2 % p + bit_of b * p = set_is j b (l / 2) in
    let f : 2 * 2 ^ suc j ≡ 2 * p * 2 = omega arith in
    let d : l / (2 * 2 ^ suc j) ≡ l / 2 / (2 * p) = ap (λ (z : ℕ). l / z) (omega arith) ∙ sym (div-div-eq-div-mul l 2 (2 * p)) in
    let m : l % 2 ^ suc j ≡ (l / 2 % p) * 2 + l % 2 = ap (λ (z : ℕ). l % z) e ∙ mod-mul l {m = p} {c = 2} (pow_pos j) (omega arith) in
    let x : l / (2 * 2 ^ suc j) * (2 * 2 ^ suc j) ≡ l / 2 / (2 * p) * (2 * p) * 2 =
    ap₂ (λ (a b : ℕ). a * b) d f ∙ sym (mul_assoc (l / 2 / (2 * p)) (2 * p) 2) in
    let y : bit_of b * 2 ^ suc j ≡ bit_of b * p * 2 = ap (λ (z : ℕ). bit_of b * z) e ∙ sym (mul_assoc (bit_of b) p 2) in
    omega arith

pub put-off : (n x l : ℕ) → with_bit n x false l ≡ off (bit_weight n x) l
unfolding with_bit off
put-off n x l = set_is (n - suc x) false l ∙ omega arith

pub put_on : (n x l : ℕ) → with_bit n x true l ≡ on (bit_weight n x) l
unfolding with_bit on off
put_on n x l = set_is (n - suc x) true l ∙ omega arith
