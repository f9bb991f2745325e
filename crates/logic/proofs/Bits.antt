-- The laws of a label's bits.
-- Assumes nothing.
use Prim.Native.Nat.{ℕ, zero, suc, ◌+◌, ◌*◌, ◌-◌, ◌/◌, ◌%◌, ◌^◌, ◌<◌}
use mathlib.Core.Path.{◌≡◌, refl, ap, sym, subst, ◌∙◌}
use mathlib.Core.Logic.{◌≢◌}
use mathlib.Core.Bool.{Bool, true, false, true≢false, false≢true}
use native.Mathlib.Omega.{arith}
use native.Mathlib.Nat.{div-one, div-div-eq-div-mul, not-suc-le-zero, le_of_suc-le-suc}
use lib.Dec.{eqb}
use Rattle.logic.specs.Reach.{word_of}
use Rattle.logic.specs.Trim.{label_of}
use Rattle.logic.specs.Machine.{set_low, with_bit, bit_of}
use Rattle.logic.specs.Tree.{low, bit}

pub bit_of-odd : (b : Bool) → eqb (bit_of b) 1 ≡ b
bit_of-odd true = refl
bit_of-odd false = refl

pub bit_of-small : (b : Bool) → bit_of b < 2
bit_of-small true = omega arith
bit_of-small false = omega arith

low-set-same : (j : ℕ) (b : Bool) (l : ℕ) → low (set_low j b l) j ≡ b
unfolding low set_low
low-set-same zero b l =
    let h = bit_of-small b in
    let e : ((l / 2) * 2 + bit_of b) % 2 ≡ bit_of b = omega arith in
    rw e (bit_of-odd b)
low-set-same (suc j) b l =
    let e : (set_low j b (l / 2) * 2 + l % 2) / 2 ≡ set_low j b (l / 2) = omega arith in
    rw e (low-set-same j b (l / 2))

low-set-other : (i j : ℕ) (b : Bool) (l : ℕ) → i ≢ j → low (set_low j b l) i ≡ low l i
unfolding low set_low
low-set-other zero zero b l d = absurd (d refl)
low-set-other zero (suc j) b l d =
    let e : (set_low j b (l / 2) * 2 + l % 2) % 2 ≡ l % 2 = omega arith in
    rw e refl
low-set-other (suc i) zero b l d =
    let h = bit_of-small b in
    let e : ((l / 2) * 2 + bit_of b) / 2 ≡ l / 2 = omega arith in
    rw e refl
low-set-other (suc i) (suc j) b l d =
    let e : (set_low j b (l / 2) * 2 + l % 2) / 2 ≡ set_low j b (l / 2) = omega arith in
    rw e (low-set-other i j b (l / 2) (λ p. d (ap suc p)))

low-zero : (j : ℕ) → low 0 j ≡ false
unfolding low
low-zero zero = refl
low-zero (suc j) = low-zero j

pub bit-put-same : (n x : ℕ) (b : Bool) (l : ℕ) → bit n (with_bit n x b l) x ≡ b
unfolding bit with_bit
bit-put-same n x b l = low-set-same (n - suc x) b l

pub bit-put-other : (n x : ℕ) (b : Bool) (l i : ℕ) → x < n → i < n → i ≢ x → bit n (with_bit n x b l) i ≡ bit n l i
unfolding bit with_bit
bit-put-other n x b l i hx hi d = low-set-other (n - suc i) (n - suc x) b l (omega arith)

pub bit-zero : (n i : ℕ) → bit n 0 i ≡ false
unfolding bit
bit-zero n i = low-zero (n - suc i)

half-bound : (l m : ℕ) → l < 2 ^ suc m → l / 2 < 2 ^ m
half-bound l m h = omega arith

set_low_lt : (m j : ℕ) (b : Bool) (l : ℕ) → j < m → l < 2 ^ m → set_low j b l < 2 ^ m
unfolding set_low
set_low_lt zero j b l h k = absurd (not-suc-le-zero h)
set_low_lt (suc m) zero b l h k = let e = bit_of-small b in omega arith
set_low_lt (suc m) (suc j) b l h k = let e = set_low_lt m j b (l / 2) (le_of_suc-le-suc h) (half-bound l m k) in omega arith

pub put_lt : (n x : ℕ) (b : Bool) (l : ℕ) → x < n → l < 2 ^ n → with_bit n x b l < 2 ^ n
unfolding with_bit
put_lt n x b l hx hl = set_low_lt n (n - suc x) b l (omega arith) hl

-- a number below 2 is told by whether it is 1
odd_ext : (a b : ℕ) → a < 2 → b < 2 → eqb a 1 ≡ eqb b 1 → a ≡ b
odd_ext zero zero h k e = refl
odd_ext zero (suc zero) h k e = absurd (false≢true e)
odd_ext (suc zero) zero h k e = absurd (true≢false e)
odd_ext (suc zero) (suc zero) h k e = refl
odd_ext (suc (suc a)) b h k e = absurd (omega arith)
odd_ext zero (suc (suc b)) h k e = absurd (omega arith)
odd_ext (suc zero) (suc (suc b)) h k e = absurd (omega arith)

pub low_ext : (m l k : ℕ) → l < 2 ^ m → k < 2 ^ m → ((j : ℕ) → j < m → low l j ≡ low k j) → l ≡ k
unfolding low
low_ext zero l k hl hk e = omega arith
low_ext (suc m) l k hl hk e =
    let a = odd_ext (l % 2) (k % 2) (omega arith) (omega arith) (e 0 (omega arith)) in
    let b = low_ext m (l / 2) (k / 2) (half-bound l m hl) (half-bound k m hk) (λ j h. e (suc j) (omega arith)) in
    omega arith

pub bit_ext : (n l k : ℕ) → l < 2 ^ n → k < 2 ^ n → ((i : ℕ) → i < n → bit n l i ≡ bit n k i) → l ≡ k
unfolding bit
bit_ext n l k hl hk e = low_ext n l k hl hk (λ j h.
    let p : n - suc (n - suc j) ≡ j = omega arith in
    subst (λ (z : ℕ). low l z ≡ low k z) p (e (n - suc j) (omega arith)))

pub low_word : (c : ℕ) (g : ℕ → Bool) (q : ℕ) → q < c → low (word_of c g) q ≡ g q
unfolding low word_of
low_word zero g q h = absurd (not-suc-le-zero h)
low_word (suc c) g zero h =
    let b = bit_of-small (g 0) in
    let e : (word_of c (λ q. g (suc q)) * 2 + bit_of (g 0)) % 2 ≡ bit_of (g 0) = omega arith in
    rw e (bit_of-odd (g 0))
low_word (suc c) g (suc q) h =
    let b = bit_of-small (g 0) in
    let e : (word_of c (λ q. g (suc q)) * 2 + bit_of (g 0)) / 2 ≡ word_of c (λ q. g (suc q)) = omega arith in
    rw e (low_word c (λ q. g (suc q)) q (le_of_suc-le-suc h))

pub word_lt : (c : ℕ) (g : ℕ → Bool) → word_of c g < 2 ^ c
unfolding word_of
word_lt zero g = omega arith
word_lt (suc c) g = let b = bit_of-small (g 0) in let h = word_lt c (λ q. g (suc q)) in omega arith

pub bit-label : (n : ℕ) (g : ℕ → Bool) (i : ℕ) → i < n → bit n (label_of n g) i ≡ g i
unfolding bit label_of
bit-label n g i h =
    low_word n (λ j. g (n - suc j)) (n - suc i) (omega arith) ∙ ap g (omega arith)

pub label_lt : (n : ℕ) (g : ℕ → Bool) → label_of n g < 2 ^ n
unfolding label_of
label_lt n g = word_lt n (λ j. g (n - suc j))

-- the code's way to a bit: shift right and take the last digit
pub low-shift : (l j : ℕ) → low l j ≡ eqb ((l / 2 ^ j) % 2) 1
unfolding low
low-shift l zero = ap (λ (z : ℕ). eqb (z % 2) 1) (sym (div-one l))
low-shift l (suc j) =
    low-shift (l / 2) j ∙ ap (λ (z : ℕ). eqb (z % 2) 1) (div-div-eq-div-mul l 2 (2 ^ j) ∙ ap (λ (z : ℕ). l / z) (omega arith))
