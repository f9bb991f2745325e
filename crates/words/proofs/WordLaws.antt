-- Laws of words as sets. Assumes nothing.
use Rattle.words.proofs.Vocabulary.{ℕ, ◌<◌, ◌+◌, ◌*◌, suc, ◌%◌, zero, ◌^◌, ◌/◌, suc-le-suc, zero-le, max, min, Bool, ◌||◌, true, false, ◌&&◌, ◌≡◌, ◌∙◌}
use Rattle.words.proofs.Vocabulary.{refl, sym, ap, fun_ext, digits_div, digits_mod, bit_or, bit_and, and_step, or_step, count_trailing_zeros, under, eqb}
use Rattle.words.proofs.Vocabulary.{eqb·suc-suc, eqb·suc-zero, eqb·zero-suc, shr-shr, le_of_suc-le-suc, not-suc-le-zero, pow-suc, arith}
use Rattle.words.specs.Word.{mem, digit, word_where}

-- what holds of 0 and 1 holds of a digit
one-digit : (P : ℕ → Type 0) → P 0 → P 1 → (x : ℕ) → x < 2 → P x
one-digit P a b zero h = a
one-digit P a b (suc zero) h = b
one-digit P a b (suc (suc x)) h = absurd (omega arith)

-- an operation on words works digit by digit, if it does so for the four pairs of digits
abbrev Joins : (ℕ → ℕ → ℕ) → (Bool → Bool → Bool) → ℕ → ℕ → Type 0
Joins on join x y = (on x y < 2) × (eqb (on x y) 1 ≡ join (eqb x 1) (eqb y 1))

module _ (op on : ℕ → ℕ → ℕ) (join : Bool → Bool → Bool) (step : (a b : ℕ) → op a b ≡ op (a / 2) (b / 2) * 2 + on (a % 2) (b % 2))
    (none : Joins on join 0 0) (second : Joins on join 0 1) (first : Joins on join 1 0) (both : Joins on join 1 1) where
  digits : (x y : ℕ) → x < 2 → y < 2 → Joins on join x y
  digits x y hx hy = one-digit (λ x. Joins on join x y) (one-digit (Joins on join 0) none second y hy) (one-digit (Joins on join 1) first both y hy) x hx

  mem_op : (q a b : ℕ) → mem q (op a b) ≡ join (mem q a) (mem q b)
  unfolding mem
  mem_op zero a b = let d = digits (a % 2) (b % 2) (omega arith) (omega arith) in rw (step a b, digits_mod (op (a / 2) (b / 2)) d.0) d.1
  mem_op (suc q) a b =
      let d = digits (a % 2) (b % 2) (omega arith) (omega arith) in
      rw (step a b, digits_div (op (a / 2) (b / 2)) d.0) (mem_op q (a / 2) (b / 2))

pub mem_or : (q a b : ℕ) → mem q (bit_or a b) ≡ (mem q a || mem q b)
mem_or = mem_op bit_or max ◌||◌ or_step (omega arith, refl) (omega arith, refl) (omega arith, refl) (omega arith, refl)

pub mem_and : (q a b : ℕ) → mem q (bit_and a b) ≡ (mem q a && mem q b)
mem_and = mem_op bit_and min ◌&&◌ and_step (omega arith, refl) (omega arith, refl) (omega arith, refl) (omega arith, refl)

pub mem-zero : (q : ℕ) → mem q 0 ≡ false
unfolding mem
mem-zero zero = refl
mem-zero (suc q) = mem-zero q

pub mem-one : (q e : ℕ) → mem q (2 ^ e) ≡ eqb e q
unfolding mem
mem-one zero zero = refl
mem-one (suc q) zero = mem-zero q ∙ sym (eqb·zero-suc q)
mem-one zero (suc e) = let a : 2 ^ suc e % 2 ≡ 0 = omega (arith, pow-suc 2 e) in rw (a, eqb·suc-zero e)
mem-one (suc q) (suc e) = let a : 2 ^ suc e / 2 ≡ 2 ^ e = omega (arith, pow-suc 2 e) in rw (a, eqb·suc-suc e q) (mem-one q e)

pub mem_shr : (p q n : ℕ) → mem q (n / 2 ^ p) ≡ mem (p + q) n
unfolding mem
mem_shr zero q n =
    let a : n / 1 ≡ n = omega arith in
    let b : zero + q ≡ q = omega arith in
    rw (a, b)
mem_shr (suc p) q n =
    let a : suc p ≡ 1 + p = omega arith in
    let b : suc p + q ≡ suc (p + q) = omega arith in
    rw b (ap (mem q) (ap (λ (m : ℕ). n / 2 ^ m) a ∙ sym (shr-shr n 1 p)) ∙ mem_shr p q (n / 2))

-- the lowest member, and none below it
pub lowest : (k n : ℕ) → 0 < n → n < 2 ^ k
    → (count_trailing_zeros k n < k) × (mem (count_trailing_zeros k n) n ≡ true) × ((q : ℕ) → q < count_trailing_zeros k n → mem q n ≡ false)
unfolding mem count_trailing_zeros
lowest zero n h l = absurd (omega arith)
lowest (suc k) n h l = go (n % 2) refl (lowest k (n / 2))
  where
    t : ℕ
    t = count_trailing_zeros k (n / 2)

    go : (r : ℕ) → n % 2 ≡ r → (0 < n / 2 → n / 2 < 2 ^ k → (t < k) × (mem t (n / 2) ≡ true) × ((q : ℕ) → q < t → mem q (n / 2) ≡ false))
        → (under r t < suc k) × (mem (under r t) n ≡ true) × ((q : ℕ) → q < under r t → mem q n ≡ false)
    go zero e old =
        let z = old (omega arith) (omega (arith, pow-suc 2 k)) in
        (suc-le-suc z.0, z.1, λ q. elim q as (λ p. p < suc t → mem p n ≡ false) [ zero ↦ λ h. ap (λ (m : ℕ). eqb m 1) e | suc q ↦ λ h. z.2 q (le_of_suc-le-suc h) ])
    go (suc r) e old = let one : n % 2 ≡ 1 = omega arith in (suc-le-suc zero-le, ap (λ (m : ℕ). eqb m 1) one, λ q h. absurd (not-suc-le-zero h))

pub digit-mem : (x : ℕ) → x < 2 → digit (eqb x 1) ≡ x
digit-mem x h = one-digit (λ x. digit (eqb x 1) ≡ x) refl refl x h

-- a word is settled by its members
pub word_ext : (k n : ℕ) (f : ℕ → Bool) → n < 2 ^ k → ((q : ℕ) → q < k → mem q n ≡ f q) → n ≡ word_where f k
unfolding mem word_where
word_ext zero n f h all = omega arith
word_ext (suc k) n f h all =
    let a : n / 2 ≡ word_where (λ (q : ℕ). f (suc q)) k =
    word_ext k (n / 2) (λ (q : ℕ). f (suc q)) (omega (arith, pow-suc 2 k)) (λ q l. all (suc q) (suc-le-suc l)) in
    let b : n % 2 ≡ digit (f zero) = sym (digit-mem (n % 2) (omega arith)) ∙ ap digit (all zero (suc-le-suc zero-le)) in
    omega arith

digit_lt : (b : Bool) → digit b < 2
digit_lt true = omega arith
digit_lt false = omega arith

eqb_digit : (b : Bool) → eqb (digit b) 1 ≡ b
eqb_digit true = refl
eqb_digit false = refl

pub word-mem : (k q : ℕ) (f : ℕ → Bool) → q < k → mem q (word_where f k) ≡ f q
unfolding mem word_where
word-mem zero q f h = absurd (not-suc-le-zero h)
word-mem (suc k) zero f h = ap (λ (n : ℕ). eqb n 1) (digits_mod (word_where (λ (q : ℕ). f (suc q)) k) (digit_lt (f zero))) ∙ eqb_digit (f zero)
word-mem (suc k) (suc q) f h =
    ap (mem q) (digits_div (word_where (λ (q : ℕ). f (suc q)) k) (digit_lt (f zero))) ∙ word-mem k q (λ (q : ℕ). f (suc q)) (le_of_suc-le-suc h)

pub word_lt : (k : ℕ) (f : ℕ → Bool) → word_where f k < 2 ^ k
unfolding word_where
word_lt zero f = omega arith
word_lt (suc k) f = let h = word_lt k (λ (q : ℕ). f (suc q)) in omega (arith, pow-suc 2 k, digit_lt (f zero))

pub word_cong : (f g : ℕ → Bool) (k : ℕ) → ((q : ℕ) → f q ≡ g q) → word_where f k ≡ word_where g k
word_cong f g k h = ap (λ (e : ℕ → Bool). word_where e k) (fun_ext h)
