-- Laws of the bits of a list of bytes: reading, storing, fields. Assumes nothing.
use mathlib.Core.Path.{◌≡◌, refl, sym, ap, ap₂, ◌∙◌}
use mathlib.Core.Logic.{◌⊎◌, inl, inr, ⊎_elim}
use mathlib.Core.List.{List, [], ◌∷◌, ◌++◌, append_assoc}
use Prim.Native.Nat.{ℕ, zero, suc, ◌+◌, ◌-◌, ◌*◌, ◌/◌, ◌%◌, ◌^◌, ◌≤◌, ◌<◌, max}
use native.Mathlib.Nat.{suc-add, not-suc-le-zero, le_of_suc-le-suc, max-zero, zero-add, add-zero, add_comm, add-mul, mul-one, mul_comm, mul_assoc, mod-one}
use native.Mathlib.Nat.{pow-suc}
use native.Mathlib.Numerals.{add-one, one-add}
use native.Mathlib.Omega.{arith}
use lib.Dec.{lit<}
use lib.Pow.{shr-shr, mod-pow-add, mod-mod-pow, high, low}
use lib.Pow.{field as Pow-field}
use lib.ListN.{length, get_or, set, take, drop, length-append, length-drop, take-append-drop, length-set, get_or-append}
use lib.Seq.{get_or-append-add, set-append_left, ext_get_or, get_or-set_same, get_or-set_other, take-suc, sets, length-take-le, drop-append-le, take-append-le}
use lib.Seq.{drop-append-add, get_or-take, get_or-drop}
use lib.Bits.{bit_or}
use Rattle.bits.proofs.Digits.{bit, same}
use Rattle.bits.proofs.Digits.{with_bit, bit_lt}
use Rattle.bits.specs.Bits.{digits, bits, number, field}

pub length_digits : (b v : ℕ) → length (digits b v) ≡ b
unfolding digits
length_digits zero v = refl
length_digits (suc b) v = ap suc (length_digits b v)

pub digits_at : (b v j : ℕ) → j < b → get_or (digits b v) j 0 ≡ bit (b - suc j) v
unfolding digits
digits_at zero v j h = absurd (not-suc-le-zero h)
digits_at (suc b) v zero h = let e : suc b - 1 ≡ b = omega arith in rw e refl
digits_at (suc b) v (suc j) h = let e : suc b - suc (suc j) ≡ b - suc j = omega arith in rw e (digits_at b v j (le_of_suc-le-suc h))

pub length-bits : (s : List ℕ) → length (bits s) ≡ 8 * length s
unfolding bits
length-bits [] = refl
length-bits (x ∷ s) = let e = length-bits s in let d = length_digits 8 x in length-append (digits 8 x) (bits s) ∙ omega arith

pub byte_at : (x j : ℕ) → j < 8 → get_or (digits 8 x) j 0 ≡ bit (7 - j) x
byte_at x j l = let e : 8 - suc j ≡ 7 - j = omega arith in digits_at 8 x j l ∙ ap (λ (k : ℕ). bit k x) e

-- the bit at a place, of its byte
pub bits_at : (s : List ℕ) (i j : ℕ) → i < length s → j < 8 → get_or (bits s) (8 * i + j) 0 ≡ bit (7 - j) (get_or s i 0)
unfolding bits
bits_at [] i j h l = absurd (not-suc-le-zero h)
bits_at (x ∷ s) zero j h l =
    let e : 8 * 0 + j ≡ j = omega arith in
    rw e (get_or-append (digits 8 x) (bits s) 0 j (omega (arith, length_digits 8 x)) ∙ byte_at x j l)
bits_at (x ∷ s) (suc i) j h l =
    let e : 8 * suc i + j ≡ length (digits 8 x) + (8 * i + j) = omega (arith, length_digits 8 x) in
    rw e (get_or-append-add (digits 8 x) (bits s) (8 * i + j) 0 ∙ bits_at s i j (le_of_suc-le-suc h) l)

set-append-add : (xs ys : List ℕ) (n a : ℕ) → set (xs ++ ys) (length xs + n) a ≡ xs ++ set ys n a
set-append-add [] ys n a = let e : 0 + n ≡ n = omega arith in rw e refl
set-append-add (x ∷ xs) ys n a = rw suc-add (ap (λ (l : List ℕ). x ∷ l) (set-append-add xs ys n a))

same_self : (i : ℕ) → same i i ≡ 1
same_self zero = refl
same_self (suc i) = same_self i

same-other : (i j : ℕ) → (i ≡ j → ⊥) → same i j ≡ 0
same-other zero zero h = absurd (h refl)
same-other zero (suc j) h = refl
same-other (suc i) zero h = refl
same-other (suc i) (suc j) h = same-other i j (λ e. h (ap suc e))

max_one : (a : ℕ) → a < 2 → max a 1 ≡ 1
max_one a h = omega arith

-- one bit of a byte is made 1
digits_or : (x j : ℕ) → j < 8 → digits 8 (bit_or x (2 ^ (7 - j))) ≡ set (digits 8 x) j 1
digits_or x j l =
    ext_get_or 0 _ _ (length_digits 8 _ ∙ sym (length-set (digits 8 x) j 1 ∙ length_digits 8 x))
    (λ m h. at m (omega (arith, length_digits 8 (bit_or x (2 ^ (7 - j))))) (eq_or m j))
  where
    eq_or : (m j : ℕ) → (m ≡ j) ⊎ (m ≡ j → ⊥)
    eq_or zero zero = inl refl
    eq_or zero (suc j) = inr (λ e. omega arith)
    eq_or (suc m) zero = inr (λ e. omega arith)
    eq_or (suc m) (suc j) = ⊎_elim (λ e. inl (ap suc e)) (λ n. inr (λ e. n (omega arith))) (eq_or m j)

    at : (m : ℕ) → m < 8 → (m ≡ j) ⊎ (m ≡ j → ⊥) → get_or (digits 8 (bit_or x (2 ^ (7 - j)))) m 0 ≡ get_or (set (digits 8 x) j 1) m 0
    at m h (inl e) =
        rw e
        (byte_at (bit_or x (2 ^ (7 - j))) j l ∙ with_bit (7 - j) x (7 - j)
        ∙ ap (max (bit (7 - j) x)) (same_self (7 - j)) ∙ max_one _ (bit_lt (7 - j) x)
        ∙ sym (get_or-set_same (digits 8 x) j 1 0 (omega (arith, length_digits 8 x))))
    at m h (inr n) =
        byte_at (bit_or x (2 ^ (7 - j))) m h ∙ with_bit (7 - j) x (7 - m)
        ∙ ap (max (bit (7 - m) x)) (same-other (7 - m) (7 - j) (λ e. n (omega arith))) ∙ max-zero _
        ∙ sym (get_or-set_other (digits 8 x) j m 1 0 n ∙ byte_at x m h)

pub bits-set : (s : List ℕ) (i j : ℕ) → i < length s → j < 8 → bits (set s i (bit_or (get_or s i 0) (2 ^ (7 - j)))) ≡ set (bits s) (8 * i + j) 1
unfolding bits
bits-set [] i j h l = absurd (not-suc-le-zero h)
bits-set (x ∷ s) zero j h l =
    let e : 8 * 0 + j ≡ j = omega arith in
    rw (e, digits_or x j l) (sym (set-append_left (digits 8 x) (bits s) j 1 (omega (arith, length_digits 8 x))))
bits-set (x ∷ s) (suc i) j h l =
    let e : 8 * suc i + j ≡ length (digits 8 x) + (8 * i + j) = omega (arith, length_digits 8 x) in
    rw e (ap (λ (r : List ℕ). digits 8 x ++ r) (bits-set s i j (le_of_suc-le-suc h) l) ∙ sym (set-append-add (digits 8 x) (bits s) (8 * i + j) 1))

-- a run of stores with one more; and what lies after it
pub sets-snoc : (l : List ℕ) (i : ℕ) (vs : List ℕ) (x : ℕ) → sets l i (vs ++ (x ∷ [])) ≡ set (sets l i vs) (i + length vs) x
sets-snoc l i [] x = let e : i + 0 ≡ i = omega arith in rw e refl
sets-snoc l i (v ∷ vs) x = let e : i + suc (length vs) ≡ suc i + length vs = omega arith in rw e (sets-snoc (set l i v) (suc i) vs x)

pub sets-after : (l : List ℕ) (i : ℕ) (vs : List ℕ) (j : ℕ) → i + length vs ≤ j → get_or (sets l i vs) j 0 ≡ get_or l j 0
sets-after l i [] j h = refl
sets-after l i (v ∷ vs) j h =
    sets-after (set l i v) (suc i) vs j (omega arith) ∙ get_or-set_other l i j v 0 (λ e. omega arith)

pub digits_more : (l : List ℕ) (at b v k : ℕ) → k < b → sets l at (take (k + 1) (digits b v))
    ≡ set (sets l at (take k (digits b v))) (at + k) (bit (b - 1 - k) v)
digits_more l at b v k h =
    let n = length_digits b v in
    let e : b - suc k ≡ b - 1 - k = omega arith in
    rw (add-one k, take-suc (digits b v) k 0 (omega arith), sets-snoc, length-take-le k (digits b v) (omega arith), digits_at b v k h, e) refl

pub digits-after : (l : List ℕ) (at b v k : ℕ) → k < b → get_or (sets l at (take k (digits b v))) (at + k) 0 ≡ get_or l (at + k) 0
digits-after l at b v k h =
    let n = length_digits b v in
    sets-after l at (take k (digits b v)) (at + k) (omega (arith, length-take-le k (digits b v) (omega arith)))

-- ---- digits, taken apart and put together
pub digits-drop : (j m v : ℕ) → drop j (digits (j + m) v) ≡ digits m v
unfolding digits
digits-drop zero m v = rw zero-add refl
digits-drop (suc j) m v = rw suc-add (digits-drop j m v)

pub digits-take : (b k v : ℕ) → take b (digits (b + k) v) ≡ digits b (v / 2 ^ k)
unfolding digits
digits-take zero k v = refl
digits-take (suc b) k v =
    let e : v / 2 ^ (b + k) ≡ v / 2 ^ k / 2 ^ b = ap (λ (n : ℕ). v / 2 ^ n) (add_comm b k) ∙ sym (shr-shr v k b) in
    rw (suc-add b k) (ap₂ (λ (d : ℕ) (l : List ℕ). d ∷ l) (ap (λ (n : ℕ). n % 2) e) (digits-take b k v))

pub digits-split : (b k v : ℕ) → digits (b + k) v ≡ digits b (v / 2 ^ k) ++ digits k v
digits-split b k v =
    sym (take-append-drop b (digits (b + k) v)) ∙ ap₂ (λ (x y : List ℕ). x ++ y) (digits-take b k v) (digits-drop b k v)

pub digits_low : (b k v : ℕ) → digits b (v % 2 ^ (k + b)) ≡ digits b v
unfolding digits
digits_low zero k v = refl
digits_low (suc b) k v =
    let e : k + suc b ≡ k + 1 + b = omega arith in
    rw e (ap₂ (λ (d : ℕ) (l : List ℕ). d ∷ l) (ap (λ (n : ℕ). n % 2) (Pow-field v (k + 1) b) ∙ mod-mod-pow (v / 2 ^ b) k 1) (digits_low b (k + 1) v))

pub number_digits : (n b v : ℕ) → number n (digits b v) ≡ n * 2 ^ b + v % 2 ^ b
unfolding digits
number_digits n zero v = sym (ap₂ (λ (x y : ℕ). x + y) (mul-one n) (mod-one v) ∙ add-zero n)
number_digits n (suc b) v =
    let e : v % 2 ^ suc b ≡ (v / 2 ^ b % 2) * 2 ^ b + v % 2 ^ b = ap (λ (k : ℕ). v % 2 ^ k) (sym (one-add b)) ∙ mod-pow-add v 1 b in
    let f : n * 2 ^ suc b ≡ n * 2 * 2 ^ b = ap (λ (k : ℕ). n * k) (pow-suc 2 b ∙ mul_comm (2 ^ b) 2) ∙ sym (mul_assoc n 2 (2 ^ b)) in
    number_digits (n * 2 + v / 2 ^ b % 2) b v ∙ rw (e, f, add-mul) (omega arith)

pub inner : (b j : ℕ) (xs ys : List ℕ) → j + b ≤ length xs → take b (drop j (xs ++ ys)) ≡ take b (drop j xs)
inner b j xs ys h =
    ap (take b) (drop-append-le j xs ys (omega arith)) ∙ take-append-le b (drop j xs) ys (omega (arith, length-drop j xs))

-- two runs of digits as one
pub join : (a b x y : ℕ) → y < 2 ^ b → digits a x ++ digits b y ≡ digits (a + b) (x * 2 ^ b + y)
join a b x y h =
    sym (digits-split a b (x * 2 ^ b + y)
    ∙ ap₂ (λ (k l : List ℕ). k ++ l) (ap (digits a) (high x b h)) (sym (digits_low b 0 (x * 2 ^ b + y)) ∙ ap (digits b) (rw zero-add (low x b h))))

-- b of the n digits of w
pub field_in : (n w j b : ℕ) → j + b ≤ n → take b (drop j (digits n w)) ≡ digits b (w / 2 ^ (n - j - b))
field_in n w j b h =
    let e : n ≡ j + (b + (n - j - b)) = omega arith in
    ap (λ (k : ℕ). take b (drop j (digits k w))) e ∙ ap (take b) (digits-drop j (b + (n - j - b)) w) ∙ digits-take b (n - j - b) w

-- a byte out of two numbers of w bits, one after the other
pub across : (w r x y j : ℕ) → y < 2 ^ w → r + 8 ≤ w + w → j < 8
    → get_or (digits 8 ((x * 2 ^ w + y) / 2 ^ (w + w - r - 8) % 256)) j 0 ≡ get_or (digits w x ++ digits w y) (r + j) 0
across w r x y j h l k =
    let P = x * 2 ^ w + y in
    ap (λ (d : List ℕ). get_or d j 0) (digits_low 8 0 (P / 2 ^ (w + w - r - 8)) ∙ sym (field_in (w + w) P r 8 l)
    ∙ ap (λ (d : List ℕ). take 8 (drop r d)) (sym (join w w x y h))) ∙ get_or-take 8 (drop r (digits w x ++ digits w y)) j 0 k ∙ get_or-drop r (digits w x ++ digits w y) j 0

pub from_zero : (p v : ℕ) → 0 * p + v ≡ v
from_zero p v = omega arith

pub window : (s : List ℕ) (i j b : ℕ) → i < length s → j < 8 → b ≤ 8 → 8 * i + j + b ≤ 8 * length s → ((k : ℕ) → get_or s k 0 < 256)
    → field s (8 * i + j) b ≡ (get_or s i 0 * 256 + get_or s (i + 1) 0) / 2 ^ (16 - j - b) % 2 ^ b
unfolding bits
window [] i j b h l m r g = absurd (not-suc-le-zero h)
window (x ∷ []) zero j b h l m r g =
    let e : 8 * 0 + j ≡ j = omega arith in
    let n = length_digits 8 x in
    rw e (ap (number 0) (inner b j (digits 8 x) [] (omega arith) ∙ sym (inner b j (digits 8 x) (digits 8 0) (omega arith))
    ∙ ap (λ (k : List ℕ). take b (drop j k)) (join 8 8 x 0 (lit< tt)) ∙ field_in 16 (x * 256 + 0) j b (omega arith)) ∙ number_digits 0 b _ ∙ from_zero (2 ^ b) _)
window (x ∷ y ∷ s) zero j b h l m r g =
    let e : 8 * 0 + j ≡ j = omega arith in
    let n = length_digits 16 (x * 256 + y) in
    rw e (ap (number 0) (ap (λ (k : List ℕ). take b (drop j k))
    (sym (append_assoc (digits 8 x) (digits 8 y) (bits s)) ∙ ap (λ (k : List ℕ). k ++ bits s) (join 8 8 x y (g 1)))
    ∙ inner b j (digits 16 (x * 256 + y)) (bits s) (omega arith) ∙ field_in 16 (x * 256 + y) j b (omega arith)) ∙ number_digits 0 b _
    ∙ from_zero (2 ^ b) _)
window (x ∷ s) (suc i) j b h l m r g =
    let e : 8 * suc i + j ≡ length (digits 8 x) + (8 * i + j) = omega (arith, length_digits 8 x) in
    let f : suc i + 1 ≡ suc (i + 1) = omega arith in
    rw (e, f) (ap (λ (k : List ℕ). number 0 (take b k)) (drop-append-add (digits 8 x) (bits s) (8 * i + j))
    ∙ window s i j b (le_of_suc-le-suc h) l m (omega arith) (λ k. g (suc k)))
