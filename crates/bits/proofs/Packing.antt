-- Lists of bits: those of some bytes, of some digits; the number that they are; and bits packed into bytes, which `bits` unpacks, up to
-- padding, and nothing else packs to the same. Assumes nothing.
use Prim.Native.Nat.{ℕ, zero, suc, ◌+◌, ◌-◌, ◌*◌, ◌/◌, ◌%◌, ◌^◌, ◌≤◌, ◌<◌}
use mathlib.Core.Path.{◌≡◌, refl, sym, ap, ap₂, ◌∙◌}
use mathlib.Core.Bool.{Bool, true, false}
use mathlib.Core.List.{List, [], ◌∷◌, ◌++◌, append_assoc, append-nil}
use native.Mathlib.Nat.{not-suc-le-zero, le_of_suc-le-suc, lt_of_lt_of_le, mod-eq_of_lt, add-zero, add-mul, pow-suc, mul-one, mul_assoc, mul_comm}
use native.Mathlib.Omega.{arith}
use borrow.Author.Tests.{ltb-true, ltb-false}
use lib.Arith.{digits_lt, digits_mod}
use lib.Dec.{ltb, lit<}
use lib.ListN.{length, get_or, take, drop, replicate, length-append, length-take, length-drop, length-replicate, take-append-drop}
use lib.Pow.{high, pow_mono}
use lib.Seq.{get_or-drop, drop-drop, drop-nil, drop-cons, length-take-le, take-append-le, drop-append-le, drop-append-add, take_at, drop_at}
use Rattle.bits.specs.Bits.{digits, bits, number, field, pack}
use Rattle.bits.proofs.Digits.{bit_lt}
use Rattle.bits.proofs.Fields.{length_digits, length-bits, number_digits, inner, join, field_in, from_zero}

-- ---- lists of bits

abbrev pub AreBits : List ℕ → Type 0
AreBits bs = (k : ℕ) → get_or bs k 0 < 2

pub bits-drop : (n : ℕ) (bs : List ℕ) → AreBits bs → AreBits (drop n bs)
bits-drop n bs h k = rw (get_or-drop n bs k 0) (h (n + k))

pub bits-take : (n : ℕ) (bs : List ℕ) → AreBits bs → AreBits (take n bs)
bits-take zero bs h k = lit< tt
bits-take (suc n) [] h k = lit< tt
bits-take (suc n) (x ∷ bs) h zero = h 0
bits-take (suc n) (x ∷ bs) h (suc k) = bits-take n bs (λ j. h (suc j)) k

pub bits-append : (xs ys : List ℕ) → AreBits xs → AreBits ys → AreBits (xs ++ ys)
bits-append [] ys g h k = h k
bits-append (x ∷ xs) ys g h zero = g 0
bits-append (x ∷ xs) ys g h (suc k) = bits-append xs ys (λ j. g (suc j)) h k

pub digits-bits : (b v : ℕ) → AreBits (digits b v)
unfolding digits
digits-bits zero v k = lit< tt
digits-bits (suc b) v zero = bit_lt b v
digits-bits (suc b) v (suc k) = digits-bits b v k

pub bits-bits : (s : List ℕ) → AreBits (bits s)
unfolding bits
bits-bits [] k = lit< tt
bits-bits (x ∷ s) k = bits-append (digits 8 x) (bits s) (digits-bits 8 x) (bits-bits s) k

-- the bits from a place on
pub length_from : (s : List ℕ) (at : ℕ) → length (drop at (bits s)) ≡ 8 * length s - at
length_from s at = length-drop at (bits s) ∙ ap (λ (k : ℕ). k - at) (length-bits s)

pub bit_is : (s : List ℕ) (at b : ℕ) (bs : List ℕ) → drop at (bits s) ≡ b ∷ bs
    → (at < 8 * length s) × (get_or (bits s) at 0 ≡ b) × (drop (at + 1) (bits s) ≡ bs)
bit_is s at b bs e = (
  let l = length_from s at in let k = ap length e in omega arith,
  ap (λ (k : ℕ). get_or (bits s) k 0) (sym (add-zero at)) ∙ sym (get_or-drop at (bits s) 0 0) ∙ ap (λ (l : List ℕ). get_or l 0 0) e,
  sym (drop-drop 1 at (bits s)) ∙ ap (drop 1) e,
)

-- ---- a list of bits as a number
-- a number of n bits, from its digits
pub number_of : (n l : ℕ) → l < 2 ^ n → number 0 (digits n l) ≡ l
number_of n l h = number_digits 0 n l ∙ ap (λ (v : ℕ). 0 * 2 ^ n + v) (mod-eq_of_lt h) ∙ omega arith

number-from : (a : ℕ) (bs : List ℕ) → number a bs ≡ a * 2 ^ length bs + number 0 bs
number-from a [] = sym (omega arith)
number-from a (b ∷ bs) =
    let e : (a * 2 + b) * 2 ^ length bs ≡ a * (2 * 2 ^ length bs) + b * 2 ^ length bs =
    add-mul (a * 2) b (2 ^ length bs) ∙ ap (λ (k : ℕ). k + b * 2 ^ length bs) (mul_assoc a 2 (2 ^ length bs)) in
    let f : 2 ^ suc (length bs) ≡ 2 * 2 ^ length bs = pow-suc 2 (length bs) ∙ mul_comm (2 ^ length bs) 2 in
    let p = number-from (a * 2 + b) bs in
    let q = number-from (0 * 2 + b) bs in
    let z : (0 * 2 + b) ≡ b = omega arith in
    let q' : number (0 * 2 + b) bs ≡ b * 2 ^ length bs + number 0 bs = q ∙ ap (λ (k : ℕ). k * 2 ^ length bs + number 0 bs) z in
    p ∙ rw (e, f) (omega arith)

pub number_lt : (bs : List ℕ) → AreBits bs → number 0 bs < 2 ^ length bs
number_lt [] h = lit< tt
number_lt (b ∷ bs) h =
    let f : 2 ^ suc (length bs) ≡ 2 * 2 ^ length bs = pow-suc 2 (length bs) ∙ mul_comm (2 ^ length bs) 2 in
    let q : number (0 * 2 + b) bs ≡ b * 2 ^ length bs + number 0 bs = number-from (0 * 2 + b) bs
    ∙ ap (λ (k : ℕ). k * 2 ^ length bs + number 0 bs) (omega arith) in
    rw (f, q) (digits_lt (h 0) (number_lt bs (λ k. h (suc k))))

-- a field of b bits is below 2 ^ b
pub field_below : (s : List ℕ) (at b : ℕ) → field s at b < 2 ^ b
field_below s at b =
    let l = take b (drop at (bits s)) in
    lt_of_lt_of_le (number_lt l (bits-take b _ (bits-drop at (bits s) (bits-bits s)))) (pow_mono (let k = length-take b (drop at (bits s)) in omega arith))

-- the digits of the number that some bits are, are those bits
pub digits_number : (a : ℕ) (bs : List ℕ) → AreBits bs → digits (length bs) (number a bs) ≡ bs
unfolding digits
digits_number a [] h = refl
digits_number a (b ∷ bs) h =
    ap₂ (λ (d : ℕ) (l : List ℕ). d ∷ l)
    (ap (λ (k : ℕ). k / 2 ^ length bs % 2) (number-from (a * 2 + b) bs)
    ∙ ap (λ (k : ℕ). k % 2) (high (a * 2 + b) (length bs) (number_lt bs (λ k. h (suc k))))
    ∙ digits_mod a (h 0))
    (digits_number (a * 2 + b) bs (λ k. h (suc k)))

-- ---- a field among the bits
module _ (s pre post : List ℕ) (at b v : ℕ) (stands : bits s ≡ pre ++ (digits b v ++ post)) (before : length pre ≡ at) where
  -- one that was written is read
  pub field_is : v < 2 ^ b → field s at b ≡ v
  field_is h =
      ap (λ (bs : List ℕ). number 0 (take b (drop at bs))) stands
      ∙ ap (λ (bs : List ℕ). number 0 (take b bs)) (drop_at pre (digits b v ++ post) at before)
      ∙ ap (number 0) (take_at (digits b v) post b (length_digits b v)) ∙ number_of b v h

  -- what stands behind it
  pub behind : (bits s ≡ (pre ++ digits b v) ++ post) × (length (pre ++ digits b v) ≡ at + b)
  behind = (stands ∙ sym (append_assoc pre (digits b v) post), length-append pre (digits b v) ∙ (let d = length_digits b v in omega arith))

-- one within another
pub field-within : (s : List ℕ) (at n j b : ℕ) → at + n ≤ 8 * length s → j + b ≤ n → field s (at + j) b ≡ field s at n / 2 ^ (n - j - b) % 2 ^ b
field-within s at n j b h k =
    let X = take n (drop at (bits s)) in
    let l : length X ≡ n = length-take-le n (drop at (bits s)) (omega (arith, length_from s at)) in
    let e : digits n (number 0 X) ≡ X =
    ap (λ (m : ℕ). digits m (number 0 X)) (sym l) ∙ digits_number 0 X (bits-take n (drop at (bits s)) (bits-drop at (bits s) (bits-bits s))) in
    let f : take b (drop j (drop at (bits s))) ≡ take b (drop j X) =
    ap (λ (d : List ℕ). take b (drop j d)) (sym (take-append-drop n (drop at (bits s)))) ∙ inner b j X (drop n (drop at (bits s))) (omega arith) in
    ap (λ (d : List ℕ). number 0 (take b d)) (sym (drop-drop j at (bits s)))
    ∙ ap (number 0) (f ∙ ap (λ (d : List ℕ). take b (drop j d)) (sym e) ∙ field_in n (number 0 X) j b k) ∙ number_digits 0 b _ ∙ from_zero (2 ^ b) _

-- the bits from a byte on
bits-from : (s : List ℕ) (i : ℕ) → drop (8 * i) (bits s) ≡ bits (drop i s)
unfolding bits
bits-from s zero = refl
bits-from [] (suc i) = drop-nil (8 * suc i)
bits-from (x ∷ s) (suc i) =
    let e : 8 * suc i ≡ length (digits 8 x) + 8 * i = omega (arith, length_digits 8 x) in
    rw e (drop-append-add (digits 8 x) (bits s) (8 * i) ∙ bits-from s i)

pub three-field : (s : List ℕ) (i : ℕ) → i + 3 ≤ length s → ((k : ℕ) → get_or s k 0 < 256)
    → get_or s i 0 * 65536 + (get_or s (i + 1) 0 * 256 + get_or s (i + 2) 0) ≡ field s (8 * i) 24
unfolding bits
three-field s i h g =
    let x = get_or s i 0 in
    let y = get_or s (i + 1) 0 in
    let z = get_or s (i + 2) 0 in
    let a = g i in
    let b = g (i + 1) in
    let c = g (i + 2) in
    let e₁ : suc i ≡ i + 1 = omega arith in
    let e₂ : suc (i + 1) ≡ i + 2 = omega arith in
    let d : drop i s ≡ x ∷ y ∷ z ∷ drop (suc (i + 2)) s =
    drop-cons s i 0 (omega arith)
    ∙ ap (λ (l : List ℕ). x ∷ l) (rw e₁ (drop-cons s (i + 1) 0 (omega arith) ∙ ap (λ (l : List ℕ). y ∷ l) (rw e₂ (drop-cons s (i + 2) 0 (omega arith))))) in
    let j : digits 8 x ++ (digits 8 y ++ digits 8 z) ≡ digits 24 (x * 65536 + (y * 256 + z)) =
    ap (λ (l : List ℕ). digits 8 x ++ l) (join 8 8 y z c) ∙ join 8 16 x (y * 256 + z) (omega arith) in
    let t : bits (drop i s) ≡ digits 24 (x * 65536 + (y * 256 + z)) ++ bits (drop (suc (i + 2)) s) = rw (d, ← j) (sym (simp append_assoc)) in
    sym (ap (λ (l : List ℕ). number 0 (take 24 l)) (bits-from s i ∙ t)
    ∙ ap (number 0) (take_at (digits 24 (x * 65536 + (y * 256 + z))) (bits (drop (suc (i + 2)) s)) 24 (length_digits 24 _))
    ∙ number_of 24 (x * 65536 + (y * 256 + z)) (omega arith))

-- ---- the first byte, and the rest
number-zeros : (a d : ℕ) → number a (replicate d 0) ≡ a * 2 ^ d
number-zeros a zero = sym (mul-one a)
number-zeros a (suc d) =
    let e : a * 2 + 0 ≡ a * 2 = omega arith in
    number-zeros (a * 2 + 0) d ∙ ap (λ (k : ℕ). k * 2 ^ d) e ∙ mul_assoc a 2 (2 ^ d) ∙ ap (λ (k : ℕ). a * k) (mul_comm 2 (2 ^ d) ∙ sym (pow-suc 2 d))

pack-more : (a d : ℕ) (bs : List ℕ) → d < length bs → pack a d bs ≡ number a (take d bs) ∷ pack 0 8 (drop d bs)
unfolding pack
pack-more a d [] h = absurd (not-suc-le-zero h)
pack-more a zero (b ∷ bs) h = let e : b ≡ 0 * 2 + b = omega arith in ap (λ (k : ℕ). a ∷ pack k 7 bs) e
pack-more a (suc d) (b ∷ bs) h = pack-more (a * 2 + b) d bs (le_of_suc-le-suc h)

pack-last : (a d : ℕ) (bs : List ℕ) → length bs ≤ d → pack a d bs ≡ number a (bs ++ replicate (d - length bs) 0) ∷ []
unfolding pack
pack-last a zero [] h = refl
pack-last a zero (b ∷ bs) h = absurd (not-suc-le-zero h)
pack-last a (suc d) [] h = let e : suc d - 0 ≡ suc d = omega arith in rw e (ap (λ (x : ℕ). x ∷ []) (sym (number-zeros a (suc d))))
pack-last a (suc d) (b ∷ bs) h = let e : suc d - suc (length bs) ≡ d - length bs = omega arith in rw e (pack-last (a * 2 + b) d bs (le_of_suc-le-suc h))

zeros-bits : (z : ℕ) → AreBits (replicate z 0)
zeros-bits zero k = lit< tt
zeros-bits (suc z) zero = lit< tt
zeros-bits (suc z) (suc k) = zeros-bits z k

eight : (l : List ℕ) → length l ≡ 8 → AreBits l → digits 8 (number 0 l) ≡ l
eight l e a = ap (λ (k : ℕ). digits k (number 0 l)) (sym e) ∙ digits_number 0 l a

-- ---- "then zero bits to a whole byte"
abbrev pub Padded : List ℕ → List ℕ → Type 0
Padded s bs = (z : ℕ) × (z < 8) × (bits s ≡ bs ++ replicate z 0)

last-bits : (bs : List ℕ) → 0 < length bs → length bs ≤ 8 → AreBits bs → Padded (pack 0 8 bs) bs
unfolding bits
last-bits bs h l a =
    let w = bs ++ replicate (8 - length bs) 0 in
    let e : length w ≡ 8 = length-append bs (replicate (8 - length bs) 0) ∙ ap (λ (k : ℕ). length bs + k) (length-replicate (8 - length bs) 0)
    ∙ omega arith in (
      8 - length bs,
      omega arith,
      ap bits (pack-last 0 8 bs l) ∙ append-nil (digits 8 (number 0 w))
          ∙ eight w e (bits-append bs (replicate (8 - length bs) 0) a (zeros-bits (8 - length bs))),
    )

more-bits : (bs : List ℕ) → 8 < length bs → AreBits bs → Padded (pack 0 8 (drop 8 bs)) (drop 8 bs) → Padded (pack 0 8 bs) bs
unfolding bits
more-bits bs h a p = (
  p.0,
  p.1,
  ap bits (pack-more 0 8 bs h)
      ∙ ap₂ (λ (k l : List ℕ). k ++ l) (eight (take 8 bs) (length-take-le 8 bs (omega arith)) (bits-take 8 bs a)) p.2
      ∙ sym (append_assoc (take 8 bs) (drop 8 bs) (replicate p.0 0)) ∙ ap (λ (l : List ℕ). l ++ replicate p.0 0) (take-append-drop 8 bs),
)

-- d: at least the number of bits
bits_of : (d : ℕ) (bs : List ℕ) → length bs ≤ d → 0 < length bs → AreBits bs → Padded (pack 0 8 bs) bs
bits_of zero bs l h a = absurd (omega arith)
bits_of (suc d) bs l h a = go (ltb 8 (length bs)) refl (λ i j. bits_of d (drop 8 bs) i j (bits-drop 8 bs a))
  where
    go : (v : Bool) → ltb 8 (length bs) ≡ v → (length (drop 8 bs) ≤ d → 0 < length (drop 8 bs) → Padded (pack 0 8 (drop 8 bs)) (drop 8 bs))
        → Padded (pack 0 8 bs) bs
    go true e k = let i = ltb-true 8 (length bs) e in let j = length-drop 8 bs in more-bits bs i a (k (omega arith) (omega arith))
    go false e k = last-bits bs h (ltb-false 8 (length bs) e) a

pub pack-bits : (bs : List ℕ) → 0 < length bs → AreBits bs → Padded (pack 0 8 bs) bs
pack-bits bs h a = bits_of (length bs) bs (omega arith) h a

-- ---- bytes that hold some bits and padding are those bits, packed
none : (s : List ℕ) → length s ≡ 0 → s ≡ []
none [] e = refl
none (x ∷ s) e = absurd (omega arith)

module _ (x : ℕ) (s bs : List ℕ) (z : ℕ) (e : digits 8 x ++ bits s ≡ bs ++ replicate z 0) where
  all : 8 + 8 * length s ≡ length bs + z
  all =
      let a = ap length e in
      let b = length-append (digits 8 x) (bits s) in
      let c = length-append bs (replicate z 0) in
      omega (arith, length_digits 8 x, length-bits s, length-replicate {A = ℕ} z 0)

  first_byte : 8 < length bs → (digits 8 x ≡ take 8 bs) × (bits s ≡ drop 8 bs ++ replicate z 0)
  first_byte h = (
    sym (take_at (digits 8 x) (bits s) 8 (length_digits 8 x)) ∙ ap (take 8) e ∙ take-append-le 8 bs (replicate z 0) (omega arith),
    sym (drop_at (digits 8 x) (bits s) 8 (length_digits 8 x)) ∙ ap (drop 8) e ∙ drop-append-le 8 bs (replicate z 0) (omega arith),
  )

  last_byte : length bs ≤ 8 → z < 8 → x < 256 → x ∷ s ≡ pack 0 8 bs
  unfolding bits
  last_byte h l g =
      let n = none s (let a = all in omega arith) in
      let f : z ≡ 8 - length bs = (let a = all in let b = ap length n in omega arith) in
      let d : digits 8 x ≡ bs ++ replicate (8 - length bs) 0 =
      sym (append-nil (digits 8 x)) ∙ ap (λ (r : List ℕ). digits 8 x ++ bits r) (sym n) ∙ e ∙ ap (λ (k : ℕ). bs ++ replicate k 0) f in
      ap (λ (r : List ℕ). x ∷ r) n ∙ ap (λ (k : ℕ). k ∷ []) (sym (number_of 8 x g) ∙ ap (number 0) d) ∙ sym (pack-last 0 8 bs h)

pub strip_of_bits : (s bs : List ℕ) (z : ℕ) → ((i : ℕ) → get_or s i 0 < 256) → bits s ≡ bs ++ replicate z 0 → z < 8 → 0 < length bs → s ≡ pack 0 8 bs
unfolding bits
strip_of_bits [] bs z g e h l = let k = ap length e ∙ length-append bs (replicate z 0) in absurd (omega arith)
strip_of_bits (x ∷ s) bs z g e h l = go (ltb 8 (length bs)) refl (λ i j. strip_of_bits s (drop 8 bs) z (λ k. g (suc k)) i h j)
  where
    go : (v : Bool) → ltb 8 (length bs) ≡ v → (bits s ≡ drop 8 bs ++ replicate z 0 → 0 < length (drop 8 bs) → s ≡ pack 0 8 (drop 8 bs)) → x ∷ s ≡ pack 0 8 bs
    go true f k =
        let i = ltb-true 8 (length bs) f in
        let p = first_byte x s bs z e i in
        let j = length-drop 8 bs in
        ap₂ (λ (b : ℕ) (r : List ℕ). b ∷ r) (sym (number_of 8 x (g 0)) ∙ ap (number 0) p.0) (k p.1 (omega arith)) ∙ sym (pack-more 0 8 bs i)
    go false f k = last_byte x s bs z e (ltb-false 8 (length bs) f) h (g 0)
