-- A list of bytes as a list of bits, and back: document 01, "Strips": "Fields are bit-packed, most significant first, then zero bits to
-- a whole byte." Assumes nothing.
use Rattle.std.specs.Prelude.{Bool, false, not, ◌&&◌, ◌||◌, cond, ◌≡◌, List, [], ◌∷◌, ◌++◌, ℕ, zero, suc, ◌+◌, ◌-◌, ◌*◌, ◌/◌, ◌%◌, ◌^◌, ◌≤◌, min, eqb, leb, length, get_or, take, drop}

-- the b lowest binary digits of v, most significant first
unfoldable pub digits : ℕ → ℕ → List ℕ
digits zero v = []
digits (suc b) v = (v / 2 ^ b % 2) ∷ digits b v

-- the bits of a list of bytes
unfoldable pub bits : List ℕ → List ℕ
bits [] = []
bits (x ∷ s) = digits 8 x ++ bits s

-- the number that a list of bits is, most significant first; n is what stands before it
abbrev pub number : ℕ → List ℕ → ℕ
number n [] = n
number n (d ∷ l) = number (n * 2 + d) l

-- the field of b bits at bit place at
abbrev pub field : List ℕ → ℕ → ℕ → ℕ
field s at b = number 0 (take b (drop at (bits s)))

-- a bit is set
unfoldable pub any_set : List ℕ → Bool
any_set [] = false
any_set (b ∷ bs) = not (eqb b 0) || any_set bs

-- how many bits stand before the first set one: all of them where none is set
unfoldable pub first_set : List ℕ → ℕ
first_set [] = 0
first_set (b ∷ bs) = cond (eqb b 0) (suc (first_set bs)) 0

-- "the bit length handed in (2^64 − 1 stands for any more)"
unfoldable pub bit_length : List ℕ → ℕ
bit_length s = min (8 * length s) (2 ^ 64 - 1)

-- the bytes of a list of bits; a: the bits of the next byte so far, d: how many it lacks
unfoldable pub pack : ℕ → ℕ → List ℕ → List ℕ
pack a zero [] = a ∷ []
pack a zero (b ∷ bs) = a ∷ pack b 7 bs
pack a (suc d) [] = (a * 2 ^ suc d) ∷ []
pack a (suc d) (b ∷ bs) = pack (a * 2 + b) d bs

-- nothing but zeros from a place on
abbrev pub Clear : List ℕ → ℕ → Type 0
Clear l at = (k : ℕ) → at ≤ k → get_or l k 0 ≡ 0

-- is v one of low to high
abbrev pub between : ℕ → ℕ → ℕ → Bool
between low high v = leb low v && leb v high
