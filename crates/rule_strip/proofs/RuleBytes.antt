-- The bytes of a rule strip, as they are written: the head's two, and those of the records' bits. Assumes nothing.
use Prim.Native.Nat.{ℕ, zero, suc, ◌+◌, ◌-◌, ◌*◌, ◌/◌, ◌%◌, ◌^◌, ◌≤◌, ◌<◌}
use mathlib.Core.Path.{◌≡◌, refl, sym, ◌∙◌, ap}
use mathlib.Core.Bool.{Bool, true, false, cond}
use mathlib.Core.List.{List, [], ◌∷◌, ◌++◌, append_assoc}
use native.Mathlib.Nat.{not-suc-le-zero, mod-lt, zero-lt-suc}
use native.Mathlib.Numerals.{add-one}
use native.Mathlib.Omega.{arith}
use borrow.Author.Tests.{ltb-true, ltb-false, lt-ltb, le-ltb}
use lib.Dec.{ltb, lit<}
use lib.ListN.{length, get_or, set, replicate, length-append, get_or-append, get_or-eq_default}
use lib.Seq.{sets, get_or-append-add, get_or_at}
use Rattle.bits.specs.Bits.{digits, bits}
use Rattle.bits.proofs.Fields.{length_digits, digits_low, join, across, sets-snoc}
use Rattle.bits.proofs.Packing.{strip_of_bits}
use Rattle.bits.proofs.Writing.{zeros_at, placed}
use Rattle.rule_strip.specs.RuleStrip.{rule_bytes}
use Rattle.rule_strip.specs.RuleWriting.{record_bits, strip_of_rule, records_of_words, word_at, record_byte}
use Rattle.rule_strip.proofs.RuleWriting.{record_bits-length, strip_bits, strip_bits-length, word-bits, words-length, bits-more}

module _ (ws : List ℕ) where
  -- the bits of the first m records
  abbrev words_bits : ℕ → List ℕ
  words_bits m = record_bits (records_of_words m ws)

  words_bits-length : (m : ℕ) → length (words_bits m) ≡ 18 * m
  words_bits-length m = record_bits-length (records_of_words m ws) ∙ ap (λ (k : ℕ). 18 * k) (words-length m ws)

  -- ---- each bit is one of the number that it comes from

  among : (m i t : ℕ) → i < m → t < 18 → get_or (words_bits m) (18 * i + t) 0 ≡ get_or (digits 18 (get_or ws i 0)) t 0
  unfolding records_of_words
  among zero i t h k = absurd (not-suc-le-zero h)
  among (suc m) i t h k = rw (bits-more, word-bits) (go (ltb i m) refl (λ p. among m i t p k))
    where
      go : (v : Bool) → ltb i m ≡ v → (i < m → get_or (words_bits m) (18 * i + t) 0 ≡ get_or (digits 18 (get_or ws i 0)) t 0)
          → get_or (words_bits m ++ digits 18 (get_or ws m 0)) (18 * i + t) 0 ≡ get_or (digits 18 (get_or ws i 0)) t 0
      go true e f =
          let l = words_bits-length m in
          let p = ltb-true i m e in
          get_or-append (words_bits m) (digits 18 (get_or ws m 0)) 0 (18 * i + t) (omega arith) ∙ f p
      go false e f =
          let l = words_bits-length m in
          let p = ltb-false i m e in
          let q : i ≡ m = omega arith in
          let r : 18 * m + t ≡ length (words_bits m) + t = omega arith in
          rw (q, r) (get_or-append-add (words_bits m) (digits 18 (get_or ws m 0)) t 0)

  -- past the last number stands 0
  at_place : (m i t : ℕ) → t < 18 → get_or (words_bits m) (18 * i + t) 0 ≡ get_or (digits 18 (word_at m ws i)) t 0
  unfolding word_at digits
  at_place m i t k = go (ltb i m) refl
    where
      go : (v : Bool) → ltb i m ≡ v → get_or (words_bits m) (18 * i + t) 0 ≡ get_or (digits 18 (cond v (get_or ws i 0 % 262144) 0)) t 0
      go true e = among m i t (ltb-true i m e) k ∙ ap (λ (d : List ℕ). get_or d t 0) (sym (digits_low 18 0 (get_or ws i 0)))
      go false e =
          let l = words_bits-length m in
          let p = ltb-false i m e in
          get_or-eq_default (words_bits m) 0 (omega arith) ∙ sym (zeros_at 18 t)

  -- two neighbours
  at_two : (m i t : ℕ) → t < 36 → get_or (words_bits m) (18 * i + t) 0 ≡ get_or (digits 18 (word_at m ws i) ++ digits 18 (word_at m ws (i + 1))) t 0
  at_two m i t k = go (digits 18 (word_at m ws i)) (length_digits 18 (word_at m ws i)) (at_place m i t) (ltb t 18) refl
    where
      go : (A : List ℕ) → length A ≡ 18 → (t < 18 → get_or (words_bits m) (18 * i + t) 0 ≡ get_or A t 0) → (v : Bool) → ltb t 18 ≡ v
          → get_or (words_bits m) (18 * i + t) 0 ≡ get_or (A ++ digits 18 (word_at m ws (i + 1))) t 0
      go A l f true e = let p = ltb-true t 18 e in f p ∙ sym (get_or-append A (digits 18 (word_at m ws (i + 1))) 0 t (omega arith))
      go A l f false e =
          let B = digits 18 (word_at m ws (i + 1)) in
          let p = ltb-false t 18 e in
          let q : 18 * i + t ≡ 18 * (i + 1) + (t - 18) = omega arith in
          let r : t ≡ length A + (t - 18) = omega arith in
          ap (λ (x : ℕ). get_or (words_bits m) x 0) q ∙ at_place m (i + 1) (t - 18) (omega arith)
          ∙ sym (ap (λ (x : ℕ). get_or (A ++ B) x 0) r ∙ get_or-append-add A B (t - 18) 0)

  pub word_at-small : (m i : ℕ) → word_at m ws i < 262144
  unfolding word_at
  word_at-small m i = go (ltb i m)
    where
      go : (v : Bool) → cond v (get_or ws i 0 % 262144) 0 < 262144
      go true = omega arith
      go false = lit< tt

  -- ---- and so is each bit of a byte
  in_byte : (m k j : ℕ) → j < 8 → get_or (digits 8 (record_byte m ws k)) j 0 ≡ get_or (words_bits m) (8 * k + j) 0
  unfolding record_byte
  in_byte m k j h =
      let i = 8 * k / 18 in
      let r = 8 * k % 18 in
      let e : 18 * i + (r + j) ≡ 8 * k + j = omega arith in
      let f : 28 - r ≡ 36 - r - 8 = omega arith in
      rw f (across 18 r (word_at m ws i) (word_at m ws (i + 1)) j (word_at-small m (i + 1)) (omega arith) h
      ∙ sym (at_two m i (r + j) (omega arith)) ∙ ap (λ (x : ℕ). get_or (words_bits m) x 0) e)

-- ---- a byte, as it is computed

-- past the last number `get_or` gives 0
word-is : (ws : List ℕ) (i : ℕ) → get_or ws i 0 % 262144 ≡ word_at (length ws) ws i
unfolding word_at
word-is ws i = go (ltb i (length ws)) refl
  where
    go : (v : Bool) → ltb i (length ws) ≡ v → get_or ws i 0 % 262144 ≡ cond v (get_or ws i 0 % 262144) 0
    go true e = refl
    go false e = rw (get_or-eq_default ws 0 (ltb-false i (length ws) e)) refl

-- of the first m of any words
module _ (m : ℕ) (ws : List ℕ) where
  pub word-there : (i : ℕ) → i < m → get_or ws i 0 % 262144 ≡ word_at m ws i
  unfolding word_at
  word-there i h = rw (lt-ltb i m h) refl

  pub word_past : (i : ℕ) → m ≤ i → 0 ≡ word_at m ws i
  unfolding word_at
  word_past i h = rw (le-ltb i m h) refl

  pub byte-among : (k y : ℕ) → 8 * k < 18 * m → y ≡ word_at m ws (8 * k / 18 + 1)
      → (get_or ws (8 * k / 18) 0 % 262144 * 262144 + y) / 2 ^ (28 - 8 * k % 18) % 256 ≡ record_byte m ws k
  unfolding record_byte
  byte-among k y h e = rw (word-there (8 * k / 18) (omega arith), e) refl

pub byte-is : (ws : List ℕ) (k x : ℕ) → x ≡ get_or ws (8 * k / 18 + 1) 0
    → (get_or ws (8 * k / 18) 0 % 262144 * 262144 + x % 262144) / 2 ^ (28 - 8 * k % 18) % 256 ≡ record_byte (length ws) ws k
unfolding record_byte
byte-is ws k x e = rw (e, word-is ws (8 * k / 18), word-is ws (8 * k / 18 + 1)) refl

-- ---- the first k bytes of the records

module _ (m : ℕ) (ws : List ℕ) where
  abbrev pub record_bytes : ℕ → List ℕ
  record_bytes zero = []
  record_bytes (suc k) = record_bytes k ++ (record_byte m ws k ∷ [])

  bytes-length : (k : ℕ) → length (record_bytes k) ≡ k
  bytes-length zero = refl
  bytes-length (suc k) = length-append (record_bytes k) _ ∙ omega (arith, bytes-length k)

  bytes_at : (k i : ℕ) → i < k → get_or (record_bytes k) i 0 ≡ record_byte m ws i
  bytes_at zero i h = absurd (not-suc-le-zero h)
  bytes_at (suc k) i h = go (ltb i k) refl (bytes_at k i)
    where
      go : (v : Bool) → ltb i k ≡ v → (i < k → get_or (record_bytes k) i 0 ≡ record_byte m ws i) → get_or (record_bytes (suc k)) i 0 ≡ record_byte m ws i
      go true e f =
          let p = ltb-true i k e in
          get_or-append (record_bytes k) (record_byte m ws k ∷ []) 0 i (omega (arith, bytes-length k)) ∙ f p
      go false e f =
          let p = ltb-false i k e in
          let q : i ≡ k = omega arith in
          rw q (get_or_at (record_bytes k) (record_byte m ws k) [] 0 k (bytes-length k))

  bytes_small : (k i : ℕ) → get_or (record_bytes k) i 0 < 256
  unfolding record_byte
  bytes_small k i = go (ltb i k) refl
    where
      go : (v : Bool) → ltb i k ≡ v → get_or (record_bytes k) i 0 < 256
      go true e = rw (bytes_at k i (ltb-true i k e)) (mod-lt _ (zero-lt-suc 255))
      go false e =
          let p = ltb-false i k e in
          rw (get_or-eq_default (record_bytes k) 0 {n = i} (omega (arith, bytes-length k))) (lit< tt)

  -- one more is stored, after the head
  pub byte_more : (d₀ d : List ℕ) (k : ℕ) → d ≡ sets d₀ 2 (record_bytes k) → set d (k + 2) (record_byte m ws k) ≡ sets d₀ 2 (record_bytes (k + 1))
  byte_more d₀ d k e =
      let f : k + 2 ≡ 2 + length (record_bytes k) = omega (arith, bytes-length k) in
      rw (add-one k, e, f) (sym (sets-snoc d₀ 2 (record_bytes k) (record_byte m ws k)))

-- ---- behind the head they are the strip

module _ (n m : ℕ) (ws : List ℕ) where
  abbrev strip_bytes : ℕ → List ℕ
  strip_bytes k = (16 + n % 16) ∷ m ∷ record_bytes m ws k

  pub strip-bytes : (k : ℕ) → k + 2 ≡ rule_bytes m → m ≤ 128 → strip_bytes k ≡ strip_of_rule n (records_of_words m ws)
  unfolding strip_of_rule bits
  strip-bytes k e few =
      let rs = records_of_words m ws in
      let z = 8 * k - 18 * m in
      let l = bytes-length m ws k in
      let w = words-length m ws in
      let v = strip_bits-length n rs in
      let g : bits (record_bytes m ws k) ≡ record_bits rs ++ replicate z 0 =
      placed (record_bytes m ws k) (record_bits rs) z (omega (arith, words_bits-length ws m))
      (λ i j h t. rw (bytes_at m ws k i (omega arith)) (in_byte ws m i j t)) in
      let h : digits 8 (16 + n % 16) ≡ digits 4 1 ++ digits 4 n =
      sym (join 4 4 1 (n % 16) (omega arith)) ∙ ap (λ (x : List ℕ). digits 4 1 ++ x) (digits_low 4 0 n) in
      let b : bits (strip_bytes k) ≡ strip_bits n rs ++ replicate z 0 = rw (h, g, w) (sym (simp append_assoc)) in
      strip_of_bits (strip_bytes k) (strip_bits n rs) z small b (omega arith) (omega arith)
    where
      small : (i : ℕ) → get_or (strip_bytes k) i 0 < 256
      small zero = omega arith
      small (suc zero) = omega arith
      small (suc (suc i)) = bytes_small m ws k i
