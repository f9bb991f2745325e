-- Words as numbers: bytes are known by their packed number. Assumes nothing.
use Prim.Native.Nat.{ℕ, zero, suc, ◌+◌, ◌-◌, ◌*◌, ◌<◌, ◌≤◌}
use Prim.Native.String.{String}
use mathlib.Core.Path.{◌≡◌, refl, sym, ◌∙◌, ap, ap₂, subst}
use mathlib.Core.Bool.{Bool, true, false, ◌&&◌}
use mathlib.Core.List.{List, [], ◌∷◌}
use native.Mathlib.Omega.{arith}
use borrow.Author.Tests.{eq-eqb, ne_eqb, ltb-true, leb-true}
use lib.Dec.{T, eqb, ltb, leb}
use lib.ListN.{length, get_or}
use Rattle.text.specs.Token.{spell, words, word_kind, same_bytes, a_name}
use Rattle.text.proofs.Texts.{bytes_eq, bytes_refl}
use Rattle.tokens.specs.Spans.{part}
use Rattle.tokens.specs.Tokens.{packed, packed_kind}
use Rattle.tokens.proofs.Parts.{Bytes, part-cons, part-empty, part_length}

packed-pos : (w : List ℕ) → 1 ≤ packed w
unfolding packed
packed-pos [] = omega arith
packed-pos (b ∷ w) = let h = packed-pos w in omega arith

packed_inj : (v w : List ℕ) → Bytes v → Bytes w → packed v ≡ packed w → v ≡ w
unfolding packed
packed_inj [] [] h k e = refl
packed_inj [] (b ∷ w) h k e = let p = packed-pos w in absurd (omega arith)
packed_inj (a ∷ v) [] h k e = let p = packed-pos v in absurd (omega arith)
packed_inj (a ∷ v) (b ∷ w) h k e =
    let x = h 0 in
    let y = k 0 in
    let p : a ≡ b = omega arith in
    let q : packed v ≡ packed w = omega arith in
    ap₂ (λ (c : ℕ) (l : List ℕ). c ∷ l) p (packed_inj v w (λ j. h (suc j)) (λ j. k (suc j)) q)

-- three bytes, and a fourth to come, do not fill 64 bits
pub packed-small : (w : List ℕ) → Bytes w → length w ≤ 3 → packed w < 33554432
unfolding packed
packed-small [] h l = omega arith
packed-small (a ∷ []) h l = let x = h 0 in omega arith
packed-small (a ∷ b ∷ []) h l = let x = h 0 in let y = h 1 in omega arith
packed-small (a ∷ b ∷ c ∷ []) h l = let x = h 0 in let y = h 1 in let z = h 2 in omega arith
packed-small (a ∷ b ∷ c ∷ d ∷ w) h l = absurd (omega arith)

-- one byte more, before the others
pub packed_more : (s : List ℕ) (i j e v : ℕ) → suc i ≡ j → j ≤ e → e ≤ length s → v ≡ packed (part s j e) → v * 256 + get_or s i 0 ≡ packed (part s i e)
unfolding packed
packed_more s i j e v q h k p = rw (part-cons s i e (omega arith) k, q, p) refl

pub packed_none : (s : List ℕ) (e : ℕ) → 1 ≡ packed (part s e e)
unfolding packed
packed_none s e = rw (part-empty s e) refl

same-packed : (v w : List ℕ) → Bytes v → Bytes w → same_bytes v w ≡ eqb (packed w) (packed v)
same-packed v w h k = go (same_bytes v w) refl
  where
    go : (b : Bool) → same_bytes v w ≡ b → b ≡ eqb (packed w) (packed v)
    go true e = sym (eq-eqb _ _ (ap packed (sym (bytes_eq v w (subst T (sym e) tt)))))
    go false e = sym (ne_eqb _ _ (λ q. subst T (sym (bytes_refl v) ∙ ap (same_bytes v) (packed_inj v w h k (sym q)) ∙ e) tt))

-- words of at most four bytes
unfoldable pub bytes_below : List ℕ → Bool
bytes_below [] = true
bytes_below (b ∷ w) = ltb b 256 && bytes_below w

unfoldable pub all_short : List String → Bool
all_short [] = true
all_short (w ∷ ws) = leb (length (spell w)) 4 && (bytes_below (spell w) && all_short ws)

and_left : (a b : Bool) → (a && b) ≡ true → a ≡ true
and_left true b e = refl
and_left false b e = e

and_right : (a b : Bool) → (a && b) ≡ true → b ≡ true
and_right true b e = e
and_right false b e = absurd (subst T (sym e) tt)

below-bytes : (w : List ℕ) → bytes_below w ≡ true → Bytes w
unfolding bytes_below
below-bytes [] e k = omega arith
below-bytes (b ∷ w) e zero = ltb-true b 256 (and_left (ltb b 256) (bytes_below w) e)
below-bytes (b ∷ w) e (suc k) = below-bytes w (and_right (ltb b 256) (bytes_below w) e) k

module _ (w : List ℕ) where
  by_number : (i : ℕ) (ws : List String) → all_short ws ≡ true → Bytes w → word_kind i ws w ≡ packed_kind i ws (packed w)
  unfolding word_kind packed_kind all_short
  by_number i [] e h = refl
  by_number i (v ∷ vs) e h =
      let f = and_right (leb (length (spell v)) 4) (bytes_below (spell v) && all_short vs) e in
      ap₂ (λ (b : Bool) (n : ℕ). elim b as (λ _. ℕ) [ true ↦ i | false ↦ n ])
      (same-packed (spell v) w (below-bytes (spell v) (and_left (bytes_below (spell v)) (all_short vs) f)) h)
      (by_number (suc i) vs (and_right (bytes_below (spell v)) (all_short vs) f) h)

  none-long : (i : ℕ) (ws : List String) → all_short ws ≡ true → 4 < length w → word_kind i ws w ≡ a_name
  unfolding word_kind all_short
  none-long i [] e h = refl
  none-long i (v ∷ vs) e h =
      let f = and_right (leb (length (spell v)) 4) (bytes_below (spell v) && all_short vs) e in
      go (same_bytes (spell v) w) refl (leb-true (length (spell v)) 4 (and_left (leb (length (spell v)) 4) (bytes_below (spell v) && all_short vs) e))
      (none-long (suc i) vs (and_right (bytes_below (spell v)) (all_short vs) f) h)
    where
      go : (b : Bool) → same_bytes (spell v) w ≡ b → length (spell v) ≤ 4 → word_kind (suc i) vs w ≡ a_name
          → (elim b as (λ _. ℕ) [ true ↦ i | false ↦ word_kind (suc i) vs w ]) ≡ a_name
      go true q l ih = let z = ap length (bytes_eq (spell v) w (subst T (sym q) tt)) in absurd (omega arith)
      go false q l ih = ih

-- a number of none of the words
unfoldable pub NoWord : List String → ℕ → Type 0
NoWord [] v = Unit
NoWord (w ∷ ws) v = (v ≡ packed (spell w) → ⊥) × NoWord ws v

pub no_word : (i : ℕ) (ws : List String) (v : ℕ) → NoWord ws v → packed_kind i ws v ≡ a_name
unfolding NoWord packed_kind
no_word i [] v h = refl
no_word i (w ∷ ws) v h =
    ap (λ (b : Bool). elim b as (λ _. ℕ) [ true ↦ i | false ↦ packed_kind (suc i) ws v ]) (ne_eqb v (packed (spell w)) h.0) ∙ no_word (suc i) ws v h.1

words-short : all_short words ≡ true
unfolding all_short bytes_below words spell
words-short = refl

-- THE EQUATION of a word's kind, and of longer runs
pub word-packed : (w : List ℕ) → Bytes w → word_kind 0 words w ≡ packed_kind 0 words (packed w)
word-packed w h = by_number w 0 words words-short h

pub word-long : (s : List ℕ) (a e : ℕ) → a ≤ e → e ≤ length s → 4 < e - a → a_name ≡ word_kind 0 words (part s a e)
word-long s a e h k l = let q = part_length s a e h k in sym (none-long (part s a e) 0 words words-short (omega arith))
