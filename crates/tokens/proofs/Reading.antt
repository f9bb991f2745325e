-- The tokens that are left at a place. Assumes nothing.
use Prim.Native.Nat.{ℕ, suc, ◌+◌, ◌-◌, ◌<◌, ◌≤◌}
use mathlib.Core.Path.{◌≡◌, refl, sym, ◌∙◌, ap}
use mathlib.Core.Bool.{Bool, true, false}
use mathlib.Core.List.{List, [], ◌∷◌}
use native.Mathlib.Numerals.{add-one}
use native.Mathlib.Omega.{arith}
use lib.ListN.{length, get_or, take, drop, length-drop, drop_of_length-le}
use lib.Seq.{drop-cons, drop-drop, get_or-drop}
use Rattle.text.specs.Token.{Piece, is_blank, is_letter, is_alnum, alnum_run, words, word_kind, text_marks, mark_piece, piece, tokens, tokens_of}
use Rattle.text.specs.Grammar.{peek, rest}
use Rattle.text.proofs.Steps.{token_at, tokens_from, tokens_blank, tokens-token}
use Rattle.text.specs.Kinds.{kind_number}
use Rattle.text.specs.declared.kinds.Kind.{Kind}
use Rattle.text.specs.declared.kinds.Kind.TheVariants.{End}
use Rattle.tokens.specs.declared.Token.{Token}
use Rattle.tokens.specs.Spans.{part, Span}
use Rattle.tokens.specs.Tokens.{tokens_at, read_from, StandsNext, span, mark_size}
use Rattle.tokens.proofs.Marks.{mark-sized, mark-within, size-pos}

-- the whole text's tokens are those at its start
pub tokens-start : (s : List ℕ) → tokens_at s 0 ≡ tokens_of s
unfolding tokens_at tokens_of
tokens-start s = refl

-- ---- bytes that pass a test, from place i on
module _ (p : ℕ → Bool) (s : List ℕ) (i : ℕ) where
  pub span_more : i < length s → p (get_or s i 0) ≡ true → i + span p (drop i s) ≡ i + 1 + span p (drop (i + 1) s)
  unfolding span
  span_more h e = rw (add-one i, drop-cons s i 0 h, e, span) (omega arith)

  pub span-stop : i < length s → p (get_or s i 0) ≡ false → i + span p (drop i s) ≡ i
  unfolding span
  span-stop h e = rw (drop-cons s i 0 h, e, span) (omega arith)

  pub span-end : length s ≤ i → i + span p (drop i s) ≡ i
  unfolding span
  span-end h = rw (drop_of_length-le s h) (omega arith)

span_le : (p : ℕ → Bool) (l : List ℕ) → span p l ≤ length l
unfolding span
span_le p [] = omega arith
span_le p (b ∷ l) = go (p b) (span_le p l)
  where
    go : (v : Bool) → span p l ≤ length l → (elim v as (λ _. ℕ) [ true ↦ suc (span p l) | false ↦ 0 ]) ≤ suc (length l)
    go true h = omega arith
    go false h = omega arith

-- the byte after them does not pass
span_fails : (p : ℕ → Bool) (l : List ℕ) → span p l < length l → p (get_or l (span p l) 0) ≡ false
unfolding span
span_fails p [] h = absurd (omega arith)
span_fails p (b ∷ l) h = go (p b) refl h (span_fails p l)
  where
    go : (v : Bool) → p b ≡ v → (elim v as (λ _. ℕ) [ true ↦ suc (span p l) | false ↦ 0 ]) < suc (length l)
        → (span p l < length l → p (get_or l (span p l) 0) ≡ false)
        → p (get_or (b ∷ l) (elim v as (λ _. ℕ) [ true ↦ suc (span p l) | false ↦ 0 ]) 0) ≡ false
    go true e k ih = ih (omega arith)
    go false e k ih = e

run_is : (l : List ℕ) → alnum_run l ≡ span is_alnum l
unfolding alnum_run span
run_is [] = refl
run_is (b ∷ l) = ap (λ (n : ℕ). elim (is_alnum b) as (λ _. ℕ) [ true ↦ suc n | false ↦ 0 ]) (run_is l)

-- ---- the token at a place
-- blanks are passed over
skip : (at : ℕ) (l : List ℕ) → tokens_from at l ≡ tokens_from (at + span is_blank l) (drop (span is_blank l) l)
unfolding span
skip at [] = let e : at + 0 ≡ at = omega arith in rw e refl
skip at (b ∷ l) = go (is_blank b) refl (skip (suc at) l)
  where
    go : (v : Bool) → is_blank b ≡ v → tokens_from (suc at) l ≡ tokens_from (suc at + span is_blank l) (drop (span is_blank l) l)
        → let n = elim v as (λ _. ℕ) [ true ↦ suc (span is_blank l) | false ↦ 0 ] in tokens_from at (b ∷ l) ≡ tokens_from (at + n) (drop n (b ∷ l))
    go true e ih = let q : suc at + span is_blank l ≡ at + suc (span is_blank l) = omega arith in tokens_blank at b l e ∙ rw q at ih
    go false e ih = let q : at + 0 ≡ at = omega arith in rw q refl

-- from the place after the blanks, start
module _ (s : List ℕ) (at start : ℕ) (e : start ≡ at + span is_blank (drop at s)) where
  skipped : tokens_at s at ≡ tokens_at s start
  unfolding tokens_at
  skipped = skip at (drop at s) ∙ rw (drop-drop (span is_blank (drop at s)) at s, ← e) refl

  not_blank : start < length s → is_blank (get_or s start 0) ≡ false
  not_blank h =
      let q = length-drop at s in
      rw (e, ← get_or-drop at s (span is_blank (drop at s)) 0) (span_fails is_blank (drop at s) (omega arith))

  pub stands-end : length s ≤ start → StandsNext s at (record { kind = End; start = start; stop = start })
  unfolding tokens_at tokens
  stands-end h = record {
    stands = ap peek skipped ∙ last;
    goes_on = λ z. absurd (z refl);
    onward = λ z. absurd (z refl);
    ordered = omega arith;
    forward = omega arith;
    skips = skipped;
    long = λ z. absurd (z refl);
  }
    where
      last : peek (tokens_at s start) ≡ read_from s (record { kind = End; start = start; stop = start })
      last = let q : start - start ≡ 0 = omega arith in rw (drop_of_length-le s h, q) refl

  -- what a token of size n there says
  module _ (h : start < length s) where
    abbrev here : Piece
    here = piece (get_or s start 0) (drop (suc start) s)

    first-token : tokens_at s start ≡ token_at start (get_or s start 0) (drop (suc start) s) ∷ tokens_at s (start + here.size)
    unfolding tokens_at
    first-token =
        let b = get_or s start 0 in
        let t = drop (suc start) s in
        ap (λ (l : List ℕ). tokens_from start l) (drop-cons s start 0 h)
        ∙ tokens-token start b t (not_blank h)
        ∙ ap (λ (l : List ℕ). token_at start b t ∷ tokens_from (start + here.size) l)
        (ap (drop here.size) (sym (drop-cons s start 0 h)) ∙ drop-drop here.size start s)

    pub stands-piece : (k : Kind) (stop : ℕ) → kind_number k ≡ here.kind → stop ≡ start + here.size → 0 < here.size → stop ≤ length s
        → StandsNext s at (record { kind = k; start = start; stop = stop })
    stands-piece k stop ek es pos l =
        let q : stop - start ≡ here.size = omega arith in
        let whole = skipped ∙ first-token in
        record {
          stands = ap peek whole ∙ rw (ek, q, drop-cons s start 0 h, es) refl;
          goes_on = λ z. ap rest whole ∙ rw (sym es) refl;
          onward = λ z. (omega arith, l);
          ordered = omega arith;
          forward = omega arith;
          skips = skipped;
          long = λ z. omega arith;
        }

    -- a run of letters and digits
    module _ (stop : ℕ) (es : stop ≡ start + 1 + span is_alnum (drop (start + 1) s)) where
      pub word-span : Span s start stop
      word-span =
          let l = span_le is_alnum (drop (start + 1) s) in
          let q = length-drop (start + 1) s in
          record { ordered = omega arith; inside = omega arith }

      pub stands_word : (k : Kind) → is_letter (get_or s start 0) ≡ true
          → kind_number k ≡ word_kind 0 words (part s start stop) → StandsNext s at (record { kind = k; start = start; stop = stop })
      unfolding piece
      stands_word k v ek =
          let b = get_or s start 0 in
          let t = drop (suc start) s in
          let n : span is_alnum (drop (start + 1) s) ≡ alnum_run t = rw (add-one start) (sym (run_is t)) in
          let q : stop - start ≡ suc (alnum_run t) = omega arith in
          let w : part s start stop ≡ b ∷ take (alnum_run t) t = rw (drop-cons s start 0 h, q) refl in
          let p : here ≡ record { kind = word_kind 0 words (b ∷ take (alnum_run t) t); size = suc (alnum_run t) } = rw (v, piece) refl in
          stands-piece k stop (ek ∙ rw (w, p) refl) (rw p (omega arith)) (rw p (omega arith)) word-span.inside

    -- a mark or a stray byte
    module _ (k : Kind) (ek : kind_number k ≡ (mark_piece 10 text_marks (drop start s)).kind) where
      size_is : mark_size (kind_number k) ≡ (mark_piece 10 text_marks (get_or s start 0 ∷ drop (suc start) s)).size
      size_is = rw (ek, drop-cons s start 0 h) (sym (mark-sized (get_or s start 0 ∷ drop (suc start) s)))

      pub mark-fits : start + mark_size (kind_number k) ≤ length s
      mark-fits =
          let l = mark-within (get_or s start 0) (drop (suc start) s) in
          let q = length-drop (suc start) s in
          let e = size_is in
          omega arith

      pub stands-mark : is_letter (get_or s start 0) ≡ false → StandsNext s at (record { kind = k; start = start; stop = start + mark_size (kind_number k) })
      unfolding piece
      stands-mark v =
          let p : here ≡ mark_piece 10 text_marks (get_or s start 0 ∷ drop (suc start) s) = rw (v, piece) refl in
          stands-piece k (start + mark_size (kind_number k)) (ek ∙ rw (drop-cons s start 0 h, p) refl) (rw (p, size_is) refl) (rw (p, ← size_is) (size-pos (kind_number k))) mark-fits

-- a token stands at its own start
pub stands_self : {s : List ℕ} {at : ℕ} {t : Token} → StandsNext s at t → StandsNext s t.start t
stands_self {s} {at} {t} st = record {
  stands = ap peek (sym st.skips) ∙ st.stands;
  goes_on = λ z. ap rest (sym st.skips) ∙ st.goes_on z;
  onward = λ z. (st.long z, (st.onward z).1);
  ordered = st.ordered;
  forward = omega arith;
  skips = refl;
  long = st.long;
}
