-- Laws of `position`: where a code stands in a list. Assumes nothing.
use Rattle.words.proofs.Vocabulary.{ℕ, ◌≤◌, ◌<◌, suc, zero, suc-le-suc, zero-le, ◌≡◌, ◌∙◌, refl, sym, ap, List, [], ◌∷◌, ◌++◌, eq-eqb, ne_eqb, length, get_or}
use Rattle.words.proofs.Vocabulary.{take, length-take-le, get_or-take, length-append, List·getD-append, ℕ_discrete, le_of_suc-le-suc}
use Rattle.words.proofs.Vocabulary.{not-suc-le-zero, dec_lt, Bool, true, false, not, le-leb, lt-leb, leb, cond, eqb, ltb, lt-ltb, le-ltb, arith}
use Rattle.std.specs.Option.{unwrap_or, is_some}
use Rattle.std.specs.List.{position_or_len}
use Rattle.std.specs.declared.option.Option.TheVariants.{Some, None}
use Rattle.std.proofs.lemmas.List.Recursion.{is_position_or_len}
use Rattle.exploring.specs.Explore.{DistinctCodes, place_of}
use Rattle.logic.specs.Reach.{position}

pub place_le : (x : ℕ) (cs : List ℕ) → position x cs ≤ length cs
unfolding position
place_le x [] = zero-le
place_le x (y ∷ ys) = elim (ℕ_discrete x y) [ yes e ↦ rw (eq-eqb x y e) zero-le | no n ↦ rw (ne_eqb x y n) (suc-le-suc (place_le x ys)) ]

-- what stands at its place
pub place_at : (x : ℕ) (cs : List ℕ) → position x cs < length cs → get_or cs (position x cs) 0 ≡ x
unfolding position
place_at x [] h = absurd (not-suc-le-zero h)
place_at x (y ∷ ys) h = elim (ℕ_discrete x y) [
  | yes e ↦ rw (eq-eqb x y e) (sym e)
  | no n ↦ rw (ne_eqb x y n) (place_at x ys (le_of_suc-le-suc (rw (ne_eqb x y n) at h)))
]

-- the place is the first: it is at most any other
pub place-first : (x : ℕ) (cs : List ℕ) (i : ℕ) → i < length cs → get_or cs i 0 ≡ x → position x cs ≤ i
unfolding position
place-first x [] i h e = absurd (not-suc-le-zero h)
place-first x (y ∷ ys) zero h e = rw (eq-eqb x y (sym e)) zero-le
place-first x (y ∷ ys) (suc i) h e = elim (ℕ_discrete x y) [
  | yes q ↦ rw (eq-eqb x y q) zero-le
  | no n ↦ rw (ne_eqb x y n) (suc-le-suc (place-first x ys i (le_of_suc-le-suc h) e))
]

pub place-in : (x : ℕ) (cs : List ℕ) (i : ℕ) → i < length cs → get_or cs i 0 ≡ x → position x cs < length cs
place-in x cs i h e = let r = place-first x cs i h e in omega arith

-- the second list has the first's codes in front
pub record Extends (cs ds : List ℕ) : Type 0 where
  pub long : length cs ≤ length ds
  pub same : (i : ℕ) → i < length cs → get_or ds i 0 ≡ get_or cs i 0

pub extends_refl : (cs : List ℕ) → Extends cs cs
extends_refl cs = record { long = omega arith; same = λ i h. refl }

pub extends_trans : {cs ds es : List ℕ} → Extends cs ds → Extends ds es → Extends cs es
extends_trans g h = record { long = omega (arith, g.long, h.long); same = λ i l. h.same i (omega (arith, g.long)) ∙ g.same i l }

pub extends_last : (x : ℕ) (cs : List ℕ) → Extends cs (cs ++ (x ∷ []))
extends_last x cs = record { long = omega (arith, length-append cs (x ∷ [])); same = List·getD-append cs (x ∷ []) 0 }

-- more codes behind change no place
pub place_extends : (x : ℕ) {cs ds : List ℕ} → Extends cs ds → position x cs < length cs → position x ds ≡ position x cs
place_extends x {cs} {ds} g h =
    let q = position x ds in
    let a : q ≤ position x cs = place-first x ds (position x cs) (omega (arith, g.long)) (g.same (position x cs) h ∙ place_at x cs h) in
    let b = place-first x cs q (omega arith) (sym (g.same q (omega arith)) ∙ place_at x ds (omega (arith, g.long))) in
    omega arith

-- a new code put last stands there
pub place-last : (x : ℕ) (cs : List ℕ) → length cs ≤ position x cs → position x (cs ++ (x ∷ [])) ≡ length cs
unfolding position
place-last x [] h = rw (eq-eqb x x refl)
place-last x (y ∷ cs) h = elim (ℕ_discrete x y) [
  | yes e ↦ absurd (not-suc-le-zero (rw (eq-eqb x y e) at h))
  | no n ↦ rw (ne_eqb x y n) (ap suc (place-last x cs (le_of_suc-le-suc (rw (ne_eqb x y n) at h))))
]

-- a code of a list in which none stands twice stands at its own place
pub place-own : (x : ℕ) (cs : List ℕ) (i : ℕ) → DistinctCodes cs → i < length cs → get_or cs i 0 ≡ x → position x cs ≡ i
place-own x cs i d h e = let p = place-in x cs i h e in d (position x cs) i p h (place_at x cs p ∙ sym e)

-- ---- the place as an answer
first-same : (x : ℕ) (cs : List ℕ) → position_or_len (λ y. eqb y x) cs ≡ position x cs
unfolding position
first-same x cs =
    sym (is_position_or_len (position x) (λ y. eqb y x) refl (λ y ys. elim (ℕ_discrete x y) [
      | yes e ↦ rw (eq-eqb x y e, eq-eqb y x (sym e))
      | no n ↦ rw (ne_eqb x y n, ne_eqb y x (λ e. n (sym e))) (omega arith)
    ]) cs)

-- as the library looks for it
pub first-place : (x : ℕ) (cs : List ℕ)
    → cond (ltb (position_or_len (λ y. eqb y x) cs) (length cs)) (Some (position_or_len (λ y. eqb y x) cs)) None ≡ place_of x cs
first-place x cs = rw (first-same x cs)

pub place_some : (x : ℕ) (cs : List ℕ) (i : ℕ) → position x cs ≡ i → i < length cs → Some i ≡ place_of x cs
place_some x cs i e h = rw (e, lt-ltb i (length cs) h)

-- what the answer says
pub is_place : (x : ℕ) (cs : List ℕ) {i : ℕ} → Some i ≡ place_of x cs → (i ≡ position x cs) × (i < length cs)
is_place x cs {i} e = elim (dec_lt (position x cs) (length cs)) [
  | yes h ↦ let s = rw (lt-ltb (position x cs) (length cs) h) at e in let same : i ≡ position x cs = cc in (same, omega arith)
  | no h ↦ let s = rw (le-ltb (position x cs) (length cs) (omega arith)) at e in absurd (cc)
]

other : (a b : Bool) → a ≡ not b → b ≡ not a
other a true e = cc
other a false e = cc

-- ---- among the first n
module _ (x n : ℕ) (cs : List ℕ) (fits : n ≤ length cs) where
  long : length (take n cs) ≡ n
  long = length-take-le n cs fits

  -- the place, or the next one for a new code
  pub place-or : (unwrap_or (place_of x (take n cs)) n ≡ position x (take n cs)) × (position x (take n cs) ≤ n)
  place-or = elim (dec_lt (position x (take n cs)) (length (take n cs))) [
    | yes h ↦ (rw (lt-ltb _ _ h), omega (arith, long))
    | no h ↦
        let far : length (take n cs) ≤ position x (take n cs) = omega arith in
        (rw (le-ltb _ _ far) (omega (arith, long, place_le x (take n cs))), omega (arith, long, place_le x (take n cs)))
  ]

  -- a code that has no place is new
  pub place-new : (new : Bool) → is_some (place_of x (take n cs)) ≡ not new → new ≡ leb n (position x (take n cs))
  place-new new = elim (dec_lt (position x (take n cs)) (length (take n cs))) [
    | yes h ↦ rw (lt-ltb _ _ h, lt-leb n (position x (take n cs)) (omega (arith, long))) (other true new)
    | no h ↦
        let far : length (take n cs) ≤ position x (take n cs) = omega arith in
        rw (le-ltb _ _ far, le-leb n (position x (take n cs)) (omega (arith, long))) (other false new)
  ]

  pub first-own : (i : ℕ) → DistinctCodes (take n cs) → i < n → get_or cs i 0 ≡ x → Some i ≡ place_of x (take n cs)
  first-own i d h e =
      place_some x (take n cs) i (place-own x (take n cs) i d (omega (arith, long)) (get_or-take n cs i 0 h ∙ e)) (omega (arith, long))
