-- The first set bit of a list of bits: where it stands, and how it is found. Assumes nothing.
use mathlib.Core.Path.{◌≡◌, refl, sym, ap, ◌∙◌}
use mathlib.Core.Logic.{◌⊎◌, inl, inr, ⊎_elim}
use mathlib.Core.Bool.{true, false}
use mathlib.Core.List.{List, [], ◌∷◌}
use Prim.Native.Nat.{ℕ, zero, suc, ◌+◌, ◌≤◌, ◌<◌}
use native.Mathlib.Nat.{not-suc-le-zero}
use native.Mathlib.Numerals.{add-one}
use native.Mathlib.Omega.{arith}
use borrow.Author.Tests.{lt-ltb, ne_eqb}
use lib.Dec.{ltb, leb-suc-suc, eqb-suc-zero}
use lib.ListN.{length, get_or, take, drop, replicate}
use lib.Seq.{slice, slice_empty, slice-cons, take-add, drop_at, length-take-le}
use Rattle.bits.specs.Bits.{any_set, first_set}

-- a bit is 0 or not
first-zero : (b : ℕ) (bs : List ℕ) → b ≡ 0 → first_set (b ∷ bs) ≡ suc (first_set bs)
unfolding first_set
first-zero b bs e = rw e refl

first_one : (b : ℕ) (bs : List ℕ) → (b ≡ 0 → ⊥) → first_set (b ∷ bs) ≡ 0
unfolding first_set
first_one b bs z = rw (ne_eqb b 0 z) refl

-- one turn of the search for it, from a place up to another
module _ (l : List ℕ) (at end : ℕ) where
  pub first-here : at < end → end ≤ length l → (get_or l at 0 ≡ 0 → ⊥) → at ≡ at + first_set (slice at end l)
  first-here h k z = rw (slice-cons at end l 0 h k, first_one _ _ z) (omega arith)

  pub first-later : at < end → end ≤ length l → get_or l at 0 ≡ 0 → at + first_set (slice at end l) ≡ at + 1 + first_set (slice (at + 1) end l)
  first-later h k z = rw (slice-cons at end l 0 h k, first-zero _ _ z, add-one at) (omega arith)

  pub first-none : at ≡ end → at ≡ at + first_set (slice at end l)
  unfolding first_set
  first-none e = rw (e, slice_empty end l) (omega arith)

-- no zero is set
pub zeros_unset : (z : ℕ) → any_set (replicate z 0) ≡ false
unfolding any_set
zeros_unset zero = refl
zeros_unset (suc z) = zeros_unset z

-- the k bits from a place on, as a part of all
pub slice_from : (l : List ℕ) (at k : ℕ) → at ≤ length l → slice at (at + k) l ≡ take k (drop at l)
slice_from l at k h = ap (drop at) (take-add at k l) ∙ drop_at (take at l) (take k (drop at l)) at (length-take-le at l h)

-- ---- where it stands

-- a bit is 0 or not, and counts accordingly
zero_or : (b : ℕ) (bs : List ℕ)
    → ((b ≡ 0) × ((first_set (b ∷ bs) ≡ suc (first_set bs)) × (any_set (b ∷ bs) ≡ any_set bs)))
    ⊎ ((b ≡ 0 → ⊥) × ((first_set (b ∷ bs) ≡ 0) × (any_set (b ∷ bs) ≡ true)))
unfolding first_set any_set
zero_or zero bs = inl (refl, (refl, refl))
zero_or (suc b) bs = inr (λ e. omega arith, (rw eqb-suc-zero refl, rw eqb-suc-zero refl))

-- a bit is set exactly if one is found
pub any-first : (l : List ℕ) → any_set l ≡ ltb (first_set l) (length l)
unfolding first_set any_set
any-first [] = refl
any-first (b ∷ bs) =
    ⊎_elim (λ w. w.1.1 ∙ any-first bs ∙ rw w.1.0 (same_tests (first_set bs) (length bs)))
    (λ w. w.1.1 ∙ rw w.1.0 (sym (lt-ltb 0 (suc (length bs)) (omega arith)))) (zero_or b bs)
  where
    same_tests : (m n : ℕ) → ltb m n ≡ ltb (suc m) (suc n)
    same_tests m n = sym (leb-suc-suc (suc m) n)

pub first-most : (l : List ℕ) → first_set l ≤ length l
unfolding first_set
first-most [] = omega arith
first-most (b ∷ bs) =
    ⊎_elim (λ w. rw w.1.0 (let h = first-most bs in omega arith)) (λ w. rw w.1.0 (omega arith)) (zero_or b bs)

-- the bit there is set
pub first-set : (l : List ℕ) → first_set l < length l → get_or l (first_set l) 0 ≡ 0 → ⊥
first-set [] h e = not-suc-le-zero h
first-set (b ∷ bs) h e =
    ⊎_elim (λ w. first-set bs (let k = rw w.1.0 at h in omega arith) (rw w.1.0 at e)) (λ w. w.0 (rw w.1.0 at e)) (zero_or b bs)

-- and none before it is
pub first-before : (l : List ℕ) (j : ℕ) → j < first_set l → get_or l j 0 ≡ 0
unfolding first_set
first-before [] j h = refl
first-before (b ∷ bs) zero h = ⊎_elim (λ w. w.0) (λ w. absurd (let k = rw w.1.0 at h in omega arith)) (zero_or b bs)
first-before (b ∷ bs) (suc j) h =
    ⊎_elim (λ w. first-before bs j (let k = rw w.1.0 at h in omega arith)) (λ w. absurd (let k = rw w.1.0 at h in omega arith)) (zero_or b bs)
