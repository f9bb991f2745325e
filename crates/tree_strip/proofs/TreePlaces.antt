-- What stands where a tree strip is refused: of every strip, and every number and place that its check tells. Assumes nothing.
use Prim.Native.Nat.{ℕ, suc, ◌+◌, ◌-◌, ◌*◌, ◌%◌, ◌≤◌, ◌<◌}
use mathlib.Core.Path.{◌≡◌, refl, sym, ap, subst, ◌∙◌}
use mathlib.Core.Bool.{Bool, true, false, not, cond}
use mathlib.Core.List.{List}
use native.Mathlib.Omega.{arith}
use borrow.Author.Tests.{le-leb, ltb-true, ltb-false, leb-true, eqb-true, eqb-false, not-true}
use lib.Dec.{eqb, leb, ltb}
use lib.ListN.{length, get_or, drop}
use lib.Seq.{get_or-drop, get_or-take, length-take-le}
use Rattle.logic.specs.Tree.{Tree}
use Rattle.bits.specs.Bits.{bits, field, any_set, first_set, bit_length, between}
use Rattle.std.specs.Prelude.{Result, Ok, Err}
use Rattle.refusals.specs.declared.Fault.{Fault}
use Rattle.refusals.specs.declared.Reason.{Reason}
use Rattle.refusals.specs.declared.Reason.TheVariants as reason
use Rattle.refusals.specs.Reason.{number_of}
use Rattle.refusals.specs.Fault.{sound, fault}
use Rattle.tree_strip.specs.TreeStrip.{Parsed, parsed, refused, refused_at, place_of, parse, padding, end_fault, unless, ended, read_tree, fault_in, tree_fault, Stands}
use Rattle.tree_strip.specs.TreePlaces.{tree_end, whole_byte, Unset, ReadingComes, begin, Offends, OffendsAt, no_bytes, version, variables}
use Rattle.tree_strip.specs.TreePlaces.{padding-bit, byte_left}
use Rattle.bits.proofs.Places.{any-first, first-set, first-before}
use Rattle.bits.proofs.Packing.{length_from, bits-bits}
use Rattle.tree_strip.proofs.TreeBits.{last-from}
use Rattle.tree_strip.proofs.TreeParse.{Good, parse-good}
use Rattle.tree_strip.proofs.TreeHead.{place, ending}
use Rattle.tree_strip.proofs.TreeEnd.{padding-length}
use Rattle.tree_strip.proofs.TreeWalk.{stands-within}

-- a fault, where there is one, is an offence of the strip s
abbrev Told : List ℕ → ℕ → Result Unit Fault → Type 0
Told s n (Ok u) = Unit {0}
Told s n (Err f) = Offends s n (number_of f.reason) f.place

-- ---- 21, once the tree t is read
module _ (s : List ℕ) (n : ℕ) (t : Tree 2) (stands : Stands s n 8 t) where
  abbrev pad : List ℕ
  pad = padding (drop (tree_end n t) (bits s))

  pad-length : tree_end n t + length pad ≡ whole_byte (tree_end n t)
  pad-length = omega (arith, padding-length s (tree_end n t) (stands-within s n 8 t stands))

  pad-bit : (j : ℕ) → j < length pad → get_or (bits s) (tree_end n t + j) 0 ≡ get_or pad j 0
  pad-bit j h =
      let r : List ℕ = drop (tree_end n t) (bits s) in
      sym (get_or-take (length r % 8) r j 0 (omega (arith, length-take-le (length r % 8) r (omega arith))) ∙ get_or-drop (tree_end n t) (bits s) j 0)

  -- no bit of the padding is set before the first one that is
  pad_unset : (p : ℕ) → p ≤ tree_end n t + length pad → p ≤ tree_end n t + first_set pad → Unset s (tree_end n t) p
  pad_unset p h k j from below =
      let e : tree_end n t + (j - tree_end n t) ≡ j = omega arith in
      ap (λ (i : ℕ). get_or (bits s) i 0) (sym e) ∙ pad-bit (j - tree_end n t) (omega arith) ∙ first-before pad (j - tree_end n t) (omega arith)

  bit-told : first_set pad < length pad → Offends s n 21 (tree_end n t + first_set pad)
  bit-told h =
      let b = pad-bit (first_set pad) h in
      let z = bits-bits s (tree_end n t + first_set pad) in
      let u : get_or (bits s) (tree_end n t + first_set pad) 0 ≡ 0 → ⊥ = λ e. first-set pad h (sym b ∙ e) in
      padding-bit {p = tree_end n t + first_set pad} t stands (omega arith) (omega (arith, pad-length)) (omega (arith, u))
      (pad_unset _ (omega arith) (omega arith))

  byte-told : length pad ≤ first_set pad → 8 ≤ length (drop (tree_end n t) (bits s)) → Offends s n 21 (tree_end n t + length pad)
  byte-told h k =
      let l = length_from s (tree_end n t) in
      byte_left t stands pad-length (omega (arith, pad-length)) (pad_unset _ (omega arith) (omega arith))

  end-told : Told s n (end_fault (tree_end n t) (drop (tree_end n t) (bits s)))
  unfolding end_fault
  end-told = go (any_set pad) (any-first pad) (leb 8 (length (drop (tree_end n t) (bits s)))) refl
    where
      go : (v : Bool) → v ≡ ltb (first_set pad) (length pad) → (w : Bool) → leb 8 (length (drop (tree_end n t) (bits s))) ≡ w
          → Told s n (cond v (fault reason.TreeLeftOver (tree_end n t + first_set pad)) (cond w (fault reason.TreeLeftOver (tree_end n t + length pad)) sound))
      go true e w f = bit-told (ltb-true _ _ (sym e))
      go false e true f = byte-told (ltb-false _ _ (sym e)) (leb-true 8 _ f)
      go false e false f = tt

-- ---- the tests of a strip, in order
module _ (s : List ℕ) (n : ℕ) where
  unless-told : (F : Result Unit Fault) (P : Parsed) → Told s n F → Told s n (fault_in P) → Told s n (fault_in (unless F P))
  unless-told (Ok u) P f g = g
  unless-told (Err h) P f g = f

  test-told : (v : Bool) (k : Reason) (p : ℕ) (P : Parsed) → (v ≡ true → Offends s n (number_of k) p) → (v ≡ false → Told s n (fault_in P))
      → Told s n (fault_in (cond v (refused_at k p) P))
  test-told true k p P f g = f refl
  test-told false k p P f g = g refl

  ended-told : (P : Parsed) → 0 < length s → Good s n 0 (drop 8 (bits s)) P → Told s n (fault_in (ended s P))
  unfolding ended
  ended-told (refused f) h g = g 0 (subst (λ (q : ℕ). ReadingComes s n 0 q 1) (sym (place s n 8 (omega arith))) begin)
  ended-told (parsed t m rest) h g =
      let f = ending s n 0 8 m (place_of s rest) t rest (omega arith) g refl in
      unless-told (end_fault (place_of s rest) rest) (parsed t m rest)
      (rw (f.1, ← f.0) (rw f.1 (end-told s n t (rest, g.written)))) tt

fault-told : (s : List ℕ) → Told s (field s 4 4) (tree_fault s)
unfolding tree_fault read_tree
fault-told s =
    let n = field s 4 4 in
    test-told s n (eqb (length s) 0) reason.TreeShort (bit_length s) _ (λ e. no_bytes (eqb-true (length s) 0 e)) (λ e.
    let some : 0 < length s = (let z = eqb-false (length s) 0 e in omega arith) in
    test-told s n (not (eqb (field s 0 4) 1)) reason.TreeVersion 0 _ (λ f. version (eqb-false (field s 0 4) 1 (not-true _ f))) (λ f.
    test-told s n (not (between 1 8 n)) reason.TreeVariables 4 _ (λ g. variables (outside g)) (λ g.
    ended-told s n (parse s (suc (8 * length s)) n 0 (drop 8 (bits s))) some
    (parse-good s n (suc (8 * length s)) 0 (drop 8 (bits s)) (omega (arith, length_from s 8)) (omega arith) (last-from s 8)))))
  where
    outside : not (between 1 8 (field s 4 4)) ≡ true → (1 ≤ field s 4 4) × (field s 4 4 ≤ 8) → ⊥
    outside e w = let f = rw (le-leb 1 (field s 4 4) w.0, le-leb (field s 4 4) 8 w.1) at e in let z : ◌≡◌ {A = ℕ} 0 1 = cc in omega arith

-- at the place that a refusal tells stands what its number names
pub place-told : (s : List ℕ) (f : Fault) → tree_fault s ≡ Err f → OffendsAt s (number_of f.reason) f.place
place-told s f e = subst (Told s (field s 4 4)) e (fault-told s)
