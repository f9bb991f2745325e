-- The end of a tree strip: padding bits, bytes left over, and the answer. Assumes nothing.
use Prim.Native.Nat.{ℕ, ◌+◌, ◌-◌, ◌*◌, ◌/◌, ◌%◌, ◌≤◌, ◌<◌}
use mathlib.Core.Path.{◌≡◌, refl, sym, ap, ◌∙◌}
use mathlib.Core.Bool.{false}
use mathlib.Core.List.{List}
use native.Mathlib.Omega.{arith}
use borrow.Author.Tests.{lt-ltb, le-ltb, le-leb, lt-leb}
use lib.ListN.{length, drop}
use lib.Seq.{slice, length-take-le}
use Rattle.logic.specs.Tree.{Tree, positions}
use Rattle.bits.specs.Bits.{bits, field, any_set, first_set}
use Rattle.std.specs.Prelude.{Ok, Err}
use Rattle.refusals.specs.declared.Fault.{Fault}
use Rattle.refusals.specs.declared.Reason.TheVariants as reason
use Rattle.refusals.specs.Fault.{sound, fault}
use Rattle.tree_strip.specs.TreeStrip.{Parsed, parsed, refused, padding, end_fault, unless, ended, tree_bits}
use Rattle.tree_strip.specs.TreeAnswers.{told, answered}
use Rattle.tree_strip.specs.TreePlaces.{whole_byte}
use Rattle.tree_strip.specs.declared.check.TreeRead.{TreeRead}
use Rattle.bits.proofs.Fields.{length-bits}
use Rattle.bits.proofs.Places.{slice_from, any-first}
use Rattle.bits.proofs.Packing.{length_from}
use Rattle.tree_strip.proofs.TreeBits.{tree_bits-length}
use Rattle.tree_strip.proofs.TreeHead.{tree_at, told-tree, place, reading_at, ending, room}

-- ---- the bits from a place on: the padding fills up a byte
module _ (s : List ℕ) (at : ℕ) (within : at ≤ 8 * length s) where
  abbrev pad : List ℕ
  pad = padding (drop at (bits s))

  fills : length (drop at (bits s)) % 8 ≡ whole_byte at - at
  fills = let l = length_from s at in omega arith

  pub padding-length : length pad ≡ whole_byte at - at
  padding-length = let l = length_from s at in length-take-le (length (drop at (bits s)) % 8) (drop at (bits s)) (omega arith) ∙ fills

  padding_slice : pad ≡ slice at (whole_byte at) (bits s)
  padding_slice =
      let e : whole_byte at ≡ at + (whole_byte at - at) = omega arith in
      rw fills (sym (ap (λ (k : ℕ). slice at k (bits s)) e ∙ slice_from (bits s) at (whole_byte at - at) (let l = length-bits s in omega arith)))

  -- the first set bit of the padding, or else its end
  module _ (set : ℕ) (is_first : set ≡ at + first_set (slice at (whole_byte at) (bits s))) where
    first-is : set ≡ at + first_set pad
    first-is = rw padding_slice is_first

    pub bit-set : set < whole_byte at → fault reason.TreeLeftOver set ≡ end_fault at (drop at (bits s))
    unfolding end_fault
    bit-set h =
        rw (any-first pad, lt-ltb (first_set pad) (length pad) (omega (arith, first-is, padding-length))) (ap (fault reason.TreeLeftOver) first-is)

    module _ (h : whole_byte at ≤ set) where
      none-set : any_set pad ≡ false
      none-set = any-first pad ∙ le-ltb (first_set pad) (length pad) (omega (arith, first-is, padding-length))

      pub byte_left : whole_byte at / 8 < length s → fault reason.TreeLeftOver (whole_byte at) ≡ end_fault at (drop at (bits s))
      unfolding end_fault
      byte_left k =
          let l = length_from s at in
          rw (none-set, le-leb 8 (length (drop at (bits s))) (omega arith)) (ap (fault reason.TreeLeftOver) (omega (arith, padding-length)))

      pub none_left : length s ≤ whole_byte at / 8 → sound ≡ end_fault at (drop at (bits s))
      unfolding end_fault
      none_left k = let l = length_from s at in rw (none-set, lt-leb 8 (length (drop at (bits s))) (omega arith)) refl

-- ---- the answer after the tree
module _ (s : List ℕ) (n : ℕ) where
  pub end_refused : {f : Fault} → Err f ≡ told s (tree_at s n 0 8) → Err f ≡ answered s (ended s (tree_at s n 0 8))
  unfolding ended
  end_refused {f} = go (tree_at s n 0 8)
    where
      go : (P : Parsed) → Err f ≡ told s P → Err f ≡ answered s (ended s P)
      go (refused g) e = cc
      go (parsed t m rest) e = absurd cc

  module _ {r : TreeRead} (is_tree : Ok r ≡ told s (tree_at s n 0 8)) (any : 0 < length s) where
    tree_end : (t : Tree 2) × (tree_at s n 0 8 ≡ parsed t r.met (drop r.next (bits s))) × (r.next ≡ 8 + length (tree_bits n t)) × (r.next ≤ 8 * length s)
        × (positions t ≤ 255)
    tree_end =
        let q = told-tree s n (tree_at s n 0 8) r is_tree in
        let g = reading_at s n 0 8 r.met q.0 q.1 (omega arith) q.2 in
        let f = ending s n 0 8 r.met r.next q.0 q.1 (omega arith) g q.3 in
        (q.0, q.2 ∙ ap (parsed q.0 r.met) (sym f.0), f.1, f.2, omega arith)

    pub end-room : n ≤ 8 → (r.next ≤ 65536) × (r.next ≤ 8 * length s)
    end-room h =
        let w = tree_end in
        let b = tree_bits-length n w.0 in
        let c = room s n (positions w.0) h in
        (omega arith, w.3)

    ended_by : ended s (tree_at s n 0 8) ≡ unless (end_fault r.next (drop r.next (bits s))) (parsed tree_end.0 r.met (drop r.next (bits s)))
    unfolding ended
    ended_by = let w = tree_end in rw (w.1, place s n r.next w.3) refl

    -- what the bits after the tree leave to refuse
    pub end-over : {f : Fault} → Err f ≡ end_fault r.next (drop r.next (bits s)) → Err f ≡ answered s (ended s (tree_at s n 0 8))
    end-over {f} e = rw (ended_by, ← e) refl

    pub end_clean : sound ≡ end_fault r.next (drop r.next (bits s)) → n ≡ field s 4 4
        → Ok (record { variables = n; positions = r.met }) ≡ answered s (ended s (tree_at s n 0 8))
    end_clean e q = rw (ended_by, ← e) (ap (λ (k : ℕ). Ok (record { variables = k; positions = r.met })) q)
