-- What stands where a tree strip is refused: request A1, "Say at which bit": "beside the number, the bit place, counted from 0, where the
-- offending field starts". Assumes nothing.
use Rattle.std.specs.Prelude.{ℕ, suc, ◌+◌, ◌*◌, ◌/◌, ◌≤◌, ◌<◌, ◌≡◌, List, length, get_or}
use Rattle.logic.specs.Tree.{Tree, empty, node}
use Rattle.logic.specs.Two.{pair_of}
use Rattle.bits.specs.Bits.{bits, field, bit_length}
use Rattle.tree_strip.specs.TreeStrip.{tree_bits, Stands}

-- where the bits of the tree t end, which start at bit place 8
abbrev pub tree_end : ℕ → Tree 2 → ℕ
tree_end n t = 8 + length (tree_bits n t)

-- a bit place, or else the first bit of the next byte: where the padding from that place on ends
abbrev pub whole_byte : ℕ → ℕ
whole_byte at = (at + 7) / 8 * 8

-- no bit of the strip s is set from one place up to another
abbrev pub Unset : List ℕ → ℕ → ℕ → Type 0
Unset s from end = (j : ℕ) → from ≤ j → j < end → get_or (bits s) j 0 ≡ 0

-- reading the tree at bit place 8 in order comes to a place, with so many positions met before it and so many trees owed, still to be read
-- from it on: "bit 0 for empty; for a node bit 1, the label, first branch, second branch". It only goes forward, so every bit that it met
-- before a place in the strip is in the strip
pub data ReadingComes (s : List ℕ) (n : ℕ) : (met place owed : ℕ) → Type 0 where
  begin : ReadingComes s n 0 8 1
  past_empty : {m p o : ℕ} → ReadingComes s n m p (suc o) → get_or (bits s) p 0 ≡ 0 → ReadingComes s n m (p + 1) o
  past_label : {m p o : ℕ} → ReadingComes s n m p (suc o) → get_or (bits s) p 0 ≡ 1 → ReadingComes s n (suc m) (p + 1 + n) (suc (suc o))

-- the strip s, which says that it is over n variables, offends by a refusal's number at a bit place
pub data Offends (s : List ℕ) (n : ℕ) : ℕ → ℕ → Type 0 where
  -- "15 no bytes": "for 1, 5, 15 and 18 it is the bit length handed in"
  no_bytes : length s ≡ 0 → Offends s n 15 (bit_length s)
  -- "16 version not 1": the field of 4 bits at 0
  version : (field s 0 4 ≡ 1 → ⊥) → Offends s n 16 0
  -- "17 n not 1 to 8": the field of 4 bits at 4
  variables : ((1 ≤ n) × (n ≤ 8) → ⊥) → Offends s n 17 4
  -- "18 the bits end early": before any tree at bit place 8 does
  early-end : ((t : Tree 2) → Stands s n 8 t → ⊥) → Offends s n 18 (bit_length s)
  -- "19, once both branches are read, a node with label 0 and two empty branches": "for 19 the node bit"
  bare-node : {p : ℕ} → Stands s n p (node 0 (pair_of empty empty)) → Offends s n 19 p
  -- "20 a node bit for position 256": of a tree still to be read, once 255 positions are met
  node-bit : {p o : ℕ} → ReadingComes s n 255 p (suc o) → p < 8 * length s → get_or (bits s) p 0 ≡ 1 → Offends s n 20 p
  -- "For 6 and 21 it is the first set padding bit"
  padding-bit : {p : ℕ} (t : Tree 2) → Stands s n 8 t → tree_end n t ≤ p → p < whole_byte (tree_end n t) → get_or (bits s) p 0 ≡ 1
      → Unset s (tree_end n t) p → Offends s n 21 p
  -- "or else the first bit of the first byte left over"
  byte_left : {p : ℕ} (t : Tree 2) → Stands s n 8 t → p ≡ whole_byte (tree_end n t) → p < 8 * length s → Unset s (tree_end n t) p
      → Offends s n 21 p

-- the strip s offends by refusal k at bit place p: n is the field of 4 bits at 4
abbrev pub OffendsAt : List ℕ → ℕ → ℕ → Type 0
OffendsAt s k p = Offends s (field s 4 4) k p
