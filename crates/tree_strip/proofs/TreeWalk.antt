-- A walk over a tree in a strip: at a place where a tree stands, what its bits are and where its branches stand. Assumes nothing.
use Prim.Native.Nat.{ℕ, ◌+◌, ◌*◌, ◌^◌, ◌≤◌, ◌<◌}
use mathlib.Core.Path.{◌≡◌, sym, ap, ◌∙◌}
use mathlib.Core.List.{List, ◌++◌}
use native.Mathlib.Omega.{arith}
use lib.ListN.{length, get_or, take, drop, length-append}
use lib.Seq.{drop-drop, take_at, drop-append_seam}
use Rattle.logic.specs.Meaning.{Branch}
use Rattle.logic.specs.Tree.{Tree, empty, node}
use Rattle.logic.specs.Two.{one, two}
use Rattle.bits.specs.Bits.{digits, bits, number, field}
use Rattle.tree_strip.specs.TreeStrip.{tree_bits, Stands}
use Rattle.bits.proofs.Fields.{length_digits}
use Rattle.bits.proofs.Packing.{length_from, bit_is, number_of}
use Rattle.tree_strip.proofs.TreeBits.{tree_bits-length, node-from, after-label}
use Rattle.tree_strip.proofs.TreeLaws.{TreeFacts, facts_tree}

pub facts_stand : (s : List ℕ) (n : ℕ) (t : Tree 2) → TreeFacts s n t → Stands s n 8 t
facts_stand s n t f = (_, facts_tree s n t f)

module _ (s : List ℕ) (n at : ℕ) where
  pub stands-within : (t : Tree 2) → Stands s n at t → at + length (tree_bits n t) ≤ 8 * length s
  stands-within t p =
      let l = length_from s at in
      let k = ap length p.1 ∙ length-append (tree_bits n t) p.0 in
      let b = tree_bits-length n t in
      omega arith

  pub empty-bit : Stands s n at empty → (at < 8 * length s) × (get_or (bits s) at 0 ≡ 0)
  unfolding tree_bits
  empty-bit p = let w = bit_is s at 0 p.0 p.1 in (w.0, w.1)

  module _ (l : ℕ) (f : Branch 2 → Tree 2) (p : Stands s n at (node l f)) where
    -- what stands after the label
    abbrev after : List ℕ
    after = tree_bits n (f one) ++ (tree_bits n (f two) ++ p.0)

    pub node-bit : (at < 8 * length s) × (get_or (bits s) at 0 ≡ 1) × (drop (at + 1) (bits s) ≡ digits n l ++ after)
    node-bit = node-from s n at l f p.0 p.1

    pub label_in : at + 1 + n ≤ 8 * length s
    label_in =
        let a = ap length node-bit.2 ∙ length-append (digits n l) after in
        let b = length_from s (at + 1) in
        omega (arith, length_digits n l, node-bit.0)

    pub label_is : l < 2 ^ n → field s (at + 1) n ≡ l
    label_is k =
        ap (λ (r : List ℕ). number 0 (take n r)) node-bit.2 ∙ ap (number 0) (take_at (digits n l) after n (length_digits n l))
        ∙ number_of n l k

    pub stands-first : Stands s n (at + 1 + n) (f one)
    stands-first = (tree_bits n (f two) ++ p.0, after-label s n at l f p.0 p.1)

    pub stands-second : Stands s n (at + 1 + n + length (tree_bits n (f one))) (f two)
    stands-second = (
      p.0,
      sym (drop-drop (length (tree_bits n (f one))) (at + 1 + n) (bits s))
          ∙ ap (drop (length (tree_bits n (f one)))) (after-label s n at l f p.0 p.1) ∙ drop-append_seam (tree_bits n (f one)) (tree_bits n (f two) ++ p.0),
    )
