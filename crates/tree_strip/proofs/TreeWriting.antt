-- A strip written field by field onto zeros. Assumes nothing.
use mathlib.Core.Path.{◌≡◌, refl, ◌∙◌}
use mathlib.Core.List.{List, ◌++◌, append-nil}
use Prim.Native.Nat.{ℕ, ◌+◌, ◌*◌, ◌≤◌, ◌<◌}
use native.Mathlib.Omega.{arith}
use lib.ListN.{length, get_or, drop, replicate, length-append}
use lib.Seq.{sets, drop-length}
use Rattle.logic.specs.Tree.{Tree, positions}
use Rattle.bits.specs.Bits.{digits, bits, Clear}
use Rattle.tree_strip.specs.TreeStrip.{tree_bits, strip_of_tree, tree_bytes}
use Rattle.bits.proofs.Fields.{length_digits}
use Rattle.bits.proofs.Writing.{field-after, three, cleared, packed}
use Rattle.tree_strip.proofs.TreeBits.{tree_bits-length}
use Rattle.tree_strip.proofs.TreeLaws.{tree_bytes-most}

-- the bytes were made 0; the version is written, then n, then the tree
module _ (d out : List ℕ) (zeros : out ≡ replicate (length d) 0) where
  blanked : out ≡ replicate (length d) 0 ++ drop (length d) d
  blanked = rw (drop-length d, append-nil {A = ℕ} (replicate (length d) 0)) zeros

  pub blank : Clear (bits out) 0
  blank = cleared d out (length d) blanked refl

  module _ (a : List ℕ) (p : bits a ≡ sets (bits out) 0 (digits 4 1)) where
    pub after-version : Clear (bits a) 4
    after-version = field-after (bits out) (bits a) 0 4 1 p blank

    module _ (n : ℕ) (b : List ℕ) (q : bits b ≡ sets (bits a) 4 (digits 4 n)) where
      pub after_head : Clear (bits b) 8
      after_head = field-after (bits a) (bits b) 4 4 n q after-version

      pub strip-written : (t : Tree 2) → length d ≡ tree_bytes n (positions t) → (f : List ℕ) → bits f ≡ sets (bits b) 8 (tree_bits n t) → ((i : ℕ) → get_or f i 0 < 256)
          → f ≡ strip_of_tree n t
      unfolding strip_of_tree
      strip-written t size f r g =
          let vs : List ℕ = digits 4 1 ++ (digits 4 n ++ tree_bits n t) in
          let z = tree_bits-length n t in
          let x = length_digits 4 1 in
          let y = length_digits 4 n in
          let k : length vs ≡ 8 + length (tree_bits n t) = length-append (digits 4 1) (digits 4 n ++ tree_bits n t)
          ∙ (let w = length-append (digits 4 n) (tree_bits n t) in omega arith) in
          let w : bits f ≡ sets (bits out) 0 vs = three (bits out) (bits a) (bits b) (bits f) 0 4 8 (digits 4 1) (digits 4 n) (tree_bits n t) p q r (omega arith)
          (omega arith) in
          packed d out (length d) blanked refl vs f w g (omega arith) (omega arith) (omega arith)

-- the room that a tree's strip takes
pub strip-size : (n : ℕ) (t : Tree 2) → n ≤ 8 → positions t ≤ 255
    → (8 + length (tree_bits n t) ≤ 8 * tree_bytes n (positions t)) × (tree_bytes n (positions t) ≤ 320) × (1 ≤ tree_bytes n (positions t))
strip-size n t small few = let z = tree_bits-length n t in (omega arith, tree_bytes-most n (positions t) small few, omega arith)
