-- Trees of two branches as bits: how many; a node that stands at a place; and the last bits of a strip. Assumes nothing.
use Prim.Native.Nat.{ℕ, zero, suc, ◌+◌, ◌*◌, ◌≤◌, ◌<◌}
use mathlib.Core.Path.{◌≡◌, refl, sym, ap, subst, ◌∙◌}
use mathlib.Core.List.{List, ◌∷◌, ◌++◌, append_assoc}
use native.Mathlib.Nat.{add-mul, suc-mul}
use native.Mathlib.Omega.{arith}
use lib.Dec.{lit<}
use lib.ListN.{length, get_or, take, drop, length-append, take-append-drop}
use lib.Seq.{drop-drop, drop_at, drop-append_seam}
use Rattle.logic.specs.Meaning.{Branch}
use Rattle.logic.specs.Tree.{Tree, empty, node, down_from, sum_of, positions}
use Rattle.logic.specs.Two.{one, two, pair_of}
use Rattle.logic.proofs.Two.{two-branches}
use Rattle.bits.specs.Bits.{digits, bits}
use Rattle.tree_strip.specs.TreeStrip.{tree_bits, place_of}
use Rattle.bits.proofs.Fields.{length_digits, length-bits}
use Rattle.bits.proofs.Packing.{AreBits, bits-drop, bits-append, digits-bits, bits-bits, length_from, bit_is}

-- ---- two branches
pub positions-pair : (l : ℕ) (t u : Tree 2) → positions (node l (pair_of t u)) ≡ suc (positions t + positions u)
unfolding positions sum_of down_from
positions-pair l t u = omega arith

pub positions-node : (l : ℕ) (f : Branch 2 → Tree 2) → positions (node l f) ≡ suc (positions (f one) + positions (f two))
positions-node l f = ap (λ (g : Branch 2 → Tree 2). positions (node l g)) (sym (two-branches f)) ∙ positions-pair l (f one) (f two)

-- "N positions take 8 + N(n+1) + N + 1 bits", of which 8 stand before the tree
pub tree_bits-length : (n : ℕ) (t : Tree 2) → length (tree_bits n t) ≡ positions t * (n + 1) + positions t + 1
unfolding tree_bits positions
tree_bits-length n empty = omega arith
tree_bits-length n (node l f) =
    let a = tree_bits-length n (f one) in
    let b = tree_bits-length n (f two) in
    let p = length-append (digits n l) (tree_bits n (f one) ++ tree_bits n (f two)) in
    let q = length-append (tree_bits n (f one)) (tree_bits n (f two)) in
    let d = length_digits n l in
    let e : positions (node l f) * (n + 1) ≡ positions (f one) * (n + 1) + positions (f two) * (n + 1) + (n + 1) =
    ap (λ (k : ℕ). k * (n + 1)) (positions-node l f) ∙ suc-mul (positions (f one) + positions (f two)) (n + 1)
    ∙ ap (λ (k : ℕ). k + (n + 1)) (add-mul (positions (f one)) (positions (f two)) (n + 1)) in
    omega (arith, positions-node l f)

-- ---- a tree written is bits
pub tree-bits : (n : ℕ) (t : Tree 2) → AreBits (tree_bits n t)
unfolding tree_bits
tree-bits n empty zero = lit< tt
tree-bits n empty (suc k) = lit< tt
tree-bits n (node l f) zero = lit< tt
tree-bits n (node l f) (suc k) =
    bits-append (digits n l) (tree_bits n (f one) ++ tree_bits n (f two)) (digits-bits n l)
    (bits-append (tree_bits n (f one)) (tree_bits n (f two)) (tree-bits n (f one)) (tree-bits n (f two))) k

-- ---- a node stands at a place of the strip s
module _ (s : List ℕ) (n at l : ℕ) (f : Branch 2 → Tree 2) (rest : List ℕ) (stands : drop at (bits s) ≡ tree_bits n (node l f) ++ rest) where
  -- what stands after its label
  abbrev after : List ℕ
  after = tree_bits n (f one) ++ (tree_bits n (f two) ++ rest)

  pub node-from : (at < 8 * length s) × (get_or (bits s) at 0 ≡ 1) × (drop (at + 1) (bits s) ≡ digits n l ++ after)
  unfolding tree_bits
  node-from =
      let e : (digits n l ++ (tree_bits n (f one) ++ tree_bits n (f two))) ++ rest ≡ digits n l ++ after = simp append_assoc in
      bit_is s at 1 (digits n l ++ after) (stands ∙ ap (λ (r : List ℕ). 1 ∷ r) e)

  pub after-label : drop (at + 1 + n) (bits s) ≡ after
  after-label = sym (drop-drop n (at + 1) (bits s)) ∙ ap (drop n) node-from.2 ∙ drop_at (digits n l) after n (length_digits n l)

-- ---- bs are the last bits of the strip s: they stand at the place that their number gives
abbrev pub Last : List ℕ → List ℕ → Type 0
Last s bs = drop (place_of s bs) (bits s) ≡ bs

module _ (s : List ℕ) where
  pub last-few : (bs : List ℕ) → Last s bs → length bs ≤ 8 * length s
  last-few bs e = let k = ap length e in let l = length_from s (place_of s bs) in omega arith

  pub last-bits : (bs : List ℕ) → Last s bs → AreBits bs
  last-bits bs e = subst AreBits e (bits-drop (place_of s bs) (bits s) (bits-bits s))

  pub last-second : (xs ys : List ℕ) → Last s (xs ++ ys) → Last s ys
  last-second xs ys e =
      let l = last-few (xs ++ ys) e in
      let k = length-append xs ys in
      let f : place_of s ys ≡ place_of s (xs ++ ys) + length xs = omega arith in
      ap (λ (k : ℕ). drop k (bits s)) f ∙ sym (drop-drop (length xs) (place_of s (xs ++ ys)) (bits s)) ∙ ap (drop (length xs)) e
      ∙ drop-append_seam xs ys

  pub last-drop : (n : ℕ) (bs : List ℕ) → Last s bs → Last s (drop n bs)
  last-drop n bs e = last-second (take n bs) (drop n bs) (subst (Last s) (sym (take-append-drop n bs)) e)

  pub last-from : (at : ℕ) → Last s (drop at (bits s))
  last-from at = last-drop at (bits s) (let l = length-bits s in let e : place_of s (bits s) ≡ 0 = omega arith in rw e refl)
