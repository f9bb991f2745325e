-- Tree strips: document 01, "Strips" and "Check a tree strip". Assumes nothing.
use Rattle.std.specs.Prelude.{ℕ, zero, suc, ◌+◌, ◌-◌, ◌*◌, ◌/◌, ◌%◌, ◌≡◌, not, ◌&&◌, cond, List, [], ◌∷◌, ◌++◌, ltb, leb, eqb, length, take, drop}
use Rattle.std.specs.Prelude.{Result, Ok, Err}
use Rattle.logic.specs.Tree.{Tree, empty, node}
use Rattle.logic.specs.Trim.{is_empty}
use Rattle.logic.specs.Two.{one, two, pair_of}
use Rattle.bits.specs.Bits.{digits, bits, number, field, any_set, first_set, bit_length, pack, between}
use Rattle.refusals.specs.declared.Fault.{Fault}
use Rattle.refusals.specs.declared.Reason.{Reason}
use Rattle.refusals.specs.declared.Reason.TheVariants as reason
use Rattle.refusals.specs.Fault.{sound, fault}

-- "bit 0 for empty; for a node bit 1, the label, first branch, second branch"
unfoldable pub tree_bits : ℕ → Tree 2 → List ℕ
tree_bits n empty = 0 ∷ []
tree_bits n (node l f) = 1 ∷ (digits n l ++ (tree_bits n (f one) ++ tree_bits n (f two)))

-- the tree t, over n variables, stands at bit place at of the strip s
abbrev pub Stands : List ℕ → ℕ → ℕ → Tree 2 → Type 0
Stands s n at t = (rest : List ℕ) × (drop at (bits s) ≡ tree_bits n t ++ rest)

-- "version 4 bits (1), n 4 bits, then the tree": the strip that is written
unfoldable pub strip_of_tree : ℕ → Tree 2 → List ℕ
strip_of_tree n t = pack 0 8 (digits 4 1 ++ (digits 4 n ++ tree_bits n t))

-- "N positions take 8 + N(n+1) + N + 1 bits", in bytes
abbrev pub tree_bytes : ℕ → ℕ → ℕ
tree_bytes n N = (8 + N * (n + 1) + N + 1 + 7) / 8

-- what reading a tree gives: the tree, the positions met so far and the bits left; or a refusal, with the bit place that it names
pub data Parsed : Type 0 where
  parsed : Tree 2 → (met : ℕ) → (rest : List ℕ) → Parsed
  refused : Fault → Parsed

-- a refusal by its reason and its bit place
abbrev pub refused_at : Reason → ℕ → Parsed
refused_at k p = refused (record { reason = k; place = p })

-- the bit place of the strip s at which its last bits, bs, start
abbrev pub place_of : List ℕ → List ℕ → ℕ
place_of s bs = 8 * length s - length bs

-- the label l over the branches t and u, of a node whose bit is at a place; 19, "once both branches are read, a node with label 0 and two
-- empty branches": "the node bit"
unfoldable pub join : ℕ → ℕ → Tree 2 → Parsed → Parsed
join at l t (refused f) = refused f
join at l t (parsed u met rest) = cond (eqb l 0 && (is_empty t && is_empty u)) (refused_at reason.TreeBare at) (parsed (node l (pair_of t u)) met rest)

-- the second branch is read, by go, where the first one ended
unfoldable pub and_then : ℕ → ℕ → Parsed → (ℕ → List ℕ → Parsed) → Parsed
and_then at l (refused f) go = refused f
and_then at l (parsed t met rest) go = join at l t (go met rest)

-- the tree at the front of the last bits of the strip s, after `met` positions: as the bits are met, "18 the bits end early", at "the bit
-- length handed in"; "20 a node bit for position 256", at that bit; and 19. d: more than the bits there are
unfoldable pub parse : List ℕ → ℕ → ℕ → ℕ → List ℕ → Parsed
parse s zero n met bs = refused_at reason.TreeCut (bit_length s)
parse s (suc d) n met [] = refused_at reason.TreeCut (bit_length s)
parse s (suc d) n met (zero ∷ bs) = parsed empty met bs
parse s (suc d) n met (suc b ∷ bs) =
    cond (leb 255 met) (refused_at reason.TreePositions (place_of s (suc b ∷ bs)))
    (cond (ltb (length bs) n) (refused_at reason.TreeCut (bit_length s))
    (and_then (place_of s (suc b ∷ bs)) (number 0 (take n bs)) (parse s d n (suc met) (drop n bs)) (parse s d n)))

-- of the bits that are left after the tree, those that fill up its last byte
abbrev pub padding : List ℕ → List ℕ
padding rest = take (length rest % 8) rest

-- of the bits that are left after the tree, from bit place at on: "21 a padding bit set or a byte left over", at "the first set padding bit,
-- or else the first bit of the first byte left over"
unfoldable pub end_fault : ℕ → List ℕ → Result Unit Fault
end_fault at rest =
    cond (any_set (padding rest)) (fault reason.TreeLeftOver (at + first_set (padding rest)))
    (cond (leb 8 (length rest)) (fault reason.TreeLeftOver (at + length (padding rest))) sound)

-- a fault, or else what was read
abbrev pub unless : Result Unit Fault → Parsed → Parsed
unless (Ok u) read = read
unless (Err f) read = refused f

-- "last, 21"
unfoldable pub ended : List ℕ → Parsed → Parsed
ended s (refused f) = refused f
ended s (parsed t met rest) = unless (end_fault (place_of s rest) rest) (parsed t met rest)

-- "In order: 15 no bytes", at "the bit length handed in"; "16 version not 1; 17 n not 1 to 8", at these fields; "then, as the bits are
-- met", 18 to 20; "last, 21"
unfoldable pub read_tree : List ℕ → Parsed
read_tree s =
    cond (eqb (length s) 0) (refused_at reason.TreeShort (bit_length s))
    (cond (not (eqb (field s 0 4) 1)) (refused_at reason.TreeVersion 0)
    (cond (not (between 1 8 (field s 4 4))) (refused_at reason.TreeVariables 4)
    (ended s (parse s (suc (8 * length s)) (field s 4 4) 0 (drop 8 (bits s))))))

-- what the check finds, by what was read
abbrev pub fault_in : Parsed → Result Unit Fault
fault_in (parsed t met rest) = sound
fault_in (refused f) = Err f

-- "Check a tree strip": the earliest fault, its number and its place together
unfoldable pub tree_fault : List ℕ → Result Unit Fault
tree_fault s = fault_in (read_tree s)
