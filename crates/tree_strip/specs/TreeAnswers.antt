-- What the readers of tree strips answer, of the definitions of TreeStrip. Assumes nothing.
use Rattle.std.specs.Prelude.{ℕ, ◌+◌, ◌*◌, ◌≤◌, ◌<◌, ◌≡◌, ◌&&◌, cond, List, ltb, leb, eqb, length, get_or, Result, Ok, Err}
use Rattle.refusals.specs.declared.Fault.{Fault}
use Rattle.refusals.specs.declared.Reason.{Reason}
use Rattle.refusals.specs.declared.Reason.TheVariants as reason
use Rattle.bits.specs.Bits.{bits, field, bit_length}
use Rattle.tree_strip.specs.TreeStrip.{Parsed, parsed, refused, place_of, read_tree}
use Rattle.tree_strip.specs.declared.check.Head.{Head}
use Rattle.tree_strip.specs.declared.check.Head.TheVariants as head
use Rattle.tree_strip.specs.declared.check.TreeRead.{TreeRead}
use Rattle.tree_strip.specs.declared.check.TreeSize.{TreeSize}

-- n is a number of variables, and no sum from the bit place at wraps
pub record HeadPlace (n at : ℕ) : Type 0 where
  pub some-variable : 1 ≤ n
  pub few-variables : n ≤ 8
  pub near : at ≤ 65536

-- n is a number of variables, and at a place that the bits of `met` positions can have come to
pub record TreePlace (n met at : ℕ) : Type 0 where
  pub some-variable : 1 ≤ n
  pub few-variables : n ≤ 8
  pub few : met ≤ 255
  pub near : at ≤ 8 + 10 * met

-- at is a bit place of the strip, or its end
pub record EndPlace (s : List ℕ) (at : ℕ) : Type 0 where
  pub near : at ≤ 65536
  pub within : at ≤ 8 * length s

-- the strip has bytes, and says that it is over n variables
pub record Headed (s : List ℕ) (n : ℕ) : Type 0 where
  pub some-variable : 1 ≤ n
  pub few-variables : n ≤ 8
  pub some_byte : 0 < length s
  pub said : n ≡ field s 4 4

-- a reader refuses, by a reason and a bit place
abbrev pub amiss : {A : Type 0} → Reason → ℕ → Result A Fault
amiss k p = Err (record { reason = k; place = p })

-- what stands at bit place at, after `met` positions: "18 the bits end early", at "the bit length handed in"; "bit 0 for empty"; "20 a node
-- bit for position 256", at that bit; "for a node bit 1, the label"
unfoldable pub head_at : List ℕ → ℕ → ℕ → ℕ → Result Head Fault
head_at s n met at =
    cond (leb (8 * length s) at) (amiss reason.TreeCut (bit_length s))
    (cond (eqb (get_or (bits s) at 0) 0) (Ok (head.Empty (at + 1)))
    (cond (leb 255 met) (amiss reason.TreePositions at)
    (cond (ltb (8 * length s) (at + 1 + n)) (amiss reason.TreeCut (bit_length s))
    (Ok (head.Node (field s (at + 1) n) (at + 1 + n))))))

-- a tree that was read, by the positions met and the place where its bits end
abbrev pub tree_read : ℕ → ℕ → TreeRead
tree_read met next = record { met = met; next = next }

-- a node's answer once its second branch is read, where `met` positions were met up to the node, whose bit is at a place: 19, "once both
-- branches are read, a node with label 0 and two empty branches"
abbrev pub closed : ℕ → ℕ → ℕ → TreeRead → Result TreeRead Fault
closed at label met second = cond (eqb label 0 && eqb second.met met) (amiss reason.TreeBare at) (Ok second)

-- a tree read of the strip s is told by the positions met and the place where its bits end
abbrev pub told : List ℕ → Parsed → Result TreeRead Fault
told s (refused f) = Err f
told s (parsed t met rest) = Ok (tree_read met (place_of s rest))

-- "Otherwise it returns n and N."
abbrev pub answered : List ℕ → Parsed → Result TreeSize Fault
answered s (refused f) = Err f
answered s (parsed t met rest) = Ok (record { variables = field s 4 4; positions = met })

abbrev pub checked_tree : List ℕ → Result TreeSize Fault
checked_tree s = answered s (read_tree s)
