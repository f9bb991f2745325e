-- The place sought from the start is the one sought from the place reached. Assumes nothing.
use mathlib.Core.Path.{◌≡◌}
use Prim.Native.Nat.{◌+◌}
use lib.Seq.{slice}
use Rattle.bits.specs.Bits.{bits, first_set}
use Rattle.bits.proofs.first_set.Given as goal

abbrev pub invariant-loop-at : goal.invariant-loop-at
invariant-loop-at l = l.from + first_set (slice l.from l.end (bits l.s)) ≡ l.at + first_set (slice l.at l.end (bits l.s))
