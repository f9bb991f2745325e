-- The first k bits of the field stand. Assumes nothing.
use mathlib.Core.Path.{◌≡◌}
use lib.ListN.{take}
use lib.Seq.{sets}
use Rattle.bits.specs.Bits.{bits, digits}
use Rattle.bits.proofs.put_field.Given as goal

abbrev pub invariant-loop-k : goal.invariant-loop-k
invariant-loop-k l = bits l.d ≡ sets (bits l.initial.d) l.at (take l.k (digits l.b l.v))
