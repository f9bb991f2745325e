-- `read_declarations` meets its contract. The loop's invariant is `Reached`; the measure is what is left of the text. Assumes nothing.
use Prim.Native.Nat.{◌-◌}
use lib.ListN.{length}
use Rattle.phrases.proofs.Declaring.{Reached}
use Rattle.phrases.proofs.read_declarations.Given as goal

abbrev pub invariant-loop-order : goal.invariant-loop-order
invariant-loop-order l = Reached l.text l.at l.all

abbrev pub decreases-loop-order : goal.decreases-loop-order
decreases-loop-order l = length l.text - l.all.next
