-- `read_names` meets its contract. The loop's invariant is `Listed`; the measure is what is left of the text. Assumes nothing.
use Prim.Native.Nat.{◌-◌}
use lib.ListN.{length}
use Rattle.tokens.specs.InUse.{scope_of}
use Rattle.phrases.proofs.Declaring.{Listed}
use Rattle.phrases.proofs.read_names.Given as goal

abbrev pub invariant-loop-names : goal.invariant-loop-names
invariant-loop-names l = Listed l.fn.names.text.now l.order (scope_of l.fn.names) l.at l.names l.place

abbrev pub decreases-loop-names : goal.decreases-loop-names
decreases-loop-names l = length l.names.text.now - l.place
