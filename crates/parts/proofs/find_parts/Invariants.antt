-- `find_parts` meets its contract: each way through the loop is a case of the definition's turn. Assumes nothing.
use Rattle.parts.proofs.Walking.{Walking, still_left}
use Rattle.parts.proofs.find_parts.Given as goal

abbrev pub invariant-loop-i : goal.invariant-loop-i
invariant-loop-i l = Walking l.rule l.parts.numbers l.marks l.stack l.parts.count

abbrev pub decreases-loop-i : goal.decreases-loop-i
decreases-loop-i l = still_left l.rule l.marks l.stack
