-- `unlike` meets its contract. The invariant: no state below d leads to another class.
use Rattle.joining.specs.Parting.{LikeBelow}
use Rattle.joining.proofs.parting.unlike.Given as goal

abbrev pub invariant-loop-d : goal.invariant-loop-d
invariant-loop-d l = LikeBelow l.classes.of l.table l.row l.lead l.d
