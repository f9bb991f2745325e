-- `part_row` meets its contract. The invariant: the classes part those at the start.
use Rattle.words.proofs.Vocabulary.{◌-◌}
use Rattle.joining.specs.Parting.{total}
use Rattle.joining.specs.Machines.{PartsAt}
use Rattle.joining.proofs.parting.part_row.Given as goal

abbrev pub invariant-loop-d : goal.invariant-loop-d
invariant-loop-d l = PartsAt l.machine l.l l.initial.classes.of l.classes.of

abbrev pub decreases-loop-d : goal.decreases-loop-d
decreases-loop-d l = 4096 - total l.classes.of 64
