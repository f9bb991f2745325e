-- `part_label` meets its contract. The invariant: the classes part those at the start.
use Rattle.words.proofs.Vocabulary.{◌-◌}
use Rattle.joining.specs.Parting.{total}
use Rattle.joining.specs.Machines.{PartsAt}
use Rattle.joining.proofs.parting.part_label.Given as goal

abbrev pub invariant-loop-l : goal.invariant-loop-l
invariant-loop-l l = PartsAt l.machine l.l l.initial.classes.of l.classes.of

abbrev pub decreases-loop-l : goal.decreases-loop-l
decreases-loop-l l = 4096 - total l.classes.of 64
