-- `settled` meets its contract. The invariant: the classes part those by acceptance.
use Rattle.words.proofs.Vocabulary.{◌-◌}
use Rattle.joining.specs.Parting.{SeenBy, total}
use Rattle.joining.specs.Machines.{PartsBy}
use Rattle.joining.proofs.parting.settled.Given as goal

abbrev pub invariant-loop-classes : goal.invariant-loop-classes
invariant-loop-classes l = SeenBy l.accept l.machine.states l.initial.classes.of × PartsBy l.machine l.looks l.initial.classes.of l.classes.of

abbrev pub decreases-loop-classes : goal.decreases-loop-classes
decreases-loop-classes l = 4096 - total l.classes.of 64
