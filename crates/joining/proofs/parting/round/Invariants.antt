-- `round` meets its contract. The invariant: if nothing is parted yet, the labels below l are clean.
use Rattle.joining.specs.Parting.{Same}
use Rattle.joining.specs.Machines.{PartsBy, LabelsAreClean}
use Rattle.joining.proofs.parting.round.Given as goal

abbrev pub invariant-loop-l : goal.invariant-loop-l
invariant-loop-l l = PartsBy l.machine l.looks l.initial.classes.of l.classes.of × (Same l.initial.classes.of l.classes.of → LabelsAreClean l.machine l.classes.of l.looks l.l)
