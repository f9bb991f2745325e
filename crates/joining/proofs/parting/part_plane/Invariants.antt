-- `part_plane` meets its contract. The invariant: if nothing is parted yet, the rows from b on are clean.
use Rattle.words.proofs.Vocabulary.{ℕ, ◌≤◌, ◌<◌}
use Rattle.layout.specs.Slots.{range_of}
use Rattle.joining.specs.Parting.{Same}
use Rattle.joining.specs.Machines.{PartsAt, RowIsClean}
use Rattle.joining.proofs.parting.part_plane.Given as goal

abbrev pub invariant-loop-b : goal.invariant-loop-b
invariant-loop-b l = PartsAt l.machine l.l l.initial.classes.of l.classes.of
    × (Same l.initial.classes.of l.classes.of → (j : ℕ) → l.b ≤ j → j < range_of l.machine.shape.branches 1 l.machine.states → RowIsClean l.machine l.classes.of l.l l.a j)
