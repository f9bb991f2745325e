-- `sweep_label` meets its contract. The invariant: if nothing is parted yet, the planes from a on are clean.
use Rattle.words.proofs.Vocabulary.{ℕ, ◌≤◌, ◌<◌}
use Rattle.layout.specs.Slots.{range_of}
use Rattle.joining.specs.Parting.{Same}
use Rattle.joining.specs.Machines.{PartsAt, RowIsClean}
use Rattle.joining.proofs.parting.sweep_label.Given as goal

abbrev pub invariant-loop-a : goal.invariant-loop-a
invariant-loop-a l = PartsAt l.machine l.l l.initial.classes.of l.classes.of
    × (Same l.initial.classes.of l.classes.of → (i : ℕ) → l.a ≤ i → i < range_of l.machine.shape.branches 2 l.machine.states
    → (j : ℕ) → j < range_of l.machine.shape.branches 1 l.machine.states → RowIsClean l.machine l.classes.of l.l i j)
