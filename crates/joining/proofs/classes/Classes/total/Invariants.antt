-- `total` meets its contract. The invariant: the sum of the classes of the states so far.
use Rattle.words.proofs.Vocabulary.{◌≤◌, ◌*◌, ◌≡◌}
use Rattle.joining.specs.Parting.{total}
use Rattle.joining.proofs.classes.Classes.total.Given as goal

abbrev pub invariant-loop-class : goal.invariant-loop-class
invariant-loop-class l = (l.sum ≡ total l.self.of l.class-index) × (l.sum ≤ l.class-index * 256)
