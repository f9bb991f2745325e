-- `split` meets its contract. The invariant: the states below x are split.
use Rattle.words.proofs.Vocabulary.{◌+◌, ◌*◌}
use Rattle.joining.specs.Parting.{class_at}
use Rattle.joining.proofs.Parts.{Splitting}
use Rattle.joining.proofs.parting.split.Given as goal

abbrev pub invariant-loop-x : goal.invariant-loop-x
invariant-loop-x l = Splitting (λ p. class_at l.initial.classes.of l.table (l.base + p * l.stride)) l.g l.initial.classes.of l.classes.of l.seen l.x
