-- `by_acceptance` meets its contract. The invariant: the states below q have their classes.
use mathlib.Core.Bool.{beq}
use Rattle.words.proofs.Vocabulary.{ℕ, ◌≤◌, ◌<◌, ◌≡◌, length}
use Rattle.words.specs.Word.{mem}
use Rattle.joining.specs.Classes.{class_in}
use Rattle.joining.specs.Parting.{FirstSuch}
use Rattle.joining.proofs.classes.Classes.by_acceptance.Given as goal

abbrev pub invariant-loop-q : goal.invariant-loop-q
invariant-loop-q l = (length l.of ≡ 64) × ((r : ℕ) → r < l.q → FirstSuch (λ p. beq (mem p l.accept) (mem r l.accept)) r (class_in l.of r))
    × ((r : ℕ) → l.q ≤ r → class_in l.of r ≡ 0)
