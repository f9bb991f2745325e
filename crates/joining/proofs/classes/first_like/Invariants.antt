-- `first_like` meets its contract. The invariant: no state below p is like q.
use mathlib.Core.Bool.{beq}
use Rattle.words.proofs.Vocabulary.{ℕ, ◌<◌, false, ◌≡◌}
use Rattle.words.specs.Word.{mem}
use Rattle.joining.proofs.classes.first_like.Given as goal

abbrev pub invariant-loop-p : goal.invariant-loop-p
invariant-loop-p l = (r : ℕ) → r < l.p → beq (mem r l.accept) (mem l.q l.accept) ≡ false
