-- `flipped` meets its contract. The invariant: the word holds the states below i that are not in a.
use Rattle.words.proofs.Vocabulary.{ℕ, ◌<◌, ◌^◌, ◌&&◌, not, ◌≡◌, ltb}
use Rattle.words.specs.Word.{mem}
use Rattle.records.proofs.complement.flipped.Given as goal

abbrev pub invariant-loop-i : goal.invariant-loop-i
invariant-loop-i l = (l.r < 2 ^ 64) × ((q : ℕ) → mem q l.r ≡ (ltb q l.i && not (mem q l.a)))
