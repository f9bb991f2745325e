-- `accepting` meets its contract. The invariant: the word holds the accepting classes below i.
use Rattle.words.proofs.Vocabulary.{ℕ, ◌<◌, ◌^◌, ◌&&◌, ◌≡◌, ltb, get_or}
use Rattle.words.specs.Word.{mem}
use Rattle.joining.proofs.numbering.Numbered.accepting.Given as goal

abbrev pub invariant-loop-i : goal.invariant-loop-i
invariant-loop-i l = (l.r < 2 ^ 64) × ((q : ℕ) → mem q l.r ≡ (ltb q l.i && mem (get_or l.self.first q 0) l.a))
