-- `accept_word` meets its contract. The invariant: the word holds the accepting states below i.
use Rattle.words.proofs.Vocabulary.{ℕ, ◌<◌, ◌^◌, ◌&&◌, ◌≡◌, ltb, get_or}
use Rattle.words.proofs.Vocabulary.{take}
use Rattle.words.specs.Word.{mem}
use Rattle.records.specs.Machine.{accept_by}
use Rattle.records.proofs.accept_word.Given as goal

abbrev pub invariant-loop-i : goal.invariant-loop-i
invariant-loop-i l = (l.r < 2 ^ 64) × ((q : ℕ) → mem q l.r ≡ (ltb q l.i && accept_by l.kind l.a l.b (get_or (take l.count l.codes) q 0)))
