-- `union_of` meets its contract. The invariant: what is left of the set is still to be walked.
use Rattle.words.proofs.Vocabulary.{◌<◌, ◌^◌, get_or}
use Rattle.words.specs.Word.{mem}
use Rattle.words.proofs.Members.{Walk}
use Rattle.table.proofs.rows.union_of.Given as goal

abbrev pub invariant-loop-t : goal.invariant-loop-t
invariant-loop-t l = (l.r < 2 ^ 64) × Walk l.s l.t-iterator.rest l.r (λ q t. mem q (get_or l.row t 0))
