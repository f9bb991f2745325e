-- `exists_start` meets its contract. The invariant: the set has grown as often as the loop has turned.
use Rattle.words.proofs.Vocabulary.{◌≡◌}
use Rattle.table.proofs.Start.{grown}
use Rattle.table.proofs.rows.exists_start.Given as goal

abbrev pub invariant-loop-d : goal.invariant-loop-d
invariant-loop-d l = l.s ≡ grown l.low l.fn.p l._d
