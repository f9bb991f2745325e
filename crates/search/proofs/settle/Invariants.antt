-- `search::settle` meets its contract.
use Rattle.words.proofs.Vocabulary.{◌≡◌}
use Rattle.search.proofs.RoundLaws.{Round}
use Rattle.search.proofs.settle.Given as goal

abbrev pub invariant-loop-n : goal.invariant-loop-n
invariant-loop-n l = record {
  round : Round l.table.shape l.table.looks l.table.entries.now l.count l.accept l.p l.settled;
  turns : l._n ≡ l.settled.ranks.count;
}
