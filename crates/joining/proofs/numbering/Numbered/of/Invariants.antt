-- `of` meets its contract. The invariant: the states below q are numbered.
use Rattle.words.proofs.Vocabulary.{◌≤◌}
use Rattle.joining.proofs.Leads.{Counted}
use Rattle.joining.proofs.numbering.Numbered.of.Given as goal

abbrev pub invariant-loop-q : goal.invariant-loop-q
invariant-loop-q l = (l.m ≤ l.q) × Counted l.classes.of l.first l.number l.m l.q
