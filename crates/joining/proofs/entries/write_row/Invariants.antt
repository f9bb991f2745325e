-- `write_row` meets its contract. The invariant: d entries are written; those that are read later are as they were.
use Rattle.words.proofs.Vocabulary.{◌+◌, get_or}
use Rattle.joining.specs.Parting.{state_at}
use Rattle.joining.specs.Rewriting.{RowWritten}
use Rattle.joining.proofs.entries.write_row.Given as goal

abbrev pub invariant-loop-d : goal.invariant-loop-d
invariant-loop-d l = RowWritten (λ i. get_or l.names.number (state_at l.initial.table (l.lead + get_or l.names.first i 0)) 0) l.row l.d l.initial.table l.table
