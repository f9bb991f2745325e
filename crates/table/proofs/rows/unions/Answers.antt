-- `unions` meets its contract. The invariant: the words below i are written.
use Rattle.words.proofs.Vocabulary.{arith}
use Rattle.table.proofs.RowLaws.{written-first, written_next, written_last}
use Rattle.table.proofs.rows.unions.Goals as goal

pub loop-i-init : goal.loop-i-init
loop-i-init c =
    written-first (record { left-long = omega arith; right-long = omega arith })

pub loop-i-preserved : goal.loop-i-preserved
loop-i-preserved c =
    written_next (omega arith) c.loop-i.invariant c.union_of-in-loop-i.ensures c.union_of.ensures

pub returns-2 : goal.returns-2
returns-2 c =
    written_last (omega arith) (written_next (omega arith) c.loop-i.invariant c.union_of-in-loop-i.ensures c.union_of.ensures)
