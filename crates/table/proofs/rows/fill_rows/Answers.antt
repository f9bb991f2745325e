-- `fill_rows` meets its contract. The invariant: the words below i are written.
use Rattle.words.proofs.Vocabulary.{arith}
use Rattle.table.proofs.RowLaws.{written-first, written_next, written_last}
use Rattle.table.proofs.rows.fill_rows.Goals as goal
use Rattle.table.proofs.rows.fill_rows.Goals.{else-loop-i-test, then-loop-i-test+else-i-k}

pub loop-i-init : goal.loop-i-init
loop-i-init g c =
    written-first (record { left-long = omega arith; right-long = omega arith })

pub loop-i-preserved : goal.loop-i-preserved
loop-i-preserved g c =
    written_next (omega arith) c.loop-i.invariant c.next.ensures c.next-in-loop-i.ensures

pub returns : goal.returns
returns g c =
    elim c.loop-i-test.branch [
      | else-loop-i-test w ↦ absurd (omega arith)
      | then-loop-i-test+else-i-k w ↦
          rw w.rows-is (written_last (omega arith) (written_next (omega arith) c.loop-i.invariant w.next.ensures w.next-in-loop-i.ensures))
    ]
