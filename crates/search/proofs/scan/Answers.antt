-- `search::scan` meets its contract.
use Rattle.table.specs.Entry.{seen}
use Rattle.search.proofs.ScanLaws.{pick_first, pick_next, pick-passed}
use Rattle.search.proofs.scan.Goals as goal
use Rattle.search.proofs.scan.Goals.{then-l-table, else-l-table}

pub loop-l-init : goal.loop-l-init
loop-l-init c = pick_first _ _

pub loop-l-preserved : goal.loop-l-preserved
unfolding seen
loop-l-preserved c =
    elim c.if-l-table.branch [
      | then-l-table w ↦ rw w.b-is (pick_next _ _ _ _ _ _ c.loop-l.invariant w.rows-b.ensures)
      | else-l-table w ↦ rw w.b-is (pick-passed _ _ _ _ _ _ _ _ w.if-l-table.false c.loop-l.invariant)
    ]
