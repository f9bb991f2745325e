-- `search::rows` meets its contract.
use Rattle.logic.specs.Search.{loop}
use Rattle.search.specs.Scan.{scan_first}
use Rattle.search.proofs.ScanLaws.{rows_next}
use Rattle.search.proofs.rows.Goals as goal

pub loop-i-init : goal.loop-i-init
unfolding scan_first loop
loop-i-init c = c.requires.held

pub loop-i-preserved : goal.loop-i-preserved
loop-i-preserved c = rows_next _ _ _ _ _ _ _ c.loop-i.invariant c.row-b.ensures
