-- `search::row` meets its contract.
use Rattle.logic.specs.Search.{loop}
use Rattle.search.specs.Scan.{scan_second}
use Rattle.search.proofs.ScanLaws.{row_next, ready-steps}
use Rattle.search.proofs.row.Goals as goal

pub loop-j-init : goal.loop-j-init
unfolding scan_second loop
loop-j-init c = c.requires.held

pub bounds-settled-q : goal.bounds-settled-q
bounds-settled-q c =
    let ready = c.requires.scan_ready in
    rw c.step-q.ensures (ready-steps ready _ _ _ c.requires.turn.label (ready.states _ c.requires.turn.first) (ready.states _ c.loop-j-test.true))

pub loop-j-preserved : goal.loop-j-preserved
loop-j-preserved c =
    row_next _ _ _ _ _ _ _ _ _ _ _ c.loop-j.invariant c.step-q.ensures c.consider-b.ensures
