-- `search::scan` meets its contract.
use Rattle.logic.specs.Search.{nothing}
use Rattle.search.specs.Scan.{scan_label, Held, view_in}
use Rattle.search.proofs.scan.Given as goal

abbrev pub invariant-loop-l : goal.invariant-loop-l
invariant-loop-l l = let v = view_in l.table l.settled in Held v (scan_label v l.settled.ranks.count l.l nothing) l.b
