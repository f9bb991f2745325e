-- `search::row` meets its contract.
use Rattle.search.specs.Scan.{scan_second, Held, view_in, best_in}
use Rattle.search.proofs.row.Given as goal

abbrev pub invariant-loop-j : goal.invariant-loop-j
invariant-loop-j l = let v = view_in l.table l.settled in Held v (scan_second v l.l l.i l.j (best_in l.initial.b)) l.b
