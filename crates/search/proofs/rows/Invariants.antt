-- `search::rows` meets its contract.
use Rattle.search.specs.Scan.{scan_first, Held, view_in, best_in}
use Rattle.search.proofs.rows.Given as goal

abbrev pub invariant-loop-i : goal.invariant-loop-i
invariant-loop-i l = let v = view_in l.table l.settled in Held v (scan_first v l.settled.ranks.count l.l l.i (best_in l.initial.b)) l.b
