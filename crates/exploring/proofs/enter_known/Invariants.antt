-- `enter_known` meets its contract. The invariant: the pairs of k with the states below i have their entries, both ways.
use Rattle.exploring.specs.Explore.{row}
use Rattle.exploring.proofs.Pairs.{Turn}
use Rattle.exploring.proofs.enter_known.Given as goal

abbrev pub invariant-loop-i : goal.invariant-loop-i
invariant-loop-i l = Turn l.initial.ws l.ws l.rows.left l.rows.right l.p l.b l.b l.l l.k (row l.l l.k l.i)
