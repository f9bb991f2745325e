-- The records from number r on have been passed, and what the marked ones among them name is marked.
use Rattle.building.proofs.Marks.{Pass}
use Rattle.building.proofs.reached.Given as goal

abbrev pub invariant-loop-r : goal.invariant-loop-r
invariant-loop-r l = Pass l.records l.m l.marks l.r
