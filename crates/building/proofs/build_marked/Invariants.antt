-- The turns of `Nexts`.
use Rattle.words.proofs.Vocabulary.{◌-◌}
use Rattle.building.specs.Build.{entry_of}
use Rattle.building.specs.Named.{marked}
use Rattle.building.proofs.Nexts.{Turn}
use Rattle.building.proofs.build_marked.Given as goal

abbrev pub invariant-loop-r : goal.invariant-loop-r
invariant-loop-r l = Turn l.records (marked l.marks) l.s l.m l.initial.ws (entry_of l.initial.machines) (entry_of l.machines) l.ws l.r

abbrev pub decreases-loop-r : goal.decreases-loop-r
decreases-loop-r l = l.m - l.r
