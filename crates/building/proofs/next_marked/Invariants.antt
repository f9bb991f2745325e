-- `next_marked` meets its contract. The invariant: what is sought from i on is what was sought from r on, and number m has a mark.
use Rattle.words.proofs.Vocabulary.{◌≤◌, ◌-◌, ◌≡◌, true}
use Rattle.building.specs.Named.{marked, next_of}
use Rattle.building.proofs.next_marked.Given as goal

abbrev pub invariant-loop-i : goal.invariant-loop-i
invariant-loop-i l = (l.i ≤ l.m) × (l.m ≤ 128) × (marked l.marks l.m ≡ true) × (next_of (marked l.marks) l.i (l.m - l.i) ≡ next_of (marked l.marks) l.r (l.m - l.r))

abbrev pub decreases-loop-i : goal.decreases-loop-i
decreases-loop-i l = l.m - l.i
