-- `import::put_free` meets its contract.
use Rattle.import.proofs.Whole.{Freed}
use Rattle.import.proofs.put_free.Given as goal

abbrev pub invariant-loop-track : goal.invariant-loop-track
invariant-loop-track l = Freed l.names l.initial.draft l.draft l.track
