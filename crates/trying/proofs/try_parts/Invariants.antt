-- One turn for each part. Assumes nothing.
use Rattle.trying.proofs.Tries.{Tries}
use Rattle.trying.proofs.try_parts.Given as goal

abbrev pub invariant-loop-i : goal.invariant-loop-i
invariant-loop-i l = Tries l.rule l.c l.initial.ws l.ws l.i l.kept l.joined
