-- One turn for each part. Assumes nothing.
use Rattle.trying.proofs.Joints.{Joining}
use Rattle.trying.proofs.joint.join_rest.Given as goal

abbrev pub invariant-loop-p : goal.invariant-loop-p
invariant-loop-p l = Joining l.rule l.c l.initial.ws l.i l.initial.all l.ws l.p l.all
