-- `copy_label` meets its contract. The invariant: the rows of the states below i are copied.
use Rattle.records.specs.Complement.{Copied, Rows}
use Rattle.records.proofs.complement.copy_label.Given as goal

abbrev pub invariant-loop-i : goal.invariant-loop-i
invariant-loop-i l = Copied (Rows l.s l.l l.n l.i) l.from l.to l.initial.ws l.ws
