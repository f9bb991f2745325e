-- `copy_table` meets its contract. The invariant: the labels below l are copied.
use Rattle.records.specs.Complement.{Copied, Entries}
use Rattle.records.proofs.complement.copy_table.Given as goal

abbrev pub invariant-loop-l : goal.invariant-loop-l
invariant-loop-l l = Copied (Entries l.s l.bits l.n l.l) l.from l.to l.initial.ws l.ws
