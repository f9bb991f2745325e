-- `read_records` meets its contract: record number i - 1 is read, and none before it has a fault. Assumes nothing.
use Prim.Native.Nat.{◌-◌}
use Rattle.rule_strip.proofs.RuleChecks.{Reached}
use Rattle.rule_strip.proofs.read_records.Given as goal

abbrev pub invariant-loop-i : goal.invariant-loop-i
invariant-loop-i l = Reached l.s l.n l.m (l.i - 1) l.last
