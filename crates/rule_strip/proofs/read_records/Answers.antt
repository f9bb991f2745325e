-- `read_records` meets its contract: a turn of its loop takes up the next record. Assumes nothing.
use mathlib.Core.Path.{◌≡◌}
use Prim.Native.Nat.{◌+◌, ◌-◌}
use native.Mathlib.Omega.{arith}
use Rattle.rule_strip.proofs.RuleChecks.{reach-next, reach-more, reach-refused, reach-last}
use Rattle.rule_strip.proofs.read_records.Goals as goal

pub returns-in_default : goal.returns-in_default
returns-in_default c = reach-refused c.loop-i.invariant c.in_default.is

pub read_record-last-requires-in-loop-i-clause-at_value : goal.read_record-last-requires-in-loop-i-clause-at_value
read_record-last-requires-in-loop-i-clause-at_value c =
    let e = reach-next c.loop-i.invariant c.in-Ok.is in
    let r = c.requires.room in
    (omega arith, omega arith)

pub loop-i-preserved : goal.loop-i-preserved
loop-i-preserved c =
    let e : c.loop-i.i + 1 - 1 ≡ c.loop-i.i = omega arith in
    rw e (reach-more c.loop-i.invariant c.in-Ok.is (omega arith) (omega arith) c.read_record-last-in-loop-i.ensures)

pub returns : goal.returns
returns c = reach-last c.loop-i.invariant (omega arith)
