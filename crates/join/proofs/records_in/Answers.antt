-- `join::records_in` meets its contract. Assumes nothing.
use mathlib.Core.Path.{refl, sym}
use Rattle.rule_strip.proofs.RuleLaws.{checked-accepted, checked_refused}
use Rattle.join.proofs.records_in.Goals as goal

pub returns-in-Ok : goal.returns-in-Ok
returns-in-Ok c = let k = checked-accepted c.args.s.now _ (sym c.in-Ok.ensures) in rw (k.unrefused, k.count) refl

pub returns-in-Err : goal.returns-in-Err
returns-in-Err c = rw (checked_refused c.args.s.now _ (sym c.in-Err.ensures)) refl
