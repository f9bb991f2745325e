-- `join::write_joined` meets its contract. Assumes nothing.
use native.Mathlib.Omega.{arith}
use Rattle.join.proofs.Joining.{strip-told, strip-put}
use Rattle.join.proofs.write_joined.Goals as goal

pub returns-clause-value : goal.returns-clause-value
returns-clause-value c = rw c.write_rule.ensures.written (strip-told c.requires.joinable (omega arith) c.put_joined-joined.ensures.count)

pub returns-clause-out_after : goal.returns-clause-out_after
returns-clause-out_after c = strip-put c.requires.joinable _ _ _ (omega arith) c.put_joined-joined.ensures.records c.write_rule.ensures.strip
