-- `find` meets its contract. Assumes nothing.
use Prim.Native.Nat.{◌-◌}
use mathlib.Core.Path.{◌≡◌, sym}
use native.Mathlib.Omega.{arith}
use Rattle.tokens.proofs.Scopes.{passed-next, found_here, found_none}
use Rattle.tokens.proofs.names.Names.find.Goals as goal

pub returns-then-same : goal.returns-then-same
returns-then-same c =
    found_here c.loop-i.invariant (c.loop-i.i - 1) (omega arith) (sym c.if-same.ensures) (omega arith)

pub loop-i-preserved : goal.loop-i-preserved
loop-i-preserved c =
    passed-next c.loop-i.invariant (c.loop-i.i - 1) (omega arith) (sym c.if-same.ensures)

pub returns : goal.returns
returns c =
    let i : c.loop-i.i ≡ 0 = omega arith in found_none (rw i at c.loop-i.invariant)
