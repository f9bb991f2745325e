-- `check::read_end` meets its contract. Assumes nothing.
use native.Mathlib.Omega.{arith}
use Rattle.tree_strip.proofs.TreeEnd.{bit-set, byte_left, none_left}
use Rattle.tree_strip.proofs.check.read_end.Goals as goal

pub returns-then-set-whole : goal.returns-then-set-whole
returns-then-set-whole c =
    bit-set c.args.s.now c.args.at c.requires.within _ c.first_set-set.ensures (omega arith)

pub returns-then-whole-s : goal.returns-then-whole-s
returns-then-whole-s c =
    byte_left c.args.s.now c.args.at c.requires.within _ c.first_set-set.ensures (omega arith) (omega arith)

pub returns : goal.returns
returns c =
    none_left c.args.s.now c.args.at c.requires.within _ c.first_set-set.ensures (omega arith) (omega arith)
