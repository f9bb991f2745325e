-- `check::read_tree` meets its contract. The measure: each branch meets one position more, of 255.
use Prim.Native.Nat.{◌-◌}
use Rattle.tree_strip.proofs.check.+read_tree.Given as goal

abbrev pub decreases-read_tree : goal.decreases-read_tree
decreases-read_tree l = 256 - l.met
