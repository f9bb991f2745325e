-- `write::write_tree` meets its contract: the rank falls with each call.
use Rattle.tree_strip.proofs.write.+write_tree.Given as goal

abbrev pub decreases-write_tree : goal.decreases-write_tree
decreases-write_tree l = l.r
