-- `ws2s::exports::ws2s_check_tree` meets its contract. Assumes nothing.
use Rattle.tree_strip.proofs.InNumbers.{tree-refused}
use Rattle.ws2s.proofs.exports.ws2s_check_tree.Goals as goal

pub returns-clause-tree_refused_at : goal.returns-clause-tree_refused_at
returns-clause-tree_refused_at c =
    rw c.tree_numbers.ensures (tree-refused _ _ c.check_tree.ensures)
