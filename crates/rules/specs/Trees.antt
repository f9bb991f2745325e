-- A tree strip beside a rule of n variables: document 01, "Judge". Assumes nothing.
use Rattle.std.specs.Prelude.{ℕ, ◌≡◌, cond, Result, Ok, Err, List, eqb}
use Rattle.bits.specs.Bits.{field}
use Rattle.refusals.specs.Refusal.{checked, tested}
use Rattle.refusals.specs.declared.Reason.{Reason}
use Rattle.refusals.specs.declared.Reason.TheVariants as reason
use Rattle.refusals.specs.declared.Refusal.{Refusal}
use Rattle.logic.specs.Tree.{Tree}
use Rattle.tree_strip.specs.TreeStrip.{parsed, read_tree, tree_fault}

-- "22 the two n differ"
abbrev pub other_variables : List ℕ → ℕ → Result Unit Reason
other_variables tree n = cond (eqb (field tree 4 4) n) (Ok tt) (Err reason.TreeOther)

-- "15 to 21 in that operation's order; 22 the two n differ"
unfoldable pub tree_refusal : List ℕ → ℕ → Result Unit Refusal
tree_refusal tree n = checked (tree_fault tree) (tested (other_variables tree n) (Ok tt))

-- the strip holds a tree over n variables
pub record AcceptedTree (strip : List ℕ) (n : ℕ) : Type 0 where
  pub tree : Tree 2
  pub met : ℕ
  pub rest : List ℕ
  pub read : read_tree strip ≡ parsed tree met rest
  pub variables : field strip 4 4 ≡ n
