-- A machine's table run over the tree in a strip. Assumes nothing.
use Rattle.std.specs.Prelude.{ℕ, ◌+◌, ◌≤◌, ◌<◌, ◌≡◌, List, length}
use Rattle.logic.specs.Tree.{Tree, Proper}
use Rattle.logic.specs.Machine.{run}
use Rattle.tree_strip.specs.TreeStrip.{tree_bits, Stands}
use Rattle.layout.specs.declared.Shape.{Shape}
use Rattle.table.specs.Whole.{machine_in, Whole}
use Rattle.running.specs.declared.Ran.{Ran}

-- the table is whole, and a proper tree stands at bit place at of a strip that is not too long
pub record Runnable (strip : List ℕ) (at : ℕ) (s : Shape) (looks : ℕ) (table : List ℕ) (count : ℕ) : Type 0 where
  pub whole : Whole s looks table count
  pub short : length strip ≤ 4096
  pub tree : Tree 2
  pub proper : Proper s.variables tree
  pub stands : Stands strip s.variables at tree

-- r: the state that the machine comes to on a proper tree that stands at bit place at, whichever states accept, and the place after the tree
pub record Came (strip : List ℕ) (at : ℕ) (s : Shape) (looks : ℕ) (table : List ℕ) (count : ℕ) (r : Ran) : Type 0 where
  pub ran : (accept : ℕ) (t : Tree 2) → Proper s.variables t → Stands strip s.variables at t
      → r ≡ record { state = run (machine_in s looks table accept) t; next = at + length (tree_bits s.variables t) }
  pub below : r.state < count
