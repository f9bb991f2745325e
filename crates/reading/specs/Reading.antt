-- What is read off a machine that is stored: in the terms of the logic, whatever its bytes are. Assumes nothing.
use Rattle.std.specs.Prelude.{ℕ, ◌+◌, ◌≤◌, ◌<◌, ◌≡◌, Bool, List, length}
use Rattle.layout.specs.Shape.{Shaped, labels_in, share_of, share_at}
use Rattle.layout.specs.declared.Shape.{Shape}
use Rattle.logic.specs.Tree.{Tree, Proper}
use Rattle.logic.specs.Machine.{run}
use Rattle.logic.specs.Search.{any_below, search}
use Rattle.logic.specs.Table.{Table}
use Rattle.tree_strip.specs.TreeStrip.{Stands}
use Rattle.records.specs.Rule.{Mach, mach_of, Stored}
use Rattle.records.specs.declared.Summary.{Summary}
use Rattle.search.specs.Rounds.{Ended}
use Rattle.search.specs.declared.Found.{Found}

-- a machine that is built, with its number of states
abbrev pub mach_table : Mach → Table 2
mach_table m = record { count = m.count; machine = mach_of m }

-- some machine is stored in record r's share, and k is kept of it
pub record HasMachine (ws : List ℕ) (s : Shape) (r : ℕ) (k : Summary) : Type 0 where
  pub shape : Shaped s
  pub number : r < 256
  pub share : share_at s r + share_of s ≤ length ws
  pub machine : Mach
  pub stored : Stored s (share_at s r) machine k ws

-- a proper tree stands in the strip, after its version and its number of variables
pub record HasTree (strip : List ℕ) (s : Shape) : Type 0 where
  pub short : length strip ≤ 4096
  pub tree : Tree 2
  pub proper : Proper s.variables tree
  pub stands : Stands strip s.variables 8 tree

-- b: does some state of the machine that k is kept of accept
abbrev pub Satisfiable : Summary → Bool → Type 0
Satisfiable k b = (s : Shape) (base : ℕ) (m : Mach) (ws : List ℕ) → Stored s base m k ws → b ≡ any_below (mach_of m).accepting m.count

-- f: what the search for the earliest tree that record r's machine accepts comes to
abbrev pub Finds : List ℕ → Shape → ℕ → Summary → ℕ → Found → Type 0
Finds ws s r k P f = (m : Mach) → Stored s (share_at s r) m k ws → Ended (search (labels_in s) (mach_table m) P) f

-- b: does record r's machine accept the tree in the strip
abbrev pub Accepts : List ℕ → Shape → ℕ → Summary → List ℕ → Bool → Type 0
Accepts ws s r k strip b =
    (m : Mach) (t : Tree 2) → Stored s (share_at s r) m k ws → Proper s.variables t → Stands strip s.variables 8 t
    → b ≡ (mach_of m).accepting (run (mach_of m) t)
