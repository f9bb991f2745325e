-- The machine that a whole table in bytes stands for. Assumes nothing.
use Rattle.std.specs.Prelude.{List, ℕ, ◌≤◌, ◌<◌}
use Rattle.logic.specs.Machine.{Machine}
use Rattle.logic.specs.Table.{Table}
use Rattle.logic.specs.Two.{binary}
use Rattle.words.specs.Word.{mem}
use Rattle.layout.specs.declared.Shape.{Shape}
use Rattle.layout.specs.Shape.{labels_in, Tuple}
use Rattle.table.specs.Entry.{Within, step_in}

-- the machine that the table and the set of accepting states stand for
abbrev pub machine_in : Shape → ℕ → List ℕ → ℕ → Machine 2 ℕ
machine_in s looks table accept = binary (step_in s table 0 looks) (λ (q : ℕ). mem q accept)

-- the same with its number of states
abbrev pub table_in : Shape → ℕ → List ℕ → ℕ → ℕ → Table 2
table_in s looks table accept count = record { count = count; machine = machine_in s looks table accept }

-- a whole table, whose entries for states below count are states below count
pub record Whole (s : Shape) (looks : ℕ) (table : List ℕ) (count : ℕ) : Type 0 where
  pub inside : Within s table 0
  pub steps : (l : ℕ) (is : List ℕ) → l < labels_in s → Tuple s.branches count is → step_in s table 0 looks l is < count
  pub some-state : 0 < count
  pub within : count ≤ s.ceiling
