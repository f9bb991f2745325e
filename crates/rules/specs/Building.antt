-- A rule strip's machines, built: refusal 14, or the last record's machine, which decides the rule; and what is read off it. Assumes nothing.
use Rattle.std.specs.Prelude.{ℕ, ◌-◌, ◌≡◌, Bool, Result, Ok, Err, List}
use Rattle.logic.specs.Meaning.{Formula}
use Rattle.logic.specs.Rule.{formula_at, last_of}
use Rattle.logic.specs.ReachedRecords.{ReachedRecord}
use Rattle.logic.specs.Tree.{Tree}
use Rattle.logic.specs.Alike.{JoinedOf, Full}
use Rattle.logic.specs.Claims.{FirstOver, Roomy}
use Rattle.logic.specs.Decide.{report, decide_of, say, judge_of}
use Rattle.layout.specs.Shape.{shape_of}
use Rattle.layout.specs.declared.Shape.{Shape}
use Rattle.records.specs.Rule.{mach_of}
use Rattle.records.specs.declared.Summary.{Summary}
use Rattle.building.specs.Build.{entry_of}
use Rattle.building.specs.declared.Machines.{Machines}
use Rattle.reading.specs.Reading.{HasMachine}
use Rattle.refusals.specs.declared.OverCeiling.{OverCeiling}
use Rattle.search.specs.Rounds.{answer_of, Ended}
use Rattle.search.specs.declared.Found.{Found}
use Rattle.tree_strip.specs.TreeStrip.{parsed, read_tree}
use Rattle.rule_strip.specs.RuleStrip.{variables_of, count_of, records_of}

-- the tables of the strip's machines have this shape
abbrev pub rule_shape : List ℕ → ℕ → Shape
rule_shape rule c = shape_of (variables_of rule) c

-- the machine that k is kept of stands in the share of number r, is the joined machine of the formula f up to the names of its states, and
-- comes to each of them
pub record MachineFor (rule : List ℕ) (c : ℕ) (ws : List ℕ) (r : ℕ) (k : Summary) (f : Formula 2) : Type 0 where
  pub readable : HasMachine ws (rule_shape rule c) r k
  pub decides : JoinedOf (variables_of rule) f (mach_of readable.machine)
  pub full : Full (variables_of rule) readable.machine.count (mach_of readable.machine)

-- the machines of the records that are reached stand in their shares, and es is what is kept of them
abbrev pub ReachedBuilt : List ℕ → ℕ → (ℕ → Summary) → List ℕ → Type 0
ReachedBuilt rule c es ws = (r : ℕ) → ReachedRecord (records_of rule) r → MachineFor rule c ws r (es r) (formula_at (records_of rule) r)

-- what building the records came to
abbrev pub BuiltRecords : List ℕ → ℕ → Result Machines OverCeiling → List ℕ → Type 0
BuiltRecords rule c (Ok t) ws = Roomy 2 (variables_of rule) (records_of rule) c × ReachedBuilt rule c (entry_of t) ws
BuiltRecords rule c (Err o) ws = FirstOver 2 (variables_of rule) (records_of rule) c o.at

-- no record that is reached has more than c states, and k is kept of the last one's machine
pub record Decider (rule : List ℕ) (c : ℕ) (k : Summary) (ws : List ℕ) : Type 0 where
  pub roomy : Roomy 2 (variables_of rule) (records_of rule) c
  pub last : MachineFor rule c ws (count_of rule - 1) k (formula_at (records_of rule) (last_of (records_of rule)))

-- what building the rule came to
abbrev pub BuiltRule : List ℕ → ℕ → Result Summary OverCeiling → List ℕ → Type 0
BuiltRule rule c (Ok k) ws = Decider rule c k ws
BuiltRule rule c (Err o) ws = FirstOver 2 (variables_of rule) (records_of rule) c o.at

-- what a search over that machine found: decide's answer, and ranks that a writer can follow down
pub record FoundFor (rule : List ℕ) (c P : ℕ) (k : Summary) (f : Found) : Type 0 where
  pub ended : Ended (answer_of f) f
  pub decided : report k.count (answer_of f) ≡ decide_of 2 (variables_of rule) (records_of rule) c P

-- b: judge's answer to the tree that the strip holds
abbrev pub SaysOfTree : List ℕ → ℕ → List ℕ → Bool → Type 0
SaysOfTree rule c strip b =
    (t : Tree 2) (met : ℕ) (rest : List ℕ) → read_tree strip ≡ parsed t met rest → say b ≡ judge_of (variables_of rule) (records_of rule) c t
