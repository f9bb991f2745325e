-- Judge, on bytes: document 01, "Judge", and demand 2's last sentence. Assumes nothing.
use Rattle.std.specs.Prelude.{ℕ, ◌≡◌, ◌⊎◌, Bool, true, false, Result, Ok, Err, List, length}
use Rattle.logic.specs.Meaning.{Assignment}
use Rattle.logic.specs.Tree.{Tree, empty, TreeOf}
use Rattle.logic.specs.Claims.{Judgement, unbuilt, yes, no, Judges}
use Rattle.logic.specs.Decide.{judge_of}
use Rattle.rule_strip.specs.RuleStrip.{variables_of, count_of, records_of, rule_fault}
use Rattle.rule_strip.specs.RulePlaces.{RuleOffends}
use Rattle.tree_strip.specs.TreePlaces.{OffendsAt}
use Rattle.tree_strip.specs.TreeStrip.{Parsed, parsed, refused, read_tree}
use Rattle.refusals.specs.Reason.{number_of}
use Rattle.refusals.specs.Refusal.{checked, unless_refused, answer_unless}
use Rattle.refusals.specs.declared.Fault.{Fault}
use Rattle.refusals.specs.declared.Refusal.{Refusal}
use Rattle.refusals.specs.declared.Refusal.TheVariants.{Placed, TooManyStates}
use Rattle.rules.specs.Room.{room_of, cleared, work_refusal}
use Rattle.rules.specs.Trees.{tree_refusal}

-- "In order: 1 to 10; 11 for c alone; 12; 15 to 21 in that operation's order; 22 the two n differ"
unfoldable pub judge_refusal : List ℕ → ℕ → ℕ → List ℕ → Result Unit Refusal
judge_refusal rule c room tree =
    checked (rule_fault rule) (work_refusal (variables_of rule) (count_of rule) c room (tree_refusal tree (variables_of rule)))

-- the tree of an accepted strip
abbrev pub tree_in : Parsed → Tree 2
tree_in (parsed t met rest) = t
tree_in (refused f) = empty

unfoldable pub judged_of : List ℕ → ℕ → List ℕ → Judgement
judged_of rule c tree = judge_of (variables_of rule) (records_of rule) c (tree_in (read_tree tree))

-- this paper's answers: "14. Otherwise yes or no"
unfoldable pub ruling_judgement : Judgement → Result Bool Refusal
ruling_judgement (unbuilt r) = Err (TooManyStates r)
ruling_judgement yes = Ok true
ruling_judgement no = Ok false

-- judge's result
unfoldable pub judgement_for : List ℕ → ℕ → ℕ → List ℕ → Result Bool Refusal
judgement_for rule c room tree = answer_unless (judge_refusal rule c room tree) (ruling_judgement (judged_of rule c tree))

-- the workspace at the end
unfoldable pub workspace_for : List ℕ → ℕ → List ℕ → List ℕ → List ℕ
workspace_for rule c ws tree = unless_refused (judge_refusal rule c (length ws) tree) (cleared (room_of rule c) ws) ws

-- the strip holds the tree of an assignment, and v tells a judgement of the tree
pub record JudgedTree (rule : List ℕ) (c : ℕ) (strip : List ℕ) (v : Result Bool Refusal) : Type 0 where
  pub tree : Tree 2
  pub met : ℕ
  pub rest : List ℕ
  pub read : read_tree strip ≡ parsed tree met rest
  pub assigned : (A : Assignment 2) × TreeOf (variables_of rule) A tree
  pub judgement : Judgement
  pub judges : Judges (variables_of rule) (records_of rule) c tree judgement
  pub told : v ≡ ruling_judgement judgement

-- "For a tree I hand in, yes or no agrees with the same meaning", where no refusal before the build applies; and A1, "Say at which bit": a
-- place that v names is one where the rule strip or the tree strip offends
pub record JudgeClaim (rule : List ℕ) (c room : ℕ) (strip : List ℕ) (v : Result Bool Refusal) : Type 0 where
  pub judged : judge_refusal rule c room strip ≡ Ok tt → JudgedTree rule c strip v
  pub names : (f : Fault) → v ≡ Err (Placed f) → RuleOffends rule (number_of f.reason) f.place ⊎ OffendsAt strip (number_of f.reason) f.place
