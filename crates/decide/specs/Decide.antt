-- Decide, on bytes: document 01, "Decide", and demands 2 and 3. Assumes nothing.
use Rattle.std.specs.Prelude.{ℕ, ◌≤◌, ◌≡◌, Result, Ok, Err, List, ◌++◌, length, take, drop}
use Rattle.logic.specs.Tree.{Tree, positions}
use Rattle.logic.specs.Claims.{Outcome, refused14, shown, none, larger, Answers, Shallow}
use Rattle.logic.specs.Decide.{decide_of}
use Rattle.rule_strip.specs.RuleStrip.{variables_of, count_of, records_of, rule_fault}
use Rattle.rule_strip.specs.RulePlaces.{RuleOffends}
use Rattle.tree_strip.specs.TreeStrip.{strip_of_tree, tree_bytes, read_tree, parsed}
use Rattle.refusals.specs.Reason.{number_of}
use Rattle.refusals.specs.Refusal.{checked, tested, unless_refused, answer_unless}
use Rattle.refusals.specs.declared.Fault.{Fault}
use Rattle.refusals.specs.declared.Refusal.{Refusal}
use Rattle.refusals.specs.declared.Refusal.TheVariants.{Placed, TooManyStates}
use Rattle.rules.specs.Room.{room_of, cleared, places_refusal, work_refusal, out_refusal}
use Rattle.decide.specs.declared.Verdict.{Verdict}
use Rattle.decide.specs.declared.Verdict.TheVariants.{Shown, None, Larger}

-- "11 c not 1 to 64 or P above 255; 12 workspace shorter [..]; 13 out buffer shorter [..]", of a strip of m records over n variables. 11 is
-- the same for either ceiling
unfoldable pub room_refusal : ℕ → ℕ → ℕ → ℕ → ℕ → ℕ → Result Unit Refusal
room_refusal n m c P room out_room =
    tested (places_refusal P) (work_refusal n m c room (tested (out_refusal n P out_room) (Ok tt)))

-- the refusals tested before any machine is built: 1 to 10, then 11 to 13
unfoldable pub decide_refusal : List ℕ → ℕ → ℕ → ℕ → ℕ → Result Unit Refusal
decide_refusal rule c P room out_room = checked (rule_fault rule) (room_refusal (variables_of rule) (count_of rule) c P room out_room)

abbrev pub decided_of : List ℕ → ℕ → ℕ → Outcome 2
decided_of rule c P = decide_of 2 (variables_of rule) (records_of rule) c P

-- this paper's answers for the outcome of a rule over n variables
unfoldable pub outcome_verdict : ℕ → Outcome 2 → Result Verdict Refusal
outcome_verdict n (refused14 r) = Err (TooManyStates r)
outcome_verdict n (shown places states t) = Ok (Shown places states (length (strip_of_tree n t)))
outcome_verdict n (none states) = Ok (None states)
outcome_verdict n (larger states) = Ok (Larger states)

-- "Only shown writes to out": the tree's strip at the front
unfoldable pub out_after_answer : ℕ → Outcome 2 → List ℕ → List ℕ
out_after_answer n (refused14 r) out = out
out_after_answer n (shown places states t) out = strip_of_tree n t ++ drop (length (strip_of_tree n t)) out
out_after_answer n (none states) out = out
out_after_answer n (larger states) out = out

-- the tree that is shown has room in a buffer of this length
abbrev pub Spacious : ℕ → Outcome 2 → ℕ → Type 0
Spacious n o space = (places states : ℕ) (t : Tree 2) → o ≡ shown places states t → (positions t ≤ 255) × (tree_bytes n (positions t) ≤ space)

-- decide's result
unfoldable pub verdict_of : List ℕ → ℕ → ℕ → ℕ → ℕ → Result Verdict Refusal
verdict_of rule c P room out_room = answer_unless (decide_refusal rule c P room out_room) (outcome_verdict (variables_of rule) (decided_of rule c P))

-- out at the end
unfoldable pub out_of : List ℕ → ℕ → ℕ → ℕ → List ℕ → List ℕ
out_of rule c P room out =
    unless_refused (decide_refusal rule c P room (length out)) (out_after_answer (variables_of rule) (decided_of rule c P) out) out

-- the workspace at the end
unfoldable pub workspace_of : List ℕ → ℕ → ℕ → List ℕ → ℕ → List ℕ
workspace_of rule c P ws out_room = unless_refused (decide_refusal rule c P (length ws) out_room) (cleared (room_of rule c) ws) ws

-- v and the bytes that out holds at the end tell an outcome that answers the rule, and reports the least number of states of a machine that
-- decides it
pub record DecidedRule (rule : List ℕ) (c P : ℕ) (v : Result Verdict Refusal) (out : List ℕ) : Type 0 where
  pub outcome : Outcome 2
  pub states : ℕ
  pub answers : Answers (variables_of rule) (records_of rule) c P states outcome
  pub told : v ≡ outcome_verdict (variables_of rule) outcome
  pub shows : (places states : ℕ) (t : Tree 2) → outcome ≡ shown places states t
      → take (length (strip_of_tree (variables_of rule) t)) out ≡ strip_of_tree (variables_of rule) t

-- DEMANDS 2 AND 3 and A8's claim about states, of decide's result v and the bytes that out holds at the end, where no refusal before the build applies; and A1, "Say at
-- which bit": a place that v names is one where the strip offends
pub record DecideClaim (rule : List ℕ) (c P room out_room : ℕ) (v : Result Verdict Refusal) (out : List ℕ) : Type 0 where
  pub decided : decide_refusal rule c P room out_room ≡ Ok tt → DecidedRule rule c P v out
  pub names : (f : Fault) → v ≡ Err (Placed f) → RuleOffends rule (number_of f.reason) f.place

-- the strip is read as a tree of so many positions, and no downward path of the tree has as many as there are states, so that a stack of as
-- many entries is enough to walk it; by refusals 14 and 11 they are at most c, and c at most 64
pub record ShallowStrip (strip : List ℕ) (c places states : ℕ) : Type 0 where
  pub tree : Tree 2
  pub rest : List ℕ
  pub read : read_tree strip ≡ parsed tree places rest
  pub shallow : Shallow states tree
  pub few : states ≤ c
  pub at_most : c ≤ 64

-- A4, "A bound on depth for the builder", of decide's result v and the bytes that out holds at the end: where v shows a tree, its strip is
-- the first bytes of out, as many as v tells
abbrev pub ShowsShallow : ℕ → Result Verdict Refusal → List ℕ → Type 0
ShowsShallow c v out = (places states bytes : ℕ) → v ≡ Ok (Shown places states bytes) → ShallowStrip (take bytes out) c places states
