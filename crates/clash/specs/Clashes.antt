-- Clash, on bytes: request A6, "Which requirements clash?". Assumes nothing.
use Rattle.std.specs.Prelude.{ℕ, ◌+◌, ◌-◌, ◌≡◌, cond, Result, Ok, Err, List, ◌++◌, ltb, length, replicate}
use Rattle.rule_strip.specs.RuleStrip.{variables_of, count_of, records_of, rule_fault}
use Rattle.rule_strip.specs.RulePlaces.{RuleOffends}
use Rattle.refusals.specs.Reason.{number_of}
use Rattle.refusals.specs.Refusal.{checked, tested, unless_refused, answer_unless}
use Rattle.refusals.specs.declared.Fault.{Fault}
use Rattle.refusals.specs.declared.Reason.{Reason}
use Rattle.refusals.specs.declared.Reason.TheVariants as reason
use Rattle.refusals.specs.declared.Refusal.{Refusal}
use Rattle.refusals.specs.declared.Refusal.TheVariants.{Placed, Plain, TooManyStates}
use Rattle.rules.specs.Room.{room_for, cleared, work_refusal}
use Rattle.parts.specs.Parts.{parts_of}
use Rattle.trials.specs.Answer.{ClashAnswer, refused_for, satisfiable, clashing, clash_of, ClashAnswers}
use Rattle.trying.specs.declared.KeptParts.{KeptParts}

-- "The workspace counts m + 15 records": what 12 asks for here
abbrev pub trial_room : List ℕ → ℕ → ℕ
trial_room rule c = room_for (variables_of rule) (count_of rule + 15) c

-- "28 [..] when there are more than 16 parts"
unfoldable pub parts_refusal : ℕ → Result Unit Reason
parts_refusal count = cond (ltb 16 count) (Err reason.Parts) (Ok tt)

-- the refusals tested before any machine is built: 1 to 10; "11 is for c alone"; 12 of m + 15 records; "28, after 12"
unfoldable pub clash_refusal : List ℕ → ℕ → ℕ → Result Unit Refusal
clash_refusal rule c room =
    let many = parts_refusal (length (parts_of (records_of rule))) in
    checked (rule_fault rule) (work_refusal (variables_of rule) (count_of rule + 15) c room (tested many (Ok tt)))

-- what refuses, if anything does
abbrev pub refusal_in : {A : Type 0} → Result A Refusal → Result Unit Refusal
refusal_in (Ok a) = Ok tt
refusal_in (Err r) = Err r

-- what clash returns for the answer to a rule: 14 with the record; "29 [..] when the rule is satisfiable"; "The kept list, returned as record
-- numbers in that order"
unfoldable pub clashing_list : ClashAnswer → Result KeptParts Refusal
clashing_list (refused_for r) = Err (TooManyStates r)
clashing_list satisfiable = Err (Plain reason.Satisfiable)
clashing_list (clashing R) = Ok (record { count = length R; parts = R ++ replicate (16 - length R) 0 })

abbrev pub clashed_of : List ℕ → ℕ → ClashAnswer
clashed_of rule c = clash_of 2 (variables_of rule) (records_of rule) c

-- clash's result
unfoldable pub clash_list_of : List ℕ → ℕ → ℕ → Result KeptParts Refusal
clash_list_of rule c room = answer_unless (clash_refusal rule c room) (clashing_list (clashed_of rule c))

-- the workspace at the end
unfoldable pub clash_workspace : List ℕ → ℕ → List ℕ → List ℕ
clash_workspace rule c ws = unless_refused (clash_refusal rule c (length ws)) (cleared (trial_room rule c) ws) ws

-- a tells an answer to the rule that is as A6 asks
pub record ClashedRule (rule : List ℕ) (c : ℕ) (a : Result KeptParts Refusal) : Type 0 where
  pub answer : ClashAnswer
  pub answers : ClashAnswers 2 (variables_of rule) (records_of rule) c answer
  pub told : a ≡ clashing_list answer

-- A6'S CLAIM, of clash's result a, where no refusal before the build applies; and A1, "Say at which bit": a place that a names is one where
-- the strip offends
pub record ClashClaim (rule : List ℕ) (c room : ℕ) (a : Result KeptParts Refusal) : Type 0 where
  pub clashed : clash_refusal rule c room ≡ Ok tt → ClashedRule rule c a
  pub names : (f : Fault) → a ≡ Err (Placed f) → RuleOffends rule (number_of f.reason) f.place
