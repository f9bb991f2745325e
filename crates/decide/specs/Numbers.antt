-- The numbers that C is given for a verdict: document 01's number and values for each case, and 0 where a field does not apply.
-- Assumes nothing.
use Rattle.std.specs.Prelude.{ℕ, ◌≡◌, Result, Ok, Err, List, take}
use Rattle.refusals.specs.Refusal.{refusal_numbers}
use Rattle.refusals.specs.declared.Refusal.{Refusal}
use Rattle.refusals.specs.declared.RefusalNumbers.{RefusalNumbers}
use Rattle.decide.specs.Decide.{DecideClaim, ShallowStrip}
use Rattle.decide.specs.declared.Verdict.{Verdict}
use Rattle.decide.specs.declared.Verdict.TheVariants.{Shown, None, Larger}
use Rattle.decide.specs.declared.numbers.VerdictNumbers.{VerdictNumbers}

-- refused, by the refusal's numbers
abbrev pub refused_verdict : RefusalNumbers → VerdictNumbers
refused_verdict x =
    record { kind = 3; refusal = x.number; recordnumber = x.recordnumber; positions = 0; states = 0; length = 0; place = x.place }

-- "shown (positions, states of the last record, tree strip length), none (states), or larger (states)"; kind: 0 shown, 1 none, 2 larger, 3
-- refused
abbrev pub verdict_numbers : Result Verdict Refusal → VerdictNumbers
verdict_numbers (Ok (Shown N q l)) = record { kind = 0; refusal = 0; recordnumber = 0; positions = N; states = q; length = l; place = 0 }
verdict_numbers (Ok (None q)) = record { kind = 1; refusal = 0; recordnumber = 0; positions = 0; states = q; length = 0; place = 0 }
verdict_numbers (Ok (Larger q)) = record { kind = 2; refusal = 0; recordnumber = 0; positions = 0; states = q; length = 0; place = 0 }
verdict_numbers (Err r) = refused_verdict (refusal_numbers r)

-- the numbers are those of a verdict that meets demands 2 and 3
pub record DecidedInNumbers (rule : List ℕ) (c P room out_room : ℕ) (r : VerdictNumbers) (out : List ℕ) : Type 0 where
  pub answer : Result Verdict Refusal
  pub claim : DecideClaim rule c P room out_room answer out
  pub numbers : r ≡ verdict_numbers answer

-- A4, "A bound on depth for the builder": the tree that is shown is the one whose strip is the first bytes of out, as many as are told
abbrev pub ShallowInNumbers : ℕ → VerdictNumbers → List ℕ → Type 0
ShallowInNumbers c r out = r.kind ≡ 0 → ShallowStrip (take r.length out) c r.positions r.states
