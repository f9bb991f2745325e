-- The numbers that C is given for a judgement: document 01's number and values for each case, and 0 where a field does not apply.
-- Assumes nothing.
use Rattle.std.specs.Prelude.{ℕ, ◌≡◌, cond, Bool, Result, Ok, Err, List}
use Rattle.refusals.specs.Refusal.{refusal_numbers}
use Rattle.refusals.specs.declared.Refusal.{Refusal}
use Rattle.refusals.specs.declared.RefusalNumbers.{RefusalNumbers}
use Rattle.judge.specs.Judge.{JudgeClaim}
use Rattle.judge.specs.declared.numbers.JudgementNumbers.{JudgementNumbers}

-- refused, by the refusal's numbers
abbrev pub refused_judgement : RefusalNumbers → JudgementNumbers
refused_judgement x = record { kind = 3; refusal = x.number; recordnumber = x.recordnumber; place = x.place }

-- kind: 0 no, 1 yes, 3 refused
abbrev pub judgement_numbers : Result Bool Refusal → JudgementNumbers
judgement_numbers (Ok b) = record { kind = cond b 1 0; refusal = 0; recordnumber = 0; place = 0 }
judgement_numbers (Err r) = refused_judgement (refusal_numbers r)

-- the numbers are those of a judgement that meets judge's claim
pub record JudgedInNumbers (rule : List ℕ) (c room : ℕ) (tree : List ℕ) (r : JudgementNumbers) : Type 0 where
  pub answer : Result Bool Refusal
  pub claim : JudgeClaim rule c room tree answer
  pub numbers : r ≡ judgement_numbers answer
