-- The numbers that C is given for the parts that clash: 0 where a field does not apply. Assumes nothing.
use Rattle.std.specs.Prelude.{ℕ, ◌≡◌, Option, Some, None, Result, Ok, Err, List, replicate}
use Rattle.refusals.specs.Refusal.{refusal_numbers}
use Rattle.refusals.specs.declared.Refusal.{Refusal}
use Rattle.refusals.specs.declared.RefusalNumbers.{RefusalNumbers}
use Rattle.clash.specs.Clashes.{ClashClaim}
use Rattle.trying.specs.declared.KeptParts.{KeptParts}
use Rattle.clash.specs.declared.numbers.ClashNumbers.{ClashNumbers}

-- kind: 0 kept, 3 refused, by the refusal's numbers
abbrev pub list_numbers : Option RefusalNumbers → ℕ → List ℕ → ClashNumbers
list_numbers None count parts = record { kind = 0; refusal = 0; recordnumber = 0; place = 0; count = count; parts = parts }
list_numbers (Some x) count parts =
    record {
      kind = 3;
      refusal = x.number;
      recordnumber = x.recordnumber;
      place = x.place;
      count = count;
      parts = parts;
    }

-- nothing is listed where something refuses
abbrev pub clash_numbers : Result KeptParts Refusal → ClashNumbers
clash_numbers (Ok a) = list_numbers None a.count a.parts
clash_numbers (Err r) = list_numbers (Some (refusal_numbers r)) 0 (replicate 16 0)

-- the numbers are those of a result that meets A6's claim
pub record ClashedInNumbers (rule : List ℕ) (c room : ℕ) (r : ClashNumbers) : Type 0 where
  pub list : Result KeptParts Refusal
  pub claim : ClashClaim rule c room list
  pub numbers : r ≡ clash_numbers list
