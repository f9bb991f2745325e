-- The numbers that C is given for two strips joined, and 0 where a field does not apply. Assumes nothing.
use Rattle.std.specs.Prelude.{ℕ, ◌≡◌, List, take, Result, Ok, Err}
use Rattle.rule_strip.specs.Numbers.{written_rule, unwritten_rule}
use Rattle.rule_strip.specs.declared.numbers.WrittenNumbers.{WrittenNumbers}
use Rattle.rule_strip.specs.declared.write.Written.{Written}
use Rattle.refusals.specs.Refusal.{refusal_numbers}
use Rattle.join.specs.Joining.{JoinedStrips, FaultTold}
use Rattle.join.specs.declared.JoinFault.{JoinFault}

-- the rule that was written, or what refuses and whose fault it is
abbrev pub join_numbers : Result Written JoinFault → WrittenNumbers
join_numbers (Ok w) = written_rule w
join_numbers (Err f) =
    let x = refusal_numbers f.refusal in
    unwritten_rule x.number x.place f.strip

-- A7'S CLAIM of these numbers: unless something refuses, the first `length` bytes of out are the two strips joined; where a strip's number is
-- told, that strip is at fault at that place
pub record JoinedInNumbers (a b : List ℕ) (r : WrittenNumbers) (out : List ℕ) : Type 0 where
  pub written : r.refusal ≡ 0 → JoinedStrips a b r.variables r.records (take r.length out)
  pub names : (r.strip ≡ 0 → ⊥) → FaultTold a b r.strip r.refusal r.place
