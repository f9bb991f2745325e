-- The numbers that C is given for an imported text, and 0 where a field does not apply. Assumes nothing.
use Rattle.std.specs.Prelude.{ℕ, ◌≡◌, List, take, Result, Ok, Err}
use Rattle.refusals.specs.Reason.{number_of}
use Rattle.refusals.specs.declared.Reason.{Reason}
use Rattle.rule_strip.specs.Numbers.{written_rule, unwritten_rule}
use Rattle.rule_strip.specs.declared.write.Written.{Written}
use Rattle.rule_strip.specs.declared.numbers.WrittenNumbers.{WrittenNumbers}
use Rattle.text.specs.Claims.{Imported}
use Rattle.import.specs.declared.TextFault.{TextFault}
use Rattle.import.specs.declared.numbers.FaultNumbers.{FaultNumbers}

-- the rule that was written, or the refusal, which has no place
abbrev pub written_numbers : Result Written Reason → WrittenNumbers
written_numbers (Ok w) = written_rule w
written_numbers (Err k) = unwritten_rule (number_of k) 0 0

-- a refusal by its number, and its token
abbrev pub refused_text : ℕ → ℕ → ℕ → FaultNumbers
refused_text k start length = record { refusal = k; start = start; length = length }

-- the refusal and its token, where there is one
abbrev pub fault_numbers : Result Unit TextFault → FaultNumbers
fault_numbers (Ok u) = record { refusal = 0; start = 0; length = 0 }
fault_numbers (Err f) = refused_text (number_of f.reason) f.start f.length

-- A2, "Rules typed as text": unless it is refused, what stands at the front of out is the rule that the text says
abbrev pub ImportedInNumbers : List ℕ → WrittenNumbers → List ℕ → Type 0
ImportedInNumbers s r out = r.refusal ≡ 0 → Imported s r.variables r.records (take r.length out)
