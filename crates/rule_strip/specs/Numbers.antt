-- The numbers that C is given for a rule strip, checked or written, and 0 where a field does not apply. Assumes nothing.
use Rattle.std.specs.Prelude.{ℕ, ◌≡◌, Result, Ok, Err, List}
use Rattle.rule_strip.specs.RulePlaces.{RuleOffends}
use Rattle.refusals.specs.Reason.{number_of}
use Rattle.refusals.specs.declared.Fault.{Fault}
use Rattle.rule_strip.specs.declared.RuleSize.{RuleSize}
use Rattle.rule_strip.specs.declared.write.Written.{Written}
use Rattle.rule_strip.specs.declared.numbers.RuleNumbers.{RuleNumbers}
use Rattle.rule_strip.specs.declared.numbers.WrittenNumbers.{WrittenNumbers}

-- refused, by the number and, since A1, the place
abbrev pub refused_rule : ℕ → ℕ → RuleNumbers
refused_rule k p = record { refusal = k; variables = 0; records = 0; place = p }

-- "Otherwise it returns n and m"
abbrev pub rule_numbers : Result RuleSize Fault → RuleNumbers
rule_numbers (Ok size) = record { refusal = 0; variables = size.variables; records = size.records; place = 0 }
rule_numbers (Err f) = refused_rule (number_of f.reason) f.place

-- A1, "Say at which bit": a refusal of the check is one by which the strip offends, at that place
abbrev pub RuleRefusedAt : List ℕ → RuleNumbers → Type 0
RuleRefusedAt s r = (r.refusal ≡ 0 → ⊥) → RuleOffends s r.refusal r.place

-- "an operation that writes a strip returns its length in bytes": n, m and that
abbrev pub written_rule : Written → WrittenNumbers
written_rule w = record { refusal = 0; variables = w.variables; records = w.records; length = w.length; place = 0; strip = 0 }

-- nothing is written: the refusal and, of a strip's fault, its place and which of two strips it is in
abbrev pub unwritten_rule : ℕ → ℕ → ℕ → WrittenNumbers
unwritten_rule k p s = record { refusal = k; variables = 0; records = 0; length = 0; place = p; strip = s }
