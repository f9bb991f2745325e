-- What the functions on rule strips answer. Assumes nothing.
use Rattle.std.specs.Prelude.{ℕ, ◌+◌, ◌-◌, ◌*◌, ◌≤◌, ◌≡◌, cond, Result, Ok, Err, List, leb, length}
use Rattle.logic.specs.Rule.{Record}
use Rattle.rule_strip.specs.RuleStrip.{variables_of, count_of, record_at, records_from, record_fault, records_fault, head_fault}
use Rattle.rule_strip.specs.RuleStrip.{rule_fault}
use Rattle.refusals.specs.Fault.{sound, fault}
use Rattle.refusals.specs.Reason.{number_of}
use Rattle.refusals.specs.declared.Fault.{Fault}
use Rattle.refusals.specs.declared.Reason.{Reason}
use Rattle.refusals.specs.declared.Reason.TheVariants as reason
use Rattle.rule_strip.specs.declared.Fields.{Fields}
use Rattle.rule_strip.specs.declared.Use.{Use}
use Rattle.rule_strip.specs.declared.Use.TheVariants.{Variable, Earlier, Unused}
use Rattle.rule_strip.specs.declared.Read.{Read}
use Rattle.rule_strip.specs.declared.RuleSize.{RuleSize}

-- the strip has m records, one at least
pub record Filled (s : List ℕ) (m : ℕ) : Type 0 where
  pub short : length s ≤ 4096
  pub some_record : 1 ≤ m
  pub room : 16 + 18 * m ≤ 8 * length s

-- the refusal of a field that does not fit its use: "8 a variable not below n; 9 a record number not below its own; 10 an unused field
-- not 0"
abbrev pub use_reason : Use → Reason
use_reason Variable = reason.Variable
use_reason Earlier = reason.Record
use_reason Unused = reason.Unused

-- its number
abbrev pub use_refusal : Use → ℕ
use_refusal u = number_of (use_reason u)

-- what a field of that use must be below, in record number i
abbrev pub limit_of : ℕ → ℕ → Use → ℕ
limit_of n i Variable = n
limit_of n i Earlier = i
limit_of n i Unused = 1

-- of a field v of that use, which starts at bit place at
abbrev pub field_fault : ℕ → ℕ → ℕ → Use → ℕ → Result Unit Fault
field_fault n i at u v = cond (leb (limit_of n i u) v) (fault (use_reason u) at) sound

-- a record, as the code holds it
abbrev pub fields_of : Record → Fields
fields_of r = record { op = r.op; first = r.first; second = r.second }

-- "the reader answers either a record with the next bit place or a refusal number", and the place beside the number
abbrev pub record_or : Result Unit Fault → Record → ℕ → Result Read Fault
record_or (Ok u) r next = Ok (record { fields = fields_of r; next = next })
record_or (Err f) r next = Err f

-- record number i, at bit place at, in a strip of n variables
unfoldable pub read_record : List ℕ → ℕ → ℕ → ℕ → Result Read Fault
read_record s n i at = record_or (record_fault n i at (record_at s at)) (record_at s at) (at + 18)

-- all m records of the strip, in order: the last of them, or the earliest refusal
unfoldable pub read_records : List ℕ → ℕ → ℕ → Result Read Fault
read_records s n m = record_or (records_fault n 0 16 (records_from s 16 m)) (record_at s (16 + 18 * (m - 1))) (16 + 18 * m)

-- n and m are read, and none of the refusals 1 to 5 applies
pub record GoodHead (s : List ℕ) (n m : ℕ) : Type 0 where
  pub good : head_fault s ≡ sound
  pub variables : n ≡ variables_of s
  pub count : m ≡ count_of s

-- "Check a rule strip": a refusal and its place; "Otherwise it returns n and m"
abbrev pub rule_answer : List ℕ → Result Unit Fault → Result RuleSize Fault
rule_answer s (Ok u) = Ok (record { variables = variables_of s; records = count_of s })
rule_answer s (Err f) = Err f

unfoldable pub checked_rule : List ℕ → Result RuleSize Fault
checked_rule s = rule_answer s (rule_fault s)
