-- Rule strips: document 01, "Strips" and "Check a rule strip". Assumes nothing.
use Rattle.std.specs.Prelude.{ℕ, zero, suc, ◌+◌, ◌*◌, ◌/◌, ◌≡◌, Bool, false, not, cond, Result, List, [], ◌∷◌, ltb, leb, eqb, length, get_or, drop}
use Rattle.logic.specs.Rule.{Record}
use Rattle.bits.specs.Bits.{between, bits, field, any_set, first_set, bit_length}
use Rattle.refusals.specs.Fault.{sound, fault, or_else}
use Rattle.refusals.specs.declared.Fault.{Fault}
use Rattle.refusals.specs.declared.Reason.TheVariants as reason
use Rattle.rule_strip.specs.declared.Use.{Use}
use Rattle.rule_strip.specs.declared.Use.TheVariants.{Variable, Earlier, Unused}

-- "version 4 bits (1), n 4 bits (1 to 8), record count m 8 bits (1 to 128), then m records of 18 bits"
abbrev pub version_of : List ℕ → ℕ
version_of s = field s 0 4

abbrev pub variables_of : List ℕ → ℕ
variables_of s = field s 4 4

abbrev pub count_of : List ℕ → ℕ
count_of s = field s 8 8

-- "op 4, first field 7, second field 7": the record at bit place at
unfoldable pub record_at : List ℕ → ℕ → Record
record_at s at = record { op = field s at 4; first = field s (at + 4) 7; second = field s (at + 11) 7 }

-- m records, from bit place at on
unfoldable pub records_from : List ℕ → ℕ → ℕ → List Record
records_from s at zero = []
records_from s at (suc m) = record_at s at ∷ records_from s (at + 18) m

unfoldable pub records_of : List ℕ → List Record
records_of s = records_from s 16 (count_of s)

-- "(16 + 18m) bits rounded up", in bytes
abbrev pub rule_bytes : ℕ → ℕ
rule_bytes m = (16 + 18 * m + 7) / 8

-- the use of each op's first field, in the order of document 01's table
abbrev pub first_uses : List Use
first_uses = Variable ∷ Variable ∷ Variable ∷ Variable ∷ Variable ∷ Earlier ∷ Earlier ∷ Earlier ∷ Variable ∷ []

-- the use of an op's first field
unfoldable pub first_use : ℕ → Use
first_use op = get_or first_uses op Unused

-- the use of each op's second field
abbrev pub second_uses : List Use
second_uses = Variable ∷ Unused ∷ Variable ∷ Variable ∷ Unused ∷ Unused ∷ Earlier ∷ Earlier ∷ Earlier ∷ []

-- the use of an op's second field
unfoldable pub second_use : ℕ → Use
second_use op = get_or second_uses op Unused

-- "a variable not below n"
abbrev pub bad_variable : ℕ → Use → ℕ → Bool
bad_variable n Variable v = leb n v
bad_variable n Earlier v = false
bad_variable n Unused v = false

-- "a record number not below its own"
abbrev pub bad_earlier : ℕ → Use → ℕ → Bool
bad_earlier i Variable v = false
bad_earlier i Earlier v = leb i v
bad_earlier i Unused v = false

-- "an unused field not 0"
abbrev pub bad_unused : Use → ℕ → Bool
bad_unused Variable v = false
bad_unused Earlier v = false
bad_unused Unused v = not (eqb v 0)

-- of record number i, which starts at bit place at: "7 op 9 to 15; 8 a variable not below n; 9 a record number not below its own; 10 an
-- unused field not 0", at the op, 4 bits on or 11 bits on, "where the offending field starts"; "Of two such fields in one record the first
-- is meant"
unfoldable pub record_fault : ℕ → ℕ → ℕ → Record → Result Unit Fault
record_fault n i at r =
    cond (leb 9 r.op) (fault reason.Op at)
    (cond (bad_variable n (first_use r.op) r.first) (fault reason.Variable (at + 4))
    (cond (bad_variable n (second_use r.op) r.second) (fault reason.Variable (at + 11))
    (cond (bad_earlier i (first_use r.op) r.first) (fault reason.Record (at + 4))
    (cond (bad_earlier i (second_use r.op) r.second) (fault reason.Record (at + 11))
    (cond (bad_unused (first_use r.op) r.first) (fault reason.Unused (at + 4))
    (cond (bad_unused (second_use r.op) r.second) (fault reason.Unused (at + 11)) sound))))))

-- "for the earliest bad record": of records number i on, from bit place at on
unfoldable pub records_fault : ℕ → ℕ → ℕ → List Record → Result Unit Fault
records_fault n i at [] = sound
records_fault n i at (r ∷ rs) = or_else (record_fault n i at r) (records_fault n (suc i) (at + 18) rs)

-- where the records end, and the bits from there on
abbrev pub records_end : List ℕ → ℕ
records_end s = 16 + 18 * count_of s

abbrev pub rule_padding : List ℕ → List ℕ
rule_padding s = drop (records_end s) (bits s)

-- "in order: 1 fewer than two bytes; 2 version not 1; 3 n not 1 to 8; 4 m not 1 to 128; 5 length not as above", each with its place: "for
-- 1, 5 [..] the bit length handed in", else where the field starts
unfoldable pub head_fault : List ℕ → Result Unit Fault
head_fault s =
    cond (ltb (length s) 2) (fault reason.RuleShort (bit_length s))
    (cond (not (eqb (version_of s) 1)) (fault reason.RuleVersion 0)
    (cond (not (between 1 8 (variables_of s))) (fault reason.RuleVariables 4)
    (cond (not (between 1 128 (count_of s))) (fault reason.RuleRecords 8)
    (cond (not (eqb (length s) (rule_bytes (count_of s)))) (fault reason.RuleLength (bit_length s)) sound))))

-- THE EARLIEST FAULT, its number and its place together: 1 to 5; "6 a padding bit set", at "the first set padding bit"; "then, for the
-- earliest bad record", 7 to 10
unfoldable pub rule_fault : List ℕ → Result Unit Fault
rule_fault s =
    or_else (head_fault s)
    (cond (any_set (rule_padding s)) (fault reason.RulePadding (records_end s + first_set (rule_padding s)))
    (records_fault (variables_of s) 0 16 (records_of s)))

-- an accepted strip of m records over n variables
pub record AcceptedRule (s : List ℕ) (n m : ℕ) : Type 0 where
  pub unrefused : rule_fault s ≡ sound
  pub variables : n ≡ variables_of s
  pub count : m ≡ count_of s
