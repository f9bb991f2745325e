-- What stands at the place that a rule strip's refusal names: document 02, A1, said once more, of the bits and without an order of tests.
-- Assumes nothing.
use Rattle.std.specs.Prelude.{ℕ, ◌+◌, ◌*◌, ◌≤◌, ◌<◌, ◌≡◌, false, List, length, get_or}
use Rattle.logic.specs.Rule.{Record}
use Rattle.bits.specs.Bits.{bits, between, field, bit_length}
use Rattle.rule_strip.specs.RuleStrip.{variables_of, count_of, rule_bytes, record_at, first_use, second_use, records_end}
use Rattle.rule_strip.specs.RuleAnswers.{use_refusal, limit_of}

-- record number i: where it starts, its op, and the values of its two fields
abbrev pub start : ℕ → ℕ
start i = 16 + 18 * i

abbrev pub op_of : List ℕ → ℕ → ℕ
op_of s i = field s (start i) 4

abbrev pub first_of : List ℕ → ℕ → ℕ
first_of s i = field s (start i + 4) 7

abbrev pub second_of : List ℕ → ℕ → ℕ
second_of s i = field s (start i + 11) 7

-- record number i keeps all rules: its op is known, and each field is below n, below i, or 0, by its use
pub record Keeps (n i : ℕ) (r : Record) : Type 0 where
  pub known : r.op < 9
  pub first_below : r.first < limit_of n i (first_use r.op)
  pub second_below : r.second < limit_of n i (second_use r.op)

-- record number i breaks a rule, with that refusal, in the field that starts at a place, and in none before it
pub data Breaks (s : List ℕ) (n i : ℕ) : ℕ → ℕ → Type 0 where
  -- "7 op 9 to 15"
  in_op : 9 ≤ op_of s i → Breaks s n i 7 (start i)
  -- 8, 9 or 10, by what the field holds
  in_first : op_of s i < 9 → limit_of n i (first_use (op_of s i)) ≤ first_of s i → Breaks s n i (use_refusal (first_use (op_of s i))) (start i + 4)
  -- "Of two such fields in one record the first is meant."
  in_second : op_of s i < 9 → first_of s i < limit_of n i (first_use (op_of s i)) → limit_of n i (second_use (op_of s i)) ≤ second_of s i
      → Breaks s n i (use_refusal (second_use (op_of s i))) (start i + 11)

-- the strip s offends by a refusal's number at a bit place
pub data RuleOffends (s : List ℕ) : ℕ → ℕ → Type 0 where
  -- "for 1, 5 [..] it is the bit length handed in"
  too_short : length s < 2 → RuleOffends s 1 (bit_length s)
  other_length : (length s ≡ rule_bytes (count_of s) → ⊥) → RuleOffends s 5 (bit_length s)
  -- "where the offending field starts"
  other_version : (field s 0 4 ≡ 1 → ⊥) → RuleOffends s 2 0
  bad_variables : between 1 8 (field s 4 4) ≡ false → RuleOffends s 3 4
  bad_count : between 1 128 (field s 8 8) ≡ false → RuleOffends s 4 8
  -- "For 6 [..] it is the first set padding bit"
  bit-set : (p : ℕ) → records_end s ≤ p → p < 8 * length s → get_or (bits s) p 0 ≡ 1
      → ((q : ℕ) → records_end s ≤ q → q < p → get_or (bits s) q 0 ≡ 0) → RuleOffends s 6 p
  -- "for the earliest bad record"
  bad_record : (i k p : ℕ) → i < count_of s → ((j : ℕ) → j < i → Keeps (variables_of s) j (record_at s (start j)))
      → Breaks s (variables_of s) i k p → RuleOffends s k p
