-- Join, on bytes: request A7, "Two strips into one". Assumes nothing.
use Rattle.std.specs.Prelude.{ℕ, ◌+◌, ◌*◌, ◌≤◌, ◌<◌, max, ◌≡◌, ◌↔◌, cond, List, ltb, length, get_or, take, Result, Ok, Err}
use Rattle.std.proofs.lemmas.List.Edits.{sets}
use Rattle.logic.specs.Meaning.{Assignment}
use Rattle.logic.specs.Rule.{Satisfies}
use Rattle.rule_strip.specs.RuleStrip.{variables_of, count_of, record_at, records_of, rule_bytes, rule_fault}
use Rattle.rule_strip.specs.RuleAnswers.{checked_rule}
use Rattle.rule_strip.specs.RulePlaces.{RuleOffends}
use Rattle.rule_strip.specs.RuleWriting.{record_word, strip_of_rule}
use Rattle.rule_strip.specs.declared.write.Written.{Written}
use Rattle.refusals.specs.Fault.{sound}
use Rattle.refusals.specs.Reason.{number_of}
use Rattle.refusals.specs.Refusal.{checked, tested, unless_refused}
use Rattle.refusals.specs.declared.Fault.{Fault}
use Rattle.refusals.specs.declared.Reason.{Reason}
use Rattle.refusals.specs.declared.Reason.TheVariants as reason
use Rattle.refusals.specs.declared.Refusal.{Refusal}
use Rattle.refusals.specs.declared.Refusal.TheVariants.{Placed}
use Rattle.join.specs.JoinedRule.{moved, joined_records, first_sets}
use Rattle.join.specs.declared.JoinFault.{JoinFault}

-- "30 when the sum of records plus one is above 128"
unfoldable pub records_refusal : ℕ → ℕ → Result Unit Reason
records_refusal m p = cond (ltb 128 (m + p + 1)) (Err reason.JoinedRecords) (Ok tt)

-- 27, as in A2: "when the out buffer is under 290 bytes"
unfoldable pub rule_out_refusal : ℕ → Result Unit Reason
rule_out_refusal room = cond (ltb room 290) (Err reason.RuleOut) (Ok tt)

-- "then 30, then 27", of strips of m and p records
abbrev pub size_refusal : ℕ → ℕ → ℕ → Result Unit Refusal
size_refusal m p room = tested (records_refusal m p) (tested (rule_out_refusal room) (Ok tt))

-- "Faults of the first strip come first, then of the second, then 30, then 27."
unfoldable pub join_refusal : List ℕ → List ℕ → ℕ → Result Unit Refusal
join_refusal a b room = checked (rule_fault a) (checked (rule_fault b) (size_refusal (count_of a) (count_of b) room))

-- which strip's fault is told: 1 the first's, 2 the second's, 0 where both are accepted
abbrev pub faulty_strip : Result Unit Fault → Result Unit Fault → ℕ
faulty_strip (Err f) second = 1
faulty_strip (Ok u) (Err f) = 2
faulty_strip (Ok u) (Ok v) = 0

-- an answer where no refusal applies, and else the refusal and which strip is at fault
abbrev pub or_fault : {A : Type 0} → Result Unit Refusal → ℕ → A → Result A JoinFault
or_fault (Ok u) strip a = Ok a
or_fault (Err r) strip a = Err (record { refusal = r; strip = strip })

-- how many records a strip has, the first or the second, or else its fault
abbrev pub counted : List ℕ → ℕ → Result ℕ JoinFault
counted s strip = or_fault (checked (rule_fault s) (Ok tt)) strip (count_of s)

-- what refuses before a byte is written
unfoldable pub early_of : List ℕ → List ℕ → ℕ → Result Unit JoinFault
early_of a b room = or_fault (join_refusal a b room) (faulty_strip (rule_fault a) (rule_fault b)) tt

-- "n is the larger"
abbrev pub joined_variables : List ℕ → List ℕ → ℕ
joined_variables a b = max (variables_of a) (variables_of b)

-- the strip that is written
unfoldable pub joined_strip : List ℕ → List ℕ → List ℕ
joined_strip a b = strip_of_rule (joined_variables a b) (joined_records (records_of a) (records_of b))

-- what is told of it: n, m and, as "an operation that writes a strip returns its length in bytes", that
unfoldable pub written_of : List ℕ → List ℕ → Written
written_of a b = record { variables = joined_variables a b; records = count_of a + count_of b + 1; length = length (joined_strip a b) }

-- join's result: that, or what refuses, and whose fault it is
unfoldable pub join_of : List ℕ → List ℕ → ℕ → Result Written JoinFault
join_of a b room = or_fault (join_refusal a b room) (faulty_strip (rule_fault a) (rule_fault b)) (written_of a b)

-- out at the end: "A strip that an operation writes stands at the front of its buffer; later bytes are unchanged."
unfoldable pub out_after_join : List ℕ → List ℕ → List ℕ → List ℕ
out_after_join a b out = unless_refused (join_refusal a b (length out)) (sets out 0 (joined_strip a b)) out

-- A7'S CLAIM: strip is the strips a and b joined, with n and m told
pub record JoinedStrips (a b : List ℕ) (n m : ℕ) (strip : List ℕ) : Type 0 where
  -- "n is the larger"; "the sum of records plus one"
  pub variables_are : n ≡ max (variables_of a) (variables_of b)
  pub records_are : m ≡ count_of a + count_of b + 1
  -- "The result passes the strip check", which returns n and m; its length is as document 01 says
  pub passes : checked_rule strip ≡ Ok (record { variables = n; records = m })
  pub size : length strip ≡ rule_bytes m
  -- "An assignment satisfies the result exactly if, for each strip, as many of its first sets as that strip has variables satisfy that strip."
  pub meaning : (A : Assignment 2)
      → Satisfies (records_of strip) A ↔ (Satisfies (records_of a) (first_sets (variables_of a) A) × Satisfies (records_of b) (first_sets (variables_of b) A))

-- A1, "Say at which bit": of a fault that is told of a strip, 1 or 2, by its number and place, that this strip offends there. The first strip's
-- come first
pub data FaultTold (a b : List ℕ) : ℕ → ℕ → ℕ → Type 0 where
  of_first : (k p : ℕ) → RuleOffends a k p → FaultTold a b 1 k p
  of_second : (k p : ℕ) → rule_fault a ≡ sound → RuleOffends b k p → FaultTold a b 2 k p

-- the claim of join's result r, with what is in out at the end
pub record JoinClaim (a b : List ℕ) (r : Result Written JoinFault) (out : List ℕ) : Type 0 where
  pub written : (w : Written) → r ≡ Ok w → JoinedStrips a b w.variables w.records (take w.length out)
  pub names : (f : Fault) (s : ℕ) → r ≡ Err (record { refusal = Placed f; strip = s }) → FaultTold a b s (number_of f.reason) f.place

-- two accepted strips, whose records are few enough for one
pub record Joinable (a b : List ℕ) : Type 0 where
  pub first-sound : rule_fault a ≡ sound
  pub second-sound : rule_fault b ≡ sound
  pub few : count_of a + count_of b + 1 ≤ 128

-- the first records of the strip s, the record numbers in them moved up by up, as the writer takes them
abbrev pub MovedWords : List ℕ → ℕ → List ℕ → Type 0
MovedWords s up ws = (i : ℕ) → i < length ws → get_or ws i 0 ≡ record_word (moved up (record_at s (16 + 18 * i)))
