-- Rule strips as they are written: document 01, "Strips". Assumes nothing.
use Rattle.std.specs.Prelude.{ℕ, zero, suc, ◌+◌, ◌-◌, ◌*◌, ◌/◌, ◌%◌, ◌^◌, ◌≤◌, cond, List, [], ◌∷◌, ◌++◌, ltb, length, get_or}
use Rattle.logic.specs.Rule.{Record}
use Rattle.bits.specs.Bits.{digits, pack}
use Rattle.rule_strip.specs.RuleStrip.{rule_bytes}

-- "op 4, first field 7, second field 7"
unfoldable pub record_bits : List Record → List ℕ
record_bits [] = []
record_bits (r ∷ rs) = digits 4 r.op ++ (digits 7 r.first ++ (digits 7 r.second ++ record_bits rs))

-- "version 4 bits (1), n 4 bits (1 to 8), record count m 8 bits (1 to 128), then m records of 18 bits", "then zero bits to a whole byte"
unfoldable pub strip_of_rule : ℕ → List Record → List ℕ
strip_of_rule n rs = pack 0 8 (digits 4 1 ++ (digits 4 n ++ (digits 8 (length rs) ++ record_bits rs)))

-- a record's 18 bits as one number
unfoldable pub record_word : Record → ℕ
record_word r = r.op * 16384 + r.first * 128 + r.second

-- the record in the 18 lowest bits of a number
unfoldable pub record_of_word : ℕ → Record
record_of_word w = record { op = w / 16384 % 16; first = w / 128 % 128; second = w % 128 }

-- the records in the first m numbers
unfoldable pub records_of_words : ℕ → List ℕ → List Record
records_of_words zero ws = []
records_of_words (suc m) ws = records_of_words m ws ++ (record_of_word (get_or ws m 0) ∷ [])

-- the 18 lowest bits of number i, if it is among the first m numbers, else zeros
unfoldable pub word_at : ℕ → List ℕ → ℕ → ℕ
word_at m ws i = cond (ltb i m) (get_or ws i 0 % 262144) 0

-- bits 8k to 8k + 7 of the records in the first m numbers, out of the 36 bits of two neighbours
unfoldable pub record_byte : ℕ → List ℕ → ℕ → ℕ
record_byte m ws k = (word_at m ws (8 * k / 18) * 262144 + word_at m ws (8 * k / 18 + 1)) / 2 ^ (28 - 8 * k % 18) % 256

-- a strip of m records has room at the front of out
pub record StripRoom (out : List ℕ) (m : ℕ) : Type 0 where
  pub few-records : m ≤ 128
  pub room : rule_bytes m ≤ length out
