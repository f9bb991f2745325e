-- Decoding a rule strip, record by record. Assumes nothing.
use Rattle.words.proofs.Vocabulary.{ℕ, ◌+◌, ◌*◌, ◌≤◌, ◌<◌, ◌≡◌, refl, ◌∙◌, List, ℕ_discrete, arith, length, set, get_or-set_same, get_or-set_other}
use Rattle.records.specs.declared.Decoded.{Decoded}
use Rattle.records.specs.Rule.{no_decoded}
use Rattle.records.specs.Decode.{decoded_of}
use Rattle.rule_strip.specs.RuleStrip.{record_at, AcceptedRule}
use Rattle.rule_strip.specs.RuleAnswers.{fields_of}
use Rattle.rule_strip.specs.declared.Fields.{Fields}
use Rattle.rule_strip.proofs.RuleLaws.{rule-accepted, records_at, widths_at}
use Rattle.rules.specs.Decoding.{DecodesTo}

-- the sizes of an accepted strip
pub record Sizes (s : List ℕ) (n m : ℕ) : Type 0 where
  pub few-variables : n ≤ 8
  pub few-records : m ≤ 128
  pub short : length s ≤ 4096
  pub whole : 16 + 18 * m ≤ 8 * length s

module _ {s : List ℕ} {n m : ℕ} (accepted : AcceptedRule s n m) where
  pub decode-sizes : Sizes s n m
  decode-sizes =
      let f = rule-accepted s accepted.unrefused in
      rw (accepted.variables, accepted.count)
      (record { few-variables = f.few-variables; few-records = f.few-records; short = omega arith; whole = omega arith })

  -- one more record
  pub decode-next : (records : List Decoded) (i : ℕ) → length records ≡ 128 → DecodesTo s i records → i < m → {f : Fields}
      → f ≡ fields_of (record_at s (16 + 18 * i)) → {x : Decoded} → x ≡ decoded_of n (record { op = f.op; first = f.first; second = f.second })
      → DecodesTo s (i + 1) (set records i x)
  decode-next records i long done h {f} q {x} ex =
      λ j l. elim (ℕ_discrete j i) [
        | yes p ↦ rw (p, get_or-set_same records i x no_decoded (let z = decode-sizes in omega arith))
            (ex ∙ rw (accepted.variables, q, records_at s i (let k = accepted.count in omega arith)) refl)
        | no p ↦ rw (get_or-set_other records i j x no_decoded p) (done j (omega arith))
      ]

-- a record's fields fit in a byte
pub fields_byte : (s : List ℕ) (at : ℕ) (f : Fields) → f ≡ fields_of (record_at s at) → (f.first < 128) × (f.second < 128)
fields_byte s at f q = let w = widths_at s at in rw q (w.1, w.2)
