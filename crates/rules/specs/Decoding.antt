-- A rule strip's records, as the builder takes them. Assumes nothing.
use Rattle.std.specs.Prelude.{ℕ, ◌<◌, ◌≡◌, List, get_or}
use Rattle.logic.specs.Rule.{no_record}
use Rattle.records.specs.declared.Decoded.{Decoded}
use Rattle.records.specs.Rule.{no_decoded}
use Rattle.records.specs.Decode.{decoded_of}
use Rattle.rule_strip.specs.RuleStrip.{variables_of, records_of}

-- the first m entries of xs are the strip's first m records
abbrev pub DecodesTo : List ℕ → ℕ → List Decoded → Type 0
DecodesTo s m xs = (i : ℕ) → i < m → get_or xs i no_decoded ≡ decoded_of (variables_of s) (get_or (records_of s) i no_record)
