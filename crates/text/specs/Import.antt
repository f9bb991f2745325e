-- Import: request A2. Assumes nothing.
use Rattle.std.specs.Prelude.{ℕ, true, false, List, ltb, leb}
use Rattle.std.proofs.lemmas.List.Edits.{sets}
use Rattle.rule_strip.specs.RuleWriting.{strip_of_rule}
use Rattle.text.specs.Syntax.{Text}
use Rattle.text.specs.Grammar.{Read, got, text_of}
use Rattle.text.specs.Grammar.{refused as leaves}
use Rattle.text.specs.Records.{variables_in, count_in, records_in}

-- what import answers: n, m and the strip, or a refusal
pub data Import : Type 0 where
  written : (n m : ℕ) → List ℕ → Import
  refused : ℕ → Import

-- "last, 26 when the record counts add to more than 128"
unfoldable pub rule_of : Read Text → Import
rule_of (leaves r t) = refused r
rule_of (got t ts) = elim (leb (count_in t) 128) [ true ↦ written (variables_in t) (count_in t) (strip_of_rule (variables_in t) (records_in t)) | false ↦ refused 26 ]

-- "27, tested first, when the out buffer is under 290 bytes; then" 23 to 25, the earliest in the text; "last, 26"
unfoldable pub import : List ℕ → ℕ → Import
import s size = elim (ltb size 290) [ true ↦ refused 27 | false ↦ rule_of (text_of s) ]

-- "A strip that an operation writes stands at the front of its buffer; later bytes are unchanged."
unfoldable pub out_after_import : Import → List ℕ → List ℕ
out_after_import (written n m strip) out = sets out 0 strip
out_after_import (refused r) out = out
