-- `read_record` meets its contract, from those of `fields_at` and `record_fault`. Assumes nothing.
use Prim.Native.Nat.{ℕ, ◌+◌}
use mathlib.Core.Path.{◌≡◌, refl, sym, ◌∙◌}
use mathlib.Core.List.{List}
use Rattle.std.specs.Prelude.{Result}
use Rattle.std.proofs.lemmas.Result.{err_from_is_err_and}
use Rattle.refusals.specs.declared.Fault.{Fault}
use Rattle.rule_strip.specs.RuleStrip.{record_at, record_fault}
use Rattle.rule_strip.specs.RuleAnswers.{fields_of, record_or, read_record}
use Rattle.rule_strip.specs.declared.Fields.{Fields}
use Rattle.rule_strip.proofs.read_record.Goals as goal

-- what was read is what the reader answers
answer : (s : List ℕ) (n i at : ℕ) (f : Result Unit Fault) (r : Fields) → r ≡ fields_of (record_at s at)
    → f ≡ record_fault n i at (record { op = r.op; first = r.first; second = r.second }) → read_record s n i at ≡ record_or f (record_at s at) (at + 18)
unfolding read_record
answer s n i at f r p h = rw (h, p) refl

pub returns-in_err-record_fault : goal.returns-in_err-record_fault
returns-in_err-record_fault c =
    let p = err_from_is_err_and c.from_residual.result c.from_residual.ensures.1 in
    rw (p.1, p.2) (sym (answer _ _ _ _ _ _ c.fields_at-fields.ensures c.record_fault.ensures ∙ rw c.in_err-record_fault.was refl))

pub returns : goal.returns
returns c =
    sym (answer _ _ _ _ _ _ c.fields_at-fields.ensures c.record_fault.ensures ∙ rw (c.in_ok-record_fault.was, c.fields_at-fields.ensures) refl)
