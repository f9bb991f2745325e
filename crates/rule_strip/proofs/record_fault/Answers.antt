-- `record_fault` meets its contract: the op's fault, else the first field's, else the second's. Assumes nothing.
use mathlib.Core.Path.{refl, sym, ap, ◌∙◌}
use native.Mathlib.Omega.{arith}
use borrow.Author.Tests.{le-leb}
use Rattle.std.proofs.lemmas.Result.{err_from_is_err_and}
use Rattle.rule_strip.specs.RuleStrip.{first_use, second_use}
use Rattle.rule_strip.proofs.RuleChecks.{record_split, record_first, record_second}
use Rattle.rule_strip.proofs.record_fault.Goals as goal

pub returns-in_default : goal.returns-in_default
returns-in_default c =
    sym (record_split _ _ _ _ _ _ ∙ rw (le-leb 9 c.args.fields.op (let h = c.in_default.ensures in omega (arith, h.1))) refl)

pub returns-in_err-field_fault : goal.returns-in_err-field_fault
returns-in_err-field_fault c =
    let p = err_from_is_err_and c.from_residual.result c.from_residual.ensures.1 in
    let o = c.number.ensures.value ∙ c.in-Ok.ensures in
    rw (p.1, p.2) (sym (record_first _ _ _ _ _ _ (omega (arith, o, c.number.ensures.upper_bound)) (c.first_use.ensures ∙ ap first_use o) c.field_fault.ensures
    c.in_err-field_fault.was))

pub returns : goal.returns
returns c =
    let o = c.number.ensures.value ∙ c.in-Ok.ensures in
    let p = c.number-2.ensures.value ∙ c.in-Ok.ensures in
    c.field_fault-2.ensures
    ∙ sym (record_second _ _ _ _ _ _ (omega (arith, o, c.number.ensures.upper_bound)) (c.first_use.ensures ∙ ap first_use o) c.field_fault.ensures
    c.in_ok-field_fault.was (c.second_use.ensures ∙ ap second_use p))
