-- `clash::clash_refusal` meets its contract: each test that does not apply leads to the next.
use Rattle.words.proofs.Vocabulary.{ℕ, ◌+◌, ◌≡◌, refl, sym, ◌∙◌, List, length, arith}
use Rattle.std.specs.Prelude.{Ok, Err}
use Rattle.std.proofs.lemmas.Grind.{common_steps}
use Rattle.std.proofs.lemmas.Result.{err_from_is_err_and}
use Rattle.refusals.specs.Refusal.{tested, answer_unless}
use Rattle.refusals.proofs.Refusals.{free}
use Rattle.rule_strip.specs.RuleStrip.{records_of}
use Rattle.rule_strip.specs.RuleAnswers.{checked_rule}
use Rattle.rule_strip.specs.declared.RuleSize.{RuleSize}
use Rattle.rule_strip.proofs.RuleLaws.{checked-accepted}
use Rattle.rules.specs.Room.{work_refusal}
use Rattle.rules.proofs.Checks.{rule_refused, rule_sizes, rule_sized}
use Rattle.rules.proofs.Rooms.{work_then}
use Rattle.parts.specs.Parts.{parts_of}
use Rattle.clash.specs.Clashes.{parts_refusal, clash_refusal}
use Rattle.clash.proofs.clash_refusal.Goals as goal

-- of a strip of these sizes: 11 and 12, and then the parts
sized : (rule : List ℕ) {size : RuleSize} → checked_rule rule ≡ Ok size → (c room : ℕ)
    → clash_refusal rule c room
    ≡ answer_unless (work_refusal size.variables (size.records + 15) c room free) (tested (parts_refusal (length (parts_of (records_of rule)))) free)
unfolding clash_refusal
sized rule e c room =
    rule_sized rule e (λ n m. work_refusal n (m + 15) c room (tested (parts_refusal (length (parts_of (records_of rule)))) free))
    ∙ work_then _ _ _ _ _

pub returns-in_err-size : goal.returns-in_err-size
unfolding clash_refusal
returns-in_err-size c =
    let p = err_from_is_err_and c.from_residual.result c.from_residual.ensures.1 in
    rw (p.1, p.2) (record { refusal_value = sym (rule_refused _ (sym c.check_rule.ensures ∙ c.in_err-size.was) _); listed = tt })

pub overflow_add-size : goal.overflow_add-size
overflow_add-size c =
    omega (arith, rule_sizes _ (sym c.check_rule.ensures ∙ c.in_ok-size.was))

pub work_refusal-requires : goal.work_refusal-requires
work_refusal-requires c =
    let z = rule_sizes _ (sym c.check_rule.ensures ∙ c.in_ok-size.was) in (z.0, z.1, omega arith)

pub returns-in_err-work_refusal : goal.returns-in_err-work_refusal
returns-in_err-work_refusal c =
    let p = err_from_is_err_and c.from_residual-in_err-work_refusal.result c.from_residual-in_err-work_refusal.ensures.1 in
    rw (p.1, p.2)
    (record {
      refusal_value =
          sym (sized _ (sym c.check_rule.ensures ∙ c.in_ok-size.was) _ _ ∙ rw (← c.work_refusal.ensures, c.in_err-work_refusal.was) refl);
      listed = tt;
    })

pub find_parts-parts-requires : goal.find_parts-parts-requires
find_parts-parts-requires c =
    (checked-accepted _ _ (sym c.check_rule.ensures ∙ c.in_ok-size.was)).unrefused

pub returns-in_err-parts_refusal : goal.returns-in_err-parts_refusal
returns-in_err-parts_refusal c =
    let p = err_from_is_err_and c.from_residual-in_err-parts_refusal.result c.from_residual-in_err-parts_refusal.ensures.1 in
    let e : parts_refusal c.find_parts-parts.result.count ≡ Err c.in_err-parts_refusal.field-0.0 = grind (arith, common_steps) in
    rw (p.1, p.2)
    (record {
      refusal_value =
          sym (sized _ (sym c.check_rule.ensures ∙ c.in_ok-size.was) _ _
          ∙ rw (
            ← c.work_refusal.ensures,
            c.in_ok-work_refusal.was,
            ← c.find_parts-parts.ensures.counted,
            e,
          ) refl);
      listed = tt;
    })

pub returns : goal.returns
returns c =
    let e : parts_refusal c.find_parts-parts.result.count ≡ Ok tt = grind (arith, common_steps) in
    record {
      refusal_value =
          sym (sized _ (sym c.check_rule.ensures ∙ c.in_ok-size.was) _ _
          ∙ rw (
            ← c.work_refusal.ensures,
            c.in_ok-work_refusal.was,
            ← c.find_parts-parts.ensures.counted,
            e,
          ) refl);
      listed = c.find_parts-parts.ensures;
    }
