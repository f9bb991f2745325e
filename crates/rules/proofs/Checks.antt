-- An operation's first check, that of its rule strip: it is refused there, or the later refusals speak of the sizes that the check tells.
-- Assumes nothing.
use Rattle.words.proofs.Vocabulary.{ℕ, ◌≤◌, ◌≡◌, refl, List}
use Rattle.std.specs.Prelude.{Result, Ok, Err}
use Rattle.refusals.specs.Refusal.{checked}
use Rattle.refusals.specs.declared.Fault.{Fault}
use Rattle.refusals.specs.declared.Refusal.{Refusal}
use Rattle.refusals.specs.declared.Refusal.TheVariants.{Placed}
use Rattle.rule_strip.specs.RuleStrip.{variables_of, count_of, rule_fault}
use Rattle.rule_strip.specs.RuleAnswers.{checked_rule}
use Rattle.rule_strip.specs.declared.RuleSize.{RuleSize}
use Rattle.rule_strip.proofs.RuleLaws.{rule-accepted, checked-accepted, checked_refused}

pub rule_refused : (rule : List ℕ) {f : Fault} → checked_rule rule ≡ Err f → (later : Result Unit Refusal)
    → checked (rule_fault rule) later ≡ Err (Placed f)
rule_refused rule e later = rw (checked_refused rule _ e) refl

module _ (rule : List ℕ) {size : RuleSize} (e : checked_rule rule ≡ Ok size) where
  pub rule_sizes : (1 ≤ size.variables) × (size.variables ≤ 8) × (1 ≤ size.records) × (size.records ≤ 128)
  rule_sizes =
      let h = checked-accepted rule size e in
      let f = rule-accepted rule h.unrefused in
      rw (h.variables, h.count) (f.some-variable, f.few-variables, f.some_record, f.few-records)

  pub rule_sized : (later : ℕ → ℕ → Result Unit Refusal)
      → checked (rule_fault rule) (later (variables_of rule) (count_of rule)) ≡ later size.variables size.records
  rule_sized later = let h = checked-accepted rule size e in rw (h.unrefused, h.variables, h.count) refl
