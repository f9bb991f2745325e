-- A refusal of the check, in numbers, names its place. Assumes nothing.
use Prim.Native.Nat.{ℕ}
use mathlib.Core.Path.{◌≡◌, refl, sym}
use mathlib.Core.List.{List}
use Rattle.std.specs.Prelude.{Result, Ok, Err}
use Rattle.rule_strip.specs.RuleAnswers.{checked_rule}
use Rattle.rule_strip.specs.Numbers.{rule_numbers, RuleRefusedAt}
use Rattle.refusals.specs.declared.Fault.{Fault}
use Rattle.rule_strip.specs.declared.RuleSize.{RuleSize}
use Rattle.rule_strip.proofs.RuleLaws.{checked_refused}
use Rattle.rule_strip.proofs.RulePlaces.{place-told}

pub rule-refused : (s : List ℕ) (r : Result RuleSize Fault) → r ≡ checked_rule s → RuleRefusedAt s (rule_numbers r)
rule-refused s (Ok size) e z = absurd (z refl)
rule-refused s (Err f) e z = place-told s (checked_refused s f (sym e))
