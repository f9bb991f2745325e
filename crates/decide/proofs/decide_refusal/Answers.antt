-- `decide::decide_refusal` meets its contract.
use Rattle.words.proofs.Vocabulary.{◌≡◌, sym, ◌∙◌, arith}
use Rattle.std.specs.Prelude.{Ok}
use Rattle.std.proofs.lemmas.Grind.{common_steps}
use Rattle.rules.proofs.Checks.{rule_sizes, rule_sized}
use Rattle.decide.specs.Decide.{room_refusal, decide_refusal}
use Rattle.decide.proofs.decide_refusal.Goals as goal

pub room_refusal-requires : goal.room_refusal-requires
room_refusal-requires c =
    let e : c.check_rule.result ≡ Ok c.in_ok-size.size = grind (arith, common_steps) in
    let z = rule_sizes _ (sym c.check_rule.ensures ∙ e) in (z.0, z.1, z.3)

pub returns : goal.returns
unfolding decide_refusal
returns c =
    let a = c.args in
    let e : c.check_rule.result ≡ Ok c.in_ok-size.size = grind (arith, common_steps) in
    c.room_refusal.ensures ∙ sym (rule_sized _ (sym c.check_rule.ensures ∙ e) (λ n m. room_refusal n m a.c a.p a.room a.outroom))
