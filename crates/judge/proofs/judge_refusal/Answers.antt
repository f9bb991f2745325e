-- `judge::judge_refusal` meets its contract: each test that does not apply leads to the next.
use Rattle.words.proofs.Vocabulary.{refl, sym, ◌∙◌, arith}
use Rattle.std.proofs.lemmas.Result.{err_from_is_err_and}
use Rattle.rules.proofs.Checks.{rule_refused, rule_sizes, rule_sized}
use Rattle.rules.proofs.Rooms.{work_then}
use Rattle.rules.specs.Room.{work_refusal}
use Rattle.rules.specs.Trees.{tree_refusal}
use Rattle.judge.specs.Judge.{judge_refusal}
use Rattle.judge.proofs.judge_refusal.Goals as goal

pub returns-in_err-size : goal.returns-in_err-size
unfolding judge_refusal
returns-in_err-size c =
    let p = err_from_is_err_and c.from_residual.result c.from_residual.ensures.1 in
    rw (p.1, p.2) (sym (rule_refused _ (sym c.check_rule.ensures ∙ c.in_err-size.was) _))

pub work_refusal-requires : goal.work_refusal-requires
work_refusal-requires c =
    let z = rule_sizes _ (sym c.check_rule.ensures ∙ c.in_ok-size.was) in (z.0, z.1, omega arith)

pub returns-in_err-work_refusal : goal.returns-in_err-work_refusal
unfolding judge_refusal
returns-in_err-work_refusal c =
    let a = c.args in
    let p = err_from_is_err_and c.from_residual-in_err-work_refusal.result c.from_residual-in_err-work_refusal.ensures.1 in
    rw (p.1, p.2)
    (sym (rule_sized _ (sym c.check_rule.ensures ∙ c.in_ok-size.was) (λ n m. work_refusal n m a.c a.room (tree_refusal a.tree.now n))
    ∙ work_then _ _ _ _ _ ∙ rw (← c.work_refusal.ensures, c.in_err-work_refusal.was) refl))

pub returns : goal.returns
unfolding judge_refusal
returns c =
    let a = c.args in
    c.tree_refusal.ensures
    ∙ sym (rule_sized _ (sym c.check_rule.ensures ∙ c.in_ok-size.was) (λ n m. work_refusal n m a.c a.room (tree_refusal a.tree.now n))
    ∙ work_then _ _ _ _ _ ∙ rw (← c.work_refusal.ensures, c.in_ok-work_refusal.was) refl)
