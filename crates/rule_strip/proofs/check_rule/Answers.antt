-- `check_rule` meets its contract: the head's fault, else what the rest of the check answers.
use mathlib.Core.Path.{sym, ◌∙◌}
use native.Mathlib.Omega.{arith}
use Rattle.std.proofs.lemmas.Result.{err_from_is_err_and}
use Rattle.rule_strip.proofs.RuleChecks.{head_facts, check_head}
use Rattle.rule_strip.proofs.check_rule.Goals as goal

pub returns-in_err-head_fault : goal.returns-in_err-head_fault
returns-in_err-head_fault c =
    let p = err_from_is_err_and c.from_residual.result c.from_residual.ensures.1 in
    rw (p.1, p.2) (check_head _ _ c.head_fault.ensures c.in_err-head_fault.was)

pub variables_of-requires : goal.variables_of-requires
variables_of-requires c = let h = head_facts c.args.s.now (sym c.head_fault.ensures ∙ c.in_ok-head_fault.was) in omega arith

pub count_of-requires : goal.count_of-requires
count_of-requires c = let h = head_facts c.args.s.now (sym c.head_fault.ensures ∙ c.in_ok-head_fault.was) in omega arith
