-- `ws2s::exports::ws2s_check_rule` meets its contract. Assumes nothing.
use Rattle.rule_strip.proofs.InNumbers.{rule-refused}
use Rattle.ws2s.proofs.exports.ws2s_check_rule.Goals as goal

pub returns-clause-rule_refused_at : goal.returns-clause-rule_refused_at
returns-clause-rule_refused_at c =
    rw c.rule_numbers.ensures (rule-refused _ _ c.check_rule.ensures)
