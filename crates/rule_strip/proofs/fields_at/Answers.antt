-- `fields_at` meets its contract, from that of `three_bytes`. Assumes nothing.
use Rattle.rule_strip.proofs.RuleChecks.{fields_are}
use Rattle.rule_strip.proofs.fields_at.Goals as goal

pub returns : goal.returns
returns c =
    rw c.three_bytes.ensures (fields_are c.args.s.now c.args.at c.requires.at_value.0 c.requires.at_value.1)
