-- `second_use` meets its contract: its table has the uses in order. Assumes nothing.
use Rattle.rule_strip.specs.RuleStrip.{second_uses, second_use}
use Rattle.rule_strip.specs.declared.Use.TheVariants.{Variable, Unused}
use Rattle.rule_strip.proofs.RuleChecks.{entry-there}
use Rattle.rule_strip.proofs.second_use.Goals as goal

pub returns : goal.returns
unfolding second_use
returns c = entry-there second_uses c.args.op Variable Unused c.requires
