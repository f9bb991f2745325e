-- `first_use` meets its contract: its table has the uses in order. Assumes nothing.
use Rattle.rule_strip.specs.RuleStrip.{first_uses, first_use}
use Rattle.rule_strip.specs.declared.Use.TheVariants.{Variable, Unused}
use Rattle.rule_strip.proofs.RuleChecks.{entry-there}
use Rattle.rule_strip.proofs.first_use.Goals as goal

pub returns : goal.returns
unfolding first_use
returns c = entry-there first_uses c.args.op Variable Unused c.requires
