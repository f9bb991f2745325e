-- `write::record_word` meets its contract.
use mathlib.Core.Path.{refl}
use Rattle.rule_strip.specs.RuleWriting.{record_word}
use Rattle.rule_strip.proofs.write.record_word.Goals as goal

pub returns : goal.returns
unfolding record_word
returns c = refl
