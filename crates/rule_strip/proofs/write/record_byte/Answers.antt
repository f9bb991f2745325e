-- `write::record_byte` meets its contract. Assumes nothing.
use borrow.Author.Rules.{rules}
use Rattle.rule_strip.proofs.RuleBytes.{byte-is}
use Rattle.rule_strip.proofs.write.record_byte.Goals as goal

pub returns : goal.returns
returns c = byte-is c.args.words.now c.args.k c.unwrap_or-next.result (search rules)
