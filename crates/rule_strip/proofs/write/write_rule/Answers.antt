-- `write::write_rule` meets its contract. Assumes nothing.
use mathlib.Core.Path.{ap, ◌∙◌}
use native.Mathlib.Omega.{arith}
use lib.ListN.{length, set}
use lib.Seq.{sets}
use Rattle.rule_strip.proofs.RuleBytes.{byte_more, strip-bytes}
use Rattle.rule_strip.proofs.write.write_rule.Goals as goal

pub loop-k-preserved : goal.loop-k-preserved
loop-k-preserved c =
    let ws = c.args.words.now in
    ap (set c.loop-k.out _) c.record_byte.ensures ∙ byte_more (length ws) ws _ c.loop-k.out c.loop-k.k c.loop-k.invariant

pub returns-clause-strip : goal.returns-clause-strip
returns-clause-strip c =
    let ws = c.args.words.now in
    c.loop-k.invariant ∙ ap (sets c.args.out.now 0) (strip-bytes c.args.n (length ws) ws c.loop-k.k (omega arith) c.requires.few-records)
