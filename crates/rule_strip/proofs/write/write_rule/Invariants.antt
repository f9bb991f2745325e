-- `write::write_rule` meets its contract: the strip's first k + 2 bytes stand. Assumes nothing.
use mathlib.Core.Path.{◌≡◌}
use lib.ListN.{length}
use lib.Seq.{sets}
use Rattle.rule_strip.proofs.RuleBytes.{record_bytes}
use Rattle.rule_strip.proofs.write.write_rule.Given as goal

abbrev pub invariant-loop-k : goal.invariant-loop-k
invariant-loop-k l = l.out ≡ sets l.initial.out 2 (record_bytes (length l.words) l.words l.k)
