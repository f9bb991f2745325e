-- `join::put_moved` meets its contract. The invariant: the first i words are those of the records. Assumes nothing.
use Prim.Native.Nat.{ℕ, ◌+◌, ◌*◌, ◌<◌}
use mathlib.Core.Path.{◌≡◌}
use lib.ListN.{get_or}
use Rattle.rule_strip.specs.RuleStrip.{record_at}
use Rattle.rule_strip.specs.RuleWriting.{record_word}
use Rattle.join.specs.JoinedRule.{moved}
use Rattle.join.proofs.put_moved.Given as goal

abbrev pub invariant-loop-i : goal.invariant-loop-i
invariant-loop-i l = (k : ℕ) → k < l.i → get_or l.words k 0 ≡ record_word (moved l.up (record_at l.s (16 + 18 * k)))
