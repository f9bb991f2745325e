-- While the records have room, the words are all of them: what the writer of rule strips takes. Assumes nothing.
use Prim.Native.Nat.{◌≤◌}
use mathlib.Core.Path.{◌≡◌}
use mathlib.Core.List.{List}
use native.Mathlib.Omega.{arith}
use lib.ListN.{length}
use Rattle.logic.specs.Rule.{Record}
use Rattle.rule_strip.specs.RuleWriting.{records_of_words}
use Rattle.rule_strip.proofs.RuleWriting.{AllSmall}
use Rattle.rule_strip.proofs.Words.{words_are}
use Rattle.drafting.specs.declared.Draft.{Draft}
use Rattle.drafting.specs.Draft.{Drafted}

module _ {d : Draft} {rs : List Record} (D : Drafted d rs) (h : d.count ≤ 128) where
  -- the count is exact
  pub drafted_count : d.count ≡ length rs
  drafted_count = let s = D.size in omega arith

  pub drafted_words : AllSmall rs → records_of_words d.count d.words ≡ rs
  drafted_words s = let e = drafted_count in rw e (words_are d.words rs (λ i l. D.each i l (omega arith)) s)
