-- `entry_at` meets its contract.
use Rattle.words.proofs.Vocabulary.{◌+◌, ◌≡◌, ◌∙◌, get_or, rules, arith}
use Rattle.table.specs.Entry.{entry}
use Rattle.table.proofs.entries.entry_at.Goals as goal

pub returns : goal.returns
unfolding entry
returns c =
    let is : c.unwrap_or.result ≡ get_or c.args.low.now (c.args.a + c.place.result) 0 = search rules in
    (c.from.ensures ∙ is ∙ (rw c.place.ensures.0), omega arith)
