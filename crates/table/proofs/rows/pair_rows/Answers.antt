-- `pair_rows` meets its contract.
use Rattle.words.proofs.Vocabulary.{rules}
use Rattle.table.proofs.rows.pair_rows.Goals as goal

pub returns : goal.returns
returns c i h =
    let a = c.fill_rows.ensures i h in (search rules, search rules)
