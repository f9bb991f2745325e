-- `atom_rows` meets its contract.
use Rattle.words.proofs.Vocabulary.{rules}
use Rattle.table.specs.Succ.{atom_index}
use Rattle.table.proofs.rows.atom_rows.Goals as goal

pub returns : goal.returns
unfolding atom_index
returns c i h =
    let a = c.fill_rows.ensures i h in (search rules, search rules)
