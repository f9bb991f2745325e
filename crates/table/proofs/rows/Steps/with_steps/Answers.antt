-- `with_steps` meets its contract.
use Rattle.words.proofs.Vocabulary.{or_assoc}
use Rattle.table.specs.Succ.{hit}
use Rattle.table.proofs.rows.Steps.with_steps.Goals as goal

pub returns : goal.returns
unfolding hit
returns c =
    let e = c.entry_within in
    let d = c.entry_within-2 in
    λ q. rw (c.with_member.ensures q, c.with_member-r.ensures q, e.ensures, d.ensures, or_assoc)
