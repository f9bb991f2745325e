-- `step_in` meets its contract: the label as it is seen is no larger.
use Rattle.words.proofs.Vocabulary.{and_le_l, arith}
use Rattle.table.specs.Entry.{through, seen}
use Rattle.table.proofs.entries.step_in.Goals as goal

pub entry_within-requires : goal.entry_within-requires
entry_within-requires c =
    record { within = c.requires.within; l_bound = omega (arith, and_le_l c.args.l c.args.looks) }

pub returns : goal.returns
unfolding through seen
returns c =
    c.entry_within.ensures
