-- `share_at` meets its contract. Assumes nothing.
use Rattle.words.proofs.Vocabulary.{arith}
use Rattle.layout.specs.Shape.{share_at}
use Rattle.layout.proofs.Places.{shares_small}
use Rattle.layout.proofs.share_at.Goals as goal

pub returns : goal.returns
unfolding share_at
returns c =
    rw c.share.ensures.0 (omega arith, shares_small c.args.s c.requires.shaped c.args.r c.requires.r_bound)
