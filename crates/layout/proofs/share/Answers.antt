-- `share` meets its contract. Assumes nothing.
use Rattle.words.proofs.Vocabulary.{arith}
use Rattle.layout.proofs.Places.{share-two, share-small}
use Rattle.layout.proofs.share.Goals as goal

pub returns : goal.returns
returns c =
    let s = c.args.s in
    let two = share-two s c.requires in
    rw c.labels.ensures.0 (omega arith, omega (arith, share-small s c.requires))
