-- `range` meets its contract. Assumes nothing.
use Rattle.words.proofs.Vocabulary.{lt-ltb, le-ltb}
use Rattle.layout.specs.Slots.{range_of}
use Rattle.layout.proofs.range.Goals as goal

pub returns-then-after-k : goal.returns-then-after-k
unfolding range_of
returns-then-after-k c =
    rw (lt-ltb _ _ c.if-after-k.true)

pub returns-else-after-k : goal.returns-else-after-k
unfolding range_of
returns-else-after-k c =
    rw (le-ltb _ _ c.if-after-k.false)
