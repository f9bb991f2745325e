-- `place` meets its contract. Assumes nothing.
use Rattle.words.proofs.Vocabulary.{sym, arith}
use Rattle.layout.proofs.Places.{place-small, place-two}
use Rattle.layout.proofs.place.Goals as goal

pub returns : goal.returns
returns c =
    let a = c.args in
    let h = place-small a.s c.requires.shaped a.l a.i (omega arith) (omega arith) in
    (sym (place-two a.s a.l a.i a.j), omega arith)
