-- `next_marked` meets its contract. The invariant: what is sought from i on is what was sought from r on, and number m has a mark.
use Rattle.words.proofs.Vocabulary.{◌∙◌, sym, arith}
use Rattle.building.specs.Named.{marked}
use Rattle.building.proofs.Marks.{next-later, next-found, not_end}
use Rattle.building.proofs.next_marked.Goals as goal

pub loop-i-preserved : goal.loop-i-preserved
loop-i-preserved c =
    let h = c.loop-i in
    let a = c.args in
    let l = not_end a.marks.now h.i a.m h.invariant.0 h.invariant.2 c.loop-i-test.true in
    (omega arith, h.invariant.1, h.invariant.2, sym (next-later (marked a.marks.now) h.i a.m l c.loop-i-test.true) ∙ h.invariant.3)

pub returns : goal.returns
returns c =
    let h = c.loop-i in
    let a = c.args in
    sym (next-found a.marks.now h.i a.m h.invariant.0 c.loop-i-test.false) ∙ h.invariant.3
