-- `reached` meets its contract, by the pass of `Marks`.
use Rattle.words.proofs.Vocabulary.{◌-◌, suc, ◌≡◌, subst, arith}
use Rattle.building.proofs.Marks.{Pass, pass_first, pass_marked, pass_ends}
use Rattle.building.proofs.reached.Goals as goal

pub loop-r-init : goal.loop-r-init
loop-r-init c =
    pass_first _ _ c.requires.m_nonzero.1 c.requires.by_index c.requires.m_nonzero.0

pub loop-r-preserved-then-marks-r : goal.loop-r-preserved-then-marks-r
loop-r-preserved-then-marks-r c =
    let h = c.loop-r in
    let e : h.r ≡ suc (h.r - 1) = omega arith in
    rw c.mark_named.ensures
    (pass_marked _ _ c.requires.m_nonzero.1 c.requires.by_index _ _ (subst (Pass c.args.records.now c.args.m h.marks) e h.invariant) c.if-marks-r.true)

pub returns : goal.returns
returns c =
    let h = c.loop-r in
    let e : h.r ≡ 0 = omega arith in
    pass_ends _ _ c.requires.m_nonzero.1 c.requires.by_index c.requires.m_nonzero.0 _ (subst (Pass c.args.records.now c.args.m h.marks) e h.invariant)
