-- `build_marked` meets its contract, by the turns of `Nexts`.
use Rattle.words.proofs.Vocabulary.{◌+◌, ◌-◌, ◌≡◌, refl, arith}
use Rattle.std.specs.Prelude.{Ok}
use Rattle.std.proofs.lemmas.Grind.{common_steps}
use Rattle.std.proofs.lemmas.Result.{err_from_is_err_and}
use Rattle.building.specs.Named.{marked}
use Rattle.building.proofs.Marks.{next-after}
use Rattle.building.proofs.Nexts.{turn-first, turn_asks, turn-over, turn-next, rest-next, untouched-next}
use Rattle.building.proofs.build_marked.Goals as goal

pub build_record-requires-clause-some_parts : goal.build_record-requires-clause-some_parts
build_record-requires-clause-some_parts c =
    (turn_asks c.requires.by_index c.requires.m_value.1 c.loop-r.invariant c.loop-r-test.true).1

pub returns-in_err-build_record-clause-made_by : goal.returns-in_err-build_record-clause-made_by
returns-in_err-build_record-clause-made_by c =
    let p = err_from_is_err_and c.from_residual.result c.from_residual.ensures.1 in
    rw (p.1, p.2)
    (turn-over c.requires.by_index c.requires.m_value.1 c.loop-r.invariant c.loop-r-test.true c.build_record.ensures _ (grind (arith, common_steps)))

pub returns-in_err-build_record-clause-ws_unchanged : goal.returns-in_err-build_record-clause-ws_unchanged
returns-in_err-build_record-clause-ws_unchanged c =
    rest-next c.requires.by_index c.requires.m_value.1 c.loop-r.invariant c.loop-r-test.true c.build_record.ensures

pub returns-in_err-build_record-clause-untouched : goal.returns-in_err-build_record-clause-untouched
returns-in_err-build_record-clause-untouched c =
    untouched-next c.requires.by_index c.requires.m_value.1 c.loop-r.invariant c.loop-r-test.true c.build_record.ensures

pub loop-r-smaller : goal.loop-r-smaller
loop-r-smaller c =
    let r = c.loop-r.r in
    omega (arith, next-after (marked c.args.marks.now) (c.args.m - (r + 1)) (r + 1))

pub loop-r-init : goal.loop-r-init
loop-r-init c = turn-first c.next_marked-r.ensures

pub loop-r-preserved : goal.loop-r-preserved
loop-r-preserved c =
    let e : c.build_record.result ≡ Ok tt = grind (arith, common_steps) in
    turn-next c.requires.by_index c.requires.m_value.1 c.loop-r.invariant c.loop-r-test.true c.build_record.ensures (rw e refl)
    c.build_record.auto.ws c.next_marked-r-in-loop-r.ensures
