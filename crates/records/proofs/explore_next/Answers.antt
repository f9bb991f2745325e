-- `explore_next` meets its contract.
use Rattle.words.proofs.Vocabulary.{refl, ap, length, arith}
use Rattle.table.specs.declared.plan.Plan.{Plan}
use Rattle.records.proofs.Looks.{looks-byte}
use Rattle.records.proofs.Shares.{power_pos, room_of, led_of, added-many, added-few}
use Rattle.records.proofs.explore_next.Goals as goal

pub build_plan-b-requires-clause-plan_room : goal.build_plan-b-requires-clause-plan_room
build_plan-b-requires-clause-plan_room c =
    let a = c.args in
    rw c.plan_of-p.ensures (room_of a.x a.r a.s (length a.ws.now) a.f.looks a.g.looks c.requires.fits)

pub build_plan-b-requires-clause-led : goal.build_plan-b-requires-clause-led
build_plan-b-requires-clause-led c =
    let a = c.args in
    let w = c.requires.some_parts in
    rw c.plan_of-p.ensures (led_of a.x a.r a.s a.f a.g a.ws.now w.0 w.1 c.requires.fits w.2)

pub returns-then-c-count-clause-adds : goal.returns-then-c-count-clause-adds
returns-then-c-count-clause-adds c = λ f g parts.
    let a = c.args in
    let b = c.build_plan-b in
    added-many a.x a.r a.s a.f a.g a.ws.now f g c.requires.fits parts c.requires.kind_value b.result b.new.ws (rw c.plan_of-p.ensures at b.ensures)
    (record { count = b.result.count; accept = 0; looks = 0 }) refl c.if-c-count.true

pub overflow_cast-result-3 : goal.overflow_cast-result-3
overflow_cast-result-3 c =
    let a = c.args in
    let e = c.requires.fits in
    rw c.plan_of-p.ensures
    (omega (arith, looks-byte a.x.kind a.x.wx a.x.wy a.f.looks a.g.looks (power_pos a.x.wx e.wx_power) e.wx_small e.wy_small (omega arith) (omega arith)))

pub returns-clause-adds : goal.returns-clause-adds
returns-clause-adds c = λ f g parts.
    let a = c.args in
    let b = c.build_plan-b in
    let q = c.plan_of-p in
    let w = c.accept_word-accept in
    added-few a.x a.r a.s a.f a.g a.ws.now f g c.requires.fits parts c.requires.kind_value b.result b.new.ws (rw q.ensures at b.ensures)
    (record { count = b.result.count; accept = w.result; looks = q.result.looks }) refl (omega arith) (omega arith) w.ensures
    (ap (λ (z : Plan). z.looks) q.ensures)
