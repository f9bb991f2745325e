-- `part_row` meets its contract. The invariant: the classes part those at the start.
use Rattle.words.proofs.Vocabulary.{ℕ, ◌<◌, ◌%◌, ◌≡◌, ◌∙◌, ap₂, arith}
use native.Mathlib.Nat.{mod-eq_of_lt}
use Rattle.layout.specs.Slots.{FirstSlots, slot_place}
use Rattle.joining.specs.Classes.{class_in}
use Rattle.joining.proofs.Parts.{refines_on, room-less}
use Rattle.joining.proofs.Rows.{slots-low, few-states, slots_small, row-start, row_in, clean_of, clean_to}
use Rattle.joining.proofs.parting.part_row.Goals as goal
use Rattle.joining.proofs.parting.part_row.Goals.{Start, At-loop-d, After-slot_place-lead}

-- states are few
small : (c : Start) → (c.args.a < 64) × (c.args.b < 64) × (c.args.l < 256)
small c =
    let a = c.args in
    let m = a.machine.now in
    let e = c.requires in
    slots_small m.shape m.table.now m.states a.l e.span e.label e.slots

-- the first members of the classes in the first slots are such states too
low : (c : At-loop-d) → FirstSlots c.args.machine.now.shape.branches c.args.machine.now.states (class_in c.loop-d.classes.of c.args.a) (class_in c.loop-d.classes.of c.args.b)
low c =
    let W = c.loop-d.classes.whole in
    slots-low _ _ (W.low c.args.a) (W.low c.args.b) c.requires.slots

-- the leading row starts at these
led : (c : After-slot_place-lead) → c.slot_place-lead.result ≡ slot_place c.args.machine.now.shape c.args.l (class_in c.loop-d.classes.of c.args.a) (class_in c.loop-d.classes.of c.args.b) 0
led c =
    c.slot_place-lead.ensures.0 ∙ ap₂ (λ (i j : ℕ). slot_place c.args.machine.now.shape c.args.l i j 0) c.leader.ensures c.leader-in-loop-d.ensures

pub slot_place-row-requires-clause-l_bound : goal.slot_place-row-requires-clause-l_bound
slot_place-row-requires-clause-l_bound c =
    let a = c.args in
    let m = a.machine.now in
    let e = c.requires in
    ((small (goal.at.slot_place-row-requires-clause-l_bound c).Start).2, row-start m.shape m.table.now m.states a.l e.span e.label a.a a.b e.slots)

pub leader-requires : goal.leader-requires
leader-requires c =
    (small (goal.at.leader-requires c).Start).0

pub leader-requires-in-loop-d : goal.leader-requires-in-loop-d
leader-requires-in-loop-d c =
    (small (goal.at.leader-requires-in-loop-d c).Start).1

pub slot_place-lead-requires-clause-l_bound : goal.slot_place-lead-requires-clause-l_bound
slot_place-lead-requires-clause-l_bound c =
    let a = c.args in
    let m = a.machine.now in
    let e = c.requires in (
      (small (goal.at.slot_place-lead-requires-clause-l_bound c).Start).2,
      rw (c.leader.ensures, c.leader-in-loop-d.ensures)
          (row-start m.shape m.table.now m.states a.l e.span e.label _ _ (low (goal.at.slot_place-lead-requires-clause-l_bound c).At-loop-d)),
    )

pub unlike-requires : goal.unlike-requires
unlike-requires c =
    let a = c.args in
    let m = a.machine.now in
    let e = c.requires in (
      few-states m.shape m.table.now m.states a.l e.span e.label,
      omega (arith, c.slot_place-row.ensures.0, row_in m.shape m.table.now m.states a.l e.span e.label a.a a.b e.slots),
      omega (arith, led (goal.at.unlike-requires c).After-slot_place-lead, row_in m.shape m.table.now m.states a.l e.span e.label _ _ (low (goal.at.unlike-requires c).At-loop-d)),
    )

pub returns-in_default-clause-clean_row : goal.returns-in_default-clause-clean_row
returns-in_default-clause-clean_row c = λ d b.
    let a = c.args in
    let m = a.machine.now in
    let e = c.requires in
    let h = c.loop-d in
    clean_of m.shape m.table.now h.classes.of m.states a.l e.span e.label h.classes.whole a.a a.b _ _ e.slots c.slot_place-row.ensures.0
    (led (goal.at.returns-in_default-clause-clean_row c).After-slot_place-lead) d b (c.in_default.ensures d b)

pub part_at-requires-clause-fact : goal.part_at-requires-clause-fact
part_at-requires-clause-fact c =
    let a = c.args in
    let m = a.machine.now in
    let e = c.requires in
    let h = c.loop-d in
    let d = c.in-Some.d in
    let u = c.in-Some.ensures in
    let z : d % m.states ≡ d = mod-eq_of_lt u.0 in
    rw z (λ q. u.1.there (clean_to m.shape m.table.now h.classes.of m.states a.l e.span e.label h.classes.whole a.a a.b _ _ e.slots c.slot_place-row.ensures.0
    (led (goal.at.part_at-requires-clause-fact c).After-slot_place-lead) d u.0 q))

pub loop-d-smaller : goal.loop-d-smaller
loop-d-smaller c =
    omega (arith, room-less c.loop-d.classes.of c.part_at.new.classes.of c.part_at.ensures.refines c.part_at.ensures.fact_2)

pub loop-d-preserved : goal.loop-d-preserved
loop-d-preserved c =
    refines_on c.loop-d.invariant c.part_at.ensures.refines
