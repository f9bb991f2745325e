-- `join_row` meets its contract: the row of the first members leads, and zeros follow.
use Rattle.words.proofs.Vocabulary.{ℕ, ◌≤◌, ◌+◌, ◌-◌, ◌≡◌, ◌∙◌, ap, ap₂, length, get_or, arith}
use Rattle.layout.specs.Slots.{slot_place}
use Rattle.joining.specs.Parting.{state_at}
use Rattle.joining.proofs.Leads.{few_lead}
use Rattle.joining.proofs.Lent.{put_zeros}
use Rattle.joining.proofs.Rows.{slots_small, entry_in, row-start, row_in, third-step}
use Rattle.joining.proofs.Rewrites.{lead-slots, slot_up, joined_in, joined_not, written-clear, written_same}
use Rattle.joining.proofs.entries.join_row.Goals as goal
use Rattle.joining.proofs.entries.join_row.Goals.{After-slot_place-row, else-a-m-via-then-a-m+else-b-m, else-a-m-via-else-a-m}

-- the row lies within the table
space : (c : After-slot_place-row) → c.slot_place-row.result + c.args.names.now.states ≤ length c.args.table.now
space c =
    let a = c.args in
    let e = c.requires in
    omega (arith, c.slot_place-row.ensures.0, row_in a.s a.table.now a.names.now.states a.l e.span e.label a.a a.b e.slots)

pub slot_place-row-requires-clause-l_bound : goal.slot_place-row-requires-clause-l_bound
slot_place-row-requires-clause-l_bound c =
    let a = c.args in
    let n = a.names.now.states in
    let e = c.requires in
    ((slots_small a.s a.table.now n a.l e.span e.label e.slots).2, row-start a.s a.table.now n a.l e.span e.label a.a a.b e.slots)

pub slot_place-lead-requires-clause-l_bound : goal.slot_place-lead-requires-clause-l_bound
slot_place-lead-requires-clause-l_bound c =
    let a = c.args in
    let r = a.names.now in
    let e = c.requires in
    let w = lead-slots a.s e.span.shape r.count r.states r.first r.number r.leaders a.a a.b c.if-a-m.true c.if-b-m.true e.slots in (
      (slots_small a.s a.table.now r.states a.l e.span e.label e.slots).2,
      rw (c.from.ensures, c.from-then-b-m.ensures) (row-start a.s a.table.now r.states a.l e.span e.label _ _ w),
    )

pub write_row-requires : goal.write_row-requires
write_row-requires c =
    let a = c.args in
    let r = a.names.now in
    let e = c.requires in
    let L = r.leaders in
    let ha = c.if-a-m.true in
    let hb = c.if-b-m.true in
    let row = c.slot_place-row.ensures.0 in
    let lead = (c.slot_place-lead.ensures.0 ∙ ap₂ (λ (p q : ℕ). slot_place a.s a.l p q 0) c.from.ensures c.from-then-b-m.ensures) in record {
      in_table = (
        omega (arith, slot_up a.s e.span.shape r.count r.states r.first r.number L a.l a.a a.b 0 _ _ 0 (L.rising a.a ha) (L.rising a.b hb) (omega arith)),
        omega (arith, few_lead L, space (goal.at.write_row-requires c).After-slot_place-row),
      );
      by_index = λ i h. omega (
        arith,
        third-step a.s a.l (get_or r.first a.a 0) (get_or r.first a.b 0) (get_or r.first i 0),
        entry_in a.s a.table.now r.states a.l e.span e.label _ _ (get_or r.first i 0) (lead-slots a.s e.span.shape r.count r.states r.first r.number L a.a a.b ha hb e.slots) (L.within i h),
      );
    }

pub slice_bounds-fill-end : goal.slice_bounds-fill-end
slice_bounds-fill-end c =
    let z : c.slot_place-row.result + c.args.names.now.states ≤ length c.write_row.new.table =
    omega (arith, space (goal.at.slice_bounds-fill-end c).After-slot_place-row, c.write_row.ensures.long) in
    z

pub returns-then-b-m : goal.returns-then-b-m
returns-then-b-m c =
    let a = c.args in
    let r = a.names.now in
    let e = c.requires in
    let m = r.count in
    let n = r.states in
    let row = c.slot_place-row.result in
    let few = few_lead r.leaders in
    let z : row + n - (row + m) ≡ n - m = omega arith in
    let room : row + m + (row + n - (row + m)) ≤ length c.write_row.new.table =
    omega (arith, space (goal.at.returns-then-b-m c).After-slot_place-row, c.write_row.ensures.long) in
    let zeros = put_zeros (row + m) (row + n - (row + m)) c.write_row.new.table c.fill.new.self room (n - m) z (c.fill.ensures.after (λ y e. e)) in
    rw (← c.slot_place-row.ensures.0)
    (written-clear m n few c.write_row.ensures zeros
    (λ d h. ap (λ (p : ℕ). get_or r.number (state_at a.table.now (p + get_or r.first d 0)) 0) (c.slot_place-lead.ensures.0 ∙ ap₂ (λ (p q : ℕ). slot_place a.s a.l p q 0) c.from.ensures c.from-then-b-m.ensures)
    ∙ joined_in a.s e.span.shape m n r.first r.number r.leaders e.span.few a.table.now a.l a.a a.b e.slots c.if-a-m.true c.if-b-m.true d h few)
    (λ d h l. joined_not a.s e.span.shape m n r.first r.number r.leaders e.span.few a.table.now a.l a.a a.b e.slots d l (λ u. omega (arith, u.2))))

pub slice_bounds-fill-end-2 : goal.slice_bounds-fill-end-2
slice_bounds-fill-end-2 c =
    space (goal.at.slice_bounds-fill-end-2 c).After-slot_place-row

pub returns : goal.returns
returns c =
    let a = c.args in
    let r = a.names.now in
    let e = c.requires in
    let n = r.states in
    let row = c.slot_place-row.result in
    let z : row + n - row ≡ n = omega arith in
    let room : row + (row + n - row) ≤ length a.table.now = omega (arith, space (goal.at.returns c).After-slot_place-row) in
    let zeros = put_zeros row (row + n - row) a.table.now c.fill-2.new.self room n z (c.fill-2.ensures.after (λ y e. e)) in
    rw (← c.slot_place-row.ensures.0)
    (written_same n zeros
    (λ d h. joined_not a.s e.span.shape r.count n r.first r.number r.leaders e.span.few a.table.now a.l a.a a.b e.slots d h
    (λ u. elim c.else-a-m.branch [ else-a-m-via-then-a-m+else-b-m w ↦ omega (arith, u) | else-a-m-via-else-a-m w ↦ omega (arith, u) ])))
