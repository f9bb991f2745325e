-- `visit_pairs` meets its contract. The invariant: the pairs of k with the states below i have their entries, both ways.
use Rattle.words.proofs.Vocabulary.{◌≡◌, length, get_or, arith}
use Rattle.exploring.proofs.Fill.{PutIn, is_put, was_there, can_put}
use Rattle.exploring.proofs.Pairs.{can_note, made_first, made_both, begun}
use Rattle.exploring.proofs.visit_pairs.Goals as goal
use Rattle.exploring.proofs.visit_pairs.Goals.{then-note, else-note, then-note-2, else-note-2}

pub loop-i-init : goal.loop-i-init
loop-i-init c =
    let p = c.requires in begun c.args.n p.plan_room p.visitable.0 p.serves (omega arith) p.each

pub note-requires : goal.note-requires
note-requires c =
    let can = can_note c.loop-i.invariant _ _ c.loop-i-test.true (omega arith) in
    record { plan_room = can.0; l_bound = can.1.0; distinct_codes = can.1.1 }

pub put-r-requires : goal.put-r-requires
put-r-requires c =
    let can = can_put (rw c.if-note.true at c.note.ensures) c.loop-i.invariant.sized.top in record { count_le_c = can.0; new = can.1 }

pub note-requires-in-loop-i : goal.note-requires-in-loop-i
note-requires-in-loop-i c =
    let i = c.loop-i in
    let h = c.loop-i-test.true in
    let put : PutIn c.args.p.shape.ceiling (get_or c.args.rows.now.right i.i 0) i.r c.note.result c.if-note.r =
    elim c.if-note.branch [
      | then-note w ↦ let long : length w.put-r.result.codes ≡ 64 = omega arith in rw (w.if-note.true, w.r-is) (is_put long w.put-r.ensures)
      | else-note w ↦ rw w.if-note.false (was_there w.r-is)
    ] in
    let can = can_note (made_first i.invariant h c.note.ensures c.note.auto.ws put) _ _ (omega arith) h in
    record { plan_room = can.0; l_bound = can.1.0; distinct_codes = can.1.1 }

pub put-r-requires-then-note-2 : goal.put-r-requires-then-note-2
put-r-requires-then-note-2 c =
    let can = can_put (rw c.if-note-2.true at c.note-in-loop-i.ensures) c.loop-i.invariant.sized.top in record { count_le_c = can.0; new = can.1 }

pub loop-i-preserved : goal.loop-i-preserved
loop-i-preserved c =
    let i = c.loop-i in
    let h = c.loop-i-test.true in
    let two = c.note-in-loop-i in
    let put : PutIn c.args.p.shape.ceiling (get_or c.args.rows.now.right i.i 0) i.r c.note.result c.if-note.r =
    elim c.if-note.branch [
      | then-note w ↦ let long : length w.put-r.result.codes ≡ 64 = omega arith in rw (w.if-note.true, w.r-is) (is_put long w.put-r.ensures)
      | else-note w ↦ rw w.if-note.false (was_there w.r-is)
    ] in
    let put₂ : PutIn c.args.p.shape.ceiling (get_or c.args.rows.now.left i.i 0) c.if-note.r two.result c.if-note-2.r =
    elim c.if-note-2.branch [
      | then-note-2 w ↦
          let v = w.put-r-then-note-2 in let long : length v.result.codes ≡ 64 = omega arith in rw (w.if-note-2.true, w.r-is) (is_put long v.ensures)
      | else-note-2 w ↦ rw w.if-note-2.false (was_there w.r-is)
    ] in
    made_both i.invariant h c.note.ensures c.note.auto.ws put two.ensures two.auto.ws put₂

pub returns-after-note-2 : goal.returns-after-note-2
returns-after-note-2 c =
    let i = c.loop-i in
    let h = c.loop-i-test.true in
    let two = c.note-in-loop-i in
    let last : i.i ≡ c.args.k = omega arith in
    let put : PutIn c.args.p.shape.ceiling (get_or c.args.rows.now.right i.i 0) i.r c.note.result c.if-note.r =
    elim c.if-note.branch [
      | then-note w ↦ let long : length w.put-r.result.codes ≡ 64 = omega arith in rw (w.if-note.true, w.r-is) (is_put long w.put-r.ensures)
      | else-note w ↦ rw w.if-note.false (was_there w.r-is)
    ] in
    let put₂ : PutIn c.args.p.shape.ceiling (get_or c.args.rows.now.left i.i 0) c.if-note.r two.result c.if-note-2.r =
    elim c.if-note-2.branch [
      | then-note-2 w ↦
          let v = w.put-r-then-note-2 in let long : length v.result.codes ≡ 64 = omega arith in rw (w.if-note-2.true, w.r-is) (is_put long v.ensures)
      | else-note-2 w ↦ rw w.if-note-2.false (was_there w.r-is)
    ] in
    rw last at (made_both i.invariant h c.note.ensures c.note.auto.ws put two.ensures two.auto.ws put₂).visited
