-- `visit_ring` meets its contract. The invariant: the pairs of k with those up to it have their entries under the labels below l.
use Rattle.words.proofs.Vocabulary.{ℕ, ◌≤◌, ◌<◌, ◌+◌, ◌≡◌, ◌∙◌, refl, sym, subst, List, [], length, take, arith}
use Rattle.layout.specs.Shape.{labels_in, nil}
use Rattle.table.specs.Entry.{seen}
use Rattle.table.specs.Rows.{RowsReady}
use Rattle.table.specs.Succ.{PlanRoom, succ_in}
use Rattle.ops.specs.declared.Op.TheVariants.{Exists}
use Rattle.table.specs.declared.plan.Plan.{Plan}
use Rattle.exploring.specs.Explore.{row, ring}
use Rattle.exploring.specs.Filling.{Guided, listed, Visitable, Visited}
use Rattle.exploring.specs.declared.Builder.{Builder}
use Rattle.exploring.proofs.Fill.{visited-after, visited-idle}
use Rattle.exploring.proofs.Guide.{ring-guided, guided-apart, guided-ready}
use Rattle.exploring.proofs.Loops.{ring-next, ring_stopped, label-passed}
use Rattle.exploring.proofs.Steps.{Sized}
use Rattle.exploring.proofs.visit_ring.Invariants.{Turn}
use Rattle.exploring.proofs.visit_ring.Goals as goal
use Rattle.exploring.proofs.visit_ring.Goals.{then-l-p+in-Some, then-l-p+in_default, else-l-p}

-- the row of label l, while the builder has no more codes than it may have
module _ {ws₀ ws : List ℕ} {p : Plan} {b r : Builder} {k l : ℕ} (t : Turn ws₀ ws p b r k l)
    (few : r.count ≤ p.shape.ceiling) (hl : l < labels_in p.shape) where
  abbrev low : List ℕ
  low = take p.base ws₀

  there : k < r.count
  there = omega (arith, t.state, t.visited.more)

  sized : Sized p.shape.ceiling r
  sized = record { full = t.full; top = t.sized.top; few = few }

  guided : Guided low p (listed p.shape.ceiling r)
  guided = ring-guided low p t.room.ranged.shape k l t.sized sized (omega (arith, hl)) t.visited t.guided

  ready : p.kind ≡ Exists → RowsReady p.shape (take p.base ws) p.table1 p.wx l r.codes k
  ready e = rw t.visited.kept.low (guided-ready low p t.room.ranged.shape sized guided t.room.ranged l k hl there e)

  can-visit : l ≤ seen p.looks l → Visitable p r l k
  can-visit own = record { label = hl; own = own; state = there; few = few; distinct = guided-apart low p t.room.ranged.shape sized guided }

pub loop-l-init : goal.loop-l-init
unfolding ring
loop-l-init c =
    let p = c.requires in
    let full : length c.args.b.codes ≡ 64 = omega arith in
    record {
      state = p.k_lt_count.0;
      sized = record { full = full; top = p.plan_room.ranged.shape.ceiling; few = p.k_lt_count.1 };
      guided = p.guided;
      long = refl;
      room = p.plan_room;
      full = full;
      visited = visited-idle [] (omega (arith, p.k_lt_count.1)) nil;
    }

pub rows_of-requires-clause-rows_ready : goal.rows_of-requires-clause-rows_ready
rows_of-requires-clause-rows_ready c =
    ready c.loop-l.invariant c.if-p-r.false (omega (arith, c.labels-l-end.ensures.0))

pub enter_known-requires-clause-visitable : goal.enter_known-requires-clause-visitable
unfolding seen
enter_known-requires-clause-visitable c =
    can-visit c.loop-l.invariant c.if-p-r.false (omega (arith, c.labels-l-end.ensures.0)) c.if-l-p.true

pub visit_pairs-r-requires : goal.visit_pairs-r-requires
unfolding seen
visit_pairs-r-requires c =
    let i = c.loop-l.invariant in
    let v = can-visit i c.if-p-r.false (omega (arith, c.labels-l-end.ensures.0)) c.if-l-p.true in
    let f = c.in-Some.ensures.visited in
    record {
      plan_room = subst (PlanRoom _) (sym c.enter_known.auto.ws) i.room;
      visitable = (v, c.in-Some.ensures.upper_bound);
      each = rw f.kept.low f.cells;
      serves = rw f.kept.low c.rows_of.ensures.serves;
    }

pub loop-l-preserved : goal.loop-l-preserved
unfolding seen
loop-l-preserved c =
    let h = c.loop-l in
    let i = h.invariant in
    let new = c.if-l-p in
    let a = c.args in
    let turn : (length new.ws ≡ length h.ws) × (length new.r.codes ≡ 64)
    × Visited (succ_in a.ws.now a.p) a.p (row h.l a.k (a.k + 1)) h.r new.r h.ws new.ws =
    elim new.branch [
      | then-l-p+in-Some w ↦
          let e = w.enter_known in
          let known = rw i.visited.kept.low at w.in-Some.ensures.visited in
          let v = w.visit_pairs-r in
          let long : length v.result.codes ≡ 64 = omega arith in
          let rowed = rw (known.kept.low, i.visited.kept.low) at v.ensures in
          rw (w.ws-is, w.r-is) (v.auto.ws ∙ e.auto.ws, long, visited-after known rowed)
      | then-l-p+in_default w ↦
          let known = rw i.visited.kept.low at w.in_default.ensures.visited in
          rw (w.ws-is, w.r-is) (w.enter_known.auto.ws, i.full, known)
      | else-l-p w ↦
          let passed = label-passed a.k h.l (i.room.blind (take a.p.base a.ws.now)) i.visited.most w.if-l-p.false i.visited.cells in
          rw (w.ws-is, w.r-is) (refl, i.full, passed)
    ] in
    record {
      state = i.state;
      sized = i.sized;
      guided = i.guided;
      long = turn.0 ∙ i.long;
      room = subst (PlanRoom a.p) (sym turn.0) i.room;
      full = turn.1;
      visited = ring-next a.k h.l i.visited turn.2;
    }

pub returns-then-p-r : goal.returns-then-p-r
returns-then-p-r c =
    ring_stopped _ _ _ (omega (arith, c.labels-l-end.ensures.0)) c.if-p-r.true c.loop-l.invariant.visited

pub returns : goal.returns
returns c =
    let h = c.loop-l in
    let e : h.l ≡ labels_in c.args.p.shape = omega (arith, c.labels-l-end.ensures.0) in
    rw e at h.invariant.visited
