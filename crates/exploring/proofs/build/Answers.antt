-- `build` meets its contract. The invariant: the states below k are paired with each other.
use Rattle.words.proofs.Vocabulary.{◌≤◌, ◌≡◌, ◌∙◌, refl, sym, subst, inl, inr, [], length, le-leb, arith}
use Rattle.layout.specs.Shape.{nil}
use Rattle.table.specs.Succ.{PlanRoom}
use Rattle.exploring.specs.Explore.{rings}
use Rattle.exploring.proofs.Fill.{visited-idle}
use Rattle.exploring.proofs.Guide.{ring-guided}
use Rattle.exploring.proofs.Loops.{rings-next, explored}
use Rattle.exploring.proofs.build.Goals as goal

pub loop-k-init : goal.loop-k-init
unfolding rings
loop-k-init c =
    let shape = c.requires.plan_room.ranged.shape in
    record {
      within = omega arith;
      long = refl;
      room = c.requires.plan_room;
      full = refl;
      found = omega arith;
      guided = λ few. rw (le-leb 1 c.args.p.shape.ceiling shape.some-state) c.requires.guided;
      visited = visited-idle [] (omega (arith, shape.some-state)) nil;
    }

pub visit_ring-b-requires-clause-guided : goal.visit_ring-b-requires-clause-guided
visit_ring-b-requires-clause-guided c =
    let i = c.loop-k.invariant in rw i.visited.kept.low (i.guided c.if-p-b.false)

pub loop-k-preserved : goal.loop-k-preserved
loop-k-preserved c =
    let p = c.args.p in
    let h = c.loop-k in
    let i = h.invariant in
    let t = c.loop-k-test.true in
    let few : h.b.count ≤ p.shape.ceiling = omega arith in
    let v = c.visit_ring-b in
    let shape = i.room.ranged.shape in
    let full : length v.result.codes ≡ 64 = omega arith in
    let turn = rw i.visited.kept.low at v.ensures in
    record {
      within = omega arith;
      long = v.auto.ws ∙ i.long;
      room = subst (PlanRoom p) (sym v.auto.ws) i.room;
      full = full;
      found = omega (arith, turn.more);
      guided = λ few₁.
          ring-guided _ p shape h.k _ (record { full = i.full; top = shape.ceiling; few = few })
          (record { full = full; top = shape.ceiling; few = few₁ }) (omega arith) turn (i.guided few);
      visited = rings-next _ h.k i.visited turn;
    }

pub returns-then-p-b : goal.returns-then-p-b
returns-then-p-b c =
    let i = c.loop-k.invariant in explored _ i.room.ranged.shape i.within (inr c.if-p-b.true) i.visited

pub returns : goal.returns
returns c =
    let i = c.loop-k.invariant in explored _ i.room.ranged.shape i.within (inl (omega arith)) i.visited
