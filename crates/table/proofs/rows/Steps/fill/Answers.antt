-- `fill` meets its contract. The invariant: the rows are right at each member of `seen` that is gone from what is left.
use Rattle.words.proofs.Vocabulary.{◌≡◌, arith}
use Rattle.words.proofs.Members.{below-without}
use Rattle.table.proofs.RowLaws.{filling_first, filling_next, filling_last}
use Rattle.table.proofs.rows.Steps.fill.Goals as goal

pub loop-t-init : goal.loop-t-init
loop-t-init c =
    let e : c.into_iter-t-iterator.result.rest ≡ c.args.seen = cc in
    (rw e c.requires.1, filling_first e (record { left-long = omega arith; right-long = omega arith }))

pub both_ways-b-requires : goal.both_ways-b-requires
both_ways-b-requires c =
    let t = c.in-Some.ensures.steps.0 in (c.requires.0, c.loop-t.invariant.0 _ t.top t.is)

pub loop-t-preserved : goal.loop-t-preserved
loop-t-preserved c =
    let h = c.loop-t.invariant in
    let b = c.both_ways-b in
    let o = c.in-Some.ensures.steps in
    (below-without h.0 o.1, filling_next b.result.left b.result.right o.0.top h.1 o.1 b.ensures.left b.ensures.right)

pub returns : goal.returns
returns c =
    filling_last c.in-None.ensures.steps c.loop-t.invariant.1
