-- `both_ways` meets its contract. The invariant: what is left of the set is still to be walked.
use Rattle.words.proofs.Vocabulary.{◌≡◌}
use Rattle.words.proofs.Members.{walk_first, walk-next, walk-last, below-without}
use Rattle.table.proofs.rows.Steps.both_ways.Goals as goal

pub loop-i-init : goal.loop-i-init
loop-i-init c =
    let e : c.into_iter-i-iterator.result.rest ≡ c.args.s = cc in (rw e c.requires.0, walk_first e, walk_first e)

pub with_steps-left-requires : goal.with_steps-left-requires
with_steps-left-requires c =
    let i = c.in-Some.ensures.steps.0 in (c.loop-i.invariant.0 _ i.top i.is, c.requires.1)

pub with_steps-right-requires : goal.with_steps-right-requires
with_steps-right-requires c =
    let i = c.in-Some.ensures.steps.0 in (c.requires.1, c.loop-i.invariant.0 _ i.top i.is)

pub loop-i-preserved : goal.loop-i-preserved
loop-i-preserved c =
    let h = c.loop-i.invariant in
    let o = c.in-Some.ensures.steps in
    (below-without h.0 o.1, walk-next h.1 o.0.top o.1 c.with_steps-left.ensures, walk-next h.2 o.0.top o.1 c.with_steps-right.ensures)

pub returns-clause-left : goal.returns-clause-left
returns-clause-left c =
    walk-last c.in-None.ensures.steps c.loop-i.invariant.1

pub returns-clause-right : goal.returns-clause-right
returns-clause-right c =
    walk-last c.in-None.ensures.steps c.loop-i.invariant.2
