-- `followers` meets its contract. The invariant: what is left of the set is still to be walked.
use Rattle.words.proofs.Vocabulary.{Bool, ◌||◌, ◌≡◌, ◌∙◌, ap}
use Rattle.words.specs.Word.{mem}
use Rattle.words.proofs.Members.{walk_first, walk-next, walk-last, below-without}
use Rattle.table.proofs.rows.Steps.followers.Goals as goal

pub loop-t-init : goal.loop-t-init
loop-t-init c =
    let e : c.into_iter-t-iterator.result.rest ≡ c.args.s = cc in (rw e c.requires, walk_first e)

pub both_ways-requires : goal.both_ways-requires
both_ways-requires c =
    let t = c.in-Some.ensures.steps.0 in (c.requires, c.loop-t.invariant.0 _ t.top t.is)

pub loop-t-preserved : goal.loop-t-preserved
loop-t-preserved c =
    let h = c.loop-t.invariant in
    let o = c.in-Some.ensures.steps in
    (below-without h.0 o.1, walk-next h.1 o.0.top o.1 (λ q. c.union-r.ensures q ∙ ap (λ (v : Bool). mem q c.loop-t.r || v) (c.both_ways.ensures.right q)))

pub returns : goal.returns
returns c =
    walk-last c.in-None.ensures.steps c.loop-t.invariant.1
