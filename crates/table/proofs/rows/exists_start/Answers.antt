-- `exists_start` meets its contract. The invariant: the set has grown as often as the loop has turned.
use Rattle.words.proofs.Vocabulary.{◌≡◌, ◌∙◌, refl, sym, arith}
use Rattle.table.specs.Succ.{closing, exists_start}
use Rattle.table.proofs.Start.{closed-early, grows, closing-below}
use Rattle.table.proofs.rows.exists_start.Goals as goal

pub loop-d-init : goal.loop-d-init
unfolding closing
loop-d-init c =
    refl

pub followers-requires : goal.followers-requires
followers-requires c =
    let a = c.args in
    let h = c.loop-d in
    let i = c.requires.by_index.1 in
    let below = rw (← h.invariant) at (closing-below a.low.now a.p c.requires.by_index.0 c.requires.ranged.shape i h._d) in
    λ q hq m. omega (arith, i.few, below q hq m)

pub returns-then-t-s : goal.returns-then-t-s
returns-then-t-s c =
    let h = c.loop-d in
    let g = grows c.args.low.now c.args.p h._d c.requires.ranged.shape h.invariant (omega arith) c.followers.ensures c.union-t.ensures in
    h.invariant ∙ closed-early c.args.low.now c.args.p h._d (omega arith) (sym g ∙ c.if-t-s.true ∙ h.invariant)

pub loop-d-preserved : goal.loop-d-preserved
loop-d-preserved c =
    grows c.args.low.now c.args.p c.loop-d._d c.requires.ranged.shape c.loop-d.invariant (omega arith) c.followers.ensures c.union-t.ensures

pub returns : goal.returns
unfolding exists_start
returns c =
    let h = c.loop-d in
    let e : h._d ≡ 64 = omega arith in
    rw e at h.invariant
