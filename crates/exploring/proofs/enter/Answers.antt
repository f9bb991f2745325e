-- `enter` meets its contract.
use Rattle.words.proofs.Vocabulary.{[], ◌∷◌, arith}
use Rattle.layout.proofs.Places.{pair_in, place-in}
use Rattle.exploring.proofs.enter.Goals as goal

pub bounds-ws-k : goal.bounds-ws-k
bounds-ws-k c =
    let a = c.args in
    let p = c.requires in
    let pair = pair_in a.p.shape p.plan_room.ranged.shape p.l_bound.1 p.l_bound.2 in
    omega (arith, p.plan_room.share, c.place.ensures.0, place-in a.p.shape a.l (a.i ∷ a.j ∷ []) p.l_bound.0 pair)
