-- `joined` meets its contract. The invariant: the sets before the index are in.
use Rattle.words.proofs.Vocabulary.{◌≡◌, add-one, get_or, take, get_or-take, arith}
use Rattle.words.specs.Word.{any}
use Rattle.words.proofs.WordLaws.{mem-zero}
use Rattle.table.proofs.rows.joined.Goals as goal

pub loop-s-init : goal.loop-s-init
unfolding any
loop-s-init c =
    mem-zero

pub loop-s-preserved : goal.loop-s-preserved
unfolding any
loop-s-preserved c q =
    let h = c.loop-s in
    let here : get_or (take c.args.n c.args.sets.now) h.s-index 0 ≡ get_or c.args.sets.now h.s-index 0 = get_or-take c.args.n c.args.sets.now h.s-index 0 (omega arith) in
    rw (c.union-r.ensures q, h.invariant q, add-one, here)

pub returns : goal.returns
returns c =
    let h = c.loop-s in let e : h.s-index ≡ c.args.n = omega arith in rw e at h.invariant
