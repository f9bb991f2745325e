-- `total` meets its contract. The invariant: the sum of the classes of the states so far.
use Rattle.words.proofs.Vocabulary.{◌≡◌, ◌∙◌, refl, ap, add-one, arith}
use Rattle.joining.specs.Parting.{total}
use Rattle.joining.proofs.classes.Classes.total.Goals as goal

pub loop-class-init : goal.loop-class-init
unfolding total
loop-class-init c = (refl, omega arith)

pub loop-class-preserved : goal.loop-class-preserved
unfolding total
loop-class-preserved c =
    let h = c.loop-class in
    let v = c.from-sum.ensures in
    (rw (add-one h.class-index) (omega (arith, h.invariant.0)), omega (arith, h.invariant.1, c.args.self.now.whole.low h.class-index))

pub returns : goal.returns
returns c =
    let h = c.loop-class in
    let e : h.class-index ≡ 64 = omega arith in
    h.invariant.0 ∙ ap (total c.args.self.now.of) e
