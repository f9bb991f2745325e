-- `enter_known` meets its contract. The invariant: the pairs of k with the states below i have their entries, both ways.
use Rattle.words.proofs.Vocabulary.{◌≡◌, arith}
use Rattle.layout.specs.Shape.{nil}
use Rattle.exploring.specs.Explore.{row}
use Rattle.exploring.proofs.Pairs.{begun, known_both}
use Rattle.exploring.proofs.enter_known.Goals as goal

pub loop-i-init : goal.loop-i-init
unfolding row
loop-i-init c =
    let p = c.requires in begun 0 p.plan_room p.visitable p.serves (omega arith) nil

pub returns-in_default-clause-visited : goal.returns-in_default-clause-visited
returns-in_default-clause-visited c =
    c.loop-i.invariant.visited

pub returns-in_default-locate-clause-visited : goal.returns-in_default-locate-clause-visited
returns-in_default-locate-clause-visited c =
    c.loop-i.invariant.visited

pub loop-i-preserved : goal.loop-i-preserved
loop-i-preserved c =
    let one = c.enter in
    let two = c.enter-in-loop-i in
    known_both c.loop-i.invariant c.loop-i-test.true c.in-Some.ensures one.ensures one.auto.ws c.in-Some-locate.ensures two.ensures two.auto.ws

pub returns-in-Some-locate-clause-visited : goal.returns-in-Some-locate-clause-visited
returns-in-Some-locate-clause-visited c =
    let h : c.loop-i.i ≡ c.args.k = omega arith in
    let one = c.enter in
    let two = c.enter-in-loop-i in
    rw h at (known_both c.loop-i.invariant c.loop-i-test.true c.in-Some.ensures one.ensures one.auto.ws c.in-Some-locate.ensures two.ensures two.auto.ws).visited
