-- `search::settle` meets its contract.
use Rattle.words.proofs.Vocabulary.{◌<◌, refl, sym, ◌∙◌, arith}
use Rattle.search.proofs.RoundLaws.{round_first, round_ready, round_end, round_none, round_larger, round_stepped, round_target, round_small}
use Rattle.search.proofs.RoundLaws.{round_shown', round_more}
use Rattle.search.proofs.settle.Goals as goal

pub loop-n-init : goal.loop-n-init
loop-n-init c = rw c.first-settled.ensures (record { round = round_first c.requires.whole; turns = refl })

pub scan-requires : goal.scan-requires
scan-requires c = round_ready c.requires.whole c.loop-n.invariant.round c.requires.p_bound

pub returns-in_default : goal.returns-in_default
returns-in_default c = round_none c.requires.whole c.loop-n.invariant.round (omega arith) c.in_default.ensures

pub returns-then-p-pick : goal.returns-then-p-pick
returns-then-p-pick c = round_larger c.requires.whole c.loop-n.invariant.round (omega arith) c.in-Some.ensures c.if-p-pick.true

pub step-q-requires : goal.step-q-requires
step-q-requires c = round_stepped c.requires.whole c.loop-n.invariant.round (omega arith) c.in-Some.ensures

pub add-requires : goal.add-requires
add-requires c =
    let w = c.loop-n.invariant.round in
    let more : c.loop-n.settled.ranks.count < c.args.count = omega arith in
    round_small c.requires.whole w more c.in-Some.ensures (round_target c.requires.whole w more c.in-Some.ensures c.step-q.ensures)

pub has-requires : goal.has-requires
has-requires c =
    let w = c.loop-n.invariant.round in
    let more : c.loop-n.settled.ranks.count < c.args.count = omega arith in
    (round_small c.requires.whole w more c.in-Some.ensures (round_target c.requires.whole w more c.in-Some.ensures c.step-q.ensures)).1

pub returns-then-has : goal.returns-then-has
returns-then-has c =
    let w = c.loop-n.invariant.round in
    let more : c.loop-n.settled.ranks.count < c.args.count = omega arith in
    rw c.add.ensures
    (round_shown' c.requires.whole w more c.in-Some.ensures (round_target c.requires.whole w more c.in-Some.ensures c.step-q.ensures)
    c.if-p-pick.false (sym c.has.ensures ∙ c.if-has.true))

pub loop-n-preserved : goal.loop-n-preserved
loop-n-preserved c =
    let w = c.loop-n.invariant.round in
    let more : c.loop-n.settled.ranks.count < c.args.count = omega arith in
    rw c.add.ensures (record {
      round = round_more c.requires.whole w more c.in-Some.ensures (round_target c.requires.whole w more c.in-Some.ensures c.step-q.ensures)
          c.if-p-pick.false (sym c.has.ensures ∙ c.if-has.false);
      turns = omega arith;
    })

pub returns : goal.returns
returns c = round_end c.requires.whole c.loop-n.invariant.round (omega arith)
