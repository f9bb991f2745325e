-- `settled` meets its contract. The invariant: the classes part those by acceptance.
use Rattle.words.proofs.Vocabulary.{◌∙◌, sym, arith}
use Rattle.joining.proofs.Parts.{seen-accepts, seen-keeps, refines_on, total-same, room-left}
use Rattle.joining.proofs.parting.settled.Goals as goal

pub returns-then-total-last : goal.returns-then-total-last
returns-then-total-last c =
    let h = c.loop-classes in
    let a = c.args in
    let m = a.machine.now in
    let w = c.round.ensures in
    let r = refines_on h.invariant.1 w.refines in
    let first = c.by_acceptance-classes.result.of in
    record {
      whole = r.whole;
      accepts = λ p q hp hq z. seen-accepts a.accept m.states first h.invariant.0 p q hp hq (r.finer p q hp hq z);
      clean = w.clean_by (total-same h.classes.of c.round.new.classes.of 64 w.refines.up (sym c.total-last.ensures ∙ sym c.if-total-last.true ∙ c.total.ensures));
      keeps = λ name t R. r.keeps name R (seen-keeps a.accept m.states first h.invariant.0 name t);
    }

pub loop-classes-smaller : goal.loop-classes-smaller
loop-classes-smaller c =
    omega (
      arith,
      room-left c.loop-classes.classes.of c.round.new.classes.of c.round.ensures.refines (λ e. c.if-total-last.false (c.total.ensures ∙ e ∙ sym c.total-last.ensures)),
    )

pub loop-classes-preserved : goal.loop-classes-preserved
loop-classes-preserved c =
    (c.loop-classes.invariant.0, refines_on c.loop-classes.invariant.1 c.round.ensures.refines)
