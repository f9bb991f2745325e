-- `part_label` meets its contract. The invariant: the classes part those at the start.
use Rattle.words.proofs.Vocabulary.{◌∙◌, sym, arith}
use Rattle.joining.proofs.Parts.{refines_on, total-same, room-left}
use Rattle.joining.proofs.parting.part_label.Goals as goal

pub returns-then-total-before : goal.returns-then-total-before
returns-then-total-before c =
    let h = c.loop-l in
    let w = c.sweep_label.ensures in record {
      refines = refines_on h.invariant w.refines;
      clean_label = w.clean_label (total-same h.classes.of c.sweep_label.new.classes.of 64 w.refines.up (sym c.total-before.ensures ∙ sym c.if-total-before.true ∙ c.total.ensures));
    }

pub loop-l-smaller : goal.loop-l-smaller
loop-l-smaller c =
    omega (
      arith,
      room-left c.loop-l.classes.of c.sweep_label.new.classes.of c.sweep_label.ensures.refines (λ e. c.if-total-before.false (c.total.ensures ∙ e ∙ sym c.total-before.ensures)),
    )

pub loop-l-preserved : goal.loop-l-preserved
loop-l-preserved c =
    refines_on c.loop-l.invariant c.sweep_label.ensures.refines
