-- `round` meets its contract. The invariant: if nothing is parted yet, the labels below l are clean.
use Rattle.words.proofs.Vocabulary.{◌<◌, arith}
use Rattle.layout.specs.Shape.{labels_in}
use Rattle.table.specs.Entry.{seen}
use Rattle.joining.specs.Parting.{RespectedBy}
use Rattle.joining.specs.Machines.{step_in, PartsBy}
use Rattle.joining.proofs.Parts.{refines_self, refines_on, refines_for}
use Rattle.joining.proofs.Sweeps.{labels_next, single-clean}
use Rattle.joining.proofs.parting.round.Goals as goal
use Rattle.joining.proofs.parting.round.Goals.{then-l-looks, else-l-looks}

pub returns-then-all_single-clause-clean_by : goal.returns-then-all_single-clause-clean_by
returns-then-all_single-clause-clean_by c = λ e.
    let m = c.args.machine.now in
    single-clean (step_in m) m.shape.branches m.states c.loop-l.classes.of c.args.looks (labels_in m.shape) (c.all_single.ensures c.if-all_single.true)

pub loop-l-preserved : goal.loop-l-preserved
unfolding seen
loop-l-preserved c =
    let h = c.loop-l in
    let a = c.args in
    let m = a.machine.now in
    elim c.if-l-looks.branch [
      | then-l-looks w ↦
          let hl : h.l < labels_in m.shape = omega (arith, c.labels-l-end.ensures.0) in
          let r = refines_for {B = RespectedBy (step_in m) m.shape.branches m.states a.looks (labels_in m.shape)} (λ name R. R h.l hl w.if-l-looks.true)
          w.part_label.ensures.refines in
          rw w.classes-is (
            refines_on h.invariant.0 r,
            labels_next m.shape m.table.now m.states m.span h.invariant.0 r a.looks h.l h.invariant.1 (λ o. w.part_label.ensures.clean_label),
          )
      | else-l-looks w ↦
          let same : PartsBy m a.looks h.classes.of h.classes.of = refines_self h.classes.whole in
          rw w.classes-is (
            h.invariant.0,
            labels_next m.shape m.table.now m.states m.span h.invariant.0 same a.looks h.l h.invariant.1 (λ o. absurd (omega (arith, w.if-l-looks.false))),
          )
    ]
