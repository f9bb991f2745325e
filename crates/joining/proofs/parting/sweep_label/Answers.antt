-- `sweep_label` meets its contract. The invariant: if nothing is parted yet, the planes from a on are clean.
use Rattle.words.proofs.Vocabulary.{◌-◌, arith}
use Rattle.joining.proofs.Parts.{refines_on}
use Rattle.joining.proofs.Sweeps.{planes_next, label-clean}
use Rattle.joining.proofs.parting.sweep_label.Goals as goal

pub loop-a-preserved : goal.loop-a-preserved
loop-a-preserved c =
    let a = c.args in
    let m = a.machine.now in
    let h = c.loop-a in
    let w = c.part_plane.ensures in (
      refines_on h.invariant.0 w.refines,
      planes_next m.shape m.table.now m.states m.span a.l h.invariant.0 w.refines (h.a - 1) h.a (omega (arith, c.range-a.ensures)) h.invariant.1 w.clean_row (omega arith),
    )

pub returns-clause-clean_label : goal.returns-clause-clean_label
returns-clause-clean_label c = λ e.
    let m = c.args.machine.now in
    label-clean m.shape m.table.now m.states m.span c.loop-a.classes.of c.args.l (λ i l. c.loop-a.invariant.1 e i (omega arith) l)
