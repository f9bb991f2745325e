-- `part_plane` meets its contract. The invariant: if nothing is parted yet, the rows from b on are clean.
use Rattle.words.proofs.Vocabulary.{◌-◌, arith}
use Rattle.joining.proofs.Parts.{refines_on}
use Rattle.joining.proofs.Sweeps.{rows_next}
use Rattle.joining.proofs.parting.part_plane.Goals as goal

pub loop-b-preserved : goal.loop-b-preserved
loop-b-preserved c =
    let a = c.args in
    let m = a.machine.now in
    let h = c.loop-b in
    let w = c.part_row.ensures in (
      refines_on h.invariant.0 w.refines,
      rows_next m.shape m.table.now m.states m.span a.l a.a c.requires.1 h.invariant.0 w.refines (h.b - 1) h.b (omega (arith, c.range-b.ensures)) h.invariant.1 w.clean_row
          (omega arith),
    )
