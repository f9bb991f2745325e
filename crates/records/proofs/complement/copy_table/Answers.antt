-- `copy_table` meets its contract. The invariant: the labels below l are copied.
use Rattle.words.proofs.Vocabulary.{◌≡◌, arith}
use Rattle.layout.specs.Shape.{labels_in}
use Rattle.table.specs.Entry.{seen}
use Rattle.records.proofs.Copies.{label-passed, label-next}
use Rattle.records.proofs.complement.copy_table.Goals as goal
use Rattle.records.proofs.complement.copy_table.Goals.{then-l-bits, else-l-bits}

pub loop-l-preserved : goal.loop-l-preserved
unfolding seen
loop-l-preserved c =
    let a = c.args in
    let h = c.loop-l in
    elim c.if-l-bits.branch [
      | then-l-bits w ↦
          rw w.ws-is
          (label-next a.s c.requires.shaped c.requires.n_le_ceiling.1 a.bits a.n h.l (omega (arith, c.labels-l-end.ensures.0)) c.requires.n_le_ceiling.0
          w.if-l-bits.true h.invariant w.copy_label.ensures)
      | else-l-bits w ↦
          rw w.ws-is (label-passed a.s c.requires.shaped c.requires.n_le_ceiling.1 a.bits a.n h.l w.if-l-bits.false h.invariant)
    ]

pub returns : goal.returns
returns c =
    let h = c.loop-l in
    let e : h.l ≡ labels_in c.args.s = omega (arith, c.labels-l-end.ensures.0) in
    rw e at h.invariant
