-- `join_entries` meets its contract. The invariant: the labels below l are written.
use Rattle.words.proofs.Vocabulary.{ℕ, ◌≡◌, refl, subst, arith}
use Rattle.layout.specs.Shape.{labels_in}
use Rattle.layout.specs.Slots.{slot_place}
use Rattle.table.specs.Entry.{seen}
use Rattle.joining.specs.Rewriting.{joined_byte, Rewritten}
use Rattle.joining.proofs.Rewrites.{label-skip, label_pass, whole-start, whole-end}
use Rattle.joining.proofs.entries.join_entries.Goals as goal
use Rattle.joining.proofs.entries.join_entries.Goals.{then-l-looks, else-l-looks}

pub loop-l-init : goal.loop-l-init
loop-l-init c =
    let e = c.requires in
    (e, record { long = refl; done = λ q h. absurd (omega (arith, whole-start c.args.s e.shape c.args.names.now.states e.few)); rest = λ q h. refl })

pub loop-l-preserved : goal.loop-l-preserved
unfolding seen
loop-l-preserved c =
    let a = c.args in
    let r = a.names.now in
    let e = c.requires in
    let h = c.loop-l in
    elim c.if-l-looks.branch [
      | then-l-looks w ↦ rw w.table-is (
        record { shape = e.shape; whole = omega (arith, h.invariant.0.whole, w.join_label.ensures.table_len_unchanged); few = e.few },
        w.join_label.ensures.by_index a.looks w.if-l-looks.true a.table.now h.invariant.1,
      )
      | else-l-looks w ↦ rw w.table-is (
        h.invariant.0,
        label-skip a.s e.shape r.count r.states r.first r.number r.leaders a.looks e.few h.l a.table.now h.table w.if-l-looks.false h.invariant.1
            (label_pass a.s e.shape r.states e.few h.l),
      )
    ]

pub returns : goal.returns
returns c =
    let h = c.loop-l in
    let a = c.args in
    let r = a.names.now in
    let e = c.requires in
    let z : h.l ≡ labels_in a.s = omega (arith, c.labels-l-end.ensures.0) in
    let value = joined_byte a.s a.looks r.states r.count r.first r.number a.table.now in
    subst (λ (k : ℕ). Rewritten value k a.table.now h.table) (whole-end a.s e.shape r.states e.few)
    (subst (λ (k : ℕ). Rewritten value (slot_place a.s k 0 0 0) a.table.now h.table) z h.invariant.1)
