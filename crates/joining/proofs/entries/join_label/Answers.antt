-- `join_label` meets its contract. The invariant: what was right up to the label is right up to its plane a.
use Rattle.words.proofs.Vocabulary.{ℕ, ◌≡◌, subst, arith}
use Rattle.layout.specs.Slots.{range_of, slot_place}
use Rattle.joining.specs.Rewriting.{joined_byte, Rewritten}
use Rattle.joining.proofs.Rewrites.{label-end, label_up}
use Rattle.joining.proofs.entries.join_label.Goals as goal

pub returns-clause-by_index : goal.returns-clause-by_index
returns-clause-by_index c = λ bits o old v.
    let h = c.loop-a in
    let a = c.args in
    let r = a.names.now in
    let e = c.requires in
    let z : h.a ≡ range_of a.s.branches 2 r.states = omega (arith, c.range-a-end.ensures) in
    label-end a.s e.0.shape r.count r.states r.first r.number r.leaders bits e.0.few a.l old h.table
    (subst (λ (i : ℕ). Rewritten (joined_byte a.s bits r.states r.count r.first r.number old) (slot_place a.s a.l i 0 0) old h.table) z (h.invariant.2 bits o old v))
    (label_up a.s e.0.shape r.states e.0.few a.l)
