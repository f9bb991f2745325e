-- `join_plane` meets its contract. The invariant: what was right up to the plane is right up to its row b.
use Rattle.words.proofs.Vocabulary.{ℕ, ◌≡◌, ◌∙◌, subst, arith}
use Rattle.layout.specs.Slots.{range_of, slot_place}
use Rattle.joining.specs.Rewriting.{joined_byte, Rewritten}
use Rattle.joining.proofs.Leads.{few_lead}
use Rattle.joining.proofs.Rewrites.{row_next, plane_end, plane_up}
use Rattle.joining.proofs.entries.join_plane.Goals as goal

pub loop-b-preserved : goal.loop-b-preserved
loop-b-preserved c =
    let e = c.requires in
    let a = c.args in
    let r = a.names.now in
    let h = c.loop-b in
    let w = c.join_row.ensures in (
      w.long ∙ h.invariant.0,
      record { shape = e.0.shape; whole = omega (arith, h.invariant.1.whole, w.long); few = e.0.few },
      λ bits o old v. row_next a.s e.0.shape r.count r.states r.first r.number r.leaders bits e.0.few a.l a.a h.b old h.table c.join_row.new.table o (few_lead r.leaders)
          (record { first = e.2; second = omega (arith, c.range-b-end.ensures) }) w (h.invariant.2 bits o old v),
    )

pub returns-clause-by_index : goal.returns-clause-by_index
returns-clause-by_index c = λ bits o old v.
    let h = c.loop-b in
    let a = c.args in
    let r = a.names.now in
    let e = c.requires in
    let z : h.b ≡ range_of a.s.branches 1 r.states = omega (arith, c.range-b-end.ensures) in
    plane_end a.s e.0.shape r.count r.states r.first r.number r.leaders bits e.0.few a.l a.a old h.table
    (subst (λ (i : ℕ). Rewritten (joined_byte a.s bits r.states r.count r.first r.number old) (slot_place a.s a.l a.a i 0) old h.table) z (h.invariant.2 bits o old v))
    (plane_up a.s e.0.shape r.states e.0.few a.l a.a)
