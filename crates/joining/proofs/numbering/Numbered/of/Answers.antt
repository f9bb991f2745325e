-- `of` meets its contract. The invariant: the states below q are numbered.
use Rattle.words.proofs.Vocabulary.{◌≡◌, ◌∙◌, refl, sym, add-one, arith}
use Rattle.logic.specs.Reach.{select}
use Rattle.logic.specs.Joined.{classes, numbers}
use Rattle.joining.specs.Classes.{class_in}
use Rattle.joining.proofs.Leads.{Counted, count-leader, count-other, first_lead}
use Rattle.joining.proofs.numbering.Numbered.of.Goals as goal
use Rattle.joining.proofs.numbering.Numbered.of.Goals.{then-g-q, else-g-q}

pub loop-q-init : goal.loop-q-init
unfolding classes numbers select
loop-q-init c =
    (omega arith, record { counted = refl; room = refl; space = refl; firsts = λ i h. absurd (omega arith); numbers = λ r h. absurd (omega arith) })

pub loop-q-preserved : goal.loop-q-preserved
loop-q-preserved c =
    let a = c.args in
    let h = c.loop-q in
    let W = a.classes.now.whole in
    let G = a.classes.now.of in
    let v : c.leader-g.result ≡ class_in G h.q = c.leader-g.ensures in
    elim c.if-g-q.branch [
      | then-g-q w ↦ rw (w.first-is, w.number-is, w.m-is, add-one h.q) (
        omega (arith, h.invariant.0),
        count-leader a.n G h.first h.number h.m h.q c.requires W c.loop-q-test.true h.invariant.1 (sym v ∙ w.if-g-q.true),
      )
      | else-g-q w ↦ rw (w.first-is, w.number-is, w.m-is, v, add-one h.q) (
        omega (arith, h.invariant.0),
        count-other a.n G h.first h.number h.m h.q c.requires W c.loop-q-test.true h.invariant.1 (λ e. w.if-g-q.false (v ∙ e)),
      )
    ]

pub invariant_of-result : goal.invariant_of-result
invariant_of-result c =
    let h = c.loop-q in
    let a = c.args in
    let z : h.q ≡ a.n = omega arith in
    let w : Counted a.classes.now.of h.first h.number h.m a.n = rw z at h.invariant.1 in
    record { few = c.requires; leaders = first_lead a.n h.m a.classes.now.of h.first a.classes.now.whole w.counted w.firsts }
