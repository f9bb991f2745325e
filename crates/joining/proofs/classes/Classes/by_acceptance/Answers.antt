-- `by_acceptance` meets its contract. The invariant: the states below q have their classes.
use mathlib.Core.Bool.{beq}
use Rattle.words.proofs.Vocabulary.{ℕ, ◌≡◌, ◌∙◌, refl, length-set, get_or-set_other, arith, dec_lt, List·getD-eq-default, replicate}
use lib.ListN.{get_or-replicate}
use Rattle.words.specs.Word.{mem}
use Rattle.joining.specs.Classes.{class_in}
use Rattle.joining.proofs.Parts.{first_next, seen-whole}
use Rattle.joining.proofs.classes.Classes.by_acceptance.Goals as goal

zeros : (r : ℕ) → class_in (replicate {A = ℕ} 64 0) r ≡ 0
zeros r = elim (dec_lt r 64) [ yes l ↦ get_or-replicate 64 r 0 0 l | no l ↦ List·getD-eq-default (replicate {A = ℕ} 64 0) 0 {n = r} (omega arith) ]

pub loop-q-init : goal.loop-q-init
loop-q-init c =
    (refl, λ r h. absurd (omega arith), λ r h. zeros r)

pub loop-q-preserved : goal.loop-q-preserved
loop-q-preserved c =
    let a = c.args in
    let h = c.loop-q in
    let v = c.first_like.result in (
      length-set h.of h.q v ∙ h.invariant.0,
      first_next (λ p r. beq (mem p a.accept) (mem r a.accept)) h.of h.q v (omega (arith, h.invariant.0)) h.invariant.1 c.first_like.ensures,
      λ r b. get_or-set_other h.of h.q r v 0 (λ x. omega arith) ∙ h.invariant.2 r (omega arith),
    )

pub invariant_of-result : goal.invariant_of-result
invariant_of-result c =
    let h = c.loop-q in record {
      whole = seen-whole c.args.accept c.args.n h.of
          (record { long = h.invariant.0; states = λ q b. h.invariant.1 q (omega arith); beyond = λ q b. h.invariant.2 q (omega arith) });
    }
