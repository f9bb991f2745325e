-- Of each bit: it is the first set one, or the next place is as good a start. Assumes nothing.
use mathlib.Core.Path.{◌≡◌, refl, sym, ◌∙◌}
use native.Mathlib.Omega.{arith}
use Rattle.bits.specs.Bits.{bits}
use Rattle.bits.proofs.Fields.{length-bits}
use Rattle.bits.proofs.Places.{first-here, first-later, first-none}
use Rattle.bits.proofs.first_set.Goals as goal

pub returns-then-bit_at-ne0 : goal.returns-then-bit_at-ne0
returns-then-bit_at-ne0 c =
    first-here (bits c.args.s.now) c.loop-at.at c.args.end (omega arith) (omega (arith, length-bits c.args.s.now))
    (λ e. c.if-bit_at-ne0.true (c.bit_at.ensures.value ∙ e))
    ∙ sym c.loop-at.invariant

pub loop-at-preserved : goal.loop-at-preserved
loop-at-preserved c =
    c.loop-at.invariant
    ∙ first-later (bits c.args.s.now) c.loop-at.at c.args.end (omega arith) (omega (arith, length-bits c.args.s.now))
    (sym c.bit_at.ensures.value ∙ c.if-bit_at-ne0.false)

pub returns : goal.returns
returns c =
    let e : c.loop-at.at ≡ c.args.end = omega arith in
    first-none (bits c.args.s.now) c.args.end c.args.end refl ∙ sym (rw e at c.loop-at.invariant)
