-- `run_end` meets its contract. Assumes nothing.
use mathlib.Core.Path.{◌≡◌, sym, ◌∙◌}
use native.Mathlib.Omega.{arith}
use Rattle.tokens.proofs.Reading.{span_more, span-stop, span-end}
use Rattle.tokens.proofs.run_end.Goals as goal

pub returns-then-not-passes : goal.returns-then-not-passes
returns-then-not-passes g c =
    λ p h. sym (c.loop-i.invariant.1 p h ∙ span-stop p _ _ c.loop-i-test.true (sym (h _ _ c.passes.ensures) ∙ c.if-not-passes.true))

pub loop-i-preserved : goal.loop-i-preserved
loop-i-preserved g c =
    (omega arith, λ p h. c.loop-i.invariant.1 p h ∙ span_more p _ _ c.loop-i-test.true (sym (h _ _ c.passes.ensures) ∙ c.if-not-passes.false))

pub returns : goal.returns
returns g c =
    λ p h.
    let e : c.max.result ≡ c.loop-i.i = omega arith in
    e ∙ sym (c.loop-i.invariant.1 p h ∙ span-end p _ _ c.loop-i-test.false)
