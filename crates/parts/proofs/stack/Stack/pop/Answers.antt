-- `Stack::pop` meets its contract. Assumes nothing.
use mathlib.Core.Path.{◌≡◌, refl, sym, ◌∙◌}
use mathlib.Core.List.{[]}
use native.Mathlib.Omega.{arith}
use Rattle.parts.specs.Stack.{top_first}
use Rattle.parts.proofs.Stacks.{top-pop}
use Rattle.parts.proofs.stack.Stack.pop.Goals as goal

pub returns-then-self-eq0 : goal.returns-then-self-eq0
unfolding top_first
returns-then-self-eq0 c =
    let e : c.args.self.now ≡ [] = sym c.self.view_is ∙ rw c.if-self-eq0.true refl in
    (e, e)

pub returns : goal.returns
returns c = sym c.self.view_is ∙ top-pop c.self.inside.entries c.self.inside.depth (omega arith) ∙ rw (← c.from.ensures) refl
