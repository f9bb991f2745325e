-- `Stack::push` meets its contract. Assumes nothing.
use Prim.Native.Nat.{ℕ}
use borrow.Author.Rules.{rules}
use mathlib.Core.Path.{◌≡◌, ap, ◌∙◌}
use mathlib.Core.List.{List, ◌∷◌}
use native.Mathlib.Omega.{arith}
use lib.ListN.{length}
use Rattle.parts.proofs.Stacks.{top-length, top-push}
use Rattle.parts.proofs.stack.Stack.push.Goals as goal

pub bounds-self-inside-self-inside : goal.bounds-self-inside-self-inside
bounds-self-inside-self-inside c = omega (arith, top-length c.self.inside.entries c.self.inside.depth, ap length c.self.view_is)

pub invariant_of-self : goal.invariant_of-self
invariant_of-self c = omega (arith, top-length c.self.inside.entries c.self.inside.depth, ap length c.self.view_is)

pub returns : goal.returns
returns c =
    let q = c.self.inside in
    let l : length q.entries ≡ 128 = search rules in
    top-push q.entries c.args.i q.depth (omega (arith, top-length q.entries q.depth, ap length c.self.view_is)) ∙ ap (λ (s : List ℕ). c.args.i ∷ s) c.self.view_is
