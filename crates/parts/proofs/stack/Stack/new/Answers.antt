-- `Stack::new` meets its contract. Assumes nothing.
use mathlib.Core.Path.{refl}
use Rattle.parts.specs.Stack.{top_first}
use Rattle.parts.proofs.stack.Stack.new.Goals as goal

pub returns : goal.returns
unfolding top_first
returns c = refl
