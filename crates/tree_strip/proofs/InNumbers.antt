-- A refusal of the check, in numbers, names its place. Assumes nothing.
use Prim.Native.Nat.{ℕ}
use mathlib.Core.Path.{◌≡◌, refl}
use mathlib.Core.List.{List}
use Rattle.std.specs.Prelude.{Result, Ok, Err}
use Rattle.refusals.specs.declared.Fault.{Fault}
use Rattle.tree_strip.specs.TreeAnswers.{checked_tree}
use Rattle.tree_strip.specs.Numbers.{tree_numbers, TreeRefusedAt}
use Rattle.tree_strip.specs.declared.check.TreeSize.{TreeSize}
use Rattle.tree_strip.proofs.TreeLaws.{checked_refused}
use Rattle.tree_strip.proofs.TreePlaces.{place-told}

pub tree-refused : (s : List ℕ) (r : Result TreeSize Fault) → r ≡ checked_tree s → TreeRefusedAt s (tree_numbers r)
tree-refused s (Ok t) e z = absurd (z refl)
tree-refused s (Err f) e z = place-told s f (checked_refused s f (rw e))
