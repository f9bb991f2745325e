-- A rule over n variables holds alike for assignments with the same first n sets, for every k. Assumes nothing.
use Prim.Native.Nat.{ℕ}
use mathlib.Core.Path.{sym, subst}
use mathlib.Core.Logic.{◌↔◌}
use mathlib.Core.List.{List}
use native.Mathlib.Omega.{arith}
use lib.Dec.{T}
use Rattle.logic.specs.Meaning.{Assignment, Formula, Valid, Holds}
use Rattle.logic.specs.Tree.{SameSets}
use Rattle.logic.specs.Rule.{Record, last_of, formula_at, Satisfies, Accepted}
use Rattle.logic.specs.Machine.{run}
use Rattle.logic.specs.Trim.{tree_of}
use Rattle.logic.specs.Joined.{joined_table}
use Rattle.logic.proofs.Joined.{joined-right}
use Rattle.logic.proofs.Satisfiable.{holds_iff}
use Rattle.logic.proofs.Assignments.{tree-of, tree-same}
use Rattle.logic.proofs.Rules.{record_valid}

module _ {k : ℕ} (n : ℕ) where
  -- such assignments have one tree, and a machine of the formula accepts it or not
  pub holds-first : (f : Formula k) → Valid n f → (A B : Assignment k) → SameSets n A B → Holds f A ↔ Holds f B
  holds-first f v A B s =
      let M = (joined_table n f).machine in
      let D = (joined-right n f v).1 in
      let e = tree-same n A B (tree_of n A) (tree_of n B) s (tree-of n A) (tree-of n B) in
      let i = holds_iff n M f D A in
      let j = holds_iff n M f D B in (
        λ h. j.0 (subst (λ t. T (M.accepting (run M t))) e (i.1 h)),
        λ h. i.0 (subst (λ t. T (M.accepting (run M t))) (sym e) (j.1 h)),
      )

  pub satisfies_first : (rs : List Record) → Accepted k n rs → (A B : Assignment k) → SameSets n A B → Satisfies rs A ↔ Satisfies rs B
  satisfies_first rs ok = holds-first (formula_at rs (last_of rs)) (record_valid k n rs ok.1 (last_of rs) (let h = ok.0 in omega arith))
