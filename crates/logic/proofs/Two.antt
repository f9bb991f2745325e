-- Two branches: what they have is all that there is; a test of every member of a list. Assumes nothing.
use Prim.Native.Nat.{ℕ}
use mathlib.Core.Path.{◌≡◌, refl, sym, subst, fun_ext}
use mathlib.Core.Logic.{⊎_elim}
use mathlib.Core.Bool.{Bool, true, false}
use mathlib.Core.List.{List, [], ◌∷◌}
use native.Mathlib.Omega.{arith}
use lib.Dec.{T, eqb}
use Rattle.logic.specs.Meaning.{Branch}
use Rattle.logic.specs.Machine.{all_of}
use Rattle.logic.specs.Reach.{elem}
use Rattle.logic.specs.Two.{one, two, pair_of}
use Rattle.logic.proofs.Places.{true→T, neqb, branch_eq}
use Rattle.logic.proofs.Connectives.{and_iff}
use Rattle.logic.proofs.Branches.{branch_same}
use Rattle.logic.proofs.Reach.{elem-cons}

-- what holds of both branches holds of each
pub each : (Q : Branch 2 → Type 0) → Q one → Q two → (c : Branch 2) → Q c
each Q p q c = go (eqb c.number 0) refl
  where
    go : (v : Bool) → eqb c.number 0 ≡ v → Q c
    go true e = subst Q (sym (branch_eq c one (true→T e))) p
    go false e = let d = neqb c.number 0 e in let h = c.below in subst Q (sym (branch_same c two (omega arith))) q

-- what two branches have is all that there is
pub two-branches : {A : Type 0} (s : Branch 2 → A) → pair_of (s one) (s two) ≡ s
two-branches {A} s = fun_ext (each (λ c. pair_of (s one) (s two) c ≡ s c) refl refl)

pub all-elem : (g : ℕ → Bool) (L : List ℕ) → T (all_of g L) → (q : ℕ) → T (elem q L) → T (g q)
unfolding all_of elem
all-elem g [] t q u = absurd u
all-elem g (r ∷ L) t q u =
    let w = (and_iff (g r) (all_of g L) (λ z. z, λ z. z) (λ z. z, λ z. z)).0 t in
    ⊎_elim (λ e. subst (λ (z : ℕ). T (g z)) (sym e) w.0) (λ v. all-elem g L w.1 q v) ((elem-cons q r L).0 u)
