-- From machines to assignments: a rule is satisfiable exactly if its machine has an accepting state.
-- Assumes nothing.
use Prim.Native.Nat.{ℕ, ◌^◌}
use mathlib.Core.Path.{◌≡◌, refl, ap, sym, subst, fun_ext}
use mathlib.Core.Logic.{◌↔◌}
use lib.Dec.{T}
use Rattle.logic.specs.Meaning.{Branch, Assignment, Formula, Holds}
use Rattle.logic.specs.Tree.{Tree, empty, node, Proper, Represents}
use Rattle.logic.specs.Machine.{Machine, run, Decides}
use Rattle.logic.specs.Reach.{below, Reached, started, stepped}
use Rattle.logic.specs.Trim.{tree_of}
use Rattle.logic.proofs.Reach.{elem_below}
use Rattle.logic.proofs.Exists.{track, has-track}
use Rattle.logic.proofs.Trees.{tree-represents, tree-proper}

module _ {k : ℕ} (n : ℕ) where
  -- the assignment that a tree represents
  pub sets_of : Tree k → Assignment k
  sets_of t i = track n i t

  pub sets_represented : (t : Tree k) → Represents n t (sets_of t)
  unfolding Represents sets_of
  sets_represented t i h p = sym (has-track n i t p)

  pub reached-tree : (M : Machine k ℕ) (q : ℕ) → Reached M (below (2 ^ n)) q → (t : Tree k) × Proper n t × (run M t ≡ q)
  unfolding run Proper
  reached-tree M q started = (empty, tt, refl)
  reached-tree M q (stepped l t s h) =
      let us : (b : Branch k) → (u : Tree k) × Proper n u × (run M u ≡ s b) = λ b. reached-tree M (s b) (h b) in
      (node l (λ b. (us b).0), ((elem_below l (2 ^ n)).0 t, λ b. (us b).1), ap (M.step l) (fun_ext (λ b. (us b).2)))

  pub tree-reached : (M : Machine k ℕ) (t : Tree k) → Proper n t → Reached M (below (2 ^ n)) (run M t)
  unfolding run Proper
  tree-reached M empty o = started
  tree-reached M (node l f) o = stepped l ((elem_below l (2 ^ n)).1 o.0) (λ b. run M (f b)) (λ b. tree-reached M (f b) (o.1 b))

  module _ (M : Machine k ℕ) (f : Formula k) (D : Decides n M f) where
    -- a tree is accepted exactly if its assignment satisfies the formula
    pub accepted_iff : (t : Tree k) → Proper n t → T (M.accepting (run M t)) ↔ Holds f (sets_of t)
    accepted_iff t o = D t o (sets_of t) (sets_represented t)

    -- an assignment satisfies the formula exactly if its tree is accepted
    pub holds_iff : (A : Assignment k) → T (M.accepting (run M (tree_of n A))) ↔ Holds f A
    holds_iff A = D (tree_of n A) (tree-proper n A) A (tree-represents n A)

    pub satisfiable_iff : ((A : Assignment k) × Holds f A) ↔ ((q : ℕ) × Reached M (below (2 ^ n)) q × T (M.accepting q))
    satisfiable_iff = (
      (λ w. (run M (tree_of n w.0), tree-reached M (tree_of n w.0) (tree-proper n w.0), (holds_iff w.0).1 w.1)),
      λ w. let u = reached-tree M w.0 w.1 in
          (sets_of u.0, (accepted_iff u.0 u.1).0 (subst (λ (z : ℕ). T (M.accepting z)) (sym u.2) w.2)),
    )
