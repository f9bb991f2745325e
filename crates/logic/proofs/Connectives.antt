-- Not, or and and: the machine of the parts, with another acceptance.
-- Assumes nothing.
use Prim.Native.Nat.{ℕ}
use mathlib.Core.Path.{◌≡◌, refl, ap, ap₂, fun_ext}
use mathlib.Core.Logic.{◌↔◌, ◌⊎◌, inl, inr, ⊎_elim}
use mathlib.Core.Bool.{Bool, true, false, not, ◌&&◌, ◌||◌}
use lib.Dec.{T}
use Rattle.logic.specs.Meaning.{Formula, negation, disjunction, conjunction, Holds}
use Rattle.logic.specs.Tree.{Tree, empty, node, Proper}
use Rattle.logic.specs.Machine.{Machine, run, Decides, complement, product, Simulates}

pub run-complement : {k : ℕ} {Q : Type 0} (M : Machine k Q) (t : Tree k) → run (complement M) t ≡ run M t
unfolding run
run-complement M empty = refl
run-complement M (node l f) = ap (M.step l) (fun_ext (λ b. run-complement M (f b)))

pub run-product : {k : ℕ} {Q R : Type 0} (op : Bool → Bool → Bool) (M : Machine k Q) (N : Machine k R) (t : Tree k)
    → run (product op M N) t ≡ (run M t, run N t)
unfolding run
run-product op M N empty = refl
run-product op M N (node l f) =
    ap₂ (λ x y. (x, y)) (ap (M.step l) (fun_ext (λ b. ap (λ s. s.0) (run-product op M N (f b)))))
    (ap (N.step l) (fun_ext (λ b. ap (λ s. s.1) (run-product op M N (f b)))))

pub not_iff : (a : Bool) {P : Type 0} → T a ↔ P → T (not a) ↔ (¬ P)
not_iff true i = (λ t. absurd t, λ h. absurd (h (i.0 tt)))
not_iff false i = (λ t h. i.1 h, λ h. tt)

pub or_iff : (a b : Bool) {P R : Type 0} → T a ↔ P → T b ↔ R → T (a || b) ↔ (P ⊎ R)
or_iff true b i j = (λ t. inl (i.0 tt), λ h. tt)
or_iff false b i j = (λ t. inr (j.0 t), λ h. ⊎_elim (λ p. absurd (i.1 p)) j.1 h)

pub and_iff : (a b : Bool) {P R : Type 0} → T a ↔ P → T b ↔ R → T (a && b) ↔ (P × R)
and_iff true b i j = (λ t. (i.0 tt, j.0 t), λ h. j.1 h.1)
and_iff false b i j = (λ t. absurd t, λ h. i.1 h.0)

module _ {k : ℕ} (n : ℕ) {Q : Type 0} (M : Machine k Q) (f : Formula k) (d : Decides n M f) where
  pub decides-negation : Decides n (complement M) (negation f)
  unfolding Holds
  decides-negation t o A r = rw run-complement (not_iff (M.accepting (run M t)) (d t o A r))

  module _ {R : Type 0} (N : Machine k R) (g : Formula k) (e : Decides n N g) where
    pub decides-disjunction : Decides n (product ◌||◌ M N) (disjunction f g)
    unfolding Holds
    decides-disjunction t o A r = rw run-product (or_iff (M.accepting (run M t)) (N.accepting (run N t)) (d t o A r) (e t o A r))

    pub decides-conjunction : Decides n (product ◌&&◌ M N) (conjunction f g)
    unfolding Holds
    decides-conjunction t o A r = rw run-product (and_iff (M.accepting (run M t)) (N.accepting (run N t)) (d t o A r) (e t o A r))

module _ {k : ℕ} {Q S : Type 0} (n : ℕ) (M : Machine k Q) (N : Machine k S) (R : Q → S → Type 0) (sim : Simulates n M N R) where
  pub run_simulates : (t : Tree k) → Proper n t → R (run M t) (run N t)
  unfolding run Proper
  run_simulates empty o = sim.at_start
  run_simulates (node l f) o = sim.at_step l o.0 (λ b. run M (f b)) (λ b. run N (f b)) (λ b. run_simulates (f b) (o.1 b))

  pub decides_simulated : (f : Formula k) → Decides n N f → Decides n M f
  decides_simulated f d t o A r = rw (sim.at-end (run M t) (run N t) (run_simulates t o)) (d t o A r)
