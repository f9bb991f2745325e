-- The builder's atoms, from their tables, are machines of the atoms.
-- Assumes nothing.
use Rattle.words.proofs.Vocabulary.{ℕ, ◌≤◌, ◌<◌, ◌%◌, ◌/◌, Bool, ◌≡◌, ◌∙◌, refl, sym, ap, eqb, T, eqb→eq, arith}
use Rattle.logic.specs.Meaning.{Branch, Formula, subset, singleton, successor, root}
use Rattle.logic.specs.Tree.{down_from, sum_of, bit}
use Rattle.logic.specs.Machine.{Machine, all_of, any_of, Bounded}
use Rattle.logic.specs.Atom.{subset_step, singleton_step, successor_step, root_step}
use Rattle.logic.specs.Reach.{below}
use Rattle.logic.specs.Alike.{ConstructedOf}
use Rattle.logic.specs.Two.{one, two, pair_of, branching}
use Rattle.logic.proofs.Reach.{elem_below}
use Rattle.logic.proofs.Tables.{subset-bounded, singleton-bounded, successor-bounded, root-bounded}
use Rattle.logic.proofs.Two.{two-branches, all-elem}
use Rattle.logic.proofs.Builders.{of_agrees, of_subset, of_singleton, of_successor, of_root}
use Rattle.table.specs.Succ.{tabled, rule_at, subset_rule, single_rule, child1_rule, child2_rule, root_rule}
use Rattle.table.proofs.Masks.{rule-bits}
use Rattle.records.specs.Decode.{bit_weight}
use Rattle.refinement.proofs.Weights.{bit_is}

abbrev Rule : Type 0
Rule = ℕ → ℕ → ℕ → ℕ → ℕ

abbrev Steps : Type 0
Steps = Bool → Bool → (Branch 2 → ℕ) → ℕ

-- a test of all numbers below m
abbrev all : ℕ → (ℕ → Bool) → Bool
all m g = all_of g (below m)

-- whether a rule says what a step says, at any two bits and two states below m
abbrev agree : Rule → Steps → ℕ → ℕ → ℕ → ℕ → Bool
agree rule f x y a b = eqb (rule x y a b) (f (eqb x 1) (eqb y 1) (pair_of a b))

unfoldable pub agrees : ℕ → Rule → Steps → Bool
agrees m rule f = all 2 (λ x. all 2 (λ y. all m (λ a. all m (agree rule f x y a))))

at : (m : ℕ) (g : ℕ → Bool) → T (all m g) → (q : ℕ) → q < m → T (g q)
at m g t q h = all-elem g (below m) t q ((elem_below q m).1 h)

-- a machine that steps by f on the bits of x and y
module _ (n x y m : ℕ) (rule : Rule) (f : Steps) (acc : ℕ → Bool) (few : m ≤ 4) (test : T (agrees m rule f)) where
  abbrev M : Machine 2 ℕ
  M = record { start = 0; step = λ l s. f (bit n l x) (bit n l y) s; accepting = acc }

  -- the builder's, from the atom's table
  abbrev A : Machine 2 ℕ
  A = branching 0 (tabled (rule_at rule) (bit_weight n x) (bit_weight n y)) acc

  rule_is : (u v a b : ℕ) → u < 2 → v < 2 → a < m → b < m → rule u v a b ≡ f (eqb u 1) (eqb v 1) (pair_of a b)
  unfolding agrees
  rule_is u v a b hu hv ha hb =
      eqb→eq _ _ (at m (agree rule f u v a) (at m (λ a. all m (agree rule f u v a)) (at 2 (λ v. all m (λ a. all m (agree rule f u v a)))
      (at 2 (λ u. all 2 (λ v. all m (λ a. all m (agree rule f u v a)))) test u hu) v hv) a ha) b hb)

  step_is : (l : ℕ) (s : Branch 2 → ℕ) → s one < m → s two < m → M.step l s ≡ A.step l s
  step_is l s h k =
      let e : s one % 4 ≡ s one = omega arith in
      let d : s two % 4 ≡ s two = omega arith in
      let u = l / bit_weight n x % 2 in
      let v = l / bit_weight n y % 2 in
      rw (bit_is n l x, bit_is n l y, rule-bits rule (bit_weight n x) (bit_weight n y) l (s one) (s two), e, d)
      (sym (rule_is u v (s one) (s two) (omega arith) (omega arith) h k ∙ ap (f (eqb u 1) (eqb v 1)) (two-branches s)))

  pub of_atom : Bounded n m M → (F : Formula 2) → ConstructedOf n F M → ConstructedOf n F A
  of_atom B F o =
      of_agrees n m M A B (record { starts = refl; steps = λ l h s u. step_is l s (u one) (u two); accepts = λ q h. refl }) F o

-- the builder's atoms are machines of the atoms
module _ (n x y : ℕ) (hx : x < n) where
  abbrev atom_of : Rule → (ℕ → Bool) → Machine 2 ℕ
  atom_of rule acc = branching 0 (tabled (rule_at rule) (bit_weight n x) (bit_weight n y)) acc

  pub atom-single : ConstructedOf n (singleton x) (atom_of single_rule (λ q. eqb q 1))
  unfolding agrees all_of any_of sum_of below down_from
  atom-single =
      of_atom n x y 3 single_rule (λ v w. singleton_step v) (λ q. eqb q 1) (omega arith) tt (singleton-bounded n x) (singleton x) (of_singleton n x hx)

  pub atom-root : ConstructedOf n (root x) (atom_of root_rule (λ q. eqb q 1))
  unfolding agrees all_of any_of sum_of below down_from
  atom-root = of_atom n x y 3 root_rule (λ v w. root_step v) (λ q. eqb q 1) (omega arith) tt (root-bounded n x) (root x) (of_root n x hx)

  module _ (hy : y < n) where
    pub atom-subset : ConstructedOf n (subset x y) (atom_of subset_rule (λ q. eqb q 0))
    unfolding agrees all_of any_of sum_of below down_from
    atom-subset = of_atom n x y 2 subset_rule subset_step (λ q. eqb q 0) (omega arith) tt (subset-bounded n x y) (subset x y) (of_subset n x y hx hy)

    pub atom_first : ConstructedOf n (successor one x y) (atom_of child1_rule (λ q. eqb q 2))
    unfolding agrees all_of any_of sum_of below down_from
    atom_first =
        of_atom n x y 4 child1_rule (successor_step one) (λ q. eqb q 2) (omega arith) tt (successor-bounded n one x y) (successor one x y)
        (of_successor n one x y hx hy)

    pub atom_second : ConstructedOf n (successor two x y) (atom_of child2_rule (λ q. eqb q 2))
    unfolding agrees all_of any_of sum_of below down_from
    atom_second =
        of_atom n x y 4 child2_rule (successor_step two) (λ q. eqb q 2) (omega arith) tt (successor-bounded n two x y) (successor two x y)
        (of_successor n two x y hx hy)
