-- One step of a run: at a place where a tree stands, by its first bit. Assumes nothing.
use Rattle.words.proofs.Vocabulary.{ℕ, ◌+◌, ◌*◌, ◌≤◌, ◌<◌, ◌≡◌, refl, sym, ap, ap₂, subst, ◌∙◌, List, [], ◌∷◌, ◌++◌, arith, length, get_or, length-append}
use Rattle.logic.specs.Meaning.{Branch}
use Rattle.logic.specs.Tree.{Tree, empty, node, Proper}
use Rattle.logic.specs.Machine.{run}
use Rattle.logic.specs.Two.{one, two}
use Rattle.bits.specs.Bits.{bits, digits, field}
use Rattle.tree_strip.specs.TreeStrip.{tree_bits, Stands}
use Rattle.bits.proofs.Fields.{length_digits}
use Rattle.tree_strip.proofs.TreeBits.{tree_bits-length}
use Rattle.tree_strip.proofs.TreeWalk.{stands-within, empty-bit, node-bit, label_in, label_is, stands-first, stands-second}
use Rattle.layout.specs.declared.Shape.{Shape}
use Rattle.layout.specs.Shape.{labels_in}
use Rattle.layout.proofs.Places.{pair_in}
use Rattle.table.specs.Entry.{step_in, Within}
use Rattle.table.specs.Whole.{machine_in}
use Rattle.running.specs.declared.Ran.{Ran}
use Rattle.running.specs.Run.{Runnable, Came}

-- a node stands at a bit place
pub record NodeAt (strip : List ℕ) (n at : ℕ) : Type 0 where
  pub label : ℕ
  pub branch : Branch 2 → Tree 2
  pub proper : Proper n (node label branch)
  pub stands : Stands strip n at (node label branch)

-- where a bit is set, the tree that stands there is a node
node_at : (strip : List ℕ) (n at : ℕ) (t : Tree 2) → Proper n t → Stands strip n at t → (get_or (bits strip) at 0 ≡ 0 → ⊥) → NodeAt strip n at
node_at strip n at empty o p h = absurd (h (empty-bit strip n at p).1)
node_at strip n at (node l f) o p h = record { label = l; branch = f; proper = o; stands = p }

module _ {strip : List ℕ} {at : ℕ} {s : Shape} {looks : ℕ} {table : List ℕ} {count : ℕ} (w : Runnable strip at s looks table count) where
  abbrev n : ℕ
  n = s.variables

  pub at_in : at < 8 * length strip
  at_in = omega (arith, stands-within strip n at w.tree w.stands, tree_bits-length n w.tree)

  -- the bit is not set: the empty tree
  pub came_empty : get_or (bits strip) at 0 ≡ 0 → Came strip at s looks table count (record { state = 0; next = at + 1 })
  unfolding run tree_bits
  came_empty z = record { ran = here; below = w.whole.some-state }
    where
      here : (accept : ℕ) (t : Tree 2) → Proper n t → Stands strip n at t
          → ◌≡◌ {A = Ran} (record { state = 0; next = at + 1 }) (record { state = run (machine_in s looks table accept) t; next = at + length (tree_bits n t) })
      here accept empty o p = refl
      here accept (node l f) o p = absurd (omega (arith, (node-bit strip n at l f p).1))

  -- the bit is set: a node
  module _ (b : get_or (bits strip) at 0 ≡ 0 → ⊥) where
    abbrev g : NodeAt strip n at
    g = node_at strip n at w.tree w.proper w.stands b

    pub label-within : at + 1 + n ≤ 8 * length strip
    label-within = label_in strip n at g.label g.branch g.stands

    pub label_small : field strip (at + 1) n < labels_in s
    unfolding Proper
    label_small = let e = label_is strip n at g.label g.branch g.stands g.proper.0 in rw e g.proper.0

    pub first_runnable : Runnable strip (at + 1 + n) s looks table count
    unfolding Proper
    first_runnable = record {
      whole = w.whole;
      short = w.short;
      tree = g.branch one;
      proper = g.proper.1 one;
      stands = stands-first strip n at g.label g.branch g.stands;
    }

    module _ {x : Ran} (cx : Came strip (at + 1 + n) s looks table count x) where
      -- where the second branch stands, whichever node it is a branch of
      next_is : (l : ℕ) (f : Branch 2 → Tree 2) → Proper n (node l f) → Stands strip n at (node l f) → x.next ≡ at + 1 + n + length (tree_bits n (f one))
      unfolding Proper
      next_is l f o p = ap (λ (r : Ran). r.next) (cx.ran 0 (f one) (o.1 one) (stands-first strip n at l f p))

      second-stands : (l : ℕ) (f : Branch 2 → Tree 2) → Proper n (node l f) → Stands strip n at (node l f) → Stands strip n x.next (f two)
      second-stands l f o p = subst (λ (k : ℕ). Stands strip n k (f two)) (sym (next_is l f o p)) (stands-second strip n at l f p)

      pub second-after : at < x.next
      second-after = omega (arith, next_is g.label g.branch g.proper g.stands)

      pub second_runnable : Runnable strip x.next s looks table count
      unfolding Proper
      second_runnable = record {
        whole = w.whole;
        short = w.short;
        tree = g.branch two;
        proper = g.proper.1 two;
        stands = second-stands g.label g.branch g.proper g.stands;
      }

      module _ {y : Ran} (cy : Came strip x.next s looks table count y) where
        module _ {v : ℕ} (ev : v ≡ field strip (at + 1) n) where
          pub in_table : Within s table 0 × ((v < labels_in s) × (x.state < s.ceiling) × (y.state < s.ceiling))
          in_table =
              (w.whole.inside, (rw ev label_small, omega (arith, cx.below, w.whole.within), omega (arith, cy.below, w.whole.within)))

          pub came_node : {q : ℕ} → q ≡ step_in s table 0 looks v (x.state ∷ y.state ∷ [])
              → Came strip at s looks table count (record { state = q; next = y.next })
          unfolding run tree_bits Proper
          came_node {q} e = record {
            ran = here;
            below = rw e (w.whole.steps v (x.state ∷ y.state ∷ []) (rw ev label_small) (pair_in s w.whole.inside.shape cx.below cy.below));
          }
            where
              here : (accept : ℕ) (t : Tree 2) → Proper n t → Stands strip n at t
                  → ◌≡◌ {A = Ran} (record { state = q; next = y.next })
                  (record { state = run (machine_in s looks table accept) t; next = at + length (tree_bits n t) })
              here accept empty o p = absurd (b (empty-bit strip n at p).1)
              here accept (node l f) o p =
                  let a = cx.ran accept (f one) (o.1 one) (stands-first strip n at l f p) in
                  let d = cy.ran accept (f two) (o.1 two) (second-stands l f o p) in
                  let first : x.state ≡ run (machine_in s looks table accept) (f one) = ap (λ (r : Ran). r.state) a in
                  let second : y.state ≡ run (machine_in s looks table accept) (f two) = ap (λ (r : Ran). r.state) d in
                  let middle : x.next ≡ at + 1 + n + length (tree_bits n (f one)) = ap (λ (r : Ran). r.next) a in
                  let end : y.next ≡ x.next + length (tree_bits n (f two)) = ap (λ (r : Ran). r.next) d in
                  let m = length-append (digits n l) (tree_bits n (f one) ++ tree_bits n (f two)) in
                  let k = length-append (tree_bits n (f one)) (tree_bits n (f two)) in
                  ap₂ {B = ℕ} {C = Ran} (λ (i j : ℕ). record { state = i; next = j })
                  (e ∙ rw (ev, label_is strip n at l f p o.0, first, second) refl) (omega (arith, length_digits n l))
