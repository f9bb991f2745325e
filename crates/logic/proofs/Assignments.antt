-- Every assignment has one tree, and every trimmed tree is that of an assignment.
-- Assumes nothing.
use Prim.Native.Nat.{ℕ, zero, suc, ◌<◌}
use mathlib.Core.Path.{◌≡◌, refl, sym, ap₂, subst, ◌∙◌, fun_ext}
use mathlib.Core.Logic.{◌⊎◌, inl, inr, ⊎_elim}
use mathlib.Core.Bool.{Bool, true, false, true≢false}
use mathlib.Core.List.{[], ◌∷◌, ◌++◌}
use native.Mathlib.Nat.{not-suc-le-zero}
use native.Mathlib.Omega.{arith}
use lib.Dec.{T, T_not}
use lib.Pow.{pow_pos}
use Rattle.logic.specs.Meaning.{Branch, Place, Assignment}
use Rattle.logic.specs.Tree.{Tree, empty, node, node_at, bit_at, Proper, Represents, TreeOf, SameSets, bit}
use Rattle.logic.specs.Trim.{tree_of, is_empty, bare, Trimmed}
use Rattle.logic.proofs.Places.{T-ext}
use Rattle.logic.proofs.Bits.{bit-zero, bit_ext}
use Rattle.logic.proofs.Orders.{less, same, more, ℕ-tri, first}
use Rattle.logic.proofs.Trees.{bare_iff, tree-represents, tree-proper, tree-trimmed}
use Rattle.logic.proofs.Satisfiable.{sets_of, sets_represented}

test : (x : Bool) → T x ⊎ (x ≡ false)
test true = inl tt
test false = inr refl

-- a set bit among the first m, or none
some-bit : (n l m : ℕ) → ((i : ℕ) × (i < m) × T (bit n l i)) ⊎ ((i : ℕ) → i < m → bit n l i ≡ false)
some-bit n l zero = inr (λ i h. absurd (not-suc-le-zero h))
some-bit n l (suc m) = go (test (bit n l m)) (some-bit n l m)
  where
    go : T (bit n l m) ⊎ (bit n l m ≡ false) → ((i : ℕ) × (i < m) × T (bit n l i)) ⊎ ((i : ℕ) → i < m → bit n l i ≡ false)
        → ((i : ℕ) × (i < suc m) × T (bit n l i)) ⊎ ((i : ℕ) → i < suc m → bit n l i ≡ false)
    go (inl t) r = inl (m, omega arith, t)
    go (inr e) (inl w) = inl (w.0, omega arith, w.2)
    go (inr e) (inr f) = inr (λ i h. elim (ℕ-tri i m) [ less p ↦ f i p | same p ↦ rw p e | more p ↦ absurd (omega arith) ])

module _ {k : ℕ} (n : ℕ) where
  abbrev Marked : Tree k → Type 0
  Marked t = (i : ℕ) × (i < n) × (q : Place k) × T (bit_at n t i q)

  -- below every node of a trimmed tree a bit is set
  marked : (t : Tree k) → Trimmed t → Proper n t → (is_empty t ≡ false) → Marked t
  unfolding Trimmed Proper bit_at
  marked empty r o e = absurd (true≢false e)
  marked (node l f) r o e =
      ⊎_elim (λ w. let m = marked (f w.0) (r.1 w.0) (o.1 w.0) w.2 in (m.0, m.1, w.0 ∷ m.2, m.3)) bottom
      (first (λ b. is_empty (f b) ≡ false) (λ b. T (is_empty (f b))) (λ b. ⊎_elim inr inl (test (is_empty (f b)))))
    where
      bottom : ((b : Branch k) → T (is_empty (f b))) → Marked (node l f)
      bottom h = ⊎_elim (λ w. (w.0, w.1, [], w.2))
          (λ z. absurd (T_not (bare l f) r.0 ((bare_iff n l f).1 (bit_ext n l 0 o.0 (pow_pos n) (λ i q. z i q ∙ sym (bit-zero n i)), h))))
          (some-bit n l n)

  node-marked : (p : Place k) (t : Tree k) → Trimmed t → Proper n t → T (node_at t p) → (i : ℕ) × (i < n) × (q : Place k) × T (bit_at n t i (p ++ q))
  unfolding node_at bit_at Trimmed Proper
  node-marked p empty r o h = absurd h
  node-marked [] (node l f) r o h = marked (node l f) r o refl
  node-marked (b ∷ p) (node l f) r o h = node-marked p (f b) (r.1 b) (o.1 b) h

  marked-node : (p : Place k) (t : Tree k) (i : ℕ) (q : Place k) → T (bit_at n t i (p ++ q)) → T (node_at t p)
  unfolding node_at bit_at
  marked-node p empty i q h = absurd h
  marked-node [] (node l f) i q h = tt
  marked-node (b ∷ p) (node l f) i q h = marked-node p (f b) i q h

  -- a trimmed tree with the right bits is the tree of the assignment
  pub trimmed-tree : (A : Assignment k) (t : Tree k) → Trimmed t → Proper n t → Represents n t A → TreeOf n A t
  unfolding Represents
  trimmed-tree A t r o b = record {
    proper = o;
    nodes = λ p. (
      (λ h. let w = node-marked p t r o h in (w.0, w.1, w.2, subst T (b w.0 w.1 (p ++ w.2)) w.3)),
      λ w. marked-node p t w.0 w.2 (subst T (sym (b w.0 w.1 (p ++ w.2))) w.3),
    );
    bits = b;
  }

  pub tree-of : (A : Assignment k) → TreeOf n A (tree_of n A)
  tree-of A = trimmed-tree A (tree_of n A) (tree-trimmed n A) (tree-proper n A) (tree-represents n A)

  same-tree : (t u : Tree k) → Proper n t → Proper n u → ((p : Place k) → node_at t p ≡ node_at u p)
      → ((i : ℕ) → i < n → (p : Place k) → bit_at n t i p ≡ bit_at n u i p) → t ≡ u
  unfolding Proper node_at bit_at
  same-tree empty empty o o' h b = refl
  same-tree empty (node m g) o o' h b = absurd (true≢false (sym (h [])))
  same-tree (node l f) empty o o' h b = absurd (true≢false (h []))
  same-tree (node l f) (node m g) o o' h b =
      ap₂ node (bit_ext n l m o.0 o'.0 (λ i q. b i q []))
      (fun_ext (λ c. same-tree (f c) (g c) (o.1 c) (o'.1 c) (λ p. h (c ∷ p)) (λ i q p. b i q (c ∷ p))))

  -- the same sets have the same tree
  pub tree-same : (A B : Assignment k) (t u : Tree k) → SameSets n A B → TreeOf n A t → TreeOf n B u → t ≡ u
  unfolding Represents
  tree-same A B t u s x y = same-tree t u x.proper y.proper
      (λ p. T-ext (node_at t p) (node_at u p)
      (λ h. let w = (x.nodes p).0 h in (y.nodes p).1 (w.0, w.1, w.2, subst T (s w.0 w.1 (p ++ w.2)) w.3))
      (λ h. let w = (y.nodes p).0 h in (x.nodes p).1 (w.0, w.1, w.2, subst T (sym (s w.0 w.1 (p ++ w.2))) w.3)))
      (λ i h p. x.bits i h p ∙ s i h p ∙ sym (y.bits i h p))

  -- and the same tree is of the same sets
  pub sets_same : (A B : Assignment k) (t : Tree k) → TreeOf n A t → TreeOf n B t → SameSets n A B
  unfolding Represents
  sets_same A B t x y i h p = sym (x.bits i h p) ∙ y.bits i h p

  pub tree_of-only : (A : Assignment k) (t : Tree k) → TreeOf n A t → t ≡ tree_of n A
  tree_of-only A t x = tree-same A A t (tree_of n A) (λ i h p. refl) x (tree-of A)

  pub tree_of-trimmed : (A : Assignment k) (t : Tree k) → TreeOf n A t → Trimmed t
  tree_of-trimmed A t x = subst (λ (u : Tree k). Trimmed u) (sym (tree_of-only A t x)) (tree-trimmed n A)

  pub own-tree : (t : Tree k) → Trimmed t → Proper n t → TreeOf n (sets_of n t) t
  own-tree t r o = trimmed-tree (sets_of n t) t r o (sets_represented n t)
