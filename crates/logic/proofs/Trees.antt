-- Every assignment has one trimmed tree.
-- Assumes nothing.
use Prim.Native.Nat.{ℕ, zero, suc, ◌≤◌, ◌<◌, max}
use mathlib.Core.Path.{◌≡◌, refl, ap, ap₂, sym, subst, ◌∙◌, fun_ext}
use mathlib.Core.Logic.{◌↔◌}
use mathlib.Core.Bool.{Bool, true, false, cond, not}
use mathlib.Core.List.{[], ◌∷◌}
use native.Mathlib.Nat.{not-suc-le-zero}
use native.Mathlib.Omega.{arith}
use lib.Dec.{T, T_not, eqb, eqb→eq}
use lib.Pow.{pow_pos}
use Rattle.logic.specs.Machine.{all_of}
use Rattle.logic.specs.Meaning.{Branch, Place, has, Assignment}
use Rattle.logic.specs.Tree.{branches, Tree, empty, node, bit_at, Proper, Represents}
use Rattle.logic.specs.Trim.{trim, tree_to, depth_of, tree_of, under, depth, is_empty, bare, Trimmed}
use Rattle.logic.proofs.Places.{true→T, not_T, neqb, has-under, Short, short-under, short-depth}
use Rattle.logic.proofs.Bits.{bit-zero, bit_ext, bit-label, label_lt}
use Rattle.logic.proofs.Connectives.{and_iff}
use Rattle.logic.proofs.Branches.{all_iff, eqb_iff}

module _ {k : ℕ} (n : ℕ) where
  empty_of : (t : Tree k) → T (is_empty t) → t ≡ empty
  empty_of empty h = refl
  empty_of (node l f) h = absurd h

  pub bare_iff : (l : ℕ) (f : Branch k → Tree k) → T (bare l f) ↔ ((l ≡ 0) × ((b : Branch k) → T (is_empty (f b))))
  bare_iff l f = and_iff (eqb l 0) (all_of (λ b. is_empty (f b)) (branches k)) (eqb_iff l 0) (all_iff (λ b. is_empty (f b)))

  -- trimming keeps the bits
  pub trim-bits : (t : Tree k) (i : ℕ) (p : Place k) → bit_at n (trim t) i p ≡ bit_at n t i p
  unfolding trim bit_at
  trim-bits empty i p = refl
  trim-bits (node l f) i p = go (bare l (λ b. trim (f b))) refl p (λ b q. trim-bits (f b) i q)
    where
      go : (v : Bool) → bare l (λ b. trim (f b)) ≡ v → (q : Place k) → ((b : Branch k) (q' : Place k) → bit_at n (trim (f b)) i q' ≡ bit_at n (f b) i q')
          → bit_at n (cond v empty (node l (λ b. trim (f b)))) i q ≡ bit_at n (node l f) i q
      go true e [] ih = let w = (bare_iff l (λ b. trim (f b))).0 (true→T e) in rw w.0 (sym (bit-zero n i))
      go true e (b ∷ q) ih =
          let w = (bare_iff l (λ c. trim (f c))).0 (true→T e) in ap (λ (t : Tree k). bit_at n t i q) (sym (empty_of (trim (f b)) (w.1 b))) ∙ ih b q
      go false e [] ih = refl
      go false e (b ∷ q) ih = ih b q

  pub trim-trimmed : (t : Tree k) → Trimmed (trim t)
  unfolding trim Trimmed
  trim-trimmed empty = tt
  trim-trimmed (node l f) = go (bare l (λ b. trim (f b))) refl (λ b. trim-trimmed (f b))
    where
      go : (v : Bool) → bare l (λ b. trim (f b)) ≡ v → ((b : Branch k) → Trimmed (trim (f b))) → Trimmed (cond v empty (node l (λ b. trim (f b))))
      go true e ih = tt
      go false e ih = (true→T (ap not e), ih)

  pub trim-proper : (t : Tree k) → Proper n t → Proper n (trim t)
  unfolding trim Proper
  trim-proper empty o = tt
  trim-proper (node l f) o = go (bare l (λ b. trim (f b))) (λ b. trim-proper (f b) (o.1 b))
    where
      go : (v : Bool) → ((b : Branch k) → Proper n (trim (f b))) → Proper n (cond v empty (node l (λ b. trim (f b))))
      go true ih = tt
      go false ih = (o.0, ih)

  to_bits : (d : ℕ) (A : Assignment k) → ((i : ℕ) → i < n → Short d (A i)) → Represents n (tree_to n d A) A
  unfolding tree_to bit_at Represents
  to_bits zero A s i h p = sym (not_T (has (A i) p) (λ t. not-suc-le-zero (s i h p t)))
  to_bits (suc d) A s i h [] = bit-label n (λ j. has (A j) []) i h
  to_bits (suc d) A s i h (c ∷ p) = to_bits d (λ j. under c (A j)) (λ j hj. short-under d (A j) c (s j hj)) i h p ∙ has-under c (A i) p

  to_proper : (d : ℕ) (A : Assignment k) → Proper n (tree_to n d A)
  unfolding tree_to Proper
  to_proper zero A = tt
  to_proper (suc d) A = (label_lt n (λ j. has (A j) []), λ c. to_proper d (λ j. under c (A j)))

  depth-bound : (m : ℕ) (A : Assignment k) (i : ℕ) → i < m → depth (A i) ≤ depth_of m A
  unfolding depth_of
  depth-bound zero A i h = absurd (not-suc-le-zero h)
  depth-bound (suc m) A i h = go (eqb i m) refl (depth-bound m A i)
    where
      go : (v : Bool) → eqb i m ≡ v → (i < m → depth (A i) ≤ depth_of m A) → depth (A i) ≤ max (depth (A m)) (depth_of m A)
      go true e ih = rw (eqb→eq i m (true→T e)) (omega arith)
      go false e ih = let d = neqb i m e in let q = ih (omega arith) in omega arith

  pub tree-represents : (A : Assignment k) → Represents n (tree_of n A) A
  unfolding tree_of Represents
  tree-represents A i h p =
      trim-bits (tree_to n (depth_of n A) A) i p
      ∙ to_bits (depth_of n A) A (λ j hj q t. let a = short-depth (A j) q t in let b = depth-bound n A j hj in omega arith) i h p

  pub tree-trimmed : (A : Assignment k) → Trimmed (tree_of n A)
  unfolding tree_of
  tree-trimmed A = trim-trimmed (tree_to n (depth_of n A) A)

  pub tree-proper : (A : Assignment k) → Proper n (tree_of n A)
  unfolding tree_of
  tree-proper A = trim-proper (tree_to n (depth_of n A) A) (to_proper (depth_of n A) A)

  abbrev Same : Tree k → Tree k → Type 0
  Same t u = (i : ℕ) → i < n → (p : Place k) → bit_at n t i p ≡ bit_at n u i p

  blank_empty : (t : Tree k) → Trimmed t → Proper n t → Same t empty → t ≡ empty
  unfolding Trimmed Proper bit_at
  blank_empty empty r o s = refl
  blank_empty (node l f) r o s =
      let z : l ≡ 0 = bit_ext n l 0 o.0 (pow_pos n) (λ i h. s i h [] ∙ sym (bit-zero n i)) in
      let e : (b : Branch k) → T (is_empty (f b)) =
      λ b. subst (λ (t : Tree k). T (is_empty t)) (sym (blank_empty (f b) (r.1 b) (o.1 b) (λ i h p. s i h (b ∷ p)))) tt in
      absurd (T_not (bare l f) r.0 ((bare_iff l f).1 (z, e)))

  pub trimmed_unique : (t u : Tree k) → Trimmed t → Trimmed u → Proper n t → Proper n u → Same t u → t ≡ u
  unfolding Trimmed Proper bit_at
  trimmed_unique empty u r r' o o' s = sym (blank_empty u r' o' (λ i h p. sym (s i h p)))
  trimmed_unique (node l f) empty r r' o o' s = blank_empty (node l f) r o s
  trimmed_unique (node l f) (node m g) r r' o o' s =
      ap₂ node (bit_ext n l m o.0 o'.0 (λ i h. s i h []))
      (fun_ext (λ b. trimmed_unique (f b) (g b) (r.1 b) (r'.1 b) (o.1 b) (o'.1 b) (λ i h p. s i h (b ∷ p))))

  -- the trimmed tree of an assignment is the only one
  pub tree-only : (A : Assignment k) (t : Tree k) → Trimmed t → Proper n t → Represents n t A → t ≡ tree_of n A
  unfolding Represents
  tree-only A t r o h = trimmed_unique t (tree_of n A) r (tree-trimmed A) o (tree-proper A) (λ i hi p. h i hi p ∙ sym (tree-represents A i hi p))
