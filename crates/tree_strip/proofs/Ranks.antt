-- The bits of the tree of a rank, by those of its branches, and how they are written. Assumes nothing.
use mathlib.Core.Path.{◌≡◌, refl, sym, ap, ap₂, ◌∙◌}
use mathlib.Core.List.{List, [], ◌∷◌, ◌++◌}
use Prim.Native.Nat.{ℕ, zero, suc, ◌+◌, ◌-◌, ◌*◌, ◌≤◌, ◌<◌}
use native.Mathlib.Omega.{arith}
use lib.ListN.{length, set, length-append, get_or-append}
use lib.Seq.{sets, set-get_or, get_or-append_seam}
use Rattle.logic.specs.Tree.{Tree, empty}
use Rattle.logic.specs.Search.{at}
use Rattle.bits.specs.Bits.{bits, digits, Clear}
use Rattle.tree_strip.specs.TreeStrip.{tree_bits}
use Rattle.bits.proofs.Fields.{length_digits}
use Rattle.bits.proofs.Writing.{clear-after, three}
use Rattle.tree_strip.specs.Ranks.{rank_in, tree_at, decode, tree_of_rank, Backs, Writable}
use Rattle.tree_strip.specs.declared.write.Rank.{Rank}

-- an empty tree is a 0 that stands there already
pub empty_stands : (l : List ℕ) (at : ℕ) (vs : List ℕ) → vs ≡ 0 ∷ [] → Clear l at → (at + 1 ≡ at + length vs) × (l ≡ sets l at vs)
empty_stands l at vs e z = rw e (refl, sym (ap (set l at) (sym (z at (omega arith))) ∙ set-get_or l at 0))

pub decode-length : (nodes : List Rank) (n : ℕ) → length (decode nodes n) ≡ n
unfolding decode
decode-length nodes zero = refl
decode-length nodes (suc n) = length-append (decode nodes n) _ ∙ omega (arith, decode-length nodes n)

module _ (nodes : List Rank) where
  -- a rank's tree does not change as further trees are settled
  more : (i n : ℕ) → i < n → at (decode nodes (suc n)) i ≡ at (decode nodes n) i
  unfolding decode
  more i n h = get_or-append (decode nodes n) _ empty i (let e = decode-length nodes n in omega arith)

  keep : (m i n : ℕ) → i < n → at (decode nodes (n + m)) i ≡ at (decode nodes n) i
  keep zero i n h = let e : n + 0 ≡ n = omega arith in rw e refl
  keep (suc m) i n h = let e : n + suc m ≡ suc (n + m) = omega arith in rw e (more i (n + m) (omega arith) ∙ keep m i n h)

  kept : (i n count : ℕ) → i < n → n ≤ count → tree_of_rank nodes count i ≡ tree_of_rank nodes n i
  kept i n count h k = let e : count ≡ n + (count - n) = omega arith in ap (λ (m : ℕ). tree_of_rank nodes m i) e ∙ keep (count - n) i n h

  own : (i : ℕ) → tree_of_rank nodes (suc i) i ≡ tree_at nodes (decode nodes i) i
  unfolding decode
  own i =
      ap (λ (j : ℕ). at (decode nodes i ++ (tree_at nodes (decode nodes i) i ∷ [])) j)
      (sym (decode-length nodes i))
      ∙ get_or-append_seam (decode nodes i) (tree_at nodes (decode nodes i) i) [] empty

  pub rank-zero : (v count r : ℕ) → r ≡ 0 → 0 < count → tree_bits v (tree_of_rank nodes count r) ≡ 0 ∷ []
  unfolding tree_bits tree_at
  rank-zero v count r e h = rw e (ap (tree_bits v) (kept 0 1 count (omega arith) h ∙ own 0))

  pub rank-node : (v count r : ℕ) → (r ≡ 0 → ⊥) → r < count → Backs count nodes
      → tree_bits v (tree_of_rank nodes count r)
      ≡ (1 ∷ digits v (rank_in nodes r).label)
      ++ (tree_bits v (tree_of_rank nodes count (rank_in nodes r).first) ++ tree_bits v (tree_of_rank nodes count (rank_in nodes r).second))
  unfolding tree_bits tree_at
  rank-node v count zero z h b = absurd (z refl)
  rank-node v count (suc r) z h b =
      let w = b (suc r) (omega arith) h in
      ap (tree_bits v) (kept (suc r) (suc (suc r)) count (omega arith) h ∙ own (suc r))
      ∙ ap₂ (λ (t u : Tree 2). 1 ∷ (digits v (rank_in nodes (suc r)).label ++ (tree_bits v t ++ tree_bits v u)))
      (sym (kept (rank_in nodes (suc r)).first (suc r) count w.0 (omega arith))) (sym (kept (rank_in nodes (suc r)).second (suc r) count w.1 (omega arith)))

  pub rank-length : (v count r : ℕ) → (r ≡ 0 → ⊥) → r < count → Backs count nodes
      → length (tree_bits v (tree_of_rank nodes count r))
      ≡ 1 + v + length (tree_bits v (tree_of_rank nodes count (rank_in nodes r).first))
      + length (tree_bits v (tree_of_rank nodes count (rank_in nodes r).second))
  rank-length v count r z h b =
      let xs : List ℕ = digits v (rank_in nodes r).label in
      let ys : List ℕ = tree_bits v (tree_of_rank nodes count (rank_in nodes r).first) in
      let zs : List ℕ = tree_bits v (tree_of_rank nodes count (rank_in nodes r).second) in
      let p = length-append xs (ys ++ zs) in let q = length-append ys zs in let d = length_digits v (rank_in nodes r).label in
      ap length (rank-node v count r z h b) ∙ omega arith

-- ---- the tree of a rank, written

-- the empty tree is a 0 that stands there already
pub empty-written : {d : List ℕ} {nodes : List Rank} {at n count r : ℕ} → Writable d at n nodes count r → r ≡ 0
    → (at + 1 ≡ at + length (tree_bits n (tree_of_rank nodes count r)))
    × (bits d ≡ sets (bits d) at (tree_bits n (tree_of_rank nodes count r)))
empty-written {d} {nodes} {at} {n} {count} {r} w z =
    empty_stands (bits d) at _ (rank-zero nodes n count r z (omega arith)) w.clear

-- a node: its head, then the branches, which have smaller ranks
module _ {d : List ℕ} {nodes : List Rank} {at n count r : ℕ} (w : Writable d at n nodes count r) (z : r ≡ 0 → ⊥) where
  abbrev head_bits : List ℕ
  head_bits = 1 ∷ digits n (rank_in nodes r).label

  abbrev branch_bits : ℕ → List ℕ
  branch_bits i = tree_bits n (tree_of_rank nodes count i)

  pub backward : ((rank_in nodes r).first < r) × ((rank_in nodes r).second < r)
  backward = w.back r (omega arith) w.settled

  parts : length (tree_bits n (tree_of_rank nodes count r)) ≡ 1 + n + length (branch_bits (rank_in nodes r).first) + length (branch_bits (rank_in nodes r).second)
  parts = rank-length nodes n count r z w.settled w.back

  pub head_room : at + 1 + n ≤ 8 * length d
  head_room = omega (arith, parts)

  module _ (d₁ : List ℕ) (kept₁ : length d₁ ≡ length d) (wrote₁ : bits d₁ ≡ sets (bits d) at head_bits) where
    pub first_writable : Writable d₁ (at + 1 + n) n nodes count (rank_in nodes r).first
    first_writable =
        let g = length_digits n (rank_in nodes r).label in
        record {
          few-variables = w.few-variables;
          few = w.few;
          settled = omega (arith, backward.0);
          back = w.back;
          short = omega arith;
          room = omega (arith, parts);
          clear = clear-after (bits d) _ at _ head_bits wrote₁ w.clear (omega arith);
        }

    module _ (e : ℕ) (reached : e ≡ at + 1 + n + length (branch_bits (rank_in nodes r).first)) (d₂ : List ℕ) (kept₂ : length d₂ ≡ length d₁)
        (wrote₂ : bits d₂ ≡ sets (bits d₁) (at + 1 + n) (branch_bits (rank_in nodes r).first)) where
      pub second_writable : Writable d₂ e n nodes count (rank_in nodes r).second
      second_writable = record {
        few-variables = w.few-variables;
        few = w.few;
        settled = omega (arith, backward.1);
        back = w.back;
        short = omega arith;
        room = omega (arith, parts);
        clear = clear-after (bits d₁) _ (at + 1 + n) _ (branch_bits (rank_in nodes r).first) wrote₂ first_writable.clear reached;
      }

      pub node-written : (e₃ : ℕ) → e₃ ≡ e + length (branch_bits (rank_in nodes r).second) → (d₃ : List ℕ) → bits d₃ ≡ sets (bits d₂) e (branch_bits (rank_in nodes r).second)
          → (e₃ ≡ at + length (tree_bits n (tree_of_rank nodes count r)))
          × (bits d₃ ≡ sets (bits d) at (tree_bits n (tree_of_rank nodes count r)))
      node-written e₃ q d₃ p =
          let g = length_digits n (rank_in nodes r).label in (
            omega (arith, parts),
            rw (rank-node nodes n count r z w.settled w.back)
                (three (bits d) (bits d₁) (bits d₂) (bits d₃) at (at + 1 + n) e head_bits (branch_bits (rank_in nodes r).first) (branch_bits (rank_in nodes r).second)
                wrote₁ wrote₂ p (omega arith) reached),
          )
