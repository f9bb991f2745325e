-- The states of a built machine are exactly those that it reaches; and a count of states does not depend on the order in which they are found.
-- Assumes nothing.
use Prim.Native.Nat.{ℕ, zero, suc, ◌^◌, ◌≤◌, ◌<◌, suc-le-suc}
use mathlib.Core.Path.{◌≡◌, refl, ap, sym, subst, fun_ext}
use mathlib.Core.Logic.{◌↔◌, inl, inr, ⊎_elim}
use mathlib.Core.Bool.{Bool, true, false, cond, not, ◌||◌}
use mathlib.Core.List.{List, [], ◌∷◌}
use native.Mathlib.Nat.{not-suc-le-zero, le_of_suc-le-suc, le_antisymm}
use native.Mathlib.Omega.{arith}
use lib.Dec.{T, not_T, eqb, eqb→eq, eqb_refl}
use lib.ListN.{length, get_or}
use Rattle.logic.specs.Machine.{Machine, Bounded}
use Rattle.logic.specs.Meaning.{Branch}
use Rattle.logic.specs.Reach.{elem, below, select, Reached, started, stepped, reach, position, numbered}
use Rattle.logic.specs.Table.{build}
use Rattle.logic.proofs.Places.{T→true, not_T as false_of, neqb}
use Rattle.logic.proofs.Reach.{elem-cons, elem_below, elem-select}
use Rattle.logic.proofs.Rounds.{without, reach-start, reach-closed, reach-only, reach-all, reach-distinct}
use Rattle.logic.specs.Alike.{Full, Distinct, Closed, Lists}
use Rattle.logic.proofs.Numbered.{bound, build-bounded, position_lt, get_or-position, get_or-elem, reached-bound, numbered-bounded}

pub position-get_or : (L : List ℕ) → Distinct L → (i : ℕ) → i < length L → position (get_or L i 0) L ≡ i
unfolding Distinct position
position-get_or [] d i h = absurd (not-suc-le-zero h)
position-get_or (r ∷ L) d zero h = rw (T→true (eqb r r) (eqb_refl r)) refl
position-get_or (r ∷ L) d (suc i) h =
    let e : eqb (get_or L i 0) r ≡ false = false_of (eqb (get_or L i 0) r)
    (λ t. d.0 (subst (λ (z : ℕ). T (elem z L)) (eqb→eq (get_or L i 0) r t) (get_or-elem L i (le_of_suc-le-suc h)))) in
    rw e (ap suc (position-get_or L d.1 i (le_of_suc-le-suc h)))

-- ---- lists by index
pub elem-position : (q : ℕ) (L : List ℕ) → position q L < length L → T (elem q L)
unfolding position elem
elem-position q [] h = not-suc-le-zero h
elem-position q (r ∷ L) h = go (eqb q r) h (elem-position q L)
  where
    go : (v : Bool) → cond v 0 (suc (position q L)) < suc (length L) → (position q L < length L → T (elem q L)) → T (v || elem q L)
    go true h ih = tt
    go false h ih = ih (le_of_suc-le-suc h)

pub distinct_index : (L : List ℕ) → ((i j : ℕ) → i < length L → j < length L → get_or L i 0 ≡ get_or L j 0 → i ≡ j) → Distinct L
unfolding Distinct
distinct_index [] one = tt
distinct_index (q ∷ L) one = (
  (λ t. let z : 0 ≡ suc (position q L) = one 0 (suc (position q L)) (omega arith) (suc-le-suc (position_lt q L t)) (sym (get_or-position q L t)) in omega arith),
  distinct_index L (λ i j hi hj e. let z : suc i ≡ suc j = one (suc i) (suc j) (suc-le-suc hi) (suc-le-suc hj) e in omega arith),
)

-- the states of a machine, by index: each once, reached, the start first, and closed under its steps
module _ {k : ℕ} (n : ℕ) (M : Machine k ℕ) (L : List ℕ) (one : (i j : ℕ) → i < length L → j < length L → get_or L i 0 ≡ get_or L j 0 → i ≡ j)
    (reached : (i : ℕ) → i < length L → Reached M (below (2 ^ n)) (get_or L i 0)) (first : (0 < length L) × (get_or L 0 0 ≡ M.start))
    (closed : (l : ℕ) → l < 2 ^ n → (s : Branch k → ℕ) → ((b : Branch k) → s b < length L) → position (M.step l (λ b. get_or L (s b) 0)) L < length L) where
  pub lists_index : Lists n M L
  lists_index = record {
    distinct = distinct_index L one;
    only = λ q t. subst (Reached M (below (2 ^ n))) (get_or-position q L t) (reached (position q L) (position_lt q L t));
    begins = subst (λ (q : ℕ). T (elem q L)) first.1 (get_or-elem L 0 first.0);
    closed = λ l t s h.
        let e : M.step l (λ b. get_or L (position (s b) L) 0) ≡ M.step l s = ap (M.step l) (fun_ext (λ b. get_or-position (s b) L (h b))) in
        elem-position (M.step l s) L (subst (λ (q : ℕ). position q L < length L) e
        (closed l ((elem_below l (2 ^ n)).0 t) (λ b. position (s b) L) (λ b. position_lt (s b) L (h b))));
  }

-- the states of a list, numbered in its order, are all reached
module _ {k : ℕ} (n : ℕ) (M : Machine k ℕ) (L : List ℕ) (v : Lists n M L) where
  listed : (q : ℕ) → Reached M (below (2 ^ n)) q → T (elem q L)
  listed q started = v.begins
  listed q (stepped l t s h) = v.closed l t s (λ b. listed (s b) (h b))

  renumbered : (q : ℕ) → Reached M (below (2 ^ n)) q → Reached (numbered M L) (below (2 ^ n)) (position q L)
  unfolding numbered
  renumbered q started = started
  renumbered q (stepped l t s h) =
      let e : M.step l (λ b. get_or L (position (s b) L) 0) ≡ M.step l s = ap (M.step l) (fun_ext (λ b. get_or-position (s b) L (listed (s b) (h b)))) in
      subst (λ (z : ℕ). Reached (numbered M L) (below (2 ^ n)) (position z L)) e (stepped l t (λ b. position (s b) L) (λ b. renumbered (s b) (h b)))

  pub full-numbered : Full n (length L) (numbered M L)
  full-numbered = (
    numbered-bounded n M L v.begins v.closed,
    λ q h. subst (λ (z : ℕ). Reached (numbered M L) (below (2 ^ n)) z) (position-get_or L v.distinct q h)
        (renumbered (get_or L q 0) (v.only (get_or L q 0) (get_or-elem L q h))),
  )

module _ {k : ℕ} (n d : ℕ) (M : Machine k ℕ) (B : Bounded n d M) where
  abbrev L : List ℕ
  L = reach M (below (2 ^ n)) d

  reach-lists : Lists n M L
  reach-lists = record {
    distinct = reach-distinct M (below (2 ^ n)) d (bound n d M B);
    only = reach-only M (below (2 ^ n)) d (bound n d M B);
    begins = reach-start M (below (2 ^ n)) d (bound n d M B);
    closed = reach-closed M (below (2 ^ n)) d (bound n d M B);
  }

  pub build-states : (q : ℕ) → (q < (build n d M).count) ↔ Reached (build n d M).machine (below (2 ^ n)) q
  unfolding build
  build-states q = (
    (full-numbered n M L reach-lists).1 q,
    λ r. reached-bound n (build n d M).count (build n d M).machine (below (2 ^ n)) (build-bounded n d M B) (λ l t. (elem_below l (2 ^ n)).0 t) q r,
  )

pub select-length : (g : ℕ → Bool) (N : List ℕ) → length (select g N) ≤ length N
unfolding select
select-length g [] = omega arith
select-length g (q ∷ N) = go (g q) (select-length g N)
  where
    go : (v : Bool) → length (select g N) ≤ length N → length (cond v (q ∷ select g N) (select g N)) ≤ suc (length N)
    go true ih = omega arith
    go false ih = omega arith

without-shorter : (r : ℕ) (N : List ℕ) → T (elem r N) → length (without r N) < length N
unfolding select elem
without-shorter r [] t = absurd t
without-shorter r (q ∷ N) t = go (eqb q r) refl (without-shorter r N) (select-length (λ z. not (eqb z r)) N)
  where
    go : (v : Bool) → eqb q r ≡ v → (T (elem r N) → length (without r N) < length N) → length (without r N) ≤ length N
        → length (cond (not v) (q ∷ without r N) (without r N)) < suc (length N)
    go true e ih h = omega arith
    go false e ih h = let a = ih (⊎_elim (λ p. absurd (neqb q r e (sym p))) (λ u. u) ((elem-cons r q N).0 t)) in omega arith

-- a list of different members of N is no longer than N
pub subset-length : (L N : List ℕ) → Distinct L → ((q : ℕ) → T (elem q L) → T (elem q N)) → length L ≤ length N
unfolding Distinct
subset-length [] N d h = omega arith
subset-length (r ∷ L) N d h =
    let a = without-shorter r N (h r ((elem-cons r r L).1 (inl refl))) in
    let b = subset-length L (without r N) d.1 (λ q t. (elem-select q (λ z. not (eqb z r)) N).1
    (h q ((elem-cons q r L).1 (inr t)), not_T (eqb q r) (λ e. d.0 (subst (λ (z : ℕ). T (elem z L)) (eqb→eq q r e) t)))) in
    omega arith

pub same_length : (L N : List ℕ) → Distinct L → Distinct N → ((q : ℕ) → T (elem q L) ↔ T (elem q N)) → length L ≡ length N
same_length L N d e h = le_antisymm (subset-length L N d (λ q. (h q).0)) (subset-length N L e (λ q. (h q).1))

-- a list of different states that holds the start, is closed and holds reached states only has the same length as the built machine's
pub count_unique : {k : ℕ} (n d : ℕ) (M : Machine k ℕ) → Bounded n d M → (N : List ℕ) → Distinct N → T (elem M.start N) → Closed M (below (2 ^ n)) N
    → ((q : ℕ) → T (elem q N) → Reached M (below (2 ^ n)) q) → length N ≡ (build n d M).count
unfolding build
count_unique n d M B N D S C R =
    same_length N (reach M (below (2 ^ n)) d) D (reach-distinct M (below (2 ^ n)) d (bound n d M B))
    (λ q. (λ t. reach-all M (below (2 ^ n)) d (bound n d M B) q (R q t), λ t. all q (reach-only M (below (2 ^ n)) d (bound n d M B) q t)))
  where
    all : (q : ℕ) → Reached M (below (2 ^ n)) q → T (elem q N)
    all q started = S
    all q (stepped l t s h) = C l t s (λ b. all (s b) (h b))
