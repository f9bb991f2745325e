-- A machine with its reachable states numbered behaves as it did.
-- Assumes nothing.
use Prim.Native.Nat.{ℕ, zero, suc, ◌^◌, ◌<◌}
use mathlib.Core.Path.{◌≡◌, refl, ap, sym, subst, ◌∙◌, fun_ext}
use mathlib.Core.Logic.{inl, inr}
use mathlib.Core.Bool.{Bool, true, false, cond, ◌||◌}
use mathlib.Core.List.{List, [], ◌∷◌}
use native.Mathlib.Nat.{not-suc-le-zero, le_of_suc-le-suc}
use native.Mathlib.Omega.{arith}
use lib.Dec.{T, eqb, eqb→eq}
use lib.ListN.{length, get_or}
use Rattle.logic.specs.Meaning.{Branch, Formula}
use Rattle.logic.specs.Machine.{Machine, Decides, Simulates, Bounded}
use Rattle.logic.specs.Reach.{elem, below, Reached, started, stepped, reach, position, numbered}
use Rattle.logic.specs.Table.{build}
use Rattle.logic.proofs.Places.{true→T}
use Rattle.logic.proofs.Connectives.{decides_simulated}
use Rattle.logic.proofs.Reach.{elem-cons, elem_below}
use Rattle.logic.specs.Alike.{Closed}
use Rattle.logic.proofs.Rounds.{reach-closed, reach-start}

pub position_lt : (q : ℕ) (L : List ℕ) → T (elem q L) → position q L < length L
unfolding position elem
position_lt q [] t = absurd t
position_lt q (r ∷ L) t = go (eqb q r) (position_lt q L) t
  where
    go : (v : Bool) → (T (elem q L) → position q L < length L) → T (v || elem q L) → cond v 0 (suc (position q L)) < suc (length L)
    go true ih u = omega arith
    go false ih u = let h = ih u in omega arith

pub get_or-position : (q : ℕ) (L : List ℕ) → T (elem q L) → get_or L (position q L) 0 ≡ q
unfolding position elem
get_or-position q [] t = absurd t
get_or-position q (r ∷ L) t = go (eqb q r) refl (get_or-position q L) t
  where
    go : (v : Bool) → eqb q r ≡ v → (T (elem q L) → get_or L (position q L) 0 ≡ q) → T (v || elem q L) → get_or (r ∷ L) (cond v 0 (suc (position q L))) 0 ≡ q
    go true e ih u = sym (eqb→eq q r (true→T e))
    go false e ih u = ih u

pub get_or-elem : (L : List ℕ) (i : ℕ) → i < length L → T (elem (get_or L i 0) L)
get_or-elem [] i h = absurd (not-suc-le-zero h)
get_or-elem (r ∷ L) zero h = (elem-cons r r L).1 (inl refl)
get_or-elem (r ∷ L) (suc i) h = (elem-cons (get_or L i 0) r L).1 (inr (get_or-elem L i (le_of_suc-le-suc h)))

pub reached-bound : {k : ℕ} (n c : ℕ) (M : Machine k ℕ) (ls : List ℕ) → Bounded n c M → ((l : ℕ) → T (elem l ls) → l < 2 ^ n) → (q : ℕ) → Reached M ls q → q < c
reached-bound n c M ls B h q started = B.0
reached-bound n c M ls B h q (stepped l t s u) = B.1 l (h l t) s (λ b. reached-bound n c M ls B h (s b) (u b))

-- any list of states that holds the start and is closed under M's steps will do, in whatever order they were found
module _ {k : ℕ} (n : ℕ) (M : Machine k ℕ) (L : List ℕ) (S : T (elem M.start L)) (C : Closed M (below (2 ^ n)) L) where
  step_in : (l : ℕ) → l < 2 ^ n → (s : Branch k → ℕ) → ((b : Branch k) → s b < length L) → T (elem (M.step l (λ b. get_or L (s b) 0)) L)
  step_in l h s u = C l ((elem_below l (2 ^ n)).1 h) (λ b. get_or L (s b) 0) (λ b. get_or-elem L (s b) (u b))

  pub numbered-bounded : Bounded n (length L) (numbered M L)
  unfolding numbered
  numbered-bounded = (position_lt M.start L S, λ l h s u. position_lt (M.step l (λ b. get_or L (s b) 0)) L (step_in l h s u))

  pub numbered_simulates : Simulates n (numbered M L) M (λ q r. (q < length L) × (get_or L q 0 ≡ r))
  unfolding numbered
  numbered_simulates = record {
    at_start = (position_lt M.start L S, get_or-position M.start L S);
    at_step = λ l h s r u.
        let t = step_in l h s (λ b. (u b).0) in (
          position_lt (M.step l (λ b. get_or L (s b) 0)) L t,
          get_or-position (M.step l (λ b. get_or L (s b) 0)) L t ∙ ap (M.step l) (fun_ext (λ b. (u b).1)),
        );
    at-end = λ q r u. ap M.accepting u.1;
  }

  pub numbered-decides : (f : Formula k) → Decides n M f → Decides n (numbered M L) f
  numbered-decides f D = decides_simulated n (numbered M L) M (λ q r. (q < length L) × (get_or L q 0 ≡ r)) numbered_simulates f D

module _ {k : ℕ} (n d : ℕ) (M : Machine k ℕ) (B : Bounded n d M) where
  pub bound : (q : ℕ) → Reached M (below (2 ^ n)) q → q < d
  bound q r = reached-bound n d M (below (2 ^ n)) B (λ l t. (elem_below l (2 ^ n)).0 t) q r

  -- just the states that are reached are counted
  build-count : length (reach M (below (2 ^ n)) d) ≡ (build n d M).count
  unfolding build
  build-count = refl

  pub build-bounded : Bounded n (build n d M).count (build n d M).machine
  unfolding build
  build-bounded = subst (λ (c : ℕ). Bounded n c (build n d M).machine) build-count
      (numbered-bounded n M (reach M (below (2 ^ n)) d) (reach-start M (below (2 ^ n)) d bound) (reach-closed M (below (2 ^ n)) d bound))

  pub build-decides : (f : Formula k) → Decides n M f → Decides n (build n d M).machine f
  unfolding build
  build-decides f D = numbered-decides n M (reach M (below (2 ^ n)) d) (reach-start M (below (2 ^ n)) d bound) (reach-closed M (below (2 ^ n)) d bound) f D
