-- The earliest tree of its state has no downward path with as many positions as there are states.
-- Assumes nothing.
use Prim.Native.Nat.{ℕ, zero, suc, ◌+◌, ◌≤◌, ◌<◌}
use mathlib.Core.Path.{◌≡◌, refl, sym, ap, subst, ◌∙◌, fun_ext}
use mathlib.Core.Logic.{inl, inr}
use mathlib.Core.Bool.{Bool, true, false, cond}
use mathlib.Core.List.{List, [], ◌∷◌, map}
use native.Mathlib.Omega.{arith}
use lib.Dec.{T}
use lib.ListN.{length, get_or, length-append, length-map}
use Rattle.logic.specs.Meaning.{Branch, Place, is_same_branch}
use Rattle.logic.specs.Tree.{Tree, empty, node, positions, node_at, Proper}
use Rattle.logic.specs.Order.{◌≺◌, ◌⪯◌}
use Rattle.logic.specs.Machine.{Machine, run}
use Rattle.logic.specs.Claims.{Downward, Shallow}
use Rattle.logic.proofs.Places.{true→T, branch_eq}
use Rattle.logic.proofs.Branches.{same_branch}
use Rattle.logic.proofs.Orders.{less, same, more, ≺-tri, ≺-irrefl, ⪯-antisym, ⪯-positions, branch-fewer, node-⪯}
use Rattle.logic.proofs.Pigeon.{pigeon}
use Rattle.logic.specs.Alike.{Full}
use Rattle.logic.proofs.Settle.{Earliest, run-below}

-- the branches of an earliest tree are earliest
module _ {k : ℕ} (n : ℕ) (M : Machine k ℕ) (l : ℕ) (f : Branch k → Tree k) (o : Proper n (node l f)) (e : Earliest n M (node l f)) (b : Branch k) where
  -- f with u at branch b
  swap : Tree k → Branch k → Tree k
  swap u c = cond (is_same_branch c b) u (f c)

  swap-each : (Q : Branch k → Tree k → Type 0) (u : Tree k) → Q b u → ((c : Branch k) → Q c (f c)) → (c : Branch k) → Q c (swap u c)
  unfolding swap
  swap-each Q u q r c = go (is_same_branch c b) refl
    where
      go : (v : Bool) → is_same_branch c b ≡ v → Q c (cond v u (f c))
      go true h = subst (λ (x : Branch k). Q x u) (sym (branch_eq c b (true→T h))) q
      go false h = r c

  swap-here : (u : Tree k) → swap u b ≡ u
  unfolding swap
  swap-here u = rw (same_branch b) refl

  pub earliest-branch : Earliest n M (f b)
  unfolding run Proper
  earliest-branch u ou r = elim (≺-tri (f b) u) [ less p ↦ inl p | same p ↦ inr p | more p ↦ absurd (≺-irrefl u (subst (λ (x : Tree k). u ≺ x) (took p) p)) ]
    where
      took : u ≺ f b → f b ≡ u
      took p =
          let down : node l (swap u) ⪯ node l f = node-⪯ l (swap u) f (swap-each (λ c x. x ⪯ f c) u (inl p) (λ c. inr refl)) in
          let up : node l f ⪯ node l (swap u) = e (node l (swap u)) (o.0, swap-each (λ c x. Proper n x) u ou o.1)
          (ap (M.step l) (fun_ext (swap-each (λ c x. run M x ≡ run M (f c)) u r (λ c. refl)))) in
          let q : node l f ≡ node l (swap u) = ⪯-antisym (node l f) (node l (swap u)) up down in
          let g : f ≡ swap u = cc in
          ap (λ (h : Branch k → Tree k). h b) g ∙ swap-here u

-- different numbers below c
record Apart (c : ℕ) (xs : List ℕ) : Type 0 where
  below : (i : ℕ) → i < length xs → get_or xs i 0 < c
  apart : (i j : ℕ) → i < j → j < length xs → get_or xs i 0 ≡ get_or xs j 0 → ⊥

apart_cons : (c x : ℕ) (xs : List ℕ) → x < c → ((i : ℕ) → i < length xs → x ≡ get_or xs i 0 → ⊥) → Apart c xs → Apart c (x ∷ xs)
apart_cons c x xs h f v = record { below = low; apart = off }
  where
    low : (i : ℕ) → i < suc (length xs) → get_or (x ∷ xs) i 0 < c
    low zero p = h
    low (suc i) p = v.below i (omega arith)

    off : (i j : ℕ) → i < j → j < suc (length xs) → get_or (x ∷ xs) i 0 ≡ get_or (x ∷ xs) j 0 → ⊥
    off i zero p q e = omega arith
    off zero (suc j) p q e = f j (omega arith) e
    off (suc i) (suc j) p q e = v.apart i j (omega arith) (omega arith) e

apart-length : (c : ℕ) (xs : List ℕ) → Apart c xs → length xs ≤ c
apart-length c xs v = pigeon c (length xs) (λ i. get_or xs i 0) v.below v.apart

-- a downward path ends as far below its first position as there are positions after that
path-end : {k : ℕ} (t : Tree k) (p : Place k) (path : List (Place k)) → Downward t (p ∷ path)
    → (q : Place k) × T (node_at t q) × (length q ≡ length p + length path)
unfolding Downward
path-end t p [] d = (p, d, omega arith)
path-end t p (q ∷ path) d =
    let w = path-end t q path d.2 in
    let e = ap length d.1.1 ∙ length-append p (d.1.0 ∷ []) in
    (w.0, w.1, omega (arith, w.2))

module _ {k : ℕ} (n count : ℕ) (M : Machine k ℕ) (m : Full n count M) where
  -- the states above are states of trees with more than d positions only
  abbrev Heavier : List ℕ → ℕ → Type 0
  Heavier above d = (i : ℕ) → i < length above → (u : Tree k) → Proper n u → run M u ≡ get_or above i 0 → d < positions u

  push : (above : List ℕ) (t : Tree k) → Proper n t → Apart count above → Heavier above (positions t) → Apart count (run M t ∷ above)
  push above t o v h = apart_cons count (run M t) above (run-below n count M m t o) (λ i p e. let a = h i p t o e in omega arith) v

  heavier : (above : List ℕ) (t : Tree k) (d : ℕ) → Earliest n M t → d < positions t → Heavier above (positions t) → Heavier (run M t ∷ above) d
  heavier above t d e p h zero q w ow r = let a = ⪯-positions t w (e w ow r) in omega arith
  heavier above t d e p h (suc i) q w ow r = let a = h i (omega arith) w ow r in omega arith

  room : (above : List ℕ) → Apart count above → Heavier above 0 → length above < count
  unfolding Proper positions
  room above v h = apart-length count (run M empty ∷ above) (push above empty tt v h)

  some-there : (l : ℕ) (f : Branch k → Tree k) → 0 < positions (node l f)
  unfolding positions
  some-there l f = omega arith

  low : (p : Place k) (t : Tree k) (above : List ℕ) → T (node_at t p) → Proper n t → Earliest n M t → Apart count above → Heavier above (positions t)
      → length above + suc (length p) < count
  unfolding node_at Proper
  low p empty above h o e v w = absurd h
  low [] (node l f) above h o e v w =
      let a = room (run M (node l f) ∷ above) (push above (node l f) o v w) (heavier above (node l f) 0 e (some-there l f) w) in omega arith
  low (b ∷ p) (node l f) above h o e v w =
      let a = low p (f b) (run M (node l f) ∷ above) h (o.1 b) (earliest-branch n M l f o e b) (push above (node l f) o v w)
      (heavier above (node l f) (positions (f b)) e (branch-fewer l f b) w) in
      omega arith

  pub earliest-shallow : (t : Tree k) → Proper n t → Earliest n M t → Shallow count t
  earliest-shallow t o e = go
    where
      none_above : Apart count []
      none_above = record { below = λ i q. absurd (omega arith); apart = λ i j q r. absurd (omega arith) }

      go : Shallow count t
      go [] d = let a = room [] none_above (λ i q. absurd (omega arith)) in omega arith
      go (p ∷ path) d =
          let w = path-end t p path d in
          let a = low w.0 t [] w.1 o e none_above (λ i q. absurd (omega arith)) in omega (arith, w.2)

-- every position ends a downward path from the root: the bound says of each that its steps and the root are fewer than the states
module _ {k : ℕ} where
  path_to : Place k → List (Place k)
  path_to [] = [] ∷ []
  path_to (b ∷ p) = [] ∷ map (λ q. b ∷ q) (path_to p)

  beneath : (l : ℕ) (f : Branch k → Tree k) (b : Branch k) (path : List (Place k)) → Downward (f b) path → Downward (node l f) (map (λ q. b ∷ q) path)
  unfolding Downward node_at
  beneath l f b [] d = tt
  beneath l f b (p ∷ []) d = d
  beneath l f b (p ∷ (q ∷ path)) d = (d.0, (d.1.0, ap (λ (r : Place k). b ∷ r) d.1.1), beneath l f b (q ∷ path) d.2)

  down_to : (t : Tree k) (p : Place k) → T (node_at t p) → Downward t (path_to p) × (length (path_to p) ≡ suc (length p))
  unfolding path_to Downward node_at
  down_to empty p h = absurd h
  down_to (node l f) [] h = (tt, refl)
  down_to (node l f) (b ∷ []) h = ((tt, (b, refl), h), refl)
  down_to (node l f) (b ∷ (c ∷ p)) h =
      let w = down_to (f b) (c ∷ p) h in
      ((tt, (b, refl), beneath l f b (path_to (c ∷ p)) w.0), omega (arith, length-map (path_to (c ∷ p)) (λ (q : Place k). b ∷ q), w.1))

  pub shallow_at : (states : ℕ) (t : Tree k) → Shallow states t → (p : Place k) → T (node_at t p) → suc (length p) < states
  shallow_at states t s p h = let w = down_to t p h in omega (arith, s (path_to p) w.0, w.1)
