-- Each round settles the next state in tree order, with its earliest tree.
-- Assumes nothing.
use Prim.Native.Nat.{ℕ, zero, suc, ◌+◌, ◌-◌, ◌^◌, ◌≤◌, ◌<◌}
use mathlib.Core.Path.{◌≡◌, refl, sym, ap, subst, ◌∙◌, fun_ext}
use mathlib.Core.Logic.{◌⊎◌, inl, inr, ⊎_elim}
use mathlib.Core.Bool.{Bool, true, false, ◌||◌, true≢false, false≢true}
use mathlib.Core.List.{List, [], ◌∷◌, ◌++◌}
use native.Mathlib.Omega.{arith}
use borrow.Author.Tests.{ltb-true, ltb-false, eq-eqb}
use lib.Dec.{ltb, eqb}
use lib.ListN.{length, get_or, length-append, get_or-append}
use lib.Seq.{get_or-append_seam}
use Rattle.logic.specs.Meaning.{Branch}
use Rattle.logic.specs.Tree.{Tree, empty, node, positions, Proper}
use Rattle.logic.specs.Order.{◌≺◌, ◌⪯◌}
use Rattle.logic.specs.Machine.{Machine, run}
use Rattle.logic.specs.Table.{Table}
use Rattle.logic.specs.Search.{at, rank, candidate, settled, view, Best, nothing, found, pick, Sought, tree, large, absent, verdict, next, rounds}
use Rattle.logic.specs.Search.{any_below, begin, search}
use Rattle.logic.proofs.Branches.{branch_same}
use Rattle.logic.specs.Alike.{Full}
use Rattle.logic.proofs.Satisfiable.{reached-tree}
use Rattle.logic.proofs.Pigeon.{pigeon}
use Rattle.logic.proofs.Orders.{less, same, more, ℕ-tri, first, ≺-irrefl, ≺-trans, ⪯-trans, ⪯-≺-trans, ⪯-positions, ≺-of-fewer, branch-fewer, empty-⪯}
use Rattle.logic.proofs.Orders.{node-⪯}
use Rattle.logic.proofs.Scan.{settled-found, unsettled, Sorted, Tuple, tuple-below, Kept, picked}

-- one number for each branch, as a list
module _ {k : ℕ} (n : ℕ) (P : Branch k → ℕ → Type 0) (choice : (b : Branch k) → (q : ℕ) × (q < n) × P b q) where
  collect-from : (d j : ℕ) → j + d ≡ k → (is : List ℕ) × Tuple n d is × ((b : Branch k) (i : ℕ) → j + i ≡ b.number → P b (get_or is i 0))
  unfolding Tuple
  collect-from zero j e = ([], tt, λ b i h. absurd (let l = b.below in omega arith))
  collect-from (suc d) j e =
      let w = collect-from d (suc j) (omega arith) in
      let c : Branch k = record { number = j; below = omega arith } in
      let q = choice c in
      (q.0 ∷ w.0, (q.1, w.1), here c q.0 q.2 w.0 w.2 refl)
    where
      here : (c : Branch k) (q : ℕ) → P c q → (is : List ℕ) → ((b : Branch k) (i : ℕ) → suc j + i ≡ b.number → P b (get_or is i 0)) → c.number ≡ j
          → (b : Branch k) (i : ℕ) → j + i ≡ b.number → P b (get_or (q ∷ is) i 0)
      here c q p is f z b zero h = subst (λ (x : Branch k). P x q) (branch_same c b (omega arith)) p
      here c q p is f z b (suc i) h = f b i (omega arith)

  pub collect : (is : List ℕ) × Tuple n k is × ((b : Branch k) → P b (rank is b))
  collect = let w = collect-from k 0 (omega arith) in (w.0, w.1, λ b. w.2 b b.number (omega arith))

-- t is the earliest tree of its state
abbrev pub Earliest : {k : ℕ} → ℕ → Machine k ℕ → Tree k → Type 0
Earliest {k} n M t = (u : Tree k) → Proper n u → run M u ≡ run M t → t ⪯ u

pub record Inv {k : ℕ} (n : ℕ) (M : Machine k ℕ) (s : List (Tree k)) : Type 0 where
  pub sorted : Sorted s
  pub some-there : 0 < length s
  pub first-empty : at s 0 ≡ empty
  pub proper : (i : ℕ) → i < length s → Proper n (at s i)
  pub earliest : (i : ℕ) → i < length s → Earliest n M (at s i)
  pub later : (u : Tree k) → Proper n u → settled M s (run M u) ≡ false → (i : ℕ) → i < length s → at s i ≺ u

-- s with one tree more
module _ {k : ℕ} (s : List (Tree k)) (t : Tree k) where
  abbrev snoc : List (Tree k)
  snoc = s ++ (t ∷ [])

  snoc-length : length snoc ≡ suc (length s)
  snoc-length = simp length-append (omega arith)

  snoc_old : (i : ℕ) → i < length s → at snoc i ≡ at s i
  snoc_old i h = get_or-append s (t ∷ []) empty i h

  snoc_new : at snoc (length s) ≡ t
  snoc_new = get_or-append_seam s t [] empty

  -- what holds of the old ones and of the new one holds of all
  snoc-all : (P : ℕ → Tree k → Type 0) → ((i : ℕ) → i < length s → P i (at s i)) → P (length s) t → (i : ℕ) → i < length snoc → P i (at snoc i)
  snoc-all P f p i h = elim (ℕ-tri i (length s)) [
    | less j ↦ rw (snoc_old i j) (f i j)
    | same e ↦ rw (e, snoc_new) p
    | more j ↦ absurd (omega (arith, snoc-length))
  ]

or-false : (x y z : Bool) → (y ≡ false → z ≡ false) → (x || y) ≡ false → (x || z) ≡ false
or-false true y z k e = e
or-false false y z k e = k e

unsettled-before : {k : ℕ} (M : Machine k ℕ) (s : List (Tree k)) (t : Tree k) (q : ℕ) → settled M (s ++ (t ∷ [])) q ≡ false → settled M s q ≡ false
unfolding settled
unsettled-before M [] t q e = refl
unsettled-before M (x ∷ s) t q e = or-false (eqb (run M x) q) (settled M (s ++ (t ∷ [])) q) (settled M s q) (unsettled-before M s t q) e

module _ {k : ℕ} (n : ℕ) (M : Machine k ℕ) (s : List (Tree k)) (v : Inv n M s) where
  start-settled : settled M s M.start ≡ true
  unfolding run
  start-settled = here (settled M s M.start) refl
    where
      here : (x : Bool) → settled M s M.start ≡ x → settled M s M.start ≡ true
      here true e = e
      here false e = absurd (unsettled M s M.start 0 e v.some-there (ap (run M) v.first-empty))

  -- all branches have settled states: the ranks of these
  abbrev Ranks : (Branch k → Tree k) → Type 0
  Ranks f = (is : List ℕ) × Tuple (length s) k is × ((b : Branch k) → (run M (at s (rank is b)) ≡ run M (f b)) × (at s (rank is b) ⪯ f b))

  ranks : (f : Branch k → Tree k) → ((b : Branch k) → Proper n (f b)) → ((b : Branch k) → settled M s (run M (f b)) ≡ true) → Ranks f
  ranks f o e = collect (length s) (λ b q. (run M (at s q) ≡ run M (f b)) × (at s q ⪯ f b))
      (λ b. let w = settled-found M s (run M (f b)) (e b) in (w.0, w.1, (w.2, v.earliest w.0 w.1 (f b) (o b) (sym w.2))))

  same-state : (m : ℕ) (f : Branch k → Tree k) (r : Ranks f) → run M (candidate s m r.0) ≡ run M (node m f)
  unfolding run
  same-state m f r = ap (M.step m) (fun_ext (λ b. (r.2 b).0))

  test : (x : Bool) → (x ≡ false) ⊎ (x ≡ true)
  test true = inr refl
  test false = inl refl

  -- the earliest candidate is earlier than every tree whose state is not settled
  module _ (l : ℕ) (is : List ℕ) (h : Kept M s (λ m js. m < 2 ^ n) (found l is)) where
    pub least : (u : Tree k) → Proper n u → settled M s (run M u) ≡ false → candidate s l is ⪯ u
    unfolding run Proper Kept
    least empty o e = absurd (true≢false (sym start-settled ∙ e))
    least (node m f) o e =
        ⊎_elim (λ w. fresh w.0 (least (f w.0) (o.1 w.0) w.2)) old
        (first (λ b. settled M s (run M (f b)) ≡ false) (λ b. settled M s (run M (f b)) ≡ true) (λ b. test (settled M s (run M (f b)))))
      where
        fresh : (b : Branch k) → candidate s l is ⪯ f b → candidate s l is ⪯ node m f
        fresh b p = inl (⪯-≺-trans (candidate s l is) (f b) (node m f) p (≺-of-fewer (f b) (node m f) (branch-fewer m f b)))

        old : ((b : Branch k) → settled M s (run M (f b)) ≡ true) → candidate s l is ⪯ node m f
        old q = let r : Ranks f = ranks f o.1 q in
            ⪯-trans (candidate s l is) (candidate s m r.0) (node m f)
            (h.3 m r.0 r.1 o.0 (ap (settled M s) (same-state m f r) ∙ e))
            (node-⪯ m (λ b. at s (rank r.0 b)) f (λ b. (r.2 b).1))

  -- if no candidate makes a new state, every state is settled
  module _ (h : Kept M s (λ m js. m < 2 ^ n) nothing) where
    pub all_settled : (u : Tree k) → Proper n u → settled M s (run M u) ≡ true
    unfolding Proper Kept run
    all_settled empty o = start-settled
    all_settled (node m f) o = last (ranks f o.1 (λ b. all_settled (f b) (o.1 b)))
      where
        last : Ranks f → settled M s (run M (node m f)) ≡ true
        last r = ap (settled M s) (sym (same-state m f r)) ∙ h m r.0 r.1 o.0

  candidate-proper : (l : ℕ) (is : List ℕ) → l < 2 ^ n → Tuple (length s) k is → Proper n (candidate s l is)
  unfolding Proper
  candidate-proper l is h t = (h, λ b. v.proper (rank is b) (tuple-below (length s) k is t b.number b.below))

  -- and then the settled trees with the candidate are as they should be
  settle : (l : ℕ) (is : List ℕ) → Kept M s (λ m js. m < 2 ^ n) (found l is) → Inv n M (s ++ (candidate s l is ∷ []))
  unfolding Kept
  settle l is h = record {
    sorted = λ a b p hb. snoc-all s t (λ b x. (a : ℕ) → a < b → at (snoc s t) a ≺ x)
        (λ b hb a p. rw (snoc_old s t a (omega arith)) (v.sorted a b p hb))
        (λ a p. rw (snoc_old s t a p) (v.later t o h.2 a p)) b hb a p;
    some-there = omega (arith, v.some-there, snoc-length s t);
    first-empty = snoc_old s t 0 v.some-there ∙ v.first-empty;
    proper = snoc-all s t (λ _ x. Proper n x) v.proper o;
    earliest = snoc-all s t (λ _ x. Earliest n M x) v.earliest new;
    later = λ u ou p. snoc-all s t (λ _ x. x ≺ u) (v.later u ou (unsettled-before M s t (run M u) p))
        (strict u p (least l is h u ou (unsettled-before M s t (run M u) p)));
  }
    where
      t : Tree k
      t = candidate s l is

      o : Proper n t
      o = candidate-proper l is h.1 h.0

      new : Earliest n M t
      new u ou e = least l is h u ou (ap (settled M s) e ∙ h.2)

      strict : (u : Tree k) → settled M (snoc s t) (run M u) ≡ false → t ⪯ u → t ≺ u
      strict u p (inl q) = q
      strict u p (inr e) = absurd (unsettled M (snoc s t) (run M u) (length s) p (omega (arith, snoc-length s t)) (rw (snoc_new s t) (ap (run M) e)))

abbrev pub Accepts : {k : ℕ} → ℕ → Machine k ℕ → Tree k → Type 0
Accepts n M t = Proper n t × (M.accepting (run M t) ≡ true)

-- the answer is right for the trees that M accepts: the earliest one, if it has at most P positions
unfoldable pub RightForTrees : {k : ℕ} → ℕ → Machine k ℕ → ℕ → Sought k → Type 0
RightForTrees {k} n M P (tree t) = Accepts n M t × (positions t ≤ P) × ((u : Tree k) → Accepts n M u → t ⪯ u)
RightForTrees {k} n M P large = ((u : Tree k) × Accepts n M u) × ((u : Tree k) → Accepts n M u → P < positions u)
RightForTrees {k} n M P absent = (u : Tree k) → Accepts n M u → ⊥

pub some-true : (accepts : ℕ → Bool) (n : ℕ) → any_below accepts n ≡ true → (q : ℕ) × (q < n) × (accepts q ≡ true)
unfolding any_below
some-true accepts zero e = absurd (false≢true e)
some-true accepts (suc n) e = here (some-true accepts n) (accepts n) refl e
  where
    here : (any_below accepts n ≡ true → (q : ℕ) × (q < n) × (accepts q ≡ true)) → (x : Bool) → accepts n ≡ x → (x || any_below accepts n) ≡ true
        → (q : ℕ) × (q < suc n) × (accepts q ≡ true)
    here k true h e = (n, omega arith, h)
    here k false h e = let f = k e in (f.0, omega arith, f.2)

pub some-false : (accepts : ℕ → Bool) (n q : ℕ) → any_below accepts n ≡ false → q < n → accepts q ≡ true → ⊥
unfolding any_below
some-false accepts zero q e h a = omega arith
some-false accepts (suc n) q e h a = here (some-false accepts n q) (accepts n) refl e
  where
    here : (any_below accepts n ≡ false → q < n → accepts q ≡ true → ⊥) → (x : Bool) → accepts n ≡ x → (x || any_below accepts n) ≡ false → ⊥
    here i true p e = true≢false e
    here i false p e = elim (ℕ-tri q n) [
      | less k ↦ i e k a
      | same k ↦ true≢false (sym a ∙ ap accepts k ∙ p)
      | more k ↦ omega arith
    ]

module _ {k : ℕ} (n count : ℕ) (M : Machine k ℕ) (m : Full n count M) where
  pub run-below : (t : Tree k) → Proper n t → run M t < count
  unfolding run Proper
  run-below empty o = m.0.0
  run-below (node l f) o = m.0.1 l o.0 (λ b. run M (f b)) (λ b. run-below (f b) (o.1 b))

  -- no more trees are settled than there are states
  fits : (s : List (Tree k)) → Inv n M s → length s ≤ count
  fits s v = pigeon count (length s) (λ i. run M (at s i)) (λ i h. run-below (at s i) (v.proper i h))
      (λ i j h p e. ≺-irrefl (at s i) (clash i j (v.earliest j p (at s i) (v.proper i (omega arith)) e) (v.sorted i j h p)))
    where
      clash : (i j : ℕ) → at s j ⪯ at s i → at s i ≺ at s j → at s i ≺ at s i
      clash i j (inl p) q = ≺-trans (at s i) (at s j) (at s i) q p
      clash i j (inr e) q = rw e at q

  module _ (P : ℕ) where
    -- no settled state accepts
    abbrev Refused : List (Tree k) → Type 0
    Refused s = (i : ℕ) → i < length s → M.accepting (run M (at s i)) ≡ false

    -- so a tree that is accepted has a state that is not settled
    fresh : (s : List (Tree k)) → Refused s → (u : Tree k) → Accepts n M u → settled M s (run M u) ≡ false
    fresh s r u a = here (settled M s (run M u)) refl
      where
        here : (x : Bool) → settled M s (run M u) ≡ x → settled M s (run M u) ≡ false
        here true e = let f = settled-found M s (run M u) e in absurd (true≢false (sym a.1 ∙ ap M.accepting (sym f.2) ∙ r f.0 f.1))
        here false e = e

    module _ (w : Tree k) (aw : Accepts n M w) where
      round_right : (go : List (Tree k) → Sought k) (s : List (Tree k)) → Inv n M s → Refused s
          → ((t : Tree k) → Inv n M (s ++ (t ∷ [])) → Refused (s ++ (t ∷ [])) → RightForTrees n M P (go (s ++ (t ∷ []))))
          → (b : Best) → Kept M s (λ m js. m < 2 ^ n) b → RightForTrees n M P (next go M P s b)
      unfolding next verdict Kept RightForTrees
      round_right go s v r c nothing h = λ u a. true≢false (sym (all_settled n M s v h u a.0) ∙ fresh s r u a)
      round_right go s v r c (found l is) h = onto (ltb P (positions t)) (M.accepting (run M t)) refl refl
        where
          t : Tree k
          t = candidate s l is

          ahead : (u : Tree k) → Accepts n M u → t ⪯ u
          ahead u a = least n M s v l is h u a.0 (fresh s r u a)

          onto : (x y : Bool) → ltb P (positions t) ≡ x → M.accepting (run M t) ≡ y → RightForTrees n M P (verdict x y t go s)
          onto true y e f = ((w, aw), λ u a. omega (arith, ltb-true P (positions t) e, ⪯-positions t u (ahead u a)))
          onto false true e f = ((candidate-proper n M s v l is h.1 h.0, f), ltb-false P (positions t) e, ahead)
          onto false false e f = c t (settle n M s v l is h) (snoc-all s t (λ _ x. M.accepting (run M x) ≡ false) r f)

      -- while an accepted tree is there and no settled state accepts, not all states are settled
      full : (s : List (Tree k)) → length s ≡ count → Inv n M s → Refused s → (b : Best) → Kept M s (λ m js. m < 2 ^ n) b → ⊥
      full s e v r nothing h = true≢false (sym (all_settled n M s v h w aw.0) ∙ fresh s r w aw)
      full s e v r (found l is) h = omega (arith, fits (s ++ (candidate s l is ∷ [])) (settle n M s v l is h), snoc-length s (candidate s l is))

      rounds-right : (d : ℕ) (s : List (Tree k)) → length s + d ≡ count → Inv n M s → Refused s → RightForTrees n M P (rounds (2 ^ n) M P d s)
      unfolding rounds
      rounds-right zero s e v r = absurd (full s (omega arith) v r (pick (2 ^ n) (length s) (view M s)) (picked M s v.sorted (2 ^ n)))
      rounds-right (suc d) s e v r =
          round_right (rounds (2 ^ n) M P d) s v r (λ t. rounds-right d (s ++ (t ∷ [])) (omega (arith, snoc-length s t))) (pick (2 ^ n) (length s) (view M s))
          (picked M s v.sorted (2 ^ n))

single : {k : ℕ} (P : Tree k → Type 0) → P empty → (i : ℕ) → i < 1 → P (at (empty ∷ []) i)
single P p zero h = p
single P p (suc i) h = absurd (omega arith)

begins : {k : ℕ} (n : ℕ) (M : Machine k ℕ) → Inv n M (empty ∷ [])
unfolding run Proper settled ◌≺◌
begins {k} n M = record {
  sorted = λ i j h p. absurd (omega arith);
  some-there = omega arith;
  first-empty = refl;
  proper = single (Proper n) tt;
  earliest = single (Earliest n M) (λ u o e. empty-⪯ u);
  later = λ u o e. single (λ x. x ≺ u) (fresh-later u e);
}
  where
    fresh-later : (u : Tree k) → settled M (empty ∷ []) (run M u) ≡ false → empty ≺ u
    fresh-later empty e = absurd (true≢false (sym (ap (λ (x : Bool). x || false) (eq-eqb M.start M.start refl)) ∙ e))
    fresh-later (node l f) e = tt

-- THE SEARCH finds the earliest accepted tree
pub search-right : {k : ℕ} (n : ℕ) (a : Table k) → Full n a.count a.machine → (P : ℕ) → RightForTrees n a.machine P (search (2 ^ n) a P)
unfolding search begin RightForTrees Proper run positions
search-right {k} n a m P = here (any_below M.accepting a.count) (M.accepting M.start) refl refl
  where
    M : Machine k ℕ
    M = a.machine

    here : (x y : Bool) → any_below M.accepting a.count ≡ x → M.accepting M.start ≡ y
        → RightForTrees n M P (begin x y (rounds (2 ^ n) M P (a.count - 1) (empty ∷ [])))
    here false y e f = λ u h. some-false M.accepting a.count (run M u) e (run-below n a.count M m u h.0) h.1
    here true true e f = ((tt, f), omega arith, λ u h. empty-⪯ u)
    here true false e f =
        let q = some-true M.accepting a.count e in
        let w = reached-tree n M q.0 (m.1 q.0 q.1) in
        rounds-right n a.count M m P w.0 (w.1, ap M.accepting w.2 ∙ q.2) (a.count - 1) (empty ∷ []) (let h = m.0.0 in omega arith)
        (begins n M) (single (λ x. M.accepting (run M x) ≡ false) f)
