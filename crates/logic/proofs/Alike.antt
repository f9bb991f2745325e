-- Machines that tell the same trees apart: in whatever order a builder finds the states, the counts and the answers are the same.
-- Assumes nothing.
use Prim.Native.Nat.{ℕ, ◌+◌, ◌*◌, ◌/◌, ◌%◌, ◌^◌, ◌<◌}
use mathlib.Core.Path.{◌≡◌, refl, sym, ap, ap₂, subst, ◌∙◌, fun_ext}
use mathlib.Core.Logic.{◌↔◌}
use mathlib.Core.Bool.{Bool}
use mathlib.Core.List.{List}
use native.Mathlib.Nat.{div-add-mod'}
use lib.Dec.{T}
use lib.ListN.{length, get_or}
use lib.Pow.{pow_pos}
use Rattle.logic.specs.Meaning.{Branch}
use Rattle.logic.specs.Tree.{Tree, empty, node, Proper, low}
use Rattle.logic.specs.Machine.{Machine, run, complement, product, with_bit, Blank, none, grown, Projects, Bounded}
use Rattle.logic.specs.Reach.{elem, below, reach, position, numbered, projection}
use Rattle.logic.specs.Table.{coded_product, build}
use Rattle.logic.specs.Alike.{Closed, Alike, Varies, Comes}
use Rattle.logic.proofs.Places.{T-ext}
use Rattle.logic.proofs.Bits.{low_ext, put_lt}
use Rattle.logic.proofs.Connectives.{run-complement, run-product, run_simulates}
use Rattle.logic.proofs.Rounds.{reach-start, reach-closed}
use Rattle.logic.proofs.Numbered.{bound, numbered_simulates}
use Rattle.logic.proofs.Projection.{In, projection-projects}
use Rattle.logic.proofs.Tables.{Codes, product_simulates}

module _ {k : ℕ} (n : ℕ) where
  -- M tells apart no trees that N does not tell apart
  abbrev Coarser : Machine k ℕ → Machine k ℕ → Type 0
  Coarser M N = (t u : Tree k) → Proper n t → Proper n u → run N t ≡ run N u → run M t ≡ run M u

  pub alike-sym : (M N : Machine k ℕ) → Alike n M N → Alike n N M
  alike-sym M N a t u o o' = ((a t u o o').1, (a t u o o').0)

  pub alike_trans : (M N O : Machine k ℕ) → Alike n M N → Alike n N O → Alike n M O
  alike_trans M N O a b t u o o' = ((λ e. (b t u o o').0 ((a t u o o').0 e)), λ e. (a t u o o').1 ((b t u o o').1 e))

  -- machines whose runs are the same
  same_alike : (M N : Machine k ℕ) → ((t : Tree k) → Proper n t → run M t ≡ run N t) → Alike n M N
  same_alike M N h t u o o' = ((λ e. sym (h t o) ∙ e ∙ h u o'), λ e. h t o ∙ e ∙ sym (h u o'))

  pub complement-alike : (M : Machine k ℕ) → Alike n (complement M) M
  complement-alike M = same_alike (complement M) M (λ t o. run-complement M t)

  -- a machine with its states numbered
  module _ (M : Machine k ℕ) (L : List ℕ) (S : T (elem M.start L)) (C : Closed M (below (2 ^ n)) L) where
    run-numbered : (t : Tree k) → Proper n t → run (numbered M L) t ≡ position (run M t) L
    unfolding run numbered Proper
    run-numbered empty o = refl
    run-numbered (node l f) o =
        ap (λ (s : Branch k → ℕ). position (M.step l s) L)
        (fun_ext (λ b. (run_simulates n (numbered M L) M (λ q r. (q < length L) × (get_or L q 0 ≡ r)) (numbered_simulates n M L S C) (f b) (o.1 b)).1))

    run-back : (t : Tree k) → Proper n t → get_or L (run (numbered M L) t) 0 ≡ run M t
    run-back t o = (run_simulates n (numbered M L) M (λ q r. (q < length L) × (get_or L q 0 ≡ r)) (numbered_simulates n M L S C) t o).1

    pub numbered-alike : Alike n (numbered M L) M
    numbered-alike t u o o' = (
      (λ e. sym (run-back t o) ∙ ap (λ (q : ℕ). get_or L q 0) e ∙ run-back u o'),
      λ e. run-numbered t o ∙ ap (λ (q : ℕ). position q L) e ∙ sym (run-numbered u o'),
    )

  pub build-alike : (d : ℕ) (M : Machine k ℕ) → Bounded n d M → Alike n (build n d M).machine M
  unfolding build
  build-alike d M B =
      numbered-alike M (reach M (below (2 ^ n)) d) (reach-start M (below (2 ^ n)) d (bound n d M B)) (reach-closed M (below (2 ^ n)) d (bound n d M B))

  -- pairs
  module _ (op : Bool → Bool → Bool) (c d : ℕ) (M N : Machine k ℕ) (BM : Bounded n c M) (BN : Bounded n d N) where
    pair-run : (t : Tree k) → Proper n t
        → (run (coded_product op d M N) t / d ≡ run M t) × (run (coded_product op d M N) t % d ≡ run N t) ×
        (run (coded_product op d M N) t ≡ run M t * d + run N t)
    pair-run t o =
        let w = run_simulates n (coded_product op d M N) (product op M N) (Codes n op c d M N BM BN) (product_simulates n op c d M N BM BN) t o in
        let e = run-product op M N t in
        let p : run (coded_product op d M N) t / d ≡ run M t = w.0 ∙ ap (λ (s : ℕ × ℕ). s.0) e in
        let q : run (coded_product op d M N) t % d ≡ run N t = w.1 ∙ ap (λ (s : ℕ × ℕ). s.1) e in
        (p, q, sym (div-add-mod' (run (coded_product op d M N) t) d) ∙ ap₂ (λ (x y : ℕ). x * d + y) p q)

    -- the pair machine tells two trees apart exactly if one of its parts does
    pub product-kernel : (t u : Tree k) → Proper n t → Proper n u
        → (run (coded_product op d M N) t ≡ run (coded_product op d M N) u) ↔ ((run M t ≡ run M u) × (run N t ≡ run N u))
    product-kernel t u o o' =
        let x = pair-run t o in let y = pair-run u o' in (
          (λ e. (sym x.0 ∙ ap (λ (q : ℕ). q / d) e ∙ y.0, sym x.1 ∙ ap (λ (q : ℕ). q % d) e ∙ y.1)),
          λ w. x.2 ∙ ap₂ (λ (p q : ℕ). p * d + q) w.0 w.1 ∙ sym y.2,
        )

  -- sets of states: E runs the sets of M's states, in whatever form it keeps them
  module _ (x : ℕ) (hx : x < n) (M E : Machine k ℕ) (Ok : ℕ → Type 0) (Has : ℕ → ℕ → Type 0) (Pr : Projects n x M E Ok Has) where
    blank_variant : (q : ℕ) → Blank n x M q → Comes n x M empty q
    unfolding Varies run Proper
    blank_variant q none = (empty, tt, tt, refl)
    blank_variant q (grown b s h) =
        let us : (c : Branch k) → Comes n x M empty (s c) = λ c. blank_variant (s c) (h c) in (
          node (with_bit n x b 0) (λ c. (us c).0),
          ((b, refl), λ c. (us c).1),
          (put_lt n x b 0 hx (pow_pos n), λ c. (us c).2),
          ap (M.step (with_bit n x b 0)) (fun_ext (λ c. (us c).3)),
        )

    pub sets_ok : (t : Tree k) → Proper n t → Ok (run E t)
    unfolding run Proper
    sets_ok empty o = Pr.start_ok
    sets_ok (node l f) o = Pr.step_ok l o.0 (λ b. run E (f b)) (λ b. sets_ok (f b) (o.1 b))

    sets-only : (t : Tree k) → Proper n t → (q : ℕ) → Has (run E t) q → Comes n x M t q
    unfolding Varies run Proper
    sets-only empty o q h = blank_variant q (Pr.start-only q h)
    sets-only (node l f) o q h =
        let w = Pr.step-only l o.0 (λ b. run E (f b)) (λ b. sets_ok (f b) (o.1 b)) q h in
        let us : (b : Branch k) → Comes n x M (f b) (w.1 b) = λ b. sets-only (f b) (o.1 b) (w.1 b) (w.2 b) in (
          node (with_bit n x w.0 l) (λ b. (us b).0),
          ((w.0, refl), λ b. (us b).1),
          (put_lt n x w.0 l hx o.0, λ b. (us b).2),
          ap (M.step (with_bit n x w.0 l)) (fun_ext (λ b. (us b).3)) ∙ w.3,
        )

    varied_blank : (v : Tree k) → Varies n x empty v → Blank n x M (run M v)
    unfolding Varies run
    varied_blank empty h = none
    varied_blank (node m g) h =
        subst (λ (l : ℕ). Blank n x M (M.step l (λ b. run M (g b)))) (sym h.0.1)
        (grown h.0.0 (λ b. run M (g b)) (λ b. varied_blank (g b) (h.1 b)))

    varied_in : (v t : Tree k) → Proper n t → Varies n x t v → Has (run E t) (run M v)
    unfolding Varies run Proper
    varied_in v empty o h = Pr.start-all (run M v) (varied_blank v h)
    varied_in empty (node l f) o h = absurd h
    varied_in (node m g) (node l f) o h =
        subst (λ (z : ℕ). Has (run E (node l f)) (M.step z (λ b. run M (g b)))) (sym h.0.1)
        (Pr.step-all l o.0 (λ b. run E (f b)) (λ b. sets_ok (f b) (o.1 b)) h.0.0 (λ b. run M (g b)) (λ b. varied_in (g b) (f b) (o.1 b) (h.1 b)))

    sets-all : (t : Tree k) → Proper n t → (q : ℕ) → Comes n x M t q → Has (run E t) q
    sets-all t o q w = subst (Has (run E t)) w.3 (varied_in w.0 t o w.1)

    -- E accepts where M accepts a variant
    pub sets-accept : (t : Tree k) → Proper n t → T (E.accepting (run E t)) ↔ ((q : ℕ) × Comes n x M t q × T (M.accepting q))
    sets-accept t o = (
      (λ a. let w = Pr.accepts-only (run E t) (sets_ok t o) a in (w.0, sets-only t o w.0 w.1, w.2)),
      λ w. Pr.accepts-all (run E t) (sets_ok t o) w.0 (sets-all t o w.0 w.1) w.2,
    )

    -- E's state says to which states M comes on the variants, where sets with the same members are the same
    pub sets-kernel : ((s s' : ℕ) → Ok s → Ok s' → ((q : ℕ) → Has s q ↔ Has s' q) → s ≡ s')
        → (t u : Tree k) → Proper n t → Proper n u → (run E t ≡ run E u) ↔ ((q : ℕ) → Comes n x M t q ↔ Comes n x M u q)
    sets-kernel ext t u o o' = (
      (λ e q. (carry t u o o' e q, carry u t o' o (sym e) q)),
      λ f. ext (run E t) (run E u) (sets_ok t o) (sets_ok u o')
          (λ q. ((λ h. sets-all u o' q ((f q).0 (sets-only t o q h))), λ h. sets-all t o q ((f q).1 (sets-only u o' q h)))),
    )
      where
        carry : (t u : Tree k) → Proper n t → Proper n u → run E t ≡ run E u → (q : ℕ) → Comes n x M t q → Comes n x M u q
        carry t u o o' e q w = sets-only u o' q (subst (λ (z : ℕ). Has z q) e (sets-all t o q w))

  module _ (x c : ℕ) (hx : x < n) (M : Machine k ℕ) (B : Bounded n c M) where
    abbrev E : Machine k ℕ
    E = projection n x c M

    same_set : (s s' : ℕ) → s < 2 ^ c → s' < 2 ^ c → ((q : ℕ) → In n x c hx M B s q ↔ In n x c hx M B s' q) → s ≡ s'
    same_set s s' b b' f = low_ext c s s' b b' (λ q h. T-ext (low s q) (low s' q) (λ y. ((f q).0 (h, y)).1) (λ y. ((f q).1 (h, y)).1))

    pub projection-kernel : (t u : Tree k) → Proper n t → Proper n u → (run E t ≡ run E u) ↔ ((q : ℕ) → Comes n x M t q ↔ Comes n x M u q)
    projection-kernel = sets-kernel x hx M E (λ w. w < 2 ^ c) (In n x c hx M B) (projection-projects n x c hx M B) same_set

  -- machines that are alike come to the same on variants
  pub comes_alike : (x : ℕ) (M N : Machine k ℕ) → Alike n M N → (t u : Tree k) → ((q : ℕ) → Comes n x M t q → Comes n x M u q) → (q : ℕ) → Comes n x N t q
      → Comes n x N u q
  comes_alike x M N a t u f q w =
      let v = f (run M w.0) (w.0, w.1, w.2, refl) in
      (v.0, v.1, v.2, (a v.0 w.0 v.2 w.2).0 v.3 ∙ w.3)
