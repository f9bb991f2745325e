-- Machines that do the same at states below a bound under which one of them stays: they run alike, and the search over either finds the
-- same. Assumes nothing.
use Prim.Native.Nat.{ℕ, zero, suc, ◌-◌, ◌^◌, ◌<◌}
use mathlib.Core.Path.{◌≡◌, refl, ap, ap₂, ◌∙◌, fun_ext}
use mathlib.Core.Bool.{Bool, true, false, ◌||◌}
use mathlib.Core.List.{List, [], ◌∷◌, ◌++◌}
use native.Mathlib.Omega.{arith}
use lib.Dec.{ltb, eqb}
use lib.ListN.{length}
use Rattle.logic.specs.Meaning.{Branch}
use Rattle.logic.specs.Tree.{Tree, empty, node, positions, Proper}
use Rattle.logic.specs.Machine.{Machine, run, Bounded}
use Rattle.logic.specs.Search.{at, rank, candidate, settled, view, Best, nothing, found, target, lighter, choose, consider, loop, tuples, pick}
use Rattle.logic.specs.Search.{Sought, verdict, next, rounds, any_below, begin, search}
use Rattle.logic.specs.Alike.{Agrees}
use Rattle.logic.proofs.Scan.{loop_inv}

-- loops with the same turns
loop-same : (f g : ℕ → Best → Best) (n : ℕ) → ((i : ℕ) → i < n → (b : Best) → f i b ≡ g i b) → (b : Best) → loop f n b ≡ loop g n b
unfolding loop
loop-same f g zero h b = refl
loop-same f g (suc n) h b = h n (omega arith) (loop f n b) ∙ ap (g n) (loop-same f g n (λ i l. h i (omega arith)) b)

tuples-same : (n d : ℕ) (f g : List ℕ → Best → Best) → ((is : List ℕ) (b : Best) → f is b ≡ g is b) → (b : Best) → tuples n d f b ≡ tuples n d g b
unfolding tuples
tuples-same n zero f g h b = h [] b
tuples-same n (suc d) f g h b =
    loop-same (λ i. tuples n d (λ is. f (i ∷ is))) (λ i. tuples n d (λ is. g (i ∷ is))) n
    (λ i l. tuples-same n d (λ is. f (i ∷ is)) (λ is. g (i ∷ is)) (λ is. h (i ∷ is))) b

-- what each turn keeps holds at the end
tuples-keep : (Q : Best → Type 0) (n d : ℕ) (f : List ℕ → Best → Best) → ((is : List ℕ) (b : Best) → Q b → Q (f is b)) → (b : Best) → Q b → Q (tuples n d f b)
unfolding tuples
tuples-keep Q n zero f k b q = k [] b q
tuples-keep Q n (suc d) f k b q =
    loop_inv (λ i. Q) (λ i. tuples n d (λ is. f (i ∷ is))) n (λ i b h. tuples-keep Q n d (λ is. f (i ∷ is)) (λ is. k (i ∷ is)) b) b q

-- a best candidate's label is below m
abbrev Labelled : ℕ → Best → Type 0
Labelled m nothing = Unit {0}
Labelled m (found l is) = l < m

labelled_choose : (m : ℕ) (x y : Bool) (l : ℕ) (is : List ℕ) (b : Best) → l < m → Labelled m b → Labelled m (choose x y l is b)
unfolding choose
labelled_choose m true y l is b h q = q
labelled_choose m false true l is b h q = h
labelled_choose m false false l is b h q = q

module _ {k : ℕ} (n c : ℕ) (M N : Machine k ℕ) (B : Bounded n c M) (a : Agrees n c M N) where
  pub run-agrees : (t : Tree k) → Proper n t → (run M t ≡ run N t) × (run M t < c)
  unfolding run Proper
  run-agrees empty o = (a.starts, B.0)
  run-agrees (node l f) o =
      let i : (b : Branch k) → (run M (f b) ≡ run N (f b)) × (run M (f b) < c) = λ b. run-agrees (f b) (o.1 b) in (
        a.steps l o.0 (λ b. run M (f b)) (λ b. (i b).1) ∙ ap (N.step l) (fun_ext (λ b. (i b).0)),
        B.1 l o.0 (λ b. run M (f b)) (λ b. (i b).1),
      )

  accepts-agree : (t : Tree k) → Proper n t → M.accepting (run M t) ≡ N.accepting (run N t)
  accepts-agree t o = let w = run-agrees t o in a.accepts (run M t) w.1 ∙ ap N.accepting w.0

  any-agrees : (q : ℕ) → ((i : ℕ) → i < q → i < c) → any_below M.accepting q ≡ any_below N.accepting q
  unfolding any_below
  any-agrees zero h = refl
  any-agrees (suc q) h = ap₂ ◌||◌ (a.accepts q (h q (omega arith))) (any-agrees q (λ i l. h i (omega arith)))

  -- the settled trees are proper
  abbrev Fit : List (Tree k) → Type 0
  Fit s = (i : ℕ) → Proper n (at s i)

  fit-more : (s : List (Tree k)) → Fit s → (t : Tree k) → Proper n t → Fit (s ++ (t ∷ []))
  unfolding Proper
  fit-more [] o t p zero = p
  fit-more [] o t p (suc i) = tt
  fit-more (x ∷ s) o t p zero = o 0
  fit-more (x ∷ s) o t p (suc i) = fit-more s (λ i. o (suc i)) t p i

  settled-agrees : (s : List (Tree k)) → Fit s → (q : ℕ) → settled M s q ≡ settled N s q
  unfolding settled
  settled-agrees [] o q = refl
  settled-agrees (t ∷ s) o q = ap₂ (λ (p : ℕ) (b : Bool). eqb p q || b) (run-agrees t (o 0)).0 (settled-agrees s (λ i. o (suc i)) q)

  module _ (s : List (Tree k)) (o : Fit s) where
    grown-proper : (l : ℕ) (is : List ℕ) → l < 2 ^ n → Proper n (candidate s l is)
    unfolding Proper
    grown-proper l is h = (h, λ b. o (rank is b))

    lighter-agrees : (is : List ℕ) (b : Best) → lighter (view M s) is b ≡ lighter (view N s) is b
    unfolding lighter view
    lighter-agrees is nothing = refl
    lighter-agrees is (found l js) = refl

    consider-agrees : (l : ℕ) → l < 2 ^ n → (is : List ℕ) (b : Best) → consider (view M s) l is b ≡ consider (view N s) l is b
    unfolding consider view run
    consider-agrees l h is b =
        ap₂ (λ (x y : Bool). choose x y l is b)
        (settled-agrees s o (run M (candidate s l is)) ∙ ap (settled N s) (run-agrees (candidate s l is) (grown-proper l is h)).0)
        (lighter-agrees is b)

    pick-agrees : (many : ℕ) → pick (2 ^ n) many (view M s) ≡ pick (2 ^ n) many (view N s)
    unfolding pick
    pick-agrees many =
        loop-same (λ l. tuples many k (consider (view M s) l)) (λ l. tuples many k (consider (view N s) l)) (2 ^ n)
        (λ l h. tuples-same many k (consider (view M s) l) (consider (view N s) l) (consider-agrees l h)) nothing

    pick_labelled : (many : ℕ) → Labelled (2 ^ n) (pick (2 ^ n) many (view M s))
    unfolding pick consider
    pick_labelled many =
        loop_inv (λ i. Labelled (2 ^ n)) (λ l. tuples many k (consider (view M s) l)) (2 ^ n)
        (λ l b h. tuples-keep (Labelled (2 ^ n)) many k (consider (view M s) l)
        (λ is b. labelled_choose (2 ^ n) ((view M s).old (target (view M s) l is)) (lighter (view M s) is b) l is b h) b) nothing tt

    next-agrees : (P : ℕ) (go go' : List (Tree k) → Sought k) → ((t : Tree k) → Proper n t → go (s ++ (t ∷ [])) ≡ go' (s ++ (t ∷ [])))
        → (b : Best) → Labelled (2 ^ n) b → next go M P s b ≡ next go' N P s b
    unfolding next verdict
    next-agrees P go go' h nothing q = refl
    next-agrees P go go' h (found l is) q =
        let t : Tree k = candidate s l is in
        let p : Proper n t = grown-proper l is q in
        ap (λ (y : Bool). verdict (ltb P (positions t)) y t go s) (accepts-agree t p)
        ∙ verdict-same (ltb P (positions t)) (N.accepting (run N t)) t (h t p)
      where
        verdict-same : (x y : Bool) (t : Tree k) → go (s ++ (t ∷ [])) ≡ go' (s ++ (t ∷ [])) → verdict x y t go s ≡ verdict x y t go' s
        verdict-same true y t e = refl
        verdict-same false true t e = refl
        verdict-same false false t e = e

  rounds-agree : (P d : ℕ) (s : List (Tree k)) → Fit s → rounds (2 ^ n) M P d s ≡ rounds (2 ^ n) N P d s
  unfolding rounds
  rounds-agree P zero s o = refl
  rounds-agree P (suc d) s o =
      next-agrees s o P (rounds (2 ^ n) M P d) (rounds (2 ^ n) N P d) (λ t p. rounds-agree P d (s ++ (t ∷ [])) (fit-more s o t p))
      (pick (2 ^ n) (length s) (view M s)) (pick_labelled s o (length s))
      ∙ ap (next (rounds (2 ^ n) N P d) N P s) (pick-agrees s o (length s))

  pub search-agrees : (P : ℕ) → search (2 ^ n) (record { count = c; machine = M }) P ≡ search (2 ^ n) (record { count = c; machine = N }) P
  unfolding search Proper
  search-agrees P =
      let e : M.accepting M.start ≡ N.accepting N.start = a.accepts M.start B.0 ∙ ap N.accepting a.starts in
      ap₂ (λ (x y : Bool). begin x y (rounds (2 ^ n) M P (c - 1) (empty ∷ []))) (any-agrees c (λ i h. h)) e
      ∙ ap (begin (any_below N.accepting c) (N.accepting N.start)) (rounds-agree P (c - 1) (empty ∷ []) first-fit)
    where
      first-fit : Fit (empty ∷ [])
      first-fit zero = tt
      first-fit (suc i) = tt
