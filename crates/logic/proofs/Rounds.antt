-- The rounds end: a list of different numbers below d has at most d of them.
-- Assumes nothing.
use Prim.Native.Nat.{ℕ, zero, suc, ◌+◌, ◌≤◌, ◌<◌}
use mathlib.Core.Path.{◌≡◌, refl, ap, sym, subst, ◌∙◌}
use mathlib.Core.Logic.{◌↔◌, ◌⊎◌, inl, inr, ⊎_elim}
use mathlib.Core.Bool.{Bool, true, false, cond, not, true≢false}
use mathlib.Core.List.{List, [], ◌∷◌, ◌++◌}
use native.Mathlib.Nat.{le_refl, not-suc-le-zero}
use native.Mathlib.Omega.{arith}
use lib.Dec.{T, eqb, eqb→eq}
use lib.ListN.{length, length-append}
use Rattle.logic.specs.Alike.{Distinct, Closed}
use Rattle.logic.specs.Machine.{Machine}
use Rattle.logic.specs.Reach.{elem, select, successors, Reached, started, stepped, add, closure, reach}
use Rattle.logic.proofs.Places.{T→true, true→T, neqb}
use Rattle.logic.proofs.Reach.{elem-cons, elem-append, elem-select, successors_iff}

-- a test on the members, one way or the other
either_way : (b : Bool) → T b ⊎ (b ≡ false)
either_way true = inl tt
either_way false = inr refl

snoc-distinct : (L : List ℕ) (q : ℕ) → Distinct L → (T (elem q L) → ⊥) → Distinct (L ++ (q ∷ []))
unfolding Distinct elem
snoc-distinct [] q d n = ((λ t. t), tt)
snoc-distinct (r ∷ L) q d n = (
  (λ t. ⊎_elim d.0 (λ u. ⊎_elim (λ e. n ((elem-cons q r L).1 (inl (sym e)))) (λ v. v) ((elem-cons r q []).0 u)) ((elem-append r L (q ∷ [])).0 t)),
  snoc-distinct L q d.1 (λ t. n ((elem-cons q r L).1 (inr t))),
)

add-distinct : (qs L : List ℕ) → Distinct L → Distinct (add qs L)
unfolding add
add-distinct [] L d = d
add-distinct (q ∷ qs) L d = add-distinct qs (cond (elem q L) L (L ++ (q ∷ []))) (go (elem q L) refl)
  where
    go : (v : Bool) → elem q L ≡ v → Distinct (cond v L (L ++ (q ∷ [])))
    go true e = d
    go false e = snoc-distinct L q d (λ t. subst T e t)

pub elem-add : (r : ℕ) (qs L : List ℕ) → T (elem r (add qs L)) ↔ (T (elem r qs) ⊎ T (elem r L))
unfolding add elem
elem-add r [] L = (inr, ⊎_elim (λ t. absurd t) (λ t. t))
elem-add r (q ∷ qs) L = go (elem q L) refl (elem-add r qs (cond (elem q L) L (L ++ (q ∷ []))))
  where
    i : T (elem r (q ∷ qs)) ↔ ((r ≡ q) ⊎ T (elem r qs))
    i = elem-cons r q qs

    j : T (elem r (L ++ (q ∷ []))) ↔ (T (elem r L) ⊎ T (elem r (q ∷ [])))
    j = elem-append r L (q ∷ [])

    go : (v : Bool) → elem q L ≡ v → T (elem r (add qs (cond v L (L ++ (q ∷ []))))) ↔ (T (elem r qs) ⊎ T (elem r (cond v L (L ++ (q ∷ [])))))
        → T (elem r (add qs (cond v L (L ++ (q ∷ []))))) ↔ (T (elem r (q ∷ qs)) ⊎ T (elem r L))
    go true e h = (
      λ t. ⊎_elim (λ u. inl (i.1 (inr u))) inr (h.0 t),
      λ s. h.1 (⊎_elim (λ u. ⊎_elim (λ p. inr (subst (λ (z : ℕ). T (elem z L)) (sym p) (true→T e))) inl (i.0 u)) inr s),
    )
    go false e h = (
      λ t. ⊎_elim (λ u. inl (i.1 (inr u))) (λ u. ⊎_elim inr (λ w. inl (i.1 (⊎_elim inl (λ z. absurd z) ((elem-cons r q []).0 w)))) (j.0 u)) (h.0 t),
      λ s. h.1 (⊎_elim (λ u. ⊎_elim (λ p. inr (j.1 (inr ((elem-cons r q []).1 (inl p))))) inl (i.0 u)) (λ u. inr (j.1 (inl u))) s),
    )

add_fix : (qs L : List ℕ) → ((q : ℕ) → T (elem q qs) → T (elem q L)) → add qs L ≡ L
unfolding add
add_fix [] L h = refl
add_fix (q ∷ qs) L h =
    rw (T→true (elem q L) (h q ((elem-cons q q qs).1 (inl refl)))) (add_fix qs L (λ r t. h r ((elem-cons r q qs).1 (inr t))))

add-longer : (qs L : List ℕ) → length L ≤ length (add qs L)
unfolding add
add-longer [] L = le_refl (length L)
add-longer (q ∷ qs) L = go (elem q L) (add-longer qs (cond (elem q L) L (L ++ (q ∷ []))))
  where
    go : (v : Bool) → length (cond v L (L ++ (q ∷ []))) ≤ length (add qs (cond v L (L ++ (q ∷ [])))) → length L ≤ length (add qs (cond v L (L ++ (q ∷ []))))
    go true h = h
    go false h = let e = length-append L (q ∷ []) in omega arith

add-grows : (qs L : List ℕ) (r : ℕ) → T (elem r qs) → elem r L ≡ false → length L < length (add qs L)
unfolding add elem
add-grows [] L r t n = absurd t
add-grows (q ∷ qs) L r t n = go (elem q L) refl (add-grows qs L r) (add-longer qs (L ++ (q ∷ [])))
  where
    go : (v : Bool) → elem q L ≡ v → (T (elem r qs) → elem r L ≡ false → length L < length (add qs L))
        → length (L ++ (q ∷ [])) ≤ length (add qs (L ++ (q ∷ [])))
        → length L < length (add qs (cond v L (L ++ (q ∷ []))))
    go true e ih h = ih (⊎_elim (λ p. absurd (true≢false (sym e ∙ subst (λ (z : ℕ). elem z L ≡ false) p n))) (λ u. u) ((elem-cons r q qs).0 t)) n
    go false e ih h = let a = length-append L (q ∷ []) in omega arith

-- L without r
abbrev pub without : ℕ → List ℕ → List ℕ
without r L = select (λ q. not (eqb q r)) L

without_all : (r : ℕ) (L : List ℕ) → (T (elem r L) → ⊥) → without r L ≡ L
unfolding select
without_all r [] n = refl
without_all r (q ∷ L) n = go (eqb q r) refl (without_all r L (λ t. n ((elem-cons r q L).1 (inr t))))
  where
    go : (v : Bool) → eqb q r ≡ v → without r L ≡ L → cond (not v) (q ∷ without r L) (without r L) ≡ q ∷ L
    go true e ih = absurd (n ((elem-cons r q L).1 (inl (sym (eqb→eq q r (true→T e))))))
    go false e ih = ap (λ (N : List ℕ). q ∷ N) ih

without-length : (r : ℕ) (L : List ℕ) → Distinct L → length L ≤ suc (length (without r L))
unfolding select Distinct
without-length r [] d = omega arith
without-length r (q ∷ L) d = go (eqb q r) refl (without-length r L d.1)
  where
    go : (v : Bool) → eqb q r ≡ v → length L ≤ suc (length (without r L)) → length (q ∷ L) ≤ suc (length (cond (not v) (q ∷ without r L) (without r L)))
    go true e ih = rw (without_all r L (λ t. d.0 (subst (λ (z : ℕ). T (elem z L)) (sym (eqb→eq q r (true→T e))) t))) (le_refl (suc (length L)))
    go false e ih = omega arith

pub select-distinct : (g : ℕ → Bool) (L : List ℕ) → Distinct L → Distinct (select g L)
unfolding select Distinct
select-distinct g [] d = tt
select-distinct g (q ∷ L) d = go (g q) (select-distinct g L d.1)
  where
    go : (v : Bool) → Distinct (select g L) → Distinct (cond v (q ∷ select g L) (select g L))
    go true ih = ((λ t. d.0 ((elem-select q g L).0 t).0), ih)
    go false ih = ih

pub pigeonhole : (m : ℕ) (L : List ℕ) → Distinct L → ((q : ℕ) → T (elem q L) → q < m) → length L ≤ m
pigeonhole zero [] d h = omega arith
pigeonhole zero (q ∷ L) d h = absurd (not-suc-le-zero (h q ((elem-cons q q L).1 (inl refl))))
pigeonhole (suc m) L d h =
    let a = without-length m L d in
    let b = pigeonhole m (without m L) (select-distinct (λ q. not (eqb q m)) L d) (λ q t. go q ((elem-select q (λ z. not (eqb z m)) L).0 t)) in
    omega arith
  where
    go : (q : ℕ) → T (elem q L) × T (not (eqb q m)) → q < m
    go q w = last (eqb q m) refl w.1
      where
        last : (v : Bool) → eqb q m ≡ v → T (not v) → q < m
        last true e t = absurd t
        last false e t = let a = h q w.0 in let b = neqb q m e in omega arith

-- whether all of qs are in L
all_in : (qs L : List ℕ) → ((q : ℕ) → T (elem q qs) → T (elem q L)) ⊎ ((q : ℕ) × T (elem q qs) × (elem q L ≡ false))
unfolding elem
all_in [] L = inl (λ q t. absurd t)
all_in (r ∷ qs) L = go (either_way (elem r L)) (all_in qs L)
  where
    go : T (elem r L) ⊎ (elem r L ≡ false) → ((q : ℕ) → T (elem q qs) → T (elem q L)) ⊎ ((q : ℕ) × T (elem q qs) × (elem q L ≡ false))
        → ((q : ℕ) → T (elem q (r ∷ qs)) → T (elem q L)) ⊎ ((q : ℕ) × T (elem q (r ∷ qs)) × (elem q L ≡ false))
    go (inl t) (inl u) = inl (λ q v. ⊎_elim (λ e. subst (λ (z : ℕ). T (elem z L)) (sym e) t) (u q) ((elem-cons q r qs).0 v))
    go (inl t) (inr w) = inr (w.0, (elem-cons w.0 r qs).1 (inr w.1), w.2)
    go (inr n) s = inr (r, (elem-cons r r qs).1 (inl refl), n)

module _ (F : List ℕ → List ℕ) where
  -- F finds nothing new from L
  abbrev pub Ended : List ℕ → Type 0
  Ended L = (q : ℕ) → T (elem q (F L)) → T (elem q L)

  same_ended : (L : List ℕ) → length (add (F L) L) ≡ length L → Ended L
  same_ended L e = ⊎_elim (λ h. h) (λ w. absurd (let a = add-grows (F L) L w.0 w.1 w.2 in omega arith)) (all_in (F L) L)

  closure-ends : (d : ℕ) (L : List ℕ) → Ended (closure F d L) ⊎ (length L + d ≤ length (closure F d L))
  unfolding closure
  closure-ends zero L = inr (omega arith)
  closure-ends (suc d) L = go (eqb (length N) (length L)) refl (closure-ends d N)
    where
      N : List ℕ
      N = add (F L) L

      go : (v : Bool) → eqb (length N) (length L) ≡ v → Ended (closure F d N) ⊎ (length N + d ≤ length (closure F d N))
          → Ended (cond v L (closure F d N)) ⊎ (length L + suc d ≤ length (cond v L (closure F d N)))
      go true e s = inl (same_ended L (eqb→eq (length N) (length L) (true→T e)))
      go false e (inl c) = inl c
      go false e (inr h) = inr (let a = add-longer (F L) L in let b = neqb (length N) (length L) e in omega arith)

  pub closure-distinct : (d : ℕ) (L : List ℕ) → Distinct L → Distinct (closure F d L)
  unfolding closure
  closure-distinct zero L h = h
  closure-distinct (suc d) L h = go (eqb (length (add (F L) L)) (length L)) (closure-distinct d (add (F L) L) (add-distinct (F L) L h))
    where
      go : (v : Bool) → Distinct (closure F d (add (F L) L)) → Distinct (cond v L (closure F d (add (F L) L)))
      go true r = h
      go false r = r

  pub closure-keep : (d : ℕ) (L : List ℕ) (q : ℕ) → T (elem q L) → T (elem q (closure F d L))
  unfolding closure
  closure-keep zero L q t = t
  closure-keep (suc d) L q t = go (eqb (length (add (F L) L)) (length L)) (closure-keep d (add (F L) L) q ((elem-add q (F L) L).1 (inr t)))
    where
      go : (v : Bool) → T (elem q (closure F d (add (F L) L))) → T (elem q (cond v L (closure F d (add (F L) L))))
      go true r = t
      go false r = r

  -- what holds of L, and of what F finds from numbers of which it holds, holds of all
  pub closure-only : (P : ℕ → Type 0) → ((L : List ℕ) → ((q : ℕ) → T (elem q L) → P q) → (q : ℕ) → T (elem q (F L)) → P q)
      → (d : ℕ) (L : List ℕ) → ((q : ℕ) → T (elem q L) → P q) → (q : ℕ) → T (elem q (closure F d L)) → P q
  unfolding closure
  closure-only P f zero L h q t = h q t
  closure-only P f (suc d) L h q t =
      go (eqb (length (add (F L) L)) (length L)) (closure-only P f d (add (F L) L) (λ r u. ⊎_elim (f L h r) (h r) ((elem-add r (F L) L).0 u)) q) t
    where
      go : (v : Bool) → (T (elem q (closure F d (add (F L) L))) → P q) → T (elem q (cond v L (closure F d (add (F L) L)))) → P q
      go true r u = h q u
      go false r u = r u

  -- enough rounds for numbers below m
  pub closure-ended : (m d : ℕ) (L : List ℕ) → Distinct L → m < length L + d → ((q : ℕ) → T (elem q (closure F d L)) → q < m) → Ended (closure F d L)
  closure-ended m d L D h b = ⊎_elim (λ e. e) (λ e. absurd (let p = pigeonhole m (closure F d L) (closure-distinct d L D) b in omega arith)) (closure-ends d L)

module _ {k : ℕ} (M : Machine k ℕ) (ls : List ℕ) where
  abbrev Next : List ℕ → List ℕ
  Next L = successors M ls (λ b. L)

  next-reached : (L : List ℕ) → ((q : ℕ) → T (elem q L) → Reached M ls q) → (q : ℕ) → T (elem q (Next L)) → Reached M ls q
  next-reached L h q t =
      let w = (successors_iff M ls (λ b. L) q).0 t in subst (λ (z : ℕ). Reached M ls z) w.4 (stepped w.0 w.1 w.2 (λ b. h (w.2 b) (w.3 b)))

  module _ (d : ℕ) (bound : (q : ℕ) → Reached M ls q → q < d) where
    pub reach-only : (q : ℕ) → T (elem q (reach M ls d)) → Reached M ls q
    unfolding reach elem
    reach-only q t = closure-only Next (λ z. Reached M ls z) next-reached d (M.start ∷ [])
        (λ r u. ⊎_elim (λ e. subst (λ (z : ℕ). Reached M ls z) (sym e) started) (λ v. absurd v) ((elem-cons r M.start []).0 u)) q t

    pub reach-distinct : Distinct (reach M ls d)
    unfolding reach Distinct elem
    reach-distinct = closure-distinct Next d (M.start ∷ []) ((λ t. t), tt)

    pub reach-closed : Closed M ls (reach M ls d)
    unfolding reach Distinct elem
    reach-closed l t s u =
        closure-ended Next d d (M.start ∷ []) ((λ v. v), tt) (omega arith) (λ q v. bound q (reach-only q v)) (M.step l s)
        ((successors_iff M ls (λ b. reach M ls d) (M.step l s)).1 (l, t, s, u, refl))

    pub reach-start : T (elem M.start (reach M ls d))
    unfolding reach
    reach-start = closure-keep Next d (M.start ∷ []) M.start ((elem-cons M.start M.start []).1 (inl refl))

    pub reach-all : (q : ℕ) → Reached M ls q → T (elem q (reach M ls d))
    reach-all q started = reach-start
    reach-all q (stepped l t s h) = reach-closed l t s (λ b. reach-all (s b) (h b))

-- ---- the start is state 0
add-front : (q : ℕ) (qs L : List ℕ) → (R : List ℕ) × (add qs (q ∷ L) ≡ q ∷ R)
unfolding add
add-front q [] L = (L, refl)
add-front q (r ∷ qs) L = go (elem r (q ∷ L)) (add-front q qs L) (add-front q qs (L ++ (r ∷ [])))
  where
    go : (v : Bool) → (R : List ℕ) × (add qs (q ∷ L) ≡ q ∷ R) → (R : List ℕ) × (add qs (q ∷ (L ++ (r ∷ []))) ≡ q ∷ R)
        → (R : List ℕ) × (add qs (cond v (q ∷ L) ((q ∷ L) ++ (r ∷ []))) ≡ q ∷ R)
    go true a b = a
    go false a b = b

closure-front : (F : List ℕ → List ℕ) (d q : ℕ) (L : List ℕ) → (R : List ℕ) × (closure F d (q ∷ L) ≡ q ∷ R)
unfolding closure
closure-front F zero q L = (L, refl)
closure-front F (suc d) q L =
    let w = add-front q (F (q ∷ L)) L in
    let x = closure-front F d q w.0 in
    go (eqb (length (add (F (q ∷ L)) (q ∷ L))) (length (q ∷ L))) (x.0, ap (closure F d) w.1 ∙ x.1)
  where
    go : (v : Bool) → (R : List ℕ) × (closure F d (add (F (q ∷ L)) (q ∷ L)) ≡ q ∷ R)
        → (R : List ℕ) × (cond v (q ∷ L) (closure F d (add (F (q ∷ L)) (q ∷ L))) ≡ q ∷ R)
    go true r = (L, refl)
    go false r = r

pub reach-front : {k : ℕ} (M : Machine k ℕ) (ls : List ℕ) (d : ℕ) → (R : List ℕ) × (reach M ls d ≡ M.start ∷ R)
unfolding reach
reach-front M ls d = closure-front (λ L. successors M ls (λ b. L)) d M.start []
