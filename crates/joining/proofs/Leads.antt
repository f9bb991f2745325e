-- Laws of the first members of classes, in order. Assumes nothing.
use Rattle.words.proofs.Vocabulary.{ℕ, ◌≤◌, ◌<◌, ◌+◌, ◌-◌, suc, zero, dec_lt, Bool, true, false, cond, ◌≡◌, ◌∙◌, refl, sym, ap, subst, ⊎_elim, inl, inr, ◌↔◌}
use Rattle.words.proofs.Vocabulary.{List, [], ◌∷◌, ◌++◌, length, get_or, set, length-set, get_or-set_same, get_or-set_other, length-append, List·getD-append, get_or-append_seam}
use Rattle.words.proofs.Vocabulary.{append-nil, T, eqb, eq-eqb, ne_eqb, eqb-true, eqb-false, arith, eq-or-lt_of_le, not-suc-le-zero}
use mathlib.Core.Bool.{true≢false}
use Rattle.logic.specs.Reach.{elem, select, position}
use Rattle.logic.proofs.Reach.{elem-cons, elem-select}
use Rattle.logic.proofs.Places.{true→T, T→true}
use Rattle.logic.specs.Joined.{numbers, classes}
use Rattle.joining.specs.Classes.{class_in}
use Rattle.logic.proofs.Classes.{elem-numbers}
use Rattle.joining.specs.Parting.{Whole}
use Rattle.joining.specs.Numbering.{leaders_of}
use Rattle.joining.specs.Rewriting.{Leaders}

select-append : (g : ℕ → Bool) (L N : List ℕ) → select g (L ++ N) ≡ select g L ++ select g N
unfolding select
select-append g [] N = refl
select-append g (q ∷ L) N = go (g q) (select-append g L N)
  where
    go : (v : Bool) → select g (L ++ N) ≡ select g L ++ select g N → cond v (q ∷ select g (L ++ N)) (select g (L ++ N)) ≡ cond v (q ∷ select g L) (select g L) ++ select g N
    go true e = ap (λ (M : List ℕ). q ∷ M) e
    go false e = e

pub position_some : (x : ℕ) (L : List ℕ) → T (elem x L) → 0 < length L
unfolding elem
position_some x [] t = absurd t
position_some x (q ∷ L) t = omega arith

-- ---- positions
pub position-keeps : (x : ℕ) (L N : List ℕ) → T (elem x L) → position x (L ++ N) ≡ position x L
unfolding position elem
position-keeps x [] N t = absurd t
position-keeps x (q ∷ L) N t = go (eqb x q) refl (position-keeps x L N)
  where
    go : (v : Bool) → eqb x q ≡ v → (T (elem x L) → position x (L ++ N) ≡ position x L) → cond (eqb x q) 0 (suc (position x (L ++ N))) ≡ cond (eqb x q) 0 (suc (position x L))
    go true e ih = rw e refl
    go false e ih = rw e (ap suc (ih (⊎_elim (λ (y : x ≡ q). absurd (true≢false (sym (eq-eqb x q y) ∙ e))) (λ (z : T (elem x L)). z) ((elem-cons x q L).0 t))))

pub position-new : (x : ℕ) (L : List ℕ) → (T (elem x L) → ⊥) → position x (L ++ (x ∷ [])) ≡ length L
unfolding position elem
position-new x [] n = rw (eq-eqb x x refl) refl
position-new x (q ∷ L) n =
    rw (ne_eqb x q (λ e. n ((elem-cons x q L).1 (inl e)))) (ap suc (position-new x L (λ t. n ((elem-cons x q L).1 (inr t)))))

-- ---- the first members below q + 1
module _ (g : ℕ → ℕ) (q : ℕ) where
  pub leader-more : g q ≡ q → classes (suc q) g ≡ classes q g ++ (q ∷ [])
  unfolding classes numbers select
  leader-more e = select-append (λ z. eqb (g z) z) (numbers q) (q ∷ []) ∙ rw (eq-eqb (g q) q e) refl

  pub leader-same : (g q ≡ q → ⊥) → classes (suc q) g ≡ classes q g
  unfolding classes numbers select
  leader-same e =
      select-append (λ z. eqb (g z) z) (numbers q) (q ∷ []) ∙ rw (ne_eqb (g q) q e) (append-nil (classes q g))

  pub leader_iff : (x : ℕ) → T (elem x (classes q g)) ↔ ((x < q) × (g x ≡ x))
  unfolding classes
  leader_iff x =
      let i = elem-select x (λ z. eqb (g z) z) (numbers q) in
      let j = elem-numbers x q in (
        (λ t. (j.0 (i.0 t).0, eqb-true (g x) x (T→true (eqb (g x) x) (i.0 t).1))),
        λ w. i.1 (j.1 w.0, true→T (eq-eqb (g x) x w.1)),
      )

-- no later than their numbers, and below q
pub leaders_rise : (g : ℕ → ℕ) (q : ℕ) → (length (classes q g) ≤ q) × ((i : ℕ) → i < length (classes q g) → (i ≤ get_or (classes q g) i 0) × (get_or (classes q g) i 0 < q))
unfolding classes numbers select
leaders_rise g zero = (omega arith, λ i h. absurd (not-suc-le-zero h))
leaders_rise g (suc q) = go (eqb (g q) q) refl (leaders_rise g q)
  where
    Rise : ℕ → List ℕ → Type 0
    Rise q L = (length L ≤ q) × ((i : ℕ) → i < length L → (i ≤ get_or L i 0) × (get_or L i 0 < q))

    one_more : (L : List ℕ) → Rise q L → Rise (suc q) (L ++ (q ∷ []))
    one_more L w =
        let e : length (L ++ (q ∷ [])) ≡ length L + 1 = length-append L (q ∷ []) in (
          let a = w.0 in omega arith,
          λ i h. ⊎_elim
              (λ (y : i ≡ length L). let z : get_or (L ++ (q ∷ [])) i 0 ≡ q = ap (λ (k : ℕ). get_or (L ++ (q ∷ [])) k 0) y ∙ get_or-append_seam L q [] 0 in let a = w.0 in (omega arith, omega arith))
              (λ (l : i < length L). let z = List·getD-append L (q ∷ []) 0 i l in let a = w.1 i l in (omega arith, omega arith))
              (eq-or-lt_of_le (omega arith)),
        )

    go : (v : Bool) → eqb (g q) q ≡ v → Rise q (classes q g) → Rise (suc q) (classes (suc q) g)
    go true e w =
        subst (Rise (suc q)) (sym (leader-more g q (eqb-true (g q) q e))) (one_more (classes q g) w)
    go false e w =
        subst (Rise (suc q)) (sym (leader-same g q (eqb-false (g q) q e)))
        (let a = w.0 in omega arith, λ i h. let a = w.1 i h in (omega arith, omega arith))

-- ---- the states below q numbered
pub record CountedIn (L gs first number : List ℕ) (m q : ℕ) : Type 0 where
  pub counted : m ≡ length L
  pub room : length first ≡ 64
  pub space : length number ≡ 64
  pub firsts : (i : ℕ) → i < m → get_or first i 0 ≡ get_or L i 0
  pub numbers : (r : ℕ) → r < q → get_or number r 0 ≡ position (class_in gs r) L

abbrev pub Counted : List ℕ → List ℕ → List ℕ → ℕ → ℕ → Type 0
Counted gs first number m q = CountedIn (classes q (class_in gs)) gs first number m q

module _ (n : ℕ) (gs first number : List ℕ) (m q : ℕ) (few : n ≤ 64) (w : Whole gs) (h : q < n) (c : Counted gs first number m q) where
  abbrev g : ℕ → ℕ
  g = class_in gs

  pub few_leaders : m ≤ q
  few_leaders = omega (arith, c.counted, (leaders_rise g q).0)

  led : (r : ℕ) → r < q → T (elem (g r) (classes q g))
  led r b = (leader_iff g q (g r)).1 (omega (arith, w.low r), w.own r)

  pub count-leader : g q ≡ q → Counted gs (set first m q) (set number q m) (m + 1) (suc q)
  count-leader e =
      let L : List ℕ = classes q g in
      let x : classes (suc q) g ≡ L ++ (q ∷ []) = leader-more g q e in
      let f = few_leaders in
      subst (λ (K : List ℕ). CountedIn K gs (set first m q) (set number q m) (m + 1) (suc q)) (sym x) (record {
        counted = let a = length-append L (q ∷ []) in let b = c.counted in omega arith;
        room = length-set first m q ∙ c.room;
        space = length-set number q m ∙ c.space;
        firsts = λ i b. ⊎_elim
            (λ (y : i ≡ m). ap (λ (k : ℕ). get_or (set first m q) k 0) y ∙ get_or-set_same first m q 0 (omega (arith, c.room)) ∙ sym (get_or-append_seam L q [] 0)
            ∙ ap (λ (k : ℕ). get_or (L ++ (q ∷ [])) k 0) (sym (y ∙ c.counted)))
            (λ (l : i < m). get_or-set_other first m i q 0 (λ z. omega arith) ∙ c.firsts i l ∙ sym (List·getD-append L (q ∷ []) 0 i (omega (arith, c.counted))))
            (eq-or-lt_of_le (omega arith));
        numbers = λ r b. ⊎_elim
            (λ (y : r ≡ q). ap (λ (k : ℕ). get_or (set number q m) k 0) y ∙ get_or-set_same number q m 0 (omega (arith, c.space)) ∙ c.counted
            ∙ sym (position-new q L (λ t. let z = ((leader_iff g q q).0 t).0 in omega arith)) ∙ ap (λ (k : ℕ). position k (L ++ (q ∷ []))) (sym (ap g y ∙ e)))
            (λ (l : r < q). get_or-set_other number q r m 0 (λ z. omega arith) ∙ c.numbers r l ∙ sym (position-keeps (g r) L (q ∷ []) (led r l)))
            (eq-or-lt_of_le (omega arith));
      })

  pub count-other : (g q ≡ q → ⊥) → Counted gs first (set number q (get_or number (g q) 0)) m (suc q)
  count-other d =
      let L : List ℕ = classes q g in
      let x : classes (suc q) g ≡ L = leader-same g q d in
      let v : ℕ = get_or number (g q) 0 in
      let b : g q < q = omega (arith, w.low q) in
      subst (λ (K : List ℕ). CountedIn K gs first (set number q v) m (suc q)) (sym x) (record {
        counted = c.counted;
        room = c.room;
        space = length-set number q v ∙ c.space;
        firsts = c.firsts;
        numbers = λ r k. ⊎_elim
            (λ (y : r ≡ q). ap (λ (z : ℕ). get_or (set number q v) z 0) y ∙ get_or-set_same number q v 0 (omega (arith, c.space)) ∙ c.numbers (g q) b
            ∙ ap (λ (z : ℕ). position z L) (w.own q ∙ sym (ap g y)))
            (λ (l : r < q). get_or-set_other number q r v 0 (λ z. omega arith) ∙ c.numbers r l)
            (eq-or-lt_of_le (omega arith));
      })

-- state 0 begins the first class
pub leads_zero : (g : ℕ → ℕ) (n : ℕ) → g 0 ≡ 0 → get_or (classes (suc n) g) 0 0 ≡ 0
unfolding classes numbers select
leads_zero g zero e = ap (λ (L : List ℕ). get_or L 0 0) (leader-more g 0 e)
leads_zero g (suc n) e = go (eqb (g (suc n)) (suc n)) refl (leads_zero g n e)
  where
    some : 0 < length (classes (suc n) g)
    some = position_some 0 (classes (suc n) g) ((leader_iff g (suc n) 0).1 (omega arith, e))

    go : (v : Bool) → eqb (g (suc n)) (suc n) ≡ v → get_or (classes (suc n) g) 0 0 ≡ 0 → get_or (classes (suc (suc n)) g) 0 0 ≡ 0
    go true x ih = ap (λ (L : List ℕ). get_or L 0 0) (leader-more g (suc n) (eqb-true (g (suc n)) (suc n) x)) ∙ List·getD-append (classes (suc n) g) (suc n ∷ []) 0 0 some ∙ ih
    go false x ih = ap (λ (L : List ℕ). get_or L 0 0) (leader-same g (suc n) (eqb-false (g (suc n)) (suc n) x)) ∙ ih

first-zero : (gs : List ℕ) (n c : ℕ) → c ≡ n → class_in gs 0 ≡ 0 → 0 < length (leaders_of n gs) → get_or (leaders_of n gs) 0 0 ≡ 0
first-zero gs n zero e z h = absurd (let l = (leaders_rise (class_in gs) n).0 in omega arith)
first-zero gs n (suc c) e z h = subst (λ (x : ℕ). get_or (leaders_of x gs) 0 0 ≡ 0) e (leads_zero (class_in gs) c z)

-- the first members, in order, lead
pub first_lead : (n m : ℕ) (gs F : List ℕ) → Whole gs → m ≡ length (leaders_of n gs) → ((i : ℕ) → i < m → get_or F i 0 ≡ get_or (leaders_of n gs) i 0) → Leaders m n F
first_lead n m gs F W counted firsts = record {
  begins = λ h. firsts 0 h ∙ first-zero gs n n refl (let z = W.low 0 in omega arith) (omega arith);
  rising = λ i h. let a = ((leaders_rise (class_in gs) n).1 i (omega arith)).0 in let e = firsts i h in omega arith;
  within = λ i h. let a = ((leaders_rise (class_in gs) n).1 i (omega arith)).1 in let e = firsts i h in omega arith;
}

-- no more classes than states
pub few_lead : {m n : ℕ} {F : List ℕ} → Leaders m n F → m ≤ n
few_lead {m} {n} L = elim (dec_lt n m) [
  | yes l ↦ absurd (let a = L.rising (m - 1) (omega arith) in let b = L.within (m - 1) (omega arith) in omega arith)
  | no l ↦ omega arith
]
