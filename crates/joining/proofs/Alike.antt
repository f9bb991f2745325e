-- THE CLASSES: where nothing is left to part, exactly the states that behave alike are together, and each class goes by the state that `join`
-- takes. Of any number of branches, in any order that a list can have. Assumes nothing.
use Rattle.words.proofs.Vocabulary.{ℕ, ◌≤◌, ◌<◌, ◌^◌, suc, zero, Bool, true, false, not, cond, ◌≡◌, ◌∙◌, refl, sym, ap, subst, ⊎_elim, inl, inr}
use Rattle.words.proofs.Vocabulary.{List, [], ◌∷◌, ◌++◌, map, T, arith, eq-or-lt_of_le, not-suc-le-zero, fun_ext}
use mathlib.Core.Bool.{Bool-discrete, true≢false}
use Rattle.words.specs.Word.{mem}
use Rattle.layout.specs.Shape.{Tuple}
use Rattle.table.specs.Entry.{Step, seen}
use Rattle.table.proofs.Masks.{seen_le, seen-seen}
use Rattle.logic.specs.Meaning.{Branch, is_same_branch}
use Rattle.logic.specs.Machine.{Machine, Bounded}
use Rattle.logic.specs.Reach.{elem}
use Rattle.logic.proofs.Places.{true→T, T→true}
use Rattle.logic.proofs.Reach.{elem-cons}
use Rattle.logic.specs.Joined.{beside, first, numbers, class_of, is_apart}
use Rattle.joining.specs.Classes.{class_in}
use Rattle.logic.proofs.Apart.{Apart, seen as visible, later, beside_lt, apart-sym, apart-third, like_cong}
use Rattle.logic.proofs.ApartPairs.{apart-tells}
use Rattle.logic.proofs.Classes.{elem-numbers, Chooses, chooses_first}
use Rattle.joining.specs.Parting.{RespectedBy, Settled}
use Rattle.joining.proofs.Parts.{is_false}

-- ---- the first number that passes, in the list of all
first-left : (g : ℕ → Bool) (L N : List ℕ) (q : ℕ) → T (elem q L) → g q ≡ true → first g (L ++ N) ≡ first g L
unfolding first elem
first-left g [] N q t e = absurd t
first-left g (r ∷ L) N q t e = go (g r) refl (λ u. first-left g L N q u e)
  where
    go : (v : Bool) → g r ≡ v → (T (elem q L) → first g (L ++ N) ≡ first g L) → cond (g r) r (first g (L ++ N)) ≡ cond (g r) r (first g L)
    go true x ih = rw x refl
    go false x ih = rw x (ih (⊎_elim (λ (y : q ≡ r). absurd (true≢false (sym e ∙ ap g y ∙ x))) (λ (z : T (elem q L)). z) ((elem-cons q r L).0 t)))

first-right : (g : ℕ → Bool) (L N : List ℕ) → ((q : ℕ) → T (elem q L) → g q ≡ false) → first g (L ++ N) ≡ first g N
unfolding first
first-right g [] N h = refl
first-right g (r ∷ L) N h = rw (h r ((elem-cons r r L).1 (inl refl))) (first-right g L N (λ q t. h q ((elem-cons q r L).1 (inr t))))

pub first-numbers : (g : ℕ → Bool) (c x : ℕ) → x < c → g x ≡ true → ((r : ℕ) → r < x → g r ≡ false) → first g (numbers c) ≡ x
unfolding numbers first
first-numbers g zero x h t n = absurd (not-suc-le-zero h)
first-numbers g (suc c) x h t n = ⊎_elim
    (λ (e : x ≡ c). first-right g (numbers c) (c ∷ []) (λ q u. n q (let b = (elem-numbers q c).0 u in omega arith)) ∙ rw (← e, t) refl)
    (λ (l : x < c). first-left g (numbers c) (c ∷ []) x ((elem-numbers x c).1 l) t ∙ first-numbers g c x l t n)
    (eq-or-lt_of_le (omega arith))

not_means : (v : Bool) → not v ≡ true → v ≡ false
not_means true e = sym e
not_means false e = refl

-- ---- the states of the branches as a list
pub record Listing (k : ℕ) (list : (Branch k → ℕ) → List ℕ) : Type 0 where
  pub tuple : (n : ℕ) (x : Branch k → ℕ) → ((d : Branch k) → x d < n) → Tuple k n (list x)
  pub maps : (g : ℕ → ℕ) (x : Branch k → ℕ) → map g (list x) ≡ list (λ d. g (x d))
  pub onto : (n : ℕ) (is : List ℕ) → Tuple k n is → (x : Branch k → ℕ) × ((d : Branch k) → x d < n) × (list x ≡ is)
  pub one : (x y : Branch k → ℕ) → list x ≡ list y → (d : Branch k) → x d ≡ y d

module _ {k : ℕ} (list : (Branch k → ℕ) → List ℕ) (S : Listing k list) (v n bits accept : ℕ) (M : Machine k ℕ) (f : Step) (B : Bounded v n M)
    (steps : (l : ℕ) → l < 2 ^ v → (x : Branch k → ℕ) → ((d : Branch k) → x d < n) → M.step l x ≡ f (seen bits l) (list x))
    (accepts : (q : ℕ) → q < n → M.accepting q ≡ mem q accept) where
  abbrev Like : ℕ → ℕ → Type 0
  Like p q = Apart v n M p q → ⊥

  -- the first state that is not apart from q
  abbrev name : ℕ → ℕ
  name q = class_of n (is_apart v n M) q

  chosen : Chooses v n M name
  chosen = chooses_first v n M B (is_apart v n M) (λ p q hp hq. apart-tells v n M B p q hp hq)

  same-like : (p q : ℕ) → p < n → q < n → name p ≡ name q → Like p q
  same-like p q hp hq e a = ⊎_elim
      (λ (b : Apart v n M p (name p)). chosen.alike p hp (apart-sym v n M B b))
      (λ (b : Apart v n M (name p) q). chosen.alike q hq (subst (λ (z : ℕ). Apart v n M z q) e b))
      (apart-third v n M B a (name p) (chosen.inside p hp))

  -- ---- these names are respected, so that states of the same name stay together
  told : (p q : ℕ) → p < n → q < n → name p ≡ name q → mem p accept ≡ mem q accept
  told p q hp hq e = sym (accepts p hp) ∙ elim (Bool-discrete (M.accepting p) (M.accepting q)) [
    | yes z ↦ z
    | no z ↦ absurd (same-like p q hp hq e (visible z))
  ] ∙ accepts q hq

  own-step : (l : ℕ) → l < 2 ^ v → l ≤ seen bits l → (x : Branch k → ℕ) → ((d : Branch k) → x d < n) → M.step l x ≡ f l (list x)
  own-step l h o x u = let e : seen bits l ≡ l = omega (arith, seen_le bits l) in steps l h x u ∙ ap (λ (m : ℕ). f m (list x)) e

  respected : RespectedBy f k n bits (2 ^ v) name
  respected l h o = record {
    inside = λ is u.
        let w = S.onto n is u in
        subst (λ (z : ℕ). z < n) (own-step l h o w.0 w.1 ∙ ap (f l) w.2) (B.1 l h w.0 w.1);
    alike = λ is js u u' e.
        let w = S.onto n is u in
        let z = S.onto n js u' in
        let same = S.one (λ d. name (w.0 d)) (λ d. name (z.0 d)) (sym (S.maps name w.0) ∙ ap (map name) w.2 ∙ e ∙ ap (map name) (sym z.2) ∙ S.maps name z.0) in
        ap name (sym (own-step l h o w.0 w.1 ∙ ap (f l) w.2))
        ∙ chosen.same (M.step l w.0) (M.step l z.0) (B.1 l h w.0 w.1) (B.1 l h z.0 z.1)
        (like_cong v n M B l h w.0 z.0 w.1 z.1 (λ d. same-like (w.0 d) (z.0 d) (w.1 d) (z.1 d) (same d)))
        ∙ ap name (own-step l h o z.0 z.1 ∙ ap (f l) z.2);
  }

  -- ---- the classes that nothing parts
  module _ (hs : List ℕ) (w : Settled f k n bits (2 ^ v) accept hs) where
    abbrev g : ℕ → ℕ
    g = class_in hs

    first_step : (l : ℕ) → l < 2 ^ v → (x : Branch k → ℕ) → ((d : Branch k) → x d < n) → g (M.step l x) ≡ g (f (seen bits l) (list (λ d. g (x d))))
    first_step l h x u =
        ap g (steps l h x u) ∙ w.clean (seen bits l) (omega (arith, seen_le bits l)) (omega (arith, seen-seen bits l)) (list x) (S.tuple n x u)
        ∙ ap (λ (is : List ℕ). g (f (seen bits l) is)) (S.maps g x)

    beside_same : (b : Branch k) (p q : ℕ) (s : Branch k → ℕ) → g p ≡ g q → ◌≡◌ {A = Branch k → ℕ} (λ d. g (beside b p s d)) (λ d. g (beside b q s d))
    beside_same b p q s e = fun_ext (λ d. go d (is_same_branch d b))
      where
        go : (d : Branch k) (c : Bool) → g (cond c p (s d)) ≡ g (cond c q (s d))
        go d true = e
        go d false = refl

    -- states that are together are not apart
    class_like : {p q : ℕ} → Apart v n M p q → p < n → q < n → g p ≡ g q → ⊥
    class_like {p} {q} (visible d) hp hq e = d (accepts p hp ∙ w.accepts p q hp hq e ∙ sym (accepts q hq))
    class_like {p} {q} (later l h b s u a) hp hq e =
        let up = beside_lt v n M B b p s hp u in
        let uq = beside_lt v n M B b q s hq u in
        class_like a (B.1 l h (beside b p s) up) (B.1 l h (beside b q s) uq)
        (first_step l h (beside b p s) up ∙ ap (λ (x : Branch k → ℕ). g (f (seen bits l) (list x))) (beside_same b p q s e) ∙ sym (first_step l h (beside b q s) uq))

    pub settled_is : (q : ℕ) → q < n → g q ≡ class_of n (is_apart v n M) q
    unfolding class_of
    settled_is q h =
        let l : g q < n = omega (arith, w.whole.low q) in
        sym (first-numbers (λ r. not (is_apart v n M r q)) n (g q) l
        (ap not (is_false (is_apart v n M (g q) q) (λ t. class_like ((apart-tells v n M B (g q) q l h).0 (true→T t)) l h (w.whole.own q))))
        (λ r b. is_false (not (is_apart v n M r q)) (λ t.
        let hr : r < n = omega arith in
        let e = w.keeps name told respected r q hr h (chosen.same r q hr h
        (λ a. true≢false (sym (T→true (is_apart v n M r q) ((apart-tells v n M B r q hr h).1 a)) ∙ not_means (is_apart v n M r q) t))) in
        let x = w.whole.low r in omega arith)))
