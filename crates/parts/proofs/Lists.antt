-- Members of lists of numbers, and repeats struck out.
-- Assumes nothing.
use Prim.Native.Nat.{ℕ}
use mathlib.Core.Path.{◌≡◌, refl, ap, sym, subst, ◌∙◌}
use mathlib.Core.Logic.{◌↔◌, ◌⊎◌, inl, inr, ⊎_elim}
use mathlib.Core.Bool.{Bool, true, false, cond, ◌||◌}
use mathlib.Core.List.{List, [], ◌∷◌, ◌++◌}
use lib.Dec.{T, eqb}
use Rattle.logic.specs.Reach.{elem}
use Rattle.logic.specs.Alike.{Distinct}
use Rattle.logic.proofs.Reach.{elem-none, elem-cons, elem-first}
use Rattle.logic.proofs.Places.{T→true, true→T, T-ext}
use Rattle.parts.specs.Parts.{fresh}

-- a Bool is one or the other
pub told : (b : Bool) → T b ⊎ (b ≡ false)
told true = inl tt
told false = inr refl

pub not-false : {b : Bool} → b ≡ false → T b → ⊥
not-false e t = subst T e t

pub elem-nothing : (x : ℕ) → elem x [] ≡ false
unfolding elem
elem-nothing x = refl

pub elem-later : (x y : ℕ) (L : List ℕ) → T (elem x L) → T (elem x (y ∷ L))
elem-later x y L h = (elem-cons x y L).1 (inr h)

-- which of the numbers are struck out depends on the members of `before` alone
pub fresh_cong : (b c L : List ℕ) → ((x : ℕ) → T (elem x L) → elem x b ≡ elem x c) → fresh b L ≡ fresh c L
unfolding fresh elem
fresh_cong b c [] h = refl
fresh_cong b c (x ∷ L) h =
    ap (λ (v : Bool). cond v (fresh b L) (x ∷ fresh (x ∷ b) L)) (h x (elem-first x L))
    ∙ go (elem x c) (fresh_cong b c L (λ y m. h y (elem-later y x L m)))
    (fresh_cong (x ∷ b) (x ∷ c) L (λ y m. ap (λ (v : Bool). eqb y x || v) (h y (elem-later y x L m))))
  where
    go : (v : Bool) → fresh b L ≡ fresh c L → fresh (x ∷ b) L ≡ fresh (x ∷ c) L
        → cond v (fresh b L) (x ∷ fresh (x ∷ b) L) ≡ cond v (fresh c L) (x ∷ fresh (x ∷ c) L)
    go true p q = p
    go false p q = ap (λ (M : List ℕ). x ∷ M) q

-- a number that does not come makes no difference
pub fresh-other : (j : ℕ) (b L : List ℕ) → (T (elem j L) → ⊥) → fresh (j ∷ b) L ≡ fresh b L
fresh-other j b L h = fresh_cong (j ∷ b) b L (λ x m. T-ext (elem x (j ∷ b)) (elem x b)
    (λ t. ⊎_elim (λ e. absurd (h (subst (λ (z : ℕ). T (elem z L)) e m))) (λ u. u) ((elem-cons x j b).0 t)) (elem-later x j b))

-- what was all there before is struck out
pub fresh-skip : (b K L : List ℕ) → ((x : ℕ) → T (elem x K) → T (elem x b)) → fresh b (K ++ L) ≡ fresh b L
unfolding fresh
fresh-skip b [] L h = refl
fresh-skip b (x ∷ K) L h =
    ap (λ (v : Bool). cond v (fresh b (K ++ L)) (x ∷ fresh (x ∷ b) (K ++ L))) (T→true (elem x b) (h x (elem-first x K)))
    ∙ fresh-skip b K L (λ y m. h y (elem-later y x K m))

-- a new one is kept
pub fresh-new : (b : List ℕ) (x : ℕ) (L : List ℕ) → elem x b ≡ false → fresh b (x ∷ L) ≡ x ∷ fresh (x ∷ b) L
unfolding fresh
fresh-new b x L e = ap (λ (v : Bool). cond v (fresh b L) (x ∷ fresh (x ∷ b) L)) e

-- the members that are left
pub fresh_iff : (y : ℕ) (b L : List ℕ) → T (elem y (fresh b L)) ↔ (T (elem y L) × (elem y b ≡ false))
unfolding fresh
fresh_iff y b [] = (λ t. absurd (elem-none y t), λ w. w.0)
fresh_iff y b (x ∷ L) = go (elem x b) refl (fresh_iff y b L) (fresh_iff y (x ∷ b) L)
  where
    outside : (c : List ℕ) → elem y (x ∷ c) ≡ false → elem y c ≡ false
    outside c e = T-ext (elem y c) false (λ t. not-false e (elem-later y x c t)) (λ z. absurd z)

    apart : (c : List ℕ) → elem y c ≡ false → (y ≡ x → ⊥) → elem y (x ∷ c) ≡ false
    apart c e f = T-ext (elem y (x ∷ c)) false (λ t. ⊎_elim f (not-false e) ((elem-cons y x c).0 t)) (λ z. absurd z)

    go : (v : Bool) → elem x b ≡ v → T (elem y (fresh b L)) ↔ (T (elem y L) × (elem y b ≡ false))
        → T (elem y (fresh (x ∷ b) L)) ↔ (T (elem y L) × (elem y (x ∷ b) ≡ false))
        → T (elem y (cond v (fresh b L) (x ∷ fresh (x ∷ b) L))) ↔ (T (elem y (x ∷ L)) × (elem y b ≡ false))
    go true e i j = (
      λ t. let w = i.0 t in (elem-later y x L w.0, w.1),
      λ w. i.1 (
        ⊎_elim (λ (q : y ≡ x). absurd (not-false w.1 (subst (λ (z : ℕ). T (elem z b)) (sym q) (true→T e)))) (λ m. m) ((elem-cons y x L).0 w.0),
        w.1,
      ),
    )
    go false e i j = (
      λ t. ⊎_elim (λ (q : y ≡ x). ((elem-cons y x L).1 (inl q), subst (λ (z : ℕ). elem z b ≡ false) (sym q) e))
          (λ m. let w = j.0 m in (elem-later y x L w.0, outside b w.1))
          ((elem-cons y x (fresh (x ∷ b) L)).0 t),
      λ w. ⊎_elim (λ t. ⊎_elim (λ q. (elem-cons y x (fresh (x ∷ b) L)).1 (inl q)) (λ z. absurd z) (one t))
          (λ f. elem-later y x (fresh (x ∷ b) L) (j.1 (
            ⊎_elim (λ q. absurd (not-false f ((elem-cons y x []).1 (inl q)))) (λ m. m) ((elem-cons y x L).0 w.0),
            apart b w.1 (λ q. not-false f ((elem-cons y x []).1 (inl q))),
          )))
          (told (elem y (x ∷ []))),
    )
      where
        one : T (elem y (x ∷ [])) → (y ≡ x) ⊎ ⊥
        one t = ⊎_elim inl (λ u. absurd (elem-none y u)) ((elem-cons y x []).0 t)

-- each is there once
pub fresh-distinct : (b L : List ℕ) → Distinct (fresh b L)
unfolding fresh Distinct
fresh-distinct b [] = tt
fresh-distinct b (x ∷ L) = go (elem x b) (fresh-distinct b L) (fresh-distinct (x ∷ b) L)
  where
    go : (v : Bool) → Distinct (fresh b L) → Distinct (fresh (x ∷ b) L) → Distinct (cond v (fresh b L) (x ∷ fresh (x ∷ b) L))
    go true d e = d
    go false d e = (λ t. not-false ((fresh_iff x (x ∷ b) L).0 t).1 (elem-first x b), e)
