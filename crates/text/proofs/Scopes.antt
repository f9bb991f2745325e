-- Names in use, their tracks, and assignments that agree with what the names stand for. Assumes nothing.
use Prim.Native.Nat.{ℕ, suc, ◌<◌}
use mathlib.Core.Path.{◌≡◌, refl, sym, ◌∙◌, subst}
use mathlib.Core.Bool.{Bool, true, false, cond, ◌||◌}
use mathlib.Core.List.{[], ◌∷◌}
use native.Mathlib.Omega.{arith}
use borrow.Author.Tests.{eq-eqb, ne_eqb}
use lib.Dec.{T}
use lib.ListN.{length}
use Rattle.logic.specs.Meaning.{Place, FiniteSet, same_place, has, IsOnly, Assignment, assign}
use Rattle.logic.proofs.Places.{place_eq, place_refl}
use Rattle.text.specs.Token.{same_bytes}
use Rattle.text.specs.Syntax.{Name, Order, first, second, Scope}
use Rattle.text.specs.Grammar.{same_order, has_order}
use Rattle.text.specs.Meaning.{Names, with_place, with_set}
use Rattle.text.specs.Records.{track_of}

-- the set of one place
pub only_self : {k : ℕ} (p : Place k) → IsOnly p (p ∷ [])
unfolding has
only_self {k} p q = (λ t. go (same_place q p) refl t, λ e. back e)
  where
    go : (v : Bool) → same_place q p ≡ v → T (v || false) → q ≡ p
    go true e t = place_eq q p (subst T (sym e) tt)
    go false e t = absurd t

    back : q ≡ p → T (same_place q p || false)
    back e = rw e (rw (T_true (same_place p p) (place_refl p)) tt)
      where
        T_true : (b : Bool) → T b → b ≡ true
        T_true true t = refl
        T_true false t = absurd t

pub only_same : {k : ℕ} (X : FiniteSet k) (p q : Place k) → IsOnly p X → IsOnly q X → p ≡ q
only_same X p q h g = (g p).0 ((h p).1 refl)

pub assign-here : {k : ℕ} (t : ℕ) (X : FiniteSet k) (A : Assignment k) → assign t X A t ≡ X
assign-here t X A = rw (eq-eqb t t refl) refl

pub assign_below : {k : ℕ} (t i : ℕ) (X : FiniteSet k) (A : Assignment k) → i < t → assign t X A i ≡ A i
assign_below t i X A h = rw (ne_eqb i t (λ e. omega arith)) refl

pub track_lt : (sc : Scope) (o : Order) (x : Name) → T (has_order sc o x) → track_of sc x < length sc
unfolding has_order track_of
track_lt [] o x t = absurd t
track_lt (d ∷ sc) o x t = go (same_bytes x d.name) t (track_lt sc o x)
  where
    go : (v : Bool) → T (cond v (same_order o d.order) (has_order sc o x)) → (T (has_order sc o x) → track_of sc x < length sc)
        → cond v (length sc) (track_of sc x) < suc (length sc)
    go true t ih = omega arith
    go false t ih = let h = ih t in omega arith

-- the assignment A gives each name in use the set of what E says it stands for, at the name's track
pub record Agree (sc : Scope) (E : Names) (A : Assignment 2) : Type 0 where
  pub places : (x : Name) → T (has_order sc first x) → IsOnly (E.place x) (A (track_of sc x))
  pub sets : (x : Name) → T (has_order sc second x) → E.set x ≡ A (track_of sc x)

-- one name more, of first order
module _ (sc : Scope) (E : Names) (A : Assignment 2) (h : Agree sc E A) (x : Name) where
  pub agree-place : (p : Place 2) (X : FiniteSet 2) → IsOnly p X → Agree (record { name = x; order = first } ∷ sc) (with_place x p E) (assign (length sc) X A)
  unfolding has_order track_of
  agree-place p X o = record {
    places = λ y. in_places y (same_bytes y x);
    sets = λ y. in_sets y (same_bytes y x);
  }
    where
      in_places : (y : Name) (v : Bool) → T (cond v true (has_order sc first y))
          → IsOnly (cond v p (E.place y)) (assign (length sc) X A (cond v (length sc) (track_of sc y)))
      in_places y true t = rw (assign-here (length sc) X A) o
      in_places y false t = rw (assign_below (length sc) (track_of sc y) X A (track_lt sc first y t)) (h.places y t)

      in_sets : (y : Name) (v : Bool) → T (cond v false (has_order sc second y)) → E.set y ≡ assign (length sc) X A (cond v (length sc) (track_of sc y))
      in_sets y true t = absurd t
      in_sets y false t = h.sets y t ∙ sym (assign_below (length sc) (track_of sc y) X A (track_lt sc second y t))

  -- and of second
  pub agree-set : (X : FiniteSet 2) → Agree (record { name = x; order = second } ∷ sc) (with_set x X E) (assign (length sc) X A)
  unfolding has_order track_of
  agree-set X = record {
    places = λ y. in_places y (same_bytes y x);
    sets = λ y. in_sets y (same_bytes y x);
  }
    where
      in_places : (y : Name) (v : Bool) → T (cond v false (has_order sc first y))
          → IsOnly (E.place y) (assign (length sc) X A (cond v (length sc) (track_of sc y)))
      in_places y true t = absurd t
      in_places y false t = rw (assign_below (length sc) (track_of sc y) X A (track_lt sc first y t)) (h.places y t)

      in_sets : (y : Name) (v : Bool) → T (cond v true (has_order sc second y))
          → cond v X (E.set y) ≡ assign (length sc) X A (cond v (length sc) (track_of sc y))
      in_sets y true t = sym (assign-here (length sc) X A)
      in_sets y false t = h.sets y t ∙ sym (assign_below (length sc) (track_of sc y) X A (track_lt sc second y t))
