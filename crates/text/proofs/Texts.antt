-- THE THEOREM of a whole text: its records are accepted, and satisfied by the assignments that the claim names. Assumes nothing.
use Prim.Native.Nat.{ℕ, ◌+◌, ◌≤◌}
use mathlib.Core.Path.{◌≡◌, refl, sym, ◌∙◌, ap, ap₂, subst}
use mathlib.Core.Logic.{◌↔◌}
use mathlib.Core.Bool.{Bool, true, false, cond, not, ◌&&◌, ◌||◌}
use mathlib.Core.List.{List, [], ◌∷◌}
use native.Mathlib.Omega.{arith}
use lib.Dec.{T, eqb, eqb→eq, eqb_refl}
use lib.ListN.{length}
use Rattle.logic.specs.Meaning.{Place, IsOnly, Assignment, Formula, Holds}
use Rattle.logic.specs.Rule.{Record, good_from, Satisfies, Accepted}
use Rattle.logic.proofs.Places.{T→true, not_T}
use Rattle.text.specs.Token.{same_bytes}
use Rattle.text.specs.Syntax.{Name, Order, first, second, Declared, Scope, Text}
use Rattle.text.specs.Grammar.{same_order, has_order, is_in_use}
use Rattle.text.specs.Meaning.{Names, with_place, with_set, Says}
use Rattle.text.specs.Records.{track_of, tracks, variables_in, free_count, count_in, put_single, write_free, records_in}
use Rattle.text.specs.Claims.{StandsFor, AllStandFor}
use Rattle.text.proofs.Scopes.{Agree}
use Rattle.text.proofs.Meant.{single, meant, scoped}
use Rattle.text.proofs.Sayings.{both_true, says-right}
use Rattle.text.proofs.Puts.{Wrote}
use Rattle.text.proofs.Written.{tracks-least, wrote-single, wrote_count, written}

-- names are the same exactly if their bytes are
pub bytes_eq : (w v : Name) → T (same_bytes w v) → w ≡ v
unfolding same_bytes
bytes_eq [] [] t = refl
bytes_eq [] (c ∷ v) t = absurd t
bytes_eq (b ∷ w) [] t = absurd t
bytes_eq (b ∷ w) (c ∷ v) t = let u = both_true (eqb b c) (same_bytes w v) t in ap₂ (λ (x : ℕ) (y : Name). x ∷ y) (eqb→eq b c u.0) (bytes_eq w v u.1)

pub bytes_refl : (w : Name) → same_bytes w w ≡ true
unfolding same_bytes
bytes_refl [] = refl
bytes_refl (b ∷ w) = rw (T→true (eqb b b) (eqb_refl b)) (bytes_refl w)

-- no name is twice in the declarations
unfoldable pub distinct : Scope → Bool
distinct [] = true
distinct (d ∷ sc) = not (is_in_use sc d.name) && distinct sc

-- the formula of the records of the free first-order variables, above f
unfoldable pub free_one : Order → ℕ → Formula 2 → Formula 2
free_one first x f = single x f
free_one second x f = f

unfoldable pub free_meant : Scope → Formula 2 → Formula 2
free_meant [] f = f
free_meant (d ∷ sc) f = free_one d.order (length sc) (free_meant sc f)

free-written : (n : ℕ) {rs ss : List Record} {f : Formula 2} {c : ℕ} (sc : Scope) → length sc ≤ n → Wrote n rs ss f c
    → Wrote n rs (write_free sc ss) (free_meant sc f) (c + free_count sc)
unfolding write_free free_meant free_count free_one
free-written n [] h w = wrote_count (omega arith) w
free-written n {rs} {ss} {f} {c} (d ∷ sc) h w = go d.order (free-written n sc (omega arith) w)
  where
    go : (o : Order) → Wrote n rs (write_free sc ss) (free_meant sc f) (c + free_count sc)
        → Wrote n rs (elim o as (λ _. List Record) [ first ↦ put_single (length sc) (write_free sc ss) | second ↦ write_free sc ss ])
        (free_one o (length sc) (free_meant sc f)) (c + (free_count sc + elim o as (λ _. ℕ) [ first ↦ 2 | second ↦ 0 ]))
    go first v = wrote_count (omega arith) (wrote-single v (length sc) (omega arith))
    go second v = wrote_count (omega arith) v

-- the sets of the free first-order variables are singletons
unfoldable pub Single : Order → Assignment 2 → ℕ → Type 0
Single first A i = (p : Place 2) × IsOnly p (A i)
Single second A i = Unit

unfoldable pub Singles : Scope → Assignment 2 → Type 0
Singles [] A = Unit
Singles (d ∷ sc) A = Single d.order A (length sc) × Singles sc A

free-holds : (sc : Scope) (f : Formula 2) (A : Assignment 2) → Holds (free_meant sc f) A ↔ (Singles sc A × Holds f A)
unfolding free_meant free_one Single Singles Holds
free-holds [] f A = (λ h. (tt, h), λ h. h.1)
free-holds (d ∷ sc) f A = go d.order (free-holds sc f A)
  where
    go : (o : Order) → Holds (free_meant sc f) A ↔ (Singles sc A × Holds f A)
        → Holds (free_one o (length sc) (free_meant sc f)) A ↔ ((Single o A (length sc) × Singles sc A) × Holds f A)
    go first i = (λ h. let w = i.0 h.1 in ((h.0, w.0), w.1), λ h. (h.0.0, i.1 (h.0.1, h.1)))
    go second i = (λ h. let w = i.0 h in ((tt, w.0), w.1), λ h. i.1 (h.0.1, h.1))

-- what fits the declarations agrees with the assignment
fits-agree : (sc : Scope) (E : Names) (A : Assignment 2) → AllStandFor sc E A → Agree sc E A
unfolding AllStandFor StandsFor has_order track_of
fits-agree [] E A h = record { places = λ y t. absurd t; sets = λ y t. absurd t }
fits-agree (d ∷ sc) E A h =
    let i = fits-agree sc E A h.1 in
    record {
      places = λ y. in_places i y (same_bytes y d.name) refl d.order h.0;
      sets = λ y. in_sets i y (same_bytes y d.name) refl d.order h.0;
    }
  where
    in_places : Agree sc E A → (y : Name) (v : Bool) → same_bytes y d.name ≡ v → (o : Order) → StandsFor o d.name (length sc) E A
        → T (cond v (same_order first o) (has_order sc first y)) → IsOnly (E.place y) (A (cond v (length sc) (track_of sc y)))
    in_places i y true e first s t = rw (bytes_eq y d.name (subst T (sym e) tt)) s
    in_places i y true e second s t = absurd t
    in_places i y false e o s t = i.places y t

    in_sets : Agree sc E A → (y : Name) (v : Bool) → same_bytes y d.name ≡ v → (o : Order) → StandsFor o d.name (length sc) E A
        → T (cond v (same_order second o) (has_order sc second y)) → E.set y ≡ A (cond v (length sc) (track_of sc y))
    in_sets i y true e first s t = absurd t
    in_sets i y true e second s t = rw (bytes_eq y d.name (subst T (sym e) tt)) s
    in_sets i y false e o s t = i.sets y t

fits_singles : (sc : Scope) (E : Names) (A : Assignment 2) → AllStandFor sc E A → Singles sc A
unfolding AllStandFor StandsFor Single Singles
fits_singles [] E A h = tt
fits_singles (d ∷ sc) E A h = (go d.order h.0, fits_singles sc E A h.1)
  where
    go : (o : Order) → StandsFor o d.name (length sc) E A → Single o A (length sc)
    go first s = (E.place d.name, s)
    go second s = tt

-- a name that is not in use may stand for anything
not_in_use : (d : Declared) (sc : Scope) (x : Name) → T (not (is_in_use (d ∷ sc) x)) → (same_bytes d.name x ≡ false) × T (not (is_in_use sc x))
unfolding is_in_use has_order
not_in_use d sc x t = go (same_bytes x d.name) refl d.order t
  where
    go : (v : Bool) → same_bytes x d.name ≡ v → (o : Order)
        → T (not (cond v (same_order first o) (has_order sc first x) || cond v (same_order second o) (has_order sc second x)))
        → (same_bytes d.name x ≡ false) × T (not (has_order sc first x || has_order sc second x))
    go true e first t = absurd t
    go true e second t = absurd t
    go false e o t = (not_T (same_bytes d.name x) (λ u. subst T (sym (bytes_refl x) ∙ ap (same_bytes x) (sym (bytes_eq d.name x u)) ∙ e) tt), t)

module _ (E : Names) (A : Assignment 2) (x : Name) where
  fits-place : (sc : Scope) (p : Place 2) → T (not (is_in_use sc x)) → AllStandFor sc E A → AllStandFor sc (with_place x p E) A
  unfolding AllStandFor StandsFor
  fits-place [] p t h = tt
  fits-place (d ∷ sc) p t h = let w = not_in_use d sc x t in (go d.order w.0 h.0, fits-place sc p w.1 h.1)
    where
      go : (o : Order) → same_bytes d.name x ≡ false → StandsFor o d.name (length sc) E A → StandsFor o d.name (length sc) (with_place x p E) A
      go first e s = rw e s
      go second e s = s

  fits-set : (sc : Scope) (X : List (Place 2)) → T (not (is_in_use sc x)) → AllStandFor sc E A → AllStandFor sc (with_set x X E) A
  unfolding AllStandFor StandsFor
  fits-set [] X t h = tt
  fits-set (d ∷ sc) X t h = let w = not_in_use d sc x t in (go d.order w.0 h.0, fits-set sc X w.1 h.1)
    where
      go : (o : Order) → same_bytes d.name x ≡ false → StandsFor o d.name (length sc) E A → StandsFor o d.name (length sc) (with_set x X E) A
      go first e s = s
      go second e s = rw e s

-- where these sets are singletons, the names can stand for what the assignment gives them
singles_fit : (sc : Scope) (A : Assignment 2) → T (distinct sc) → Singles sc A → (E : Names) × AllStandFor sc E A
unfolding distinct Single Singles AllStandFor StandsFor
singles_fit [] A t h = (record { place = λ x. []; set = λ x. [] }, tt)
singles_fit (d ∷ sc) A t h =
    let w = both_true (not (is_in_use sc d.name)) (distinct sc) t in
    let z = singles_fit sc A w.1 h.1 in
    go d.order h.0 w.0 z
  where
    go : (o : Order) → Single o A (length sc) → T (not (is_in_use sc d.name)) → ((E : Names) × AllStandFor sc E A)
        → (E : Names) × (StandsFor o d.name (length sc) E A × AllStandFor sc E A)
    go first s u z = (with_place d.name s.0 z.0, (rw (bytes_refl d.name) s.1, fits-place z.0 A d.name sc s.0 u z.1))
    go second s u z = (with_set d.name (A (length sc)) z.0, (rw (bytes_refl d.name) refl, fits-set z.0 A d.name sc (A (length sc)) u z.1))

-- of the records of a text
pub record Right (t : Text) : Type 0 where
  pub records : length (records_in t) ≡ count_in t
  pub accepted : Accepted 2 (variables_in t) (records_in t)
  pub meaning : (A : Assignment 2) → Satisfies (records_in t) A ↔ ((E : Names) × AllStandFor t.declared E A × Says t.sentence E)

module _ (t : Text) (s : T (scoped t.declared t.sentence)) (u : T (distinct t.declared)) where
  wrote : Wrote (variables_in t) [] (records_in t) (free_meant t.declared (meant t.declared t.sentence)) (count_in t)
  unfolding variables_in records_in count_in
  wrote =
      let n = tracks (length t.declared) t.sentence in
      let l = tracks-least t.sentence (length t.declared) in
      free-written n t.declared (omega arith) (written n t.sentence t.declared [] (omega arith) s)

  -- the names and their sentence, of the formula
  text_says : (A : Assignment 2)
      → Holds (free_meant t.declared (meant t.declared t.sentence)) A ↔ ((E : Names) × AllStandFor t.declared E A × Says t.sentence E)
  text_says A =
      let sc = t.declared in
      let f = free-holds sc (meant sc t.sentence) A in (
        λ h.
            let w = f.0 h in
            let z = singles_fit sc A u w.0 in
            (z.0, z.1, (says-right t.sentence sc z.0 A (fits-agree sc z.0 A z.1) s).1 w.1),
        λ z. f.1 (fits_singles sc z.0 A z.1, (says-right t.sentence sc z.0 A (fits-agree sc z.0 A z.1) s).0 z.2),
      )

  -- THE THEOREM
  pub text-right : Right t
  unfolding good_from
  text-right = record {
    records = let e = wrote.grown.size in omega arith;
    accepted = (let b = wrote.last.below in omega arith, wrote.grown.goods tt);
    meaning = λ A. rw wrote.last.is (text_says A);
  }
