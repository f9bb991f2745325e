-- Sets of places: the part below a branch, joining, and a bound on the length of the members.
-- Assumes nothing.
use Prim.Native.Nat.{ℕ, zero, suc, ◌≤◌, ◌<◌, max}
use mathlib.Core.Path.{◌≡◌, refl, ap, ap₂, sym, subst, ◌∙◌}
use mathlib.Core.HLevel.{is_prop→PathP}
use mathlib.Core.Logic.{◌≢◌}
use mathlib.Core.Bool.{Bool, true, false, cond, ◌&&◌, ◌||◌, or_assoc, and-false, and-or_distrib_left}
use mathlib.Core.List.{List, [], ◌∷◌, ◌++◌, map}
use native.Mathlib.Nat.{le_refl, le_of_lt, le_of_suc-le-suc, not-suc-le-zero}
use native.Mathlib.Bridge.{le_prop}
use native.Mathlib.Omega.{arith}
use lib.Dec.{T, eqb, eqb→eq, eqb_refl}
use lib.ListN.{length}
use Rattle.logic.specs.Trim.{under, depth}
use Rattle.logic.specs.Meaning.{Branch, Place, is_same_branch, same_place, has}
use Rattle.logic.specs.Tree.{down_from, branches}

pub T→true : (b : Bool) → T b → b ≡ true
T→true true t = refl
T→true false t = absurd t

pub true→T : {b : Bool} → b ≡ true → T b
true→T e = subst T (sym e) tt

pub not_T : (b : Bool) → (T b → ⊥) → b ≡ false
not_T true f = absurd (f tt)
not_T false f = refl

-- a test passes under the condition that another does
pub T-ext : (a b : Bool) → (T a → T b) → (T b → T a) → a ≡ b
T-ext true true f g = refl
T-ext true false f g = absurd (f tt)
T-ext false true f g = absurd (g tt)
T-ext false false f g = refl

absorb : (a b : Bool) → a || b && a ≡ a
absorb true b = refl
absorb false true = refl
absorb false false = refl

pub neqb : (m n : ℕ) → eqb m n ≡ false → m ≢ n
neqb m n e p = subst T (sym (T→true (eqb m m) (eqb_refl m)) ∙ ap (eqb m) p ∙ e) tt

module _ {k : ℕ} where
  pub branch_eq : (b c : Branch k) → T (is_same_branch b c) → b ≡ c
  branch_eq b c t =
      let e = eqb→eq b.number c.number t in
      λ i. record { number = e i; below = is_prop→PathP (λ j. e j < k) (λ j. le_prop) b.below c.below i }

  pub branch-dec : (b c : Branch k) → Dec (b ≡ c)
  branch-dec b c = go (is_same_branch b c) refl
    where
      go : (v : Bool) → is_same_branch b c ≡ v → Dec (b ≡ c)
      go true e = yes (branch_eq b c (true→T e))
      go false e = no (λ p. neqb b.number c.number e (ap (λ (x : Branch k). x.number) p))

  pub place_eq : (p q : Place k) → T (same_place p q) → p ≡ q
  unfolding same_place
  place_eq [] [] t = refl
  place_eq [] (c ∷ q) t = absurd t
  place_eq (b ∷ p) [] t = absurd t
  place_eq (b ∷ p) (c ∷ q) t = go (is_same_branch b c) refl (place_eq p q) t
    where
      go : (v : Bool) → is_same_branch b c ≡ v → (T (same_place p q) → p ≡ q) → T (v && same_place p q) → b ∷ p ≡ c ∷ q
      go true e ih u = ap₂ (λ (x : Branch k) (y : Place k). x ∷ y) (branch_eq b c (true→T e)) (ih u)
      go false e ih u = absurd u

  pub place_refl : (p : Place k) → T (same_place p p)
  unfolding same_place
  place_refl [] = tt
  place_refl (b ∷ p) = rw (T→true (is_same_branch b b) (eqb_refl b.number)) (place_refl p)

  pub has-under : (c : Branch k) (X : List (Place k)) (p : Place k) → has (under c X) p ≡ has X (c ∷ p)
  unfolding has under same_place
  has-under c [] p = refl
  has-under c ([] ∷ X) p = has-under c X p
  has-under c ((b ∷ q) ∷ X) p = go (is_same_branch c b) (has-under c X p)
    where
      go : (v : Bool) → has (under c X) p ≡ has X (c ∷ p) → has (cond v (q ∷ under c X) (under c X)) p ≡ (v && same_place p q) || has X (c ∷ p)
      go true ih = rw ih refl
      go false ih = ih

  pub has-append : (X Y : List (Place k)) (p : Place k) → has (X ++ Y) p ≡ has X p || has Y p
  unfolding has
  has-append [] Y p = refl
  has-append (q ∷ X) Y p = rw (has-append X Y p) (sym (or_assoc (same_place p q) (has X p) (has Y p)))

  -- the places of the sets g b, each below its branch
  unfoldable pub gather : List (Branch k) → (Branch k → List (Place k)) → List (Place k)
  gather [] g = []
  gather (b ∷ bs) g = map (λ p. b ∷ p) (g b) ++ gather bs g

  unfoldable pub among : List (Branch k) → Branch k → Bool
  among [] c = false
  among (b ∷ bs) c = is_same_branch c b || among bs c

  map-nil : (b : Branch k) (X : List (Place k)) → has (map (λ p. b ∷ p) X) [] ≡ false
  unfolding has same_place
  map-nil b [] = refl
  map-nil b (q ∷ X) = map-nil b X

  map-cons : (b : Branch k) (X : List (Place k)) (c : Branch k) (p : Place k) → has (map (λ p. b ∷ p) X) (c ∷ p) ≡ is_same_branch c b && has X p
  unfolding has same_place
  map-cons b [] c p = sym (and-false (is_same_branch c b))
  map-cons b (q ∷ X) c p = rw (map-cons b X c p) (sym (and-or_distrib_left (is_same_branch c b) (same_place p q) (has X p)))

  pub gather-nil : (bs : List (Branch k)) (g : Branch k → List (Place k)) → has (gather bs g) [] ≡ false
  unfolding has gather
  gather-nil [] g = refl
  gather-nil (b ∷ bs) g = has-append (map (λ p. b ∷ p) (g b)) (gather bs g) [] ∙ rw (map-nil b (g b), gather-nil bs g) refl

  gather-among : (bs : List (Branch k)) (g : Branch k → List (Place k)) (c : Branch k) (p : Place k) → has (gather bs g) (c ∷ p) ≡ among bs c && has (g c) p
  unfolding has gather among
  gather-among [] g c p = refl
  gather-among (b ∷ bs) g c p =
      has-append (map (λ p. b ∷ p) (g b)) (gather bs g) (c ∷ p) ∙ rw (map-cons b (g b) c p, gather-among bs g c p) (go (is_same_branch c b) refl)
    where
      go : (v : Bool) → is_same_branch c b ≡ v → (v && has (g b) p) || (among bs c && has (g c) p) ≡ (v || among bs c) && has (g c) p
      go true e = rw (branch_eq c b (true→T e)) (absorb (has (g b) p) (among bs b))
      go false e = refl

  among_below : (m : ℕ) (h : m ≤ k) (c : Branch k) → c.number < m → among (down_from m h) c ≡ true
  unfolding among down_from
  among_below zero h c l = absurd (not-suc-le-zero l)
  among_below (suc m) h c l = go (is_same_branch c (record { number = m; below = h })) refl (among_below m (le_of_lt h) c)
    where
      go : (v : Bool) → eqb c.number m ≡ v → (c.number < m → among (down_from m (le_of_lt h)) c ≡ true) → v || among (down_from m (le_of_lt h)) c ≡ true
      go true e ih = refl
      go false e ih = ih (let d = neqb c.number m e in omega arith)

  pub among-all : (c : Branch k) → among (branches k) c ≡ true
  among-all c = among_below k (le_refl k) c c.below

  pub gather-cons : (g : Branch k → List (Place k)) (c : Branch k) (p : Place k) → has (gather (branches k) g) (c ∷ p) ≡ has (g c) p
  gather-cons g c p = gather-among (branches k) g c p ∙ rw (among_below k (le_refl k) c c.below) refl

  -- every member of X is shorter than d
  abbrev pub Short : ℕ → List (Place k) → Type 0
  Short d X = (p : Place k) → T (has X p) → length p < d

  pub short-under : (d : ℕ) (X : List (Place k)) (c : Branch k) → Short (suc d) X → Short d (under c X)
  short-under d X c s p t = le_of_suc-le-suc (s (c ∷ p) (rw has-under at t))

  pub short-below : (d : ℕ) (X : List (Place k)) (c : Branch k) → Short d X → Short d (under c X)
  short-below d X c s p t = le_of_lt (s (c ∷ p) (rw has-under at t))

  pub short-depth : (X : List (Place k)) → Short (depth X) X
  unfolding has depth
  short-depth [] p t = absurd t
  short-depth (q ∷ X) p t = go (same_place p q) refl (short-depth X p) t
    where
      go : (v : Bool) → same_place p q ≡ v → (T (has X p) → length p < depth X) → T (v || has X p) → length p < max (suc (length q)) (depth X)
      go true e ih u = let h = ap length (place_eq p q (true→T e)) in omega arith
      go false e ih u = let h = ih u in omega arith
