-- Taking each record up once, with marks and a stack, finds the parts in their order.
-- Assumes nothing.
use Prim.Native.Nat.{ℕ, zero, suc, ◌+◌, ◌*◌, ◌≤◌, ◌<◌}
use mathlib.Core.Path.{◌≡◌, refl, ap, sym, subst, ◌∙◌}
use mathlib.Core.Logic.{◌⊎◌, inl, inr, ⊎_elim}
use mathlib.Core.Bool.{Bool, true, false, cond}
use mathlib.Core.List.{List, [], ◌∷◌, ◌++◌, append_assoc, append-nil}
use native.Mathlib.Nat.{le_refl, not-suc-le-zero}
use native.Mathlib.Omega.{arith}
use lib.Dec.{T}
use lib.ListN.{length}
use Rattle.logic.specs.Rule.{Record, last_of, Accepted}
use Rattle.logic.specs.Reach.{elem, flat}
use Rattle.logic.proofs.Reach.{elem-none, elem-one, elem-cons, elem-first, elem-append, elem-flat}
use Rattle.logic.proofs.Places.{T→true, true→T, not_T}
use Rattle.logic.proofs.Orders.{less, same, more, ℕ-tri}
use Rattle.parts.specs.Parts.{first_at, second_at, is_and, walk_from, fresh, parts_of}
use Rattle.parts.specs.Taking.{Taking, taken_up, turn_on, turn, turns, begun, parts_taken, unmarked}
use Rattle.parts.proofs.Lists.{not-false, elem-later, elem-nothing, fresh-other, fresh-skip, fresh-new}
use Rattle.parts.proofs.PartLaws.{AndEarlier, and_earlier, walk_and, walk-other, walk-others}

-- ---- how many have no mark

fewer : (u v : Bool) → (T u → T v) → cond v 0 1 ≤ cond u 0 1
fewer true true f = omega arith
fewer true false f = absurd (f tt)
fewer false true f = omega arith
fewer false false f = omega arith

pub unmarked-fewer : (m : ℕ) (b c : List ℕ) → ((x : ℕ) → T (elem x b) → T (elem x c)) → unmarked m c ≤ unmarked m b
unfolding unmarked
unmarked-fewer zero b c h = le_refl 0
unmarked-fewer (suc m) b c h = let p = fewer (elem m b) (elem m c) (h m) in let q = unmarked-fewer m b c h in omega arith

-- one that had none gets one
pub unmarked-less : (m : ℕ) (b c : List ℕ) → ((x : ℕ) → T (elem x b) → T (elem x c)) → (i : ℕ) → i < m → elem i b ≡ false → T (elem i c)
    → unmarked m c < unmarked m b
unfolding unmarked
unmarked-less zero b c h i l e t = absurd (not-suc-le-zero l)
unmarked-less (suc m) b c h i l e t = elim (ℕ-tri i m) [
  | less p ↦ (let a = fewer (elem m b) (elem m c) (h m) in let q = unmarked-less m b c h i p e t in omega arith)
  | same p ↦ (let a : ◌≡◌ {A = ℕ} (cond (elem m b) 0 1) 1 = ap {B = ℕ} (λ (v : Bool). cond v 0 1) (subst (λ (z : ℕ). elem z b ≡ false) p e) in
      let d : ◌≡◌ {A = ℕ} (cond (elem m c) 0 1) 0 = ap {B = ℕ} (λ (v : Bool). cond v 0 1) (T→true (elem m c) (subst (λ (z : ℕ). T (elem z c)) p t)) in
      let q = unmarked-fewer m b c h in omega arith)
  | more p ↦ absurd (omega arith)
]

pub unmarked-all : (m : ℕ) → unmarked m [] ≡ m
unfolding unmarked elem
unmarked-all zero = refl
unmarked-all (suc m) = let e = unmarked-all m in omega arith

-- ---- the loop

-- x is met from a record of the stack with only records below j up to it
unfoldable pub Ahead : List Record → ℕ → ℕ → List ℕ → Type 0
Ahead rs j x [] = ⊥
Ahead rs j x (s ∷ S) = (s < j) × (T (elem x (walk_from rs s)) ⊎ Ahead rs j x S)

-- what is still to come, and what there is in the end
abbrev pub remaining : List Record → Taking → List ℕ
remaining rs s = s.found ++ fresh s.marked (flat (λ i. walk_from rs i) s.stack)

-- the loop's invariant
pub record Going (rs : List Record) (s : Taking) : Type 0 where
  -- what is met from an "and" with a mark is marked, or comes from the stack before any record of that number or a greater one
  pub covered : (j : ℕ) → T (is_and rs j) → T (elem j s.marked) → (x : ℕ) → T (elem x (walk_from rs j)) → T (elem x s.marked) ⊎ Ahead rs j x s.stack
  -- all on the stack are records
  pub within : (x : ℕ) → T (elem x s.stack) → x < length rs
  pub parts : remaining rs s ≡ parts_of rs
  -- the stack has at most as many entries as the rule has records
  pub depth : length s.stack + unmarked (length rs) (0 ∷ s.marked) ≤ length rs

-- the loop's measure
abbrev pub left : List Record → Taking → ℕ
left rs s = 2 * unmarked (length rs) s.marked + length s.stack

module _ (rs : List Record) (E : AndEarlier rs) where
  abbrev W : ℕ → List ℕ
  W i = walk_from rs i

  -- no "and" is met
  none_and : (i : ℕ) (S : List ℕ) → T (is_and rs i) → T (elem i (flat (λ j. walk_from rs j) S)) → ⊥
  none_and i S t m = let w = (elem-flat i (λ j. walk_from rs j) S).0 m in not-false (walk-others rs E w.0 i w.2) t

  module _ (i : ℕ) (rest marked found : List ℕ) where
    abbrev now : Taking
    now = record { marked = marked; stack = i ∷ rest; found = found }

    -- a record with a mark: all that is met from it is marked
    seen : Going rs now → T (elem i marked) → (a : Bool) → is_and rs i ≡ a → (x : ℕ) → T (elem x (walk_from rs i)) → T (elem x marked)
    unfolding Ahead
    seen I h true e x m = ⊎_elim (λ t. t) (λ w. absurd (let q = w.0 in omega arith)) (I.covered i (true→T e) h x m)
    seen I h false e x m = subst (λ (z : ℕ). T (elem z marked)) (sym (elem-one x i (subst (λ (L : List ℕ). T (elem x L)) (walk-other rs E i e) m))) h

    longer : (x : ℕ) → T (elem x (0 ∷ marked)) → T (elem x (0 ∷ (i ∷ marked)))
    longer x m = (elem-cons x 0 (i ∷ marked)).1 (⊎_elim inl (λ u. inr (elem-later x i marked u)) ((elem-cons x 0 marked).0 m))

    pub passed : Going rs now → T (elem i marked) → Going rs (record { marked = marked; stack = rest; found = found })
    unfolding Ahead flat
    passed I h = record {
      covered = λ j t e x m. ⊎_elim inl (λ w. ⊎_elim (λ u. inl (seen I h (is_and rs i) refl x u)) inr w.1) (I.covered j t e x m);
      within = λ x m. I.within x (elem-later x i rest m);
      parts =
          ap (λ (L : List ℕ). found ++ L) (sym (fresh-skip marked (walk_from rs i) (flat (λ j. walk_from rs j) rest) (seen I h (is_and rs i) refl))) ∙ I.parts;
      depth = let d = I.depth in omega arith;
    }

    -- a part
    pub listed : Going rs now → elem i marked ≡ false → is_and rs i ≡ false → Going rs (record { marked = i ∷ marked; stack = rest; found = found ++ (i ∷ []) })
    unfolding Ahead flat
    listed I e o = record {
      covered = λ j t h x m. ⊎_elim (λ u. inl (elem-later x i marked u))
          (λ w. ⊎_elim (λ u. inl ((elem-cons x i marked).1 (inl (elem-one x i (subst (λ (L : List ℕ). T (elem x L)) (walk-other rs E i o) u))))) inr w.1)
          (I.covered j t (⊎_elim (λ q. absurd (not-false o (subst (λ (z : ℕ). T (is_and rs z)) q t))) (λ u. u) ((elem-cons j i marked).0 h)) x m);
      within = λ x m. I.within x (elem-later x i rest m);
      parts = append_assoc found (i ∷ []) (fresh (i ∷ marked) (flat (λ j. walk_from rs j) rest))
          ∙ ap (λ (L : List ℕ). found ++ L) (sym (fresh-new marked i (flat (λ j. walk_from rs j) rest) e)
          ∙ ap (λ (L : List ℕ). fresh marked (L ++ flat (λ j. walk_from rs j) rest)) (sym (walk-other rs E i o))) ∙ I.parts;
      depth = let d = I.depth in let f = unmarked-fewer (length rs) (0 ∷ marked) (0 ∷ (i ∷ marked)) longer in omega arith;
    }

    -- an "and"
    pub opened : Going rs now → elem i marked ≡ false → T (is_and rs i)
        → Going rs (record { marked = i ∷ marked; stack = first_at rs i ∷ (second_at rs i ∷ rest); found = found })
    unfolding Ahead flat
    opened I e t =
        let F : List ℕ = flat (λ j. walk_from rs j) rest in
        let a = (E i t).0 in let b = (E i t).1 in
        record {
          covered = λ j u h x m. ⊎_elim (λ q. new j q x m) (λ g. ⊎_elim (λ y. inl (elem-later x i marked y))
              (λ w. inr (old j x w.0 w.1)) (I.covered j u g x m)) ((elem-cons j i marked).0 h);
          within = λ x m. ⊎_elim (λ q. let l = I.within i (elem-first i rest) in omega arith)
              (λ u. ⊎_elim (λ q. let l = I.within i (elem-first i rest) in omega arith) (λ v. I.within x (elem-later x i rest v))
              ((elem-cons x (second_at rs i) rest).0 u))
              ((elem-cons x (first_at rs i) (second_at rs i ∷ rest)).0 m);
          parts = ap (λ (L : List ℕ). found ++ L) (ap (fresh (i ∷ marked)) (sym (append_assoc (walk_from rs (first_at rs i)) (walk_from rs (second_at rs i)) F)
              ∙ ap (λ (L : List ℕ). L ++ F) (sym (walk_and rs E i t)))
              ∙ fresh-other i marked (walk_from rs i ++ F) (λ m. none_and i (i ∷ rest) t m)) ∙ I.parts;
          depth = let d = I.depth in let f = unmarked-less (length rs) (0 ∷ marked) (0 ∷ (i ∷ marked)) longer i (I.within i (elem-first i rest)) fresh-here
              (elem-later i 0 (i ∷ marked) (elem-first i marked)) in omega arith;
        }
      where
        split : (x : ℕ) → T (elem x (walk_from rs i)) → T (elem x (walk_from rs (first_at rs i))) ⊎ T (elem x (walk_from rs (second_at rs i)))
        split x m = (elem-append x (walk_from rs (first_at rs i)) (walk_from rs (second_at rs i))).0 (subst (λ (L : List ℕ). T (elem x L)) (walk_and rs E i t) m)

        new : (j : ℕ) → j ≡ i → (x : ℕ) → T (elem x (walk_from rs j)) → T (elem x (i ∷ marked)) ⊎ Ahead rs j x (first_at rs i ∷ (second_at rs i ∷ rest))
        new j q x m = let w = E i t in let a = w.0 in let b = w.1 in
            inr ((omega arith), ⊎_elim inl (λ u. inr ((omega arith), inl u)) (split x (subst (λ (z : ℕ). T (elem x (walk_from rs z))) q m)))

        old : (j x : ℕ) → i < j → T (elem x (walk_from rs i)) ⊎ Ahead rs j x rest → Ahead rs j x (first_at rs i ∷ (second_at rs i ∷ rest))
        old j x l w = let v = E i t in let a = v.0 in let b = v.1 in
            ((omega arith), ⊎_elim (λ m. ⊎_elim inl (λ u. inr ((omega arith), inl u)) (split x m)) (λ u. inr ((omega arith), inr u)) w)

        fresh-here : elem i (0 ∷ marked) ≡ false
        fresh-here = not_T (elem i (0 ∷ marked)) (λ m. ⊎_elim (λ q. let w = (E i t).0 in omega arith) (not-false e) ((elem-cons i 0 marked).0 m))

  -- ONE TURN keeps the invariant
  pub turn-going : (marked stack found : List ℕ) → Going rs (record { marked = marked; stack = stack; found = found })
      → Going rs (turn rs (record { marked = marked; stack = stack; found = found }))
  unfolding turn turn_on taken_up
  turn-going marked [] found I = I
  turn-going marked (i ∷ rest) found I = go (elem i marked) (is_and rs i) refl refl
    where
      go : (v a : Bool) → elem i marked ≡ v → is_and rs i ≡ a → Going rs (taken_up v a rs i rest (record { marked = marked; stack = i ∷ rest; found = found }))
      go true a e o = passed i rest marked found I (true→T e)
      go false true e o = opened i rest marked found I e (true→T o)
      go false false e o = listed i rest marked found I e o

  -- and the measure falls, unless the stack is empty
  pub turn-less : (marked : List ℕ) (i : ℕ) (rest found : List ℕ) → i < length rs
      → left rs (turn rs (record { marked = marked; stack = i ∷ rest; found = found })) < left rs (record { marked = marked; stack = i ∷ rest; found = found })
  unfolding turn turn_on taken_up
  turn-less marked i rest found l = go (elem i marked) (is_and rs i) refl
    where
      go : (v a : Bool) → elem i marked ≡ v → left rs (taken_up v a rs i rest (record { marked = marked; stack = i ∷ rest; found = found }))
          < left rs (record { marked = marked; stack = i ∷ rest; found = found })
      go true a e = omega arith
      go false true e = let u = unmarked-less (length rs) marked (i ∷ marked) (λ x m. elem-later x i marked m) i l e (elem-first i marked) in omega arith
      go false false e = let u = unmarked-less (length rs) marked (i ∷ marked) (λ x m. elem-later x i marked m) i l e (elem-first i marked) in omega arith

  -- with an empty stack nothing changes
  pub turns-still : (d : ℕ) (marked found : List ℕ)
      → turns d rs (record { marked = marked; stack = []; found = found }) ≡ record { marked = marked; stack = []; found = found }
  unfolding turns turn turn_on
  turns-still zero marked found = refl
  turns-still (suc d) marked found = turns-still d marked found

  -- at the end the parts are found
  pub turns-end : (d : ℕ) (marked stack found : List ℕ) → Going rs (record { marked = marked; stack = stack; found = found })
      → left rs (record { marked = marked; stack = stack; found = found }) ≤ d
      → (turns d rs (record { marked = marked; stack = stack; found = found })).found ≡ parts_of rs
  unfolding turns fresh flat
  turns-end zero marked [] found I h = sym (append-nil found) ∙ I.parts
  turns-end zero marked (i ∷ rest) found I h = absurd (omega arith)
  turns-end (suc d) marked [] found I h = ap (λ (s : Taking). s.found) (turns-still (suc d) marked found) ∙ sym (append-nil found) ∙ I.parts
  turns-end (suc d) marked (i ∷ rest) found I h =
      let s : Taking = turn rs (record { marked = marked; stack = i ∷ rest; found = found }) in
      let l = turn-less marked i rest found (I.within i (elem-first i rest)) in
      turns-end d s.marked s.stack s.found (turn-going marked (i ∷ rest) found I) (omega arith)

  module _ (some : 0 < length rs) where
    pub begun-going : Going rs (begun rs)
    unfolding parts_of flat
    begun-going = record {
      covered = λ j t h. absurd (elem-none j h);
      within = λ x m. let e = elem-one x (last_of rs) m in omega arith;
      parts = ap (fresh []) (append-nil (walk_from rs (last_of rs)));
      depth = let u = unmarked-less (length rs) [] (0 ∷ []) (λ x m. absurd (elem-none x m)) 0 some (elem-nothing 0) (elem-first 0 []) in
          let a = unmarked-all (length rs) in omega arith;
    }

    -- TAKING UP EACH RECORD ONCE FINDS THE PARTS
    pub taken-parts : parts_taken rs ≡ parts_of rs
    unfolding parts_taken
    taken-parts = turns-end (suc (2 * length rs)) [] (last_of rs ∷ []) [] begun-going (let a = unmarked-all (length rs) in omega arith)

pub rule-parts : (k n : ℕ) (rs : List Record) → Accepted k n rs → parts_taken rs ≡ parts_of rs
rule-parts k n rs ok = taken-parts rs (and_earlier k n rs ok.1) ok.0
