-- Joining a table all of whose states are reached: document 02, A8.
-- Assumes nothing.
use Prim.Native.Nat.{ℕ, zero, suc, ◌≤◌, ◌<◌}
use mathlib.Core.Path.{◌≡◌, refl, sym, ap, subst, ◌∙◌}
use mathlib.Core.Logic.{◌↔◌}
use mathlib.Core.Bool.{Bool, true, false, cond, not}
use mathlib.Core.List.{List, [], ◌∷◌, ◌++◌}
use native.Mathlib.Nat.{le_antisymm}
use native.Mathlib.Omega.{arith}
use borrow.Author.Tests.{eq-eqb}
use lib.Dec.{eqb}
use lib.ListN.{length, get_or, length-append, get_or-append}
use lib.Seq.{get_or-append_seam}
use Rattle.logic.specs.Tree.{Tree, Proper}
use Rattle.logic.specs.Machine.{run}
use Rattle.logic.specs.Reach.{select, position, numbered}
use Rattle.logic.specs.Alike.{Full, Alike}
use Rattle.logic.specs.Table.{Table}
use Rattle.logic.proofs.Places.{true→T}
use Rattle.logic.proofs.Orders.{less, same, more, ℕ-tri}
use Rattle.logic.specs.Joined.{first, numbers, is_apart, class_of, merged, classes, join_by, join}
use Rattle.logic.specs.Least.{SameTrees, AtLeast, Least}
use Rattle.logic.proofs.Apart.{Apart, apart-≢, told-apart}
use Rattle.logic.proofs.ApartPairs.{apart-tells}
use Rattle.logic.proofs.Classes.{at_most, Chooses, chooses_first, join-full, join-accepts, join-kernel, join-least}

module _ {k : ℕ} (n : ℕ) (a : Table k) where
  abbrev pub IsFull : Type 0
  IsFull = Full n a.count a.machine

  -- the chosen member of q's class
  abbrev pub leader : ℕ → ℕ
  leader = class_of a.count (is_apart n a.count a.machine)

  pub leader_chooses : IsFull → Chooses n a.count a.machine leader
  leader_chooses F = chooses_first n a.count a.machine F.0 (is_apart n a.count a.machine) (apart-tells n a.count a.machine F.0)

  pub join_is : join n a ≡ join_by a.count leader a.machine
  unfolding join is_apart
  join_is = refl

  module _ (F : IsFull) where
    -- the joined machine comes to all of its states
    pub joined-full : Full n (join n a).count (join n a).machine
    joined-full = subst (λ (b : Table k). Full n b.count b.machine) (sym join_is) (join-full n a.count a.machine F leader (leader_chooses F))

    -- it accepts the same trees
    pub joined-accepts : SameTrees n (join n a).machine a.machine
    joined-accepts = subst (λ (b : Table k). SameTrees n b.machine a.machine) (sym join_is) (join-accepts n a.count a.machine F leader (leader_chooses F))

    -- no complete deterministic machine with fewer states does
    pub joined-least : Least n a.machine (join n a).count
    joined-least Q N agree = subst (λ (b : Table k). AtLeast n N b.count) (sym join_is) (join-least n a.count a.machine F leader (leader_chooses F) Q N agree)

    pub joined-kernel : (t u : Tree k) → Proper n t → Proper n u
        → (run (join n a).machine t ≡ run (join n a).machine u) ↔ (Apart n a.count a.machine (run a.machine t) (run a.machine u) → ⊥)
    joined-kernel t u o o' =
        subst (λ (b : Table k). (run b.machine t ≡ run b.machine u) ↔ (Apart n a.count a.machine (run a.machine t) (run a.machine u) → ⊥)) (sym join_is)
        (join-kernel n a.count a.machine F leader (leader_chooses F) t u o o')

    pub joined-fewer : (join n a).count ≤ a.count
    joined-fewer = at_most n (join n a).count a.count a.machine F.0 (joined-least ℕ a.machine (λ t o. refl))

-- Two tables for the same trees, in whatever order their states were found or however many these are:
module _ {k : ℕ} (n : ℕ) (a b : Table k) (A : Full n a.count a.machine) (B : Full n b.count b.machine) (agree : SameTrees n a.machine b.machine) where
  -- one is no larger than the other
  fewer : (join n a).count ≤ (join n b).count
  fewer = at_most n (join n a).count (join n b).count (join n b).machine (joined-full n b B).0
      (joined-least n a A ℕ (join n b).machine (λ t o. agree t o ∙ sym (joined-accepts n b B t o)))

  coarser : (t u : Tree k) → Proper n t → Proper n u → run (join n a).machine t ≡ run (join n a).machine u → run (join n b).machine t ≡ run (join n b).machine u
  coarser t u o o' e = (joined-kernel n b B t u o o').1
      (λ x. told-apart n b.count b.machine B (join n a).machine (λ v p. sym (agree v p) ∙ sym (joined-accepts n a A v p)) x t u o o' refl refl e)

module _ {k : ℕ} (n : ℕ) (a b : Table k) (A : Full n a.count a.machine) (B : Full n b.count b.machine) (agree : SameTrees n a.machine b.machine) where
  -- joining gives the same number of states
  pub joined-count : (join n a).count ≡ (join n b).count
  joined-count = le_antisymm (fewer n a b A B agree) (fewer n b a B A (λ t o. sym (agree t o)))

  -- and machines that tell the same trees apart
  pub joined-alike : Alike n (join n a).machine (join n b).machine
  joined-alike t u o o' = (coarser n a b A B agree t u o o', coarser n b a B A (λ t o. sym (agree t o)) t u o o')

-- a machine with the least number of states, all reached: joining leaves its count
pub least-count : {k : ℕ} (n : ℕ) (a : Table k) → Full n a.count a.machine → Least n a.machine a.count → (join n a).count ≡ a.count
least-count n a A l = le_antisymm (joined-fewer n a A)
    (at_most n a.count (join n a).count (join n a).machine (joined-full n a A).0 (l ℕ (join n a).machine (λ t o. sym (joined-accepts n a A t o))))

-- ---- state 0
pub numbers-length : (m : ℕ) → length (numbers m) ≡ m
unfolding numbers
numbers-length zero = refl
numbers-length (suc m) = length-append (numbers m) (m ∷ []) ∙ (let e = numbers-length m in omega arith)

pub numbers_at : (m i : ℕ) → i < m → get_or (numbers m) i 0 ≡ i
unfolding numbers
numbers_at zero i h = omega arith
numbers_at (suc m) i h = elim (ℕ-tri i m) [
  | less l ↦ get_or-append (numbers m) (m ∷ []) 0 i (let e = numbers-length m in omega arith) ∙ numbers_at m i l
  | same e ↦ ap (λ (j : ℕ). get_or (numbers m ++ (m ∷ [])) j 0) (e ∙ sym (numbers-length m)) ∙ get_or-append_seam (numbers m) m [] 0 ∙ sym e
  | more l ↦ absurd (omega arith)
]

numbers-front : (m : ℕ) → 0 < m → (R : List ℕ) × (numbers m ≡ 0 ∷ R)
numbers-front m h = go (numbers m) (numbers_at m 0 h) (numbers-length m)
  where
    go : (L : List ℕ) → get_or L 0 0 ≡ 0 → length L ≡ m → (R : List ℕ) × (L ≡ 0 ∷ R)
    go [] e f = absurd (omega arith)
    go (q ∷ L) e f = (L, ap (λ (z : ℕ). z ∷ L) e)

-- state 0 stays the state of the empty tree
pub joined-start : {k : ℕ} (n : ℕ) (a : Table k) → Full n a.count a.machine → a.machine.start ≡ 0 → (join n a).machine.start ≡ 0
unfolding join_by numbered merged classes class_of first position select
joined-start {k} n a F z =
    ap (λ (b : Table k). b.machine.start) (join_is n a) ∙
    ap (λ (q : ℕ). position (leader n a q) (classes a.count (leader n a))) z ∙
    subst (λ (q : ℕ). position q (classes a.count (leader n a)) ≡ 0) (sym lead) front
  where
    pos : 0 < a.count
    pos = let h = F.0.0 in omega arith

    apart : ℕ → ℕ → Bool
    apart = is_apart n a.count a.machine

    no : not (apart 0 0) ≡ true
    no = go (apart 0 0) refl
      where
        go : (v : Bool) → apart 0 0 ≡ v → not v ≡ true
        go true e = absurd (apart-≢ n a.count a.machine F.0 ((apart-tells n a.count a.machine F.0 0 0 pos pos).0 (true→T e)) refl)
        go false e = refl

    lead : leader n a 0 ≡ 0
    lead = let w = numbers-front a.count pos in
        ap (λ (L : List ℕ). first (λ r. not (apart r 0)) L) w.1 ∙ ap (λ (v : Bool). cond v 0 (first (λ r. not (apart r 0)) w.0)) no

    front : position 0 (classes a.count (leader n a)) ≡ 0
    front = let w = numbers-front a.count pos in
        ap (λ (L : List ℕ). position 0 (select (λ q. eqb (leader n a q) q) L)) w.1 ∙
        ap (λ (v : Bool). position 0 (cond v (0 ∷ select (λ q. eqb (leader n a q) q) w.0) (select (λ q. eqb (leader n a q) q) w.0))) (eq-eqb (leader n a 0) 0 lead)
