-- Joining the states that behave alike: document 02, request A8, "Smaller machines". The number k of branches is a parameter.
-- Assumes nothing.
use Rattle.std.specs.Prelude.{ℕ, zero, suc, ◌+◌, ◌*◌, ◌/◌, ◌%◌, ◌^◌, ◌<◌, ◌≡◌, Bool, cond, not, ◌&&◌, List, [], ◌∷◌, ◌++◌, eqb, length}
use Rattle.std.specs.Bool.{beq}
use Rattle.logic.specs.Meaning.{Branch, is_same_branch, Formula}
use Rattle.logic.specs.Tree.{Tree, Proper, branches}
use Rattle.logic.specs.Machine.{Machine, run, any_of}
use Rattle.logic.specs.Reach.{elem, below, select, outcomes, closure, numbered}
use Rattle.logic.specs.Table.{Table, table_by}

-- a tree with a gap: the gap itself, or what is around a node with label l whose branch b is the gap and whose others are those of f
pub data Context (k : ℕ) : Type 0 where
  gap : Context k
  around : (l : ℕ) (b : Branch k) (f : Branch k → Tree k) → Context k → Context k

unfoldable pub ProperContext : {k : ℕ} → ℕ → Context k → Type 0
ProperContext n gap = Unit {0}
ProperContext {k} n (around l b f C) = (l < 2 ^ n) × ((d : Branch k) → Proper n (f d)) × ProperContext n C

-- s with p at branch b
abbrev pub beside : {k : ℕ} {A : Type 0} → Branch k → A → (Branch k → A) → Branch k → A
beside b p s d = cond (is_same_branch d b) p (s d)

-- where M comes to with state q at the gap
unfoldable pub resume : {k : ℕ} {Q : Type 0} → Machine k Q → Context k → Q → Q
resume M gap q = q
resume M (around l b f C) q = resume M C (M.step l (beside b q (λ d. run M (f d))))

-- "states that behave alike": every tree around them is accepted with both or with neither
abbrev pub BehaveAlike : {k : ℕ} {Q : Type 0} → ℕ → Machine k Q → Q → Q → Type 0
BehaveAlike {k} n M p q = (C : Context k) → ProperContext n C → M.accepting (resume M C p) ≡ M.accepting (resume M C q)

-- ---- the joining, by rounds. A pair of states p and q, below c, is the number p * c + q.

-- the pairs of different states
unfoldable pub pairs : ℕ → List ℕ
pairs c = select (λ z. not (eqb (z / c) (z % c))) (below (c * c))

-- those of which one accepts and the other does not
unfoldable pub seeds : {k : ℕ} → ℕ → Machine k ℕ → List ℕ
seeds c M = select (λ z. not (beq (M.accepting (z / c)) (M.accepting (z % c)))) (pairs c)

-- with p and with q at branch b under the label l, and the same states at the other branches, M comes to a pair of D
unfoldable pub splits_at : {k : ℕ} → ℕ → Machine k ℕ → List ℕ → ℕ → ℕ → ℕ → Branch k → Bool
splits_at {k} c M D p q l b =
    any_of (λ z. elem z D) (outcomes (branches k) (λ d. cond (is_same_branch d b) (0 ∷ []) (below c)) (λ s. M.step l (beside b p s) * c + M.step l (beside b q s)))

-- some node takes p and q, at one branch, to a pair of D
unfoldable pub splits : {k : ℕ} → ℕ → ℕ → Machine k ℕ → List ℕ → ℕ → ℕ → Bool
splits {k} n c M D p q = any_of (λ l. any_of (splits_at c M D p q l) (branches k)) (below (2 ^ n))

-- one round of refinement: the pairs not in D that are split
unfoldable pub spread : {k : ℕ} → ℕ → ℕ → Machine k ℕ → List ℕ → List ℕ
spread n c M D = select (λ z. not (elem z D) && splits n c M D (z / c) (z % c)) (pairs c)

-- the pairs that do not behave alike: rounds until one finds nothing new
unfoldable pub apart_pairs : {k : ℕ} → ℕ → ℕ → Machine k ℕ → List ℕ
apart_pairs n c M = closure (spread n c M) (suc (c * c)) (seeds c M)

unfoldable pub is_apart : {k : ℕ} → ℕ → ℕ → Machine k ℕ → ℕ → ℕ → Bool
is_apart n c M p q = elem (p * c + q) (apart_pairs n c M)

unfoldable pub numbers : ℕ → List ℕ
numbers zero = []
numbers (suc m) = numbers m ++ (m ∷ [])

unfoldable pub first : (ℕ → Bool) → List ℕ → ℕ
first g [] = 0
first g (r ∷ L) = cond (g r) r (first g L)

-- the first member of q's class
unfoldable pub class_of : ℕ → (ℕ → ℕ → Bool) → ℕ → ℕ
class_of c apart q = first (λ r. not (apart r q)) (numbers c)

-- M over the first members of the classes g
unfoldable pub merged : {k : ℕ} → (ℕ → ℕ) → Machine k ℕ → Machine k ℕ
merged g M = record { start = g M.start; step = λ l s. g (M.step l s); accepting = M.accepting }

-- the first members, in order: a class's number is its place among them
unfoldable pub classes : ℕ → (ℕ → ℕ) → List ℕ
classes c g = select (λ q. eqb (g q) q) (numbers c)

unfoldable pub join_by : {k : ℕ} → ℕ → (ℕ → ℕ) → Machine k ℕ → Table k
join_by c g M = let L = classes c g in record { count = length L; machine = numbered (merged g M) L }

-- "join its states until no complete deterministic machine with fewer accepts the same trees"
unfoldable pub join : {k : ℕ} → ℕ → Table k → Table k
join n a = let c = a.count in let D = apart_pairs n c a.machine in join_by c (class_of c (λ p q. elem (p * c + q) D)) a.machine

-- "the construction over already shrunk parts": refusal 14 compares c with its count, that of its reachable states
unfoldable pub constructed : {k : ℕ} → ℕ → Formula k → Table k
constructed n f = table_by (join n) n f

-- "after each record .. is built, join its states": the machine that is kept, whose count is reported
unfoldable pub joined_table : {k : ℕ} → ℕ → Formula k → Table k
joined_table n f = join n (constructed n f)
