-- What the demands ask of decide's and judge's answers to an accepted rule, once the ceilings and buffers are in order.
-- The claims are in terms of assignments, their trees and the order of trees; `states_at` alone speaks of a construction. Assumes nothing.
use Rattle.std.specs.Prelude.{ℕ, ◌≤◌, ◌<◌, ◌≡◌, ◌↔◌, ◌⊎◌, List, [], ◌∷◌, ◌++◌, T, length}
use Rattle.logic.specs.Meaning.{Branch, Place, Assignment}
use Rattle.logic.specs.Tree.{Tree, positions, node_at, TreeOf, SameSets}
use Rattle.logic.specs.Order.{◌≺◌}
use Rattle.logic.specs.Rule.{Record, formula_at, last_of, Satisfies}
use Rattle.logic.specs.ReachedRecords.{ReachedRecord}
use Rattle.logic.specs.Least.{LeastBelow}
use Rattle.logic.specs.Joined.{constructed}

-- decide's answers: refusal 14 with the record's number; shown (positions, states) and the tree; none (states); larger (states)
pub data Outcome (k : ℕ) : Type 0 where
  refused14 : (r : ℕ) → Outcome k
  shown : (places states : ℕ) → Tree k → Outcome k
  none larger : (states : ℕ) → Outcome k

-- judge's answers: refusal 14 with the record's number, or yes or no
pub data Judgement : Type 0 where
  unbuilt : (r : ℕ) → Judgement
  yes no : Judgement

-- A8: "the reachable states of the construction over already shrunk parts", of record r
abbrev pub states_at : (k n : ℕ) → List Record → ℕ → ℕ
states_at k n rs r = (constructed {k = k} n (formula_at rs r)).count

-- "the first record in strip order with more than c states", which since A5 "speaks only of records reached from the last one" and since A8
-- "compares c with" these
abbrev pub FirstOver : (k n : ℕ) → List Record → ℕ → ℕ → Type 0
FirstOver k n rs c r = ReachedRecord rs r × (c < states_at k n rs r) × ((i : ℕ) → i < r → ReachedRecord rs i → states_at k n rs i ≤ c)

-- no record that is reached has more than c states: refusal 14 does not apply
abbrev pub Roomy : (k n : ℕ) → List Record → ℕ → Type 0
Roomy k n rs c = (r : ℕ) → ReachedRecord rs r → states_at k n rs r ≤ c

-- A satisfies the rule, and t is its tree
pub record Model {k : ℕ} (n : ℕ) (rs : List Record) (A : Assignment k) (t : Tree k) : Type 0 where
  pub holds : Satisfies rs A
  pub tree : TreeOf n A t

-- Demand 2, of the answer o with q states
pub record Demand2 {k : ℕ} (n : ℕ) (rs : List Record) (P q : ℕ) (o : Outcome k) : Type 0 where
  -- "none" is said if no finite sets satisfy the rule, and only then
  pub none_is : (o ≡ none q) ↔ ((A : Assignment k) → ¬ Satisfies rs A)
  -- otherwise the sets shown do satisfy it, or it is said that the fewest positions needed exceed the place ceiling
  pub otherwise : (A : Assignment k) → Satisfies rs A
      → ((t : Tree k) × (o ≡ shown (positions t) q t) × ((B : Assignment k) × Model n rs B t))
      ⊎ ((o ≡ larger q) × ((B : Assignment k) (u : Tree k) → Model n rs B u → P < positions u))

-- t, with this many positions, is the earliest tree of a satisfying assignment
pub record Earliest {k : ℕ} (n : ℕ) (rs : List Record) (places : ℕ) (t : Tree k) : Type 0 where
  -- the shown one satisfies the rule and has as many positions as are reported
  pub sets : Assignment k
  pub model : Model n rs sets t
  pub counted : places ≡ positions t
  -- every other one has at least as many
  pub fewest : (B : Assignment k) (u : Tree k) → Model n rs B u → places ≤ positions u
  -- and comes later in the order
  pub later : (B : Assignment k) (u : Tree k) → Model n rs B u → SameSets n sets B ⊎ (t ≺ u)

-- Demand 3, of the answer o with q states
pub record Demand3 {k : ℕ} (n : ℕ) (rs : List Record) (P q : ℕ) (o : Outcome k) : Type 0 where
  -- an assignment is shown exactly when some satisfying assignment has no more positions than the place ceiling
  pub shown_is : ((t : Tree k) × (o ≡ shown (positions t) q t)) ↔ ((A : Assignment k) × (t : Tree k) × Model n rs A t × (positions t ≤ P))
  -- it is the earliest, and the numbers reported are its positions and q
  pub shown-right : (places states : ℕ) (t : Tree k) → o ≡ shown places states t → (states ≡ q) × Earliest n rs places t
  -- "larger" is said exactly when satisfying assignments exist and every one of them has more positions than the place ceiling
  pub larger_is : (o ≡ larger q) ↔ (((A : Assignment k) × Satisfies rs A) × ((A : Assignment k) (t : Tree k) → Model n rs A t → P < positions t))

-- q is the least number of states of a machine that decides the rule
abbrev pub LeastForRule : (k n : ℕ) → List Record → ℕ → Type 0
LeastForRule k n rs q = LeastBelow {k = k} n (formula_at rs (last_of rs)) q

-- o answers the rule rs of n variables, with state ceiling c and place ceiling P, and reports q states
pub record Answers {k : ℕ} (n : ℕ) (rs : List Record) (c P q : ℕ) (o : Outcome k) : Type 0 where
  -- A8: "Reported states become that least number"
  pub least : LeastForRule k n rs q
  pub refused_is : (r : ℕ) → (o ≡ refused14 r) ↔ FirstOver k n rs c r
  pub demand2 : Roomy k n rs c → Demand2 n rs P q o
  pub demand3 : Roomy k n rs c → Demand3 n rs P q o

-- j is the judgement of the tree t: yes or no agrees with the meaning
pub record Judges {k : ℕ} (n : ℕ) (rs : List Record) (c : ℕ) (t : Tree k) (j : Judgement) : Type 0 where
  pub unbuilt_is : (r : ℕ) → (j ≡ unbuilt r) ↔ FirstOver k n rs c r
  pub yes_is : Roomy k n rs c → (A : Assignment k) → TreeOf n A t → (j ≡ yes) ↔ Satisfies rs A
  pub no_is : Roomy k n rs c → (A : Assignment k) → TreeOf n A t → (j ≡ no) ↔ (¬ Satisfies rs A)

-- a downward path of t: positions, each a branch of the one before it
unfoldable pub Downward : {k : ℕ} → Tree k → List (Place k) → Type 0
Downward t [] = Unit {0}
Downward t (p ∷ []) = T (node_at t p)
Downward {k} t (p ∷ (q ∷ path)) = T (node_at t p) × ((b : Branch k) × (q ≡ p ++ (b ∷ []))) × Downward t (q ∷ path)

-- A4, "A bound on depth for the builder": "no downward path [..] has as many positions as the reported number of states"
abbrev pub Shallow : {k : ℕ} → ℕ → Tree k → Type 0
Shallow {k} states t = (path : List (Place k)) → Downward t path → length path < states
