-- Request A6: the trials, and what the list that they keep must be. The claims are over assignments; nothing here knows of machines.
-- Assumes nothing.
use Rattle.std.specs.Prelude.{ℕ, ◌<◌, ◌≡◌, Bool, true, false, cond, List, [], ◌∷◌, ◌++◌, T, length}
use Rattle.logic.specs.Meaning.{Assignment, Holds}
use Rattle.logic.specs.Rule.{Record, formula_at}
use Rattle.logic.specs.Reach.{elem}
use Rattle.parts.specs.Parts.{AllHold}

-- no assignment satisfies all records of the list
abbrev pub NoneHold : (k : ℕ) → List Record → List ℕ → Type 0
NoneHold k rs L = (A : Assignment k) → ¬ AllHold rs L A

-- some assignment does
abbrev pub SomeHold : (k : ℕ) → List Record → List ℕ → Type 0
SomeHold k rs L = (A : Assignment k) × AllHold rs L A

-- a test that tells which: of a list of the rule's records, are there none
pub record Tells (k : ℕ) (rs : List Record) (none : List ℕ → Bool) : Type 0 where
  pub when_true : (L : List ℕ) → ((i : ℕ) → T (elem i L) → i < length rs) → none L ≡ true → NoneHold k rs L
  pub when_false : (L : List ℕ) → ((i : ℕ) → T (elem i L) → i < length rs) → none L ≡ false → SomeHold k rs L

-- "Try the parts in that order; drop one if the conjunction of the rest still kept has no satisfying assignment": those kept so far and
-- those not yet tried
unfoldable pub tried_with : (List ℕ → Bool) → List ℕ → List ℕ → List ℕ
tried_with none kept [] = kept
tried_with none kept (p ∷ rest) = tried_with none (cond (none (kept ++ rest)) kept (kept ++ (p ∷ []))) rest

abbrev pub kept_of : (List ℕ → Bool) → List ℕ → List ℕ
kept_of none ps = tried_with none [] ps

-- the same as a relation over assignments: from those kept so far, the trials of the rest in their order leave the list R
pub data TrialsKeep (k : ℕ) (rs : List Record) : List ℕ → List ℕ → List ℕ → Type 0 where
  all-tried : {kept : List ℕ} → TrialsKeep k rs kept [] kept
  dropped : {kept rest R : List ℕ} {p : ℕ} → NoneHold k rs (kept ++ rest) → TrialsKeep k rs kept rest R → TrialsKeep k rs kept (p ∷ rest) R
  stays : {kept rest R : List ℕ} {p : ℕ} → SomeHold k rs (kept ++ rest) → TrialsKeep k rs (kept ++ (p ∷ [])) rest R → TrialsKeep k rs kept (p ∷ rest) R

-- K is L with some left out, in L's order
pub data Sublist : List ℕ → List ℕ → Type 0 where
  no_more : Sublist [] []
  left_out : {x : ℕ} {K L : List ℕ} → Sublist K L → Sublist K (x ∷ L)
  taken : {x : ℕ} {K L : List ℕ} → Sublist K L → Sublist (x ∷ K) (x ∷ L)

-- A6's claim on the list returned, of the parts ps
pub record Clash (k : ℕ) (rs : List Record) (ps R : List ℕ) : Type 0 where
  -- "must be unsatisfiable"
  pub unsatisfiable : NoneHold k rs R
  -- "and become satisfiable when any one part is removed"
  pub satisfiable-without : (p : ℕ) → T (elem p R) → (A : Assignment k) × ((q : ℕ) → T (elem q R) → ¬ (q ≡ p) → Holds (formula_at rs q) A)
  -- "returned as record numbers in that order"
  pub in_order : Sublist R ps
  pub not_empty : 0 < length R
  -- it is the one that the trials in that order keep
  pub kept : TrialsKeep k rs [] ps R
