-- Exploration: the codes that are reachable from a start code under a successor function, in the order of discovery; `none` where there
-- are more than `c` of them. Document 01, "Machines": "States counted are those reachable from state 0 under all labels."
-- Assumes nothing.
use Rattle.std.specs.Prelude.{ℕ, zero, suc, ◌<◌, Bool, true, ◌&&◌, cond, List, [], ◌∷◌, ◌++◌, map, ◌≡◌, length, get_or, ltb}
use Rattle.std.proofs.Math.Option.{Option, none, some}
use Rattle.std.specs.declared.option.Option.{Option as Maybe}
use Rattle.std.specs.declared.option.Option.TheVariants.{Some, None}
use Rattle.logic.specs.Reach.{position}
use Rattle.table.specs.Entry.{Step}

-- the list with x in it: as it is where x stands there, else with x put last. None where x is new and there are c codes already
unfoldable pub insert : ℕ → ℕ → List ℕ → Option (List ℕ)
insert c x cs = cond (ltb (position x cs) (length cs)) (some cs) (cond (ltb (length cs) c) (some (cs ++ (x ∷ []))) none)

-- where x stands among the codes, if it does
abbrev pub place_of : ℕ → List ℕ → Maybe ℕ
place_of x cs = cond (ltb (position x cs) (length cs)) (Some (position x cs)) None

-- no code stands twice
abbrev pub DistinctCodes : List ℕ → Type 0
DistinctCodes cs = (i j : ℕ) → i < length cs → j < length cs → get_or cs i 0 ≡ get_or cs j 0 → i ≡ j

-- what a test of a found list gives
abbrev pub found : Option (List ℕ) → (List ℕ → Option (List ℕ)) → Option (List ℕ)
found none f = none
found (some cs) f = f cs

-- a node to be visited: its label and the states of its branches, in order
pub record Visit : Type 0 where
  pub label : ℕ
  pub states : List ℕ

-- the codes of states
abbrev pub codes_at : List ℕ → List ℕ → List ℕ
codes_at cs is = map (λ (i : ℕ). get_or cs i 0) is

-- are they states, where there are n
abbrev pub are_below : ℕ → List ℕ → Bool
are_below n [] = true
are_below n (i ∷ is) = ltb i n && are_below n is

module _ (succ : Step) (c : ℕ) where
  -- the successor of a visit's states is put in, if they are there
  unfoldable pub visit : Visit → Option (List ℕ) → Option (List ℕ)
  visit v o = found o (λ cs. cond (are_below (length cs) v.states) (insert c (succ v.label (codes_at cs v.states)) cs) (some cs))

  -- one after the other
  unfoldable pub visits : List Visit → Option (List ℕ) → Option (List ℕ)
  visits [] o = o
  visits (v ∷ vs) o = visits vs (visit v o)

-- the node with label l over states i and j
abbrev pub over : ℕ → ℕ → ℕ → Visit
over l i j = record { label = l; states = i ∷ j ∷ [] }

-- state k with each state below m, both ways, under label l
unfoldable pub row : ℕ → ℕ → ℕ → List Visit
row l k zero = []
row l k (suc i) = row l k i ++ (over l i k ∷ over l k i ∷ [])

-- state k with itself and those before it, under each label below m
unfoldable pub ring : ℕ → ℕ → List Visit
ring k zero = []
ring k (suc l) = ring k l ++ row l k (suc k)

-- the states below k with each other, each with those before it in its turn
unfoldable pub rings : ℕ → ℕ → List Visit
rings labels zero = []
rings labels (suc k) = rings labels k ++ ring k labels

unfoldable pub explore : Step → ℕ → ℕ → ℕ → Option (List ℕ)
explore succ c labels start = visits succ c (rings labels c) (some (start ∷ []))
