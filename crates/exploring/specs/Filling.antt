-- How a builder stands for a list of codes, where a table's entries are, and what each turn of the exploration ensures of both.
-- Document 01, "Machines": "A builder keeps the list of state sets found so far, at most 64 of them." Assumes nothing.
use Rattle.std.specs.Prelude.{ℕ, ◌+◌, ◌≤◌, ◌<◌, ◌≡◌, List, Bool, false, cond, get_or, take, drop, set, length, leb}
use Rattle.std.proofs.Math.Option.{Option, none, some}
use Rattle.layout.specs.Shape.{labels_in, share_of, place_in, Each, Tuple}
use Rattle.words.specs.Word.{Below}
use Rattle.logic.specs.Reach.{position}
use Rattle.table.specs.Entry.{Step, Bare, seen}
use Rattle.table.specs.Rows.{Inside}
use Rattle.ops.specs.declared.Op.TheVariants.{Exists}
use Rattle.table.specs.declared.plan.Plan.{Plan}
use Rattle.exploring.specs.Explore.{Visit, codes_at, visits, explore, DistinctCodes}
use Rattle.exploring.specs.declared.Builder.{Builder}

-- the codes of a builder; none where there are more than c
abbrev pub listed : ℕ → Builder → Option (List ℕ)
listed c b = cond (leb b.count c) (some (take b.count b.codes)) none

-- the table has the entry of a visit: its states and the code that follows them are among the codes, and that code's place stands at the
-- label as the record sees it
pub record Entered (succ : Step) (p : Plan) (cs ws : List ℕ) (v : Visit) : Type 0 where
  pub in_table : Tuple p.shape.branches p.shape.ceiling v.states
  pub states : Tuple p.shape.branches (length cs) v.states
  pub code : position (succ v.label (codes_at cs v.states)) cs < length cs
  pub written : get_or ws (p.base + place_in p.shape (seen p.looks v.label) v.states) 0 ≡ position (succ v.label (codes_at cs v.states)) cs

-- or there were too many
abbrev pub Cell : Step → Plan → Option (List ℕ) → List ℕ → Visit → Type 0
Cell succ p none ws v = Unit {0}
Cell succ p (some cs) ws v = Entered succ p cs ws v

-- nothing but the plan's share is written
pub record Kept (p : Plan) (ws ws' : List ℕ) : Type 0 where
  pub low : take p.base ws' ≡ take p.base ws
  pub high : drop (p.base + share_of p.shape) ws' ≡ drop (p.base + share_of p.shape) ws

-- the step from builder b to builder r and from table ws to ws' by some visits: the codes that they find are put in, no entry is lost,
-- theirs are there, and no other byte is written
pub record Visited (succ : Step) (p : Plan) (vs : List Visit) (b r : Builder) (ws ws' : List ℕ) : Type 0 where
  pub more : b.count ≤ r.count
  pub most : r.count ≤ p.shape.ceiling + 1
  pub list : listed p.shape.ceiling r ≡ visits succ p.shape.ceiling vs (listed p.shape.ceiling b)
  pub kept : Kept p ws ws'
  pub keeps : (v : Visit) → Cell succ p (listed p.shape.ceiling b) ws v → Cell succ p (listed p.shape.ceiling r) ws' v
  pub cells : Each (Cell succ p (listed p.shape.ceiling r) ws') vs
  pub bare : (q : ℕ) → Bare p.shape p.base p.looks r.count q → get_or ws' q 0 ≡ get_or ws q 0

-- the code x is looked up among the codes, and its place written for a visit, which is the next one where it is new; where there are too
-- many codes, nothing is written, and no code counts as new
pub record Noted (p : Plan) (b : Builder) (v : Visit) (x : ℕ) (new : Bool) (ws ws' : List ℕ) : Type 0 where
  pub found : b.count ≤ p.shape.ceiling → new ≡ leb b.count (position x (take b.count b.codes))
  pub written : b.count ≤ p.shape.ceiling → ws' ≡ set ws (p.base + place_in p.shape v.label v.states) (position x (take b.count b.codes))
  pub passed : p.shape.ceiling < b.count → (new ≡ false) × (ws' ≡ ws)

-- the pairs of state k under label l can be visited: both are there, the label is told from any earlier one, and no code stands twice
pub record Visitable (p : Plan) (b : Builder) (l k : ℕ) : Type 0 where
  pub label : l < labels_in p.shape
  pub own : l ≤ seen p.looks l
  pub state : k < b.count
  pub few : b.count ≤ p.shape.ceiling
  pub distinct : DistinctCodes (take b.count b.codes)

-- what the exploration of a plan from a start code ensures: the builder has the codes that are found, the table every entry of theirs,
-- and no other byte is written
pub record Explored (succ : Step) (p : Plan) (start : ℕ) (r : Builder) (ws ws' : List ℕ) : Type 0 where
  pub most : r.count ≤ p.shape.ceiling + 1
  pub list : listed p.shape.ceiling r ≡ explore succ p.shape.ceiling (labels_in p.shape) start
  pub cells : (v : Visit) → v.label < labels_in p.shape → Tuple p.shape.branches r.count v.states
      → Cell succ p (listed p.shape.ceiling r) ws' v
  pub bare : (q : ℕ) → Bare p.shape p.base p.looks r.count q → get_or ws' q 0 ≡ get_or ws q 0
  pub kept : Kept p ws ws'

-- no code stands twice, and those of an "exists" are sets of states of its part
abbrev pub Guided : List ℕ → Plan → Option (List ℕ) → Type 0
Guided low p none = Unit {0}
Guided low p (some cs) = DistinctCodes cs × (p.kind ≡ Exists → (n : ℕ) × Inside low p n × ((i : ℕ) → i < length cs → Below n (get_or cs i 0)))
