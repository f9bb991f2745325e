-- Trees given by labels and by the ranks of their branches, as a search settles them: what the writer of tree strips takes. Assumes
-- nothing.
use Rattle.std.specs.Prelude.{ℕ, zero, suc, ◌+◌, ◌-◌, ◌*◌, ◌≤◌, ◌<◌, ◌≡◌, List, [], ◌∷◌, ◌++◌, length, get_or}
use Rattle.logic.specs.Tree.{Tree, empty, positions}
use Rattle.logic.specs.Search.{at, candidate}
use Rattle.bits.specs.Bits.{bits, Clear}
use Rattle.tree_strip.specs.TreeStrip.{tree_bits, tree_bytes}
use Rattle.tree_strip.specs.declared.write.Rank.{Rank}
use Rattle.tree_strip.specs.declared.write.Ranks.{Ranks}

-- a rank that none was settled for
abbrev pub no_rank : Rank
no_rank = record { label = 0; first = 0; second = 0 }

abbrev pub rank_in : List Rank → ℕ → Rank
rank_in nodes i = get_or nodes i no_rank

-- the tree with a rank's label, whose branches are trees of s
abbrev pub tree_with : List (Tree 2) → Rank → Tree 2
tree_with s x = candidate s x.label (x.first ∷ x.second ∷ [])

-- the tree of rank i, from its label and the ranks of its branches among the trees s before it: rank 0 is the empty tree
unfoldable pub tree_at : List Rank → List (Tree 2) → ℕ → Tree 2
tree_at nodes s zero = empty
tree_at nodes s (suc i) = tree_with s (rank_in nodes (suc i))

-- the first trees, in the order of their ranks
unfoldable pub decode : List Rank → ℕ → List (Tree 2)
decode nodes zero = []
decode nodes (suc i) = decode nodes i ++ (tree_at nodes (decode nodes i) i ∷ [])

-- the tree of rank r, of the first count
abbrev pub tree_of_rank : List Rank → ℕ → ℕ → Tree 2
tree_of_rank nodes count r = at (decode nodes count) r

-- the tree of the last rank
abbrev pub last_tree : Ranks → Tree 2
last_tree ranks = tree_of_rank ranks.nodes ranks.count (ranks.count - 1)

-- the branches of a rank have smaller ranks
abbrev pub Backs : ℕ → List Rank → Type 0
Backs n nodes = (i : ℕ) → 0 < i → i < n → ((rank_in nodes i).first < i) × ((rank_in nodes i).second < i)

-- a node bit and a label of n bits have room in d from a place on, where zeros stand
pub record NodeRoom (d : List ℕ) (at n : ℕ) : Type 0 where
  pub few-variables : n ≤ 8
  pub short : length d ≤ 4096
  pub room : at + 1 + n ≤ 8 * length d
  pub clear : Clear (bits d) at

-- the tree of rank r has room in d from a place on, where zeros stand
pub record Writable (d : List ℕ) (at n : ℕ) (nodes : List Rank) (count r : ℕ) : Type 0 where
  pub few-variables : n ≤ 8
  pub few : count ≤ 64
  pub settled : r < count
  pub back : Backs count nodes
  pub short : length d ≤ 4096
  pub room : at + length (tree_bits n (tree_of_rank nodes count r)) ≤ 8 * length d
  pub clear : Clear (bits d) at

-- out is as long as the strip of the tree of rank r
pub record AsLong (out : List ℕ) (n : ℕ) (ranks : Ranks) (r : ℕ) : Type 0 where
  pub few-variables : n ≤ 8
  pub few : ranks.count ≤ 64
  pub settled : r < ranks.count
  pub back : Backs ranks.count ranks.nodes
  pub few-positions : positions (tree_of_rank ranks.nodes ranks.count r) ≤ 255
  pub size : length out ≡ tree_bytes n (positions (tree_of_rank ranks.nodes ranks.count r))
