-- What is settled round by round, and how the rounds end. Assumes nothing.
use Rattle.std.specs.Prelude.{◌≡◌, true, false, ℕ, ◌+◌, ◌≤◌, ◌<◌, set, replicate}
use Rattle.logic.specs.Search.{Sought, tree, large, absent}
use Rattle.logic.specs.Tree.{positions}
use Rattle.tree_strip.specs.Ranks.{no_rank, last_tree, Backs}
use Rattle.search.specs.declared.Earliest.{Earliest}
use Rattle.search.specs.declared.Found.{Found}
use Rattle.search.specs.declared.Found.TheVariants.{None, Larger, Shown}
use Rattle.search.specs.declared.Pick.{Pick}
use Rattle.search.specs.declared.Settled.{Settled}

-- the empty tree alone is settled
abbrev pub first_settled : Settled
first_settled = record {
  ranks = record { nodes = replicate 64 no_rank; count = 1 };
  state = replicate 64 0;
  size = replicate 64 0;
  done = set (replicate 64 false) 0 true;
}

-- what is settled, with the tree that is picked, which comes to state q
abbrev pub settled_too : Settled → Pick → ℕ → Settled
settled_too t p q = record {
  ranks = record { nodes = set t.ranks.nodes t.ranks.count p.rank; count = t.ranks.count + 1 };
  state = set t.state t.ranks.count q;
  size = set t.size t.ranks.count p.size;
  done = set t.done q true;
}

-- what was found: the tree that is shown is that of the last rank
abbrev pub answer_of : Found → Sought 2
answer_of None = absent
answer_of Larger = large
answer_of (Shown e) = tree (last_tree e.ranks)

-- the tree that is shown has so many positions, and ranks that a writer can follow down
pub record Showable (e : Earliest) : Type 0 where
  pub counted : e.positions ≡ positions (last_tree e.ranks)
  pub back : Backs e.ranks.count e.ranks.nodes
  pub low : 0 < e.ranks.count
  pub high : e.ranks.count ≤ 64

-- how the rounds end: with the answer x
pub record Ended (x : Sought 2) (f : Found) : Type 0 where
  pub answer : answer_of f ≡ x
  pub shown : (e : Earliest) → f ≡ Shown e → Showable e
