-- The scan of one round, as the code runs it over arrays: three nested loops, and what the arrays stand for. Assumes nothing.
use Rattle.std.specs.Prelude.{◌≡◌, Bool, true, false, cond, Option, None, Some, IfSome, List, [], ◌∷◌, ℕ, suc, ◌≤◌, ◌<◌, ltb, get_or}
use Rattle.layout.specs.declared.Shape.{Shape}
use Rattle.layout.specs.Shape.{labels_in}
use Rattle.logic.specs.Two.{one, two}
use Rattle.logic.specs.Search.{Best, nothing, found, View, weight, consider, loop}
use Rattle.search.specs.declared.Pick.{Pick}
use Rattle.search.specs.declared.Settled.{Settled}
use Rattle.search.specs.declared.Table.{Table}
use Rattle.tree_strip.specs.declared.write.Rank.{Rank}
use Rattle.table.specs.Entry.{Within, step_in}
use Rattle.table.specs.Whole.{Whole}

-- the inner loop: second branches of the ranks below n, under label l and a first branch of rank i
unfoldable pub scan_second : View 2 → ℕ → ℕ → ℕ → Best → Best
scan_second v l i n b = loop (λ j. consider v l (i ∷ j ∷ [])) n b

-- the middle loop: first branches of the ranks below m
unfoldable pub scan_first : View 2 → ℕ → ℕ → ℕ → Best → Best
scan_first v n l m b = loop (λ i. scan_second v l i n) m b

-- the outer loop: labels below m
unfoldable pub scan_label : View 2 → ℕ → ℕ → Best → Best
scan_label v n m b = loop (λ l. scan_first v n l n) m b

-- the better of the best so far and a new candidate, of equals the first one met, where the candidate's state is settled already or not
abbrev pub kept : Option Pick → Bool → Pick → Option Pick
kept best true new = best
kept None false new = Some new
kept (Some p) false new = cond (ltb new.size p.size) (Some new) (Some p)

-- what is settled, as a round reads it
unfoldable pub code_view : Shape → ℕ → List ℕ → Settled → View 2
code_view s looks table t = record {
  step = λ l q. step_in s table 0 looks l (q one ∷ q two ∷ []);
  old = λ q. get_or t.done q false;
  state = λ i. get_or t.state i 0;
  size = λ i. get_or t.size i 0;
}

-- the same of a table
abbrev pub view_in : Table → Settled → View 2
view_in t = code_view t.shape t.looks t.entries.now

-- what a pick stands for
abbrev pub best_in : Option Pick → Best
best_in None = nothing
best_in (Some p) = found p.rank.label (p.rank.first ∷ p.rank.second ∷ [])

-- p stands for b, and has the positions of its candidate
pub record Held (v : View 2) (b : Best) (p : Option Pick) : Type 0 where
  pub best : best_in p ≡ b
  pub fair : IfSome p (λ k. k.size ≡ suc (weight v (k.rank.first ∷ k.rank.second ∷ [])))

-- the table lies where it should, and the rank's branches come to states of it
pub record Stepped (s : Shape) (table state : List ℕ) (r : Rank) : Type 0 where
  pub within : Within s table 0
  pub label : r.label < labels_in s
  pub first_in : r.first < 64
  pub second_in : r.second < 64
  pub first : get_or state r.first 0 < s.ceiling
  pub second : get_or state r.second 0 < s.ceiling

-- what is settled is as it should be: at most 64 trees, of states below a bound under which the steps stay, each of at most 255 positions
pub record ScanReady (s : Shape) (looks : ℕ) (table : List ℕ) (t : Settled) : Type 0 where
  pub bound : ℕ
  pub table-whole : Whole s looks table bound
  pub settled-few : t.ranks.count ≤ 64
  pub states : (i : ℕ) → i < t.ranks.count → get_or t.state i 0 < bound
  pub sizes : (i : ℕ) → i < t.ranks.count → get_or t.size i 0 ≤ 255

abbrev pub ReadyIn : Table → Settled → Type 0
ReadyIn t = ScanReady t.shape t.looks t.entries.now

-- a turn of the outer loops: a label, and the rank of a settled tree
pub record Turn (s : Shape) (n l i : ℕ) : Type 0 where
  pub label : l < labels_in s
  pub first : i < n
