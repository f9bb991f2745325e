-- `build` meets its contract. The invariant: the states below k are paired with each other.
use Rattle.words.proofs.Vocabulary.{ℕ, ◌≤◌, ◌-◌, ◌≡◌, List, length, take, replicate}
use Rattle.layout.specs.Shape.{labels_in}
use Rattle.table.specs.Succ.{PlanRoom, succ_in}
use Rattle.table.specs.declared.plan.Plan.{Plan}
use Rattle.exploring.specs.Explore.{rings}
use Rattle.exploring.specs.Filling.{Guided, listed, Visited}
use Rattle.exploring.specs.declared.Builder.{Builder}
use Rattle.exploring.proofs.build.Given as goal

-- the builder that has the start alone
abbrev pub first : ℕ → Builder
first start = record { codes = replicate 64 start; count = 1 }

-- what holds before the turn of state k
pub record Turn (ws₀ ws : List ℕ) (p : Plan) (start : ℕ) (b : Builder) (k : ℕ) : Type 0 where
  pub within : k ≤ p.shape.ceiling
  pub long : length ws ≡ length ws₀
  pub room : PlanRoom p (length ws)
  pub full : length b.codes ≡ 64
  pub found : k ≤ b.count
  pub guided : b.count ≤ p.shape.ceiling → Guided (take p.base ws₀) p (listed p.shape.ceiling b)
  pub visited : Visited (succ_in ws₀ p) p (rings (labels_in p.shape) k) (first start) b ws₀ ws

abbrev pub invariant-loop-k : goal.invariant-loop-k
invariant-loop-k l = Turn l.initial.ws l.ws l.p l.start l.b l.k

abbrev pub decreases-loop-k : goal.decreases-loop-k
decreases-loop-k l = l.p.shape.ceiling - l.k
