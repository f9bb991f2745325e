-- `visit_ring` meets its contract. The invariant: the pairs of k with those up to it have their entries under the labels below l.
use Rattle.words.proofs.Vocabulary.{ℕ, ◌<◌, ◌≡◌, List, length, take}
use Rattle.table.specs.Succ.{PlanRoom, succ_in}
use Rattle.table.specs.declared.plan.Plan.{Plan}
use Rattle.exploring.specs.Explore.{ring}
use Rattle.exploring.specs.Filling.{Guided, listed, Visited}
use Rattle.exploring.specs.declared.Builder.{Builder}
use Rattle.exploring.proofs.Steps.{Sized}
use Rattle.exploring.proofs.visit_ring.Given as goal

-- what holds before label l
pub record Turn (ws₀ ws : List ℕ) (p : Plan) (b r : Builder) (k l : ℕ) : Type 0 where
  pub state : k < b.count
  pub sized : Sized p.shape.ceiling b
  pub guided : Guided (take p.base ws₀) p (listed p.shape.ceiling b)
  pub long : length ws ≡ length ws₀
  pub room : PlanRoom p (length ws)
  pub full : length r.codes ≡ 64
  pub visited : Visited (succ_in ws₀ p) p (ring k l) b r ws₀ ws

abbrev pub invariant-loop-l : goal.invariant-loop-l
invariant-loop-l l = Turn l.initial.ws l.ws l.p l.initial.r l.r l.k l.l
