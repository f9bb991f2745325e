-- Request A6: the answer to a rule of at most 16 parts, as one definition; and what it must be. That 28 comes before is the operation's affair.
-- Assumes nothing.
use Rattle.std.specs.Prelude.{ℕ, ◌≡◌, ◌↔◌, ◌⊎◌, cond, List, [], get_or}
use Rattle.logic.specs.Meaning.{Assignment, root}
use Rattle.logic.specs.Rule.{Record, Satisfies}
use Rattle.logic.specs.Table.{Built, over, built}
use Rattle.logic.specs.Joined.{joined_table}
use Rattle.logic.specs.Decide.{last_table, build_rule}
use Rattle.logic.specs.Claims.{FirstOver, Roomy}
use Rattle.parts.specs.Parts.{parts_of}
use Rattle.trials.specs.Clash.{Clash}
use Rattle.trials.specs.Joins.{pair_joiner, rule_joiner, accepts, Trialled, over14, kept_list, trials, Stops}

-- 14 with the record, for the rule itself or in a trial; 29; or the list
pub data ClashAnswer : Type 0 where
  refused_for : ℕ → ClashAnswer
  satisfiable : ClashAnswer
  clashing : List ℕ → ClashAnswer

unfoldable pub trials_answer : Trialled → ClashAnswer
trials_answer (over14 r) = refused_for r
trials_answer (kept_list R) = clashing R

-- the rule's machines once, then whether its last one accepts something, then the trials over those same machines
unfoldable pub after_built : {k : ℕ} → ℕ → List Record → ℕ → Built k → ClashAnswer
after_built n rs c (over r) = refused_for r
after_built n rs c (built ts) =
    let R = trials_answer (trials (pair_joiner n (λ p. get_or ts p (joined_table n (root 0)))) c [] (parts_of rs)) in
    cond (accepts (last_table n rs ts)) satisfiable R

-- "29, after 14 for the rule itself, when the rule is satisfiable"
unfoldable pub clash_of : (k n : ℕ) → List Record → ℕ → ClashAnswer
clash_of k n rs c = after_built n rs c (build_rule {k = k} n c rs)

-- the claim on the answer o to an accepted rule, once 1 to 12 and 28 do not apply
pub record ClashAnswers (k n : ℕ) (rs : List Record) (c : ℕ) (o : ClashAnswer) : Type 0 where
  -- "14 for the rule itself is as in decide"
  pub refused-rule : (r : ℕ) → FirstOver k n rs c r → o ≡ refused_for r
  pub satisfiable_is : Roomy k n rs c → (o ≡ satisfiable) ↔ ((A : Assignment k) × Satisfies rs A)
  -- otherwise the list, and no trial goes over; or the 14 of the first join that does
  pub otherwise : Roomy k n rs c → ((A : Assignment k) → ¬ Satisfies rs A)
      → ((R : List ℕ) × (o ≡ clashing R) × Clash k rs (parts_of rs) R × ((q : ℕ) → ¬ Stops rs (rule_joiner k n rs) c [] (parts_of rs) q))
      ⊎ ((q : ℕ) × (o ≡ refused_for q) × Stops rs (rule_joiner k n rs) c [] (parts_of rs) q)
