-- `program::rule_in` meets its contract. Assumes nothing.
use Rattle.std.proofs.Common.{ℕ, ◌≡◌, ◌+◌, ◌<◌, ◌≤◌, List, length, Bor, arith, sym}
use mathlib.Core.Logic.{◌⊎◌, ⊎_elim}
use Rattle.std.specs.Prelude.{Option, Some, None, take}
use Rattle.std.specs.Option.{MatchOption, unwrap_or}
use Rattle.std.specs.List.{slice_range}
use Rattle.std.proofs.lemmas.List.{take_all}
use Rattle.std.proofs.lemmas.Grind.{common_steps}
use Rattle.program.proofs.rule_in.Goals as goal

-- the front of an input, or the input where it has none so long
front : (input : Bor (List ℕ)) (r : Option (Bor (List ℕ)))
    → MatchOption r ((300 < 0) ⊎ (length input.now < 300))
    (λ x. (0 ≤ 300) × (300 ≤ length input.now) × (x.now ≡ slice_range input.now 0 300) × (length x.now + 0 ≡ 300))
    → (unwrap_or r input).now ≡ take 300 input.now
front input None w = ⊎_elim (λ h. absurd (omega arith)) (λ h. sym (take_all 300 input.now (omega arith))) w
front input (Some x) w = grind (arith, common_steps)

pub returns : goal.returns
returns c =
    rw c.unwrap_or.ensures (front c.args.input c.get.result c.get.ensures.lookup.0)
