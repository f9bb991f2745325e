-- Two branches by name, and machines whose step is a function of the list of the branches' states. Assumes nothing.
use Rattle.std.specs.Prelude.{ℕ, Bool, cond, List, [], ◌∷◌, eqb}
use Rattle.std.proofs.Common.{lit<}
use Rattle.logic.specs.Meaning.{Branch}
use Rattle.logic.specs.Machine.{Machine}

abbrev pub one : Branch 2
one = record { number = 0; below = lit< tt }

abbrev pub two : Branch 2
two = record { number = 1; below = lit< tt }

-- a at the first branch, b at the second
abbrev pub pair_of : {A : Type 0} → A → A → Branch 2 → A
pair_of a b c = cond (eqb c.number 0) a b

-- the machine of a start and a step function over a label and the branches' states, in order
abbrev pub branching : ℕ → (ℕ → List ℕ → ℕ) → (ℕ → Bool) → Machine 2 ℕ
branching q g acc = record { start = q; step = λ l s. g l (s one ∷ s two ∷ []); accepting = acc }

-- the same with state 0 at the start
abbrev pub binary : (ℕ → List ℕ → ℕ) → (ℕ → Bool) → Machine 2 ℕ
binary g acc = branching 0 g acc
