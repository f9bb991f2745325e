-- The machines of the four kinds of atom. States are numbers; state 0 is that of the empty tree.
-- Assumes nothing.
use Rattle.std.specs.Prelude.{ℕ, ◌+◌, min, Bool, true, false, cond, not, ◌&&◌, ◌||◌, eqb}
use Rattle.logic.specs.Tree.{bit, branches, sum_of}
use Rattle.logic.specs.Meaning.{Branch, is_same_branch}
use Rattle.logic.specs.Machine.{Machine, bit_of, all_of, any_of}

-- all branches are in state 0
abbrev pub idle : {k : ℕ} → (Branch k → ℕ) → Bool
idle {k} s = all_of (λ b. eqb (s b) 0) (branches k)

-- branch b is in state v, the others in state 0
abbrev pub alone : {k : ℕ} → ℕ → (Branch k → ℕ) → Branch k → Bool
alone {k} v s b = all_of (λ c. eqb (s c) (cond (is_same_branch c b) v 0)) (branches k)

-- X ⊆ Y: 0 good, 1 bad
abbrev pub subset_step : {k : ℕ} → Bool → Bool → (Branch k → ℕ) → ℕ
subset_step x y s = cond (idle s && (not x || y)) 0 1

-- Sing: none, one, many
abbrev pub singleton_step : {k : ℕ} → Bool → (Branch k → ℕ) → ℕ
singleton_step {k} x s = min 2 (sum_of s (branches k) + bit_of x)

-- X = Y followed by branch i: 0 nothing, 1 x at this node alone, 2 matched, 3 bad
abbrev pub successor_step : {k : ℕ} → Branch k → Bool → Bool → (Branch k → ℕ) → ℕ
successor_step {k} i false false s = cond (idle s) 0 (cond (any_of (alone 2 s) (branches k)) 2 3)
successor_step i true false s = cond (idle s) 1 3
successor_step i false true s = cond (alone 1 s i) 2 3
successor_step i true true s = 3

-- X = ε: 0 nothing, 1 x here alone, 2 bad
abbrev pub root_step : {k : ℕ} → Bool → (Branch k → ℕ) → ℕ
root_step x s = cond (idle s) (bit_of x) 2

abbrev pub subset_machine : {k : ℕ} → ℕ → ℕ → ℕ → Machine k ℕ
subset_machine n x y = record { start = 0; step = λ l s. subset_step (bit n l x) (bit n l y) s; accepting = λ q. eqb q 0 }

abbrev pub singleton_machine : {k : ℕ} → ℕ → ℕ → Machine k ℕ
singleton_machine n x = record { start = 0; step = λ l s. singleton_step (bit n l x) s; accepting = λ q. eqb q 1 }

abbrev pub successor_machine : {k : ℕ} → ℕ → Branch k → ℕ → ℕ → Machine k ℕ
successor_machine n i x y = record { start = 0; step = λ l s. successor_step i (bit n l x) (bit n l y) s; accepting = λ q. eqb q 2 }

abbrev pub root_machine : {k : ℕ} → ℕ → ℕ → Machine k ℕ
root_machine n x = record { start = 0; step = λ l s. root_step (bit n l x) s; accepting = λ q. eqb q 1 }
