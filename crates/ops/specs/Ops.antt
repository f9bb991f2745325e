-- The numbers of the ops: document 01's table. Assumes nothing.
use Rattle.std.specs.Prelude.{◌≡◌, ℕ, ◌<◌, Result, MatchResult}
use Rattle.ops.specs.declared.Op.{Op}
use Rattle.ops.specs.declared.Op.TheVariants.{Subset, Single, Child1, Child2, Root, Not, Or, And, Exists}
use Rattle.ops.specs.declared.UnknownOp.{UnknownOp}

-- the number of an op in a strip
abbrev pub op_number : Op → ℕ
op_number Subset = 0
op_number Single = 1
op_number Child1 = 2
op_number Child2 = 3
op_number Root = 4
op_number Not = 5
op_number Or = 6
op_number And = 7
op_number Exists = 8

-- the op of a number, or, as an error, a number past the last op's
abbrev pub NumbersOp : ℕ → Result Op UnknownOp → Type 0
NumbersOp k r = MatchResult r (λ op. op_number op ≡ k) (λ e. (e.0 ≡ k) × (8 < k))
