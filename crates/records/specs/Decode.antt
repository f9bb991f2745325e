-- A rule's records as the builder takes them: document 01, "Strips" and "The logic decided". Assumes nothing.
use Rattle.std.specs.Prelude.{ℕ, suc, ◌-◌, ◌^◌, cond, [], ◌∷◌, eqb, get_or}
use Rattle.logic.specs.Rule.{Record}
use Rattle.ops.specs.declared.Op.{Op}
use Rattle.ops.specs.declared.Op.TheVariants.{Subset, Single, Child1, Child2, Root, Not, Or, And, Exists}
use Rattle.records.specs.declared.Decoded.{Decoded}

-- "variable 0 most significant": the weight of variable x's bit in an n-bit label; 1 for a number that is no variable
abbrev pub bit_weight : ℕ → ℕ → ℕ
bit_weight n x = 2 ^ (n - suc x)

-- the builder's kind of each op
abbrev pub kind_at : ℕ → Op
kind_at op = get_or (Subset ∷ Single ∷ Child1 ∷ Child2 ∷ Root ∷ Not ∷ Or ∷ And ∷ Exists ∷ []) op Subset

-- the builder's form of a record: "exists" (op 8) has its record second, and the builder takes it first
unfoldable pub decoded_of : ℕ → Record → Decoded
decoded_of n e = record {
  kind = kind_at e.op;
  first = cond (eqb e.op 8) e.second e.first;
  second = e.second;
  wx = bit_weight n e.first;
  wy = bit_weight n e.second;
}
