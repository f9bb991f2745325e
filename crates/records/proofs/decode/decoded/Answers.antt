-- `records::decode::decoded` meets its contract.
use Rattle.std.proofs.Common.{◌≡◌, ℕ, suc, ◌-◌, ◌≤◌, refl, sym, ap, ◌∙◌, [], ◌∷◌, Result, Ok, Err, arith}
use Rattle.std.specs.Result.{result_unwrap_or}
use Rattle.std.proofs.lemmas.List.{get_or_past}
use Rattle.std.proofs.Math.Pow.{pow_mono}
use borrow.Author.Tests.{eq-eqb, ne_eqb}
use Rattle.ops.specs.Ops.{op_number, NumbersOp}
use Rattle.ops.specs.declared.Op.{Op}
use Rattle.ops.specs.declared.Op.TheVariants.{Subset, Single, Child1, Child2, Root, Not, Or, And, Exists}
use Rattle.ops.specs.declared.UnknownOp.{UnknownOp}
use Rattle.records.specs.Decode.{bit_weight, kind_at, decoded_of}
use Rattle.records.proofs.decode.decoded.Goals as goal
use Rattle.records.proofs.decode.decoded.Goals.{in-Exists, in_default}

weight-byte : (n x : ℕ) → n ≤ 8 → bit_weight n x ≤ 255
weight-byte n x few = let h : n - suc x ≤ 7 = omega arith in let e = pow_mono h in omega arith

at_op : (k : Op) → kind_at (op_number k) ≡ k
at_op Subset = refl
at_op Single = refl
at_op Child1 = refl
at_op Child2 = refl
at_op Root = refl
at_op Not = refl
at_op Or = refl
at_op And = refl
at_op Exists = refl

-- the kind of an op, and "subset" of a number that is none
by_op : (op : ℕ) (r : Result Op UnknownOp) → NumbersOp op r → (result_unwrap_or r Subset ≡ kind_at op) × (result_unwrap_or r Subset ≡ Exists → op ≡ 8)
by_op op (Ok k) h = (sym (at_op k) ∙ ap kind_at h, λ e. sym h ∙ ap op_number e)
by_op op (Err e) h =
    (sym (get_or_past (Subset ∷ Single ∷ Child1 ∷ Child2 ∷ Root ∷ Not ∷ Or ∷ And ∷ Exists ∷ []) op Subset (omega (arith, h.1))), λ e. cc)

pub returns : goal.returns
unfolding decoded_of
returns c =
    let k = by_op c.args.op c.try_from.result c.try_from.ensures in
    elim c.match-kind.branch [
      | in-Exists w ↦
          let e = eq-eqb c.args.op 8 (k.1 (sym c.unwrap_or-kind.ensures ∙ w.in-Exists.is)) in
          rw (w.part-is, c.unwrap_or-kind.ensures, k.0, c.weight_of.ensures, c.weight_of-2.ensures, e)
      | in_default w ↦
          let e = ne_eqb c.args.op 8 (λ z. w.in_default.not-Exists (c.unwrap_or-kind.ensures ∙ k.0 ∙ ap kind_at z)) in
          rw (w.part-is, c.unwrap_or-kind.ensures, k.0, c.weight_of.ensures, c.weight_of-2.ensures, e)
    ]
