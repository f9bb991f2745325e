-- `join::join` meets its contract. Assumes nothing.
use Rattle.std.proofs.lemmas.Result.{err_from_is_err_and}
use Rattle.join.proofs.Joining.{early-free, ends-refused, ends-written}
use Rattle.join.proofs.join.Goals as goal

pub returns-in_err-join_refusal : goal.returns-in_err-join_refusal
returns-in_err-join_refusal c =
    let p = err_from_is_err_and c.from_residual.result c.from_residual.ensures.1 in
    let w = ends-refused c.args.first.now c.args.second.now c.args.out.now c.in_err-join_refusal.ensures in
    rw (p.1, p.2) (record { value = w.0; out_after = w.1.0; join_claim = w.1.1 })

pub write_joined-requires : goal.write_joined-requires
write_joined-requires c =
    let w = early-free _ _ _ c.in_ok-join_refusal.ensures in record { joinable = w.0; in_bounds = w.1 }

pub returns : goal.returns
returns c =
    let v = c.write_joined.ensures in
    let w = ends-written _ _ _ c.in_ok-join_refusal.ensures v.value v.out_after in record { value = w.0; out_after = w.1.0; join_claim = w.1.1 }
