-- `join::join_refusal` meets its contract. Assumes nothing.
use Rattle.std.proofs.lemmas.Result.{err_from_is_err_and}
use Rattle.join.proofs.Joining.{early-first, early-second, early-size, few-records}
use Rattle.join.proofs.join_refusal.Goals as goal

pub returns-in_err-m : goal.returns-in_err-m
returns-in_err-m c =
    let p = err_from_is_err_and c.from_residual.result c.from_residual.ensures.1 in rw (p.1, p.2) (early-first _ _ _ c.in_err-m.ensures)

pub returns-in_err-p : goal.returns-in_err-p
returns-in_err-p c =
    let p = err_from_is_err_and c.from_residual-in_err-p.result c.from_residual-in_err-p.ensures.1 in
    rw (p.1, p.2) (early-second _ _ _ c.in_ok-m.ensures c.in_err-p.ensures)

pub size_refusal-requires : goal.size_refusal-requires
size_refusal-requires c = few-records _ _ c.args.room c.in_ok-m.ensures c.in_ok-p.ensures

pub returns-in_err-size_refusal : goal.returns-in_err-size_refusal
returns-in_err-size_refusal c =
    let p = err_from_is_err_and c.from_residual-in_err-size_refusal.result c.from_residual-in_err-size_refusal.ensures.1 in
    rw (p.1, p.2) (early-size _ _ _ c.in_ok-m.ensures c.in_ok-p.ensures c.in_err-size_refusal.ensures)

pub returns : goal.returns
returns c = early-size _ _ _ c.in_ok-m.ensures c.in_ok-p.ensures c.in_ok-size_refusal.ensures
