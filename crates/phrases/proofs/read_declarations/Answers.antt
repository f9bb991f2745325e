-- `read_declarations` meets its contract, from those of `token_at`, `declared_order` and `read_names`. Assumes nothing.
use Rattle.std.proofs.lemmas.Result.{err_from_is_err_and}
use Rattle.phrases.proofs.Declaring.{reached-none, reached-last, reached-refused, reached-more}
use Rattle.phrases.proofs.read_declarations.Goals as goal

pub loop-order-init : goal.loop-order-init
loop-order-init c =
    reached-none _ _ c.new.result c.new.ensures.text_value c.new.ensures.none

pub returns-in_default : goal.returns-in_default
returns-in_default c =
    reached-last c.loop-order.invariant c.token_at-word.ensures c.in_default.ensures.0 c.in_default.ensures.1

pub returns-in_err-all : goal.returns-in_err-all
returns-in_err-all c =
    let p = err_from_is_err_and c.from_residual.result c.from_residual.ensures.1 in
    rw (p.1, p.2) (reached-refused c.loop-order.invariant c.token_at-word.ensures c.in-Some.order c.in-Some.ensures c.in_err-all.ensures)

pub loop-order-preserved : goal.loop-order-preserved
loop-order-preserved c =
    reached-more c.loop-order.invariant c.token_at-word.ensures c.in-Some.order c.in-Some.ensures c.in_ok-all.ensures
