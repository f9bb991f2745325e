-- `read_right` meets its contract, from those of `token_at` and `use_name`. Assumes nothing.
use Rattle.std.proofs.lemmas.Result.{err_from_is_err_and}
use Rattle.text.specs.declared.kinds.Kind.TheVariants as kind
use Rattle.text.proofs.KindNumbers.{eq_true, eq_false}
use Rattle.phrases.proofs.Atoms.{right-turned, right-sub, right-member}
use Rattle.phrases.proofs.read_right.Goals as goal

pub returns-in_err-right : goal.returns-in_err-right
returns-in_err-right c =
    let p = err_from_is_err_and c.from_residual.result c.from_residual.ensures.1 in
    rw (p.1, p.2) (right-turned _ _ _ _ c.token_at-t.ensures _ c.in_err-right.ensures)

pub returns-then-eq : goal.returns-then-eq
returns-then-eq c =
    rw (eq_true c.args.kind kind.Sub c.if-eq.ensures) (right-sub _ _ _ _ c.token_at-t.ensures c.requires c.in_ok-right.ensures)

pub returns-else-eq : goal.returns-else-eq
returns-else-eq c =
    right-member _ _ _ _ c.token_at-t.ensures c.requires c.in_ok-right.ensures _ (eq_false _ _ c.if-eq.ensures)
