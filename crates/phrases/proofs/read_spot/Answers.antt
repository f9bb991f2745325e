-- `read_spot` meets its contract, from those of `token_at`, `use_name` and `read_branch`. Assumes nothing.
use Rattle.std.proofs.lemmas.Result.{err_from_is_err_and}
use Rattle.text.proofs.KindNumbers.{eq_true, eq_false}
use Rattle.phrases.proofs.Atoms.{spot-root, spot-turned, spot-goes}
use Rattle.phrases.proofs.read_spot.Goals as goal

pub returns-then-eq : goal.returns-then-eq
returns-then-eq c =
    spot-root _ c.token_at-t.ensures (eq_true _ _ c.if-eq.ensures)

pub returns-in_err-track : goal.returns-in_err-track
returns-in_err-track c =
    let p = err_from_is_err_and c.from_residual.result c.from_residual.ensures.1 in
    rw (p.1, p.2) (spot-turned _ c.token_at-t.ensures (eq_false _ _ c.if-eq.ensures) c.in_err-track.ensures)

pub returns : goal.returns
returns c =
    spot-goes _ c.token_at-t.ensures (eq_false _ _ c.if-eq.ensures) c.in_ok-track.ensures c.read_branch.ensures
