-- `read_binder` meets its contract, from those of `token_at` and `read_mark`. Assumes nothing.
use Rattle.std.proofs.lemmas.Result.{err_from_is_err_and}
use Rattle.text.proofs.KindNumbers.{ne_true, ne_false}
use Rattle.phrases.proofs.Taking.{binder_no_name, binder_full, binder_lacks, binder_bound}
use Rattle.phrases.proofs.read_binder.Goals as goal

pub returns-then-ne : goal.returns-then-ne
returns-then-ne c =
    rw c.refused.ensures (binder_no_name c.token_at-name.ensures _ (ne_true _ _ c.if-ne.ensures))

pub returns-then-names-ge8 : goal.returns-then-names-ge8
returns-then-names-ge8 c =
    rw c.refused-then-names-ge8.ensures (binder_full c.token_at-name.ensures _ (ne_false _ _ c.if-ne.ensures) c.if-names-ge8.true)

pub returns-in_err-next : goal.returns-in_err-next
returns-in_err-next c =
    let p = err_from_is_err_and c.from_residual.result c.from_residual.ensures.1 in
    rw (p.1, p.2) (λ sc l go. binder_lacks c.token_at-name.ensures _ (ne_false _ _ c.if-ne.ensures) c.if-names-ge8.false sc l go c.in_err-next.ensures)

pub returns : goal.returns
returns c =
    binder_bound c.token_at-name.ensures _ (ne_false _ _ c.if-ne.ensures) c.if-names-ge8.false c.in_ok-next.ensures
