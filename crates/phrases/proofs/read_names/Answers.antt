-- `read_names` meets its contract, from those of `token_at`, `new_refusal` and `push`. Assumes nothing.
use Rattle.std.proofs.lemmas.Result.{err_from_is_err_and}
use Rattle.phrases.proofs.Declaring.{listed-turned, listed-room, listed_more, listed_lack, listed-done}
use Rattle.phrases.proofs.read_names.Goals as goal

pub returns-in_err-new_refusal : goal.returns-in_err-new_refusal
returns-in_err-new_refusal c =
    let p = err_from_is_err_and c.from_residual.result c.from_residual.ensures.1 in
    rw (p.1, p.2) (listed-turned c.loop-names.invariant c.token_at-name.ensures c.in_err-new_refusal.ensures.value c.in_err-new_refusal.ensures.at_token)

pub push-requires-clause-few : goal.push-requires-clause-few
push-requires-clause-few c =
    listed-room c.loop-names.names c.token_at-name.result c.in_ok-new_refusal.ensures.value

pub loop-names-preserved : goal.loop-names-preserved
loop-names-preserved c =
    listed_more c.loop-names.invariant c.token_at-name.ensures c.in_ok-new_refusal.ensures.value c.push.ensures c.token_at-mark.ensures c.in-Comma.is

pub returns-in-Semicolon : goal.returns-in-Semicolon
returns-in-Semicolon c =
    listed-done c.loop-names.invariant c.token_at-name.ensures c.in_ok-new_refusal.ensures.value c.push.ensures c.token_at-mark.ensures c.in-Semicolon.is

pub returns-in_default : goal.returns-in_default
returns-in_default c =
    rw c.refused.ensures (listed_lack c.loop-names.invariant c.token_at-name.ensures c.in_ok-new_refusal.ensures.value c.push.ensures c.token_at-mark.ensures c.in_default.not-Comma c.in_default.not-Semicolon)
