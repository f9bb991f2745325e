-- `look_up` meets its contract, from that of `find`. Assumes nothing.
use Rattle.phrases.proofs.Looking.{look_none, look_some}
use Rattle.phrases.proofs.look_up.Goals as goal

pub returns-in_err-track : goal.returns-in_err-track
returns-in_err-track c =
    rw c.from_residual.ensures (look_none c.args.names.now _ c.in_err-track.ensures)

pub returns : goal.returns
returns c =
    look_some _ _ c.in_ok-track.ensures
