-- `join_states` meets its contract: the share is lent, and joined.
use Rattle.words.proofs.Vocabulary.{◌+◌, ◌-◌, ◌≡◌, arith}
use Rattle.layout.specs.Shape.{share_of}
use Rattle.joining.proofs.Kept.{states-joined}
use Rattle.joining.proofs.join_states.Goals as goal

pub returns : goal.returns
returns c =
    let x = c.share_at-a in
    let y = c.share in
    let j = c.join_table in
    let a = c.args in
    let z : x.result + y.result - x.result ≡ share_of a.s = omega (arith, y.ensures.0) in let whole = states-joined a.s c.requires.shape a.r a.k j.result a.ws.now j.new.table x.result (x.result + y.result - x.result) x.ensures.0 z c.requires.share
    j.ensures in record { joins = whole.0; spared = whole.1 }
