-- `ws2s::exports::ws2s_join` meets its contract. Assumes nothing.
use Rattle.join.proofs.InNumbers.{join-claimed}
use Rattle.ws2s.proofs.exports.ws2s_join.Goals as goal

pub returns-clause-joined_in_numbers : goal.returns-clause-joined_in_numbers
returns-clause-joined_in_numbers c =
    let e = c.join.ensures in rw c.join_numbers.ensures (join-claimed _ _ _ _ c.join.result e.value e.join_claim)
