-- `put_quantified` meets its contract. Assumes nothing.
use Rattle.std.proofs.Common.{rules}
use Rattle.drafting.proofs.Draft.put_quantified.Goals as goal

pub returns-in-EveryPlace : goal.returns-in-EveryPlace
returns-in-EveryPlace c =
    rw c.in-EveryPlace.is (search rules)
