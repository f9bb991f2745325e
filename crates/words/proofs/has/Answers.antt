-- `has` meets its contract.
use Rattle.words.proofs.Members.{has-law}
use Rattle.words.proofs.has.Goals as goal

pub returns : goal.returns
returns c =
    has-law c.args.q c.args.w
