-- `union` meets its contract.
use Rattle.words.proofs.WordLaws.{mem_or}
use Rattle.words.proofs.union.Goals as goal

pub returns : goal.returns
returns c q =
    mem_or q c.args.x c.args.y
