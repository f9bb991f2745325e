-- `smallest` meets its contract.
use Rattle.words.proofs.Vocabulary.{arith}
use Rattle.words.proofs.Members.{smallest_law}
use Rattle.words.proofs.smallest.Goals as goal

pub returns : goal.returns
returns c =
    smallest_law c.args.w c.requires (omega arith)
