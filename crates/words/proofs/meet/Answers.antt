-- `meet` meets its contract: the common part is empty, or it has a smallest member.
use Rattle.words.proofs.Vocabulary.{arith}
use Rattle.words.proofs.Members.{meet_law}
use Rattle.words.proofs.meet.Goals as goal

pub returns : goal.returns
returns c =
    meet_law c.args.x c.args.y (omega arith)
