-- `with_member` meets its contract.
use Rattle.words.proofs.Vocabulary.{◌%◌, arith}
use Rattle.words.proofs.Members.{with-law}
use Rattle.words.proofs.with_member.Goals as goal

pub returns : goal.returns
returns c =
    with-law c.args.x (c.args.e % 64) (omega arith)
