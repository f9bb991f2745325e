-- `without` meets its contract: the member's digit is taken off.
use Rattle.words.proofs.Vocabulary.{arith}
use Rattle.words.proofs.Members.{member_le, shl_one, without-law}
use Rattle.words.proofs.without.Goals as goal

pub overflow_sub-result : goal.overflow_sub-result
overflow_sub-result c =
    omega (arith, member_le c.args.q c.args.w c.requires.1, shl_one c.args.q c.requires.0)

pub returns : goal.returns
returns c =
    without-law c.args.w c.args.q c.requires.0 c.requires.1
