-- `bit_length` meets its contract: the number saturates where 64 bits hold no more. Assumes nothing.
use borrow.Author.Rules.{rules}
use Rattle.bits.specs.Bits.{bit_length}
use Rattle.bits.proofs.bit_length.Goals as goal

pub returns : goal.returns
unfolding bit_length
returns c = search rules
