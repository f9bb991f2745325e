-- `rules::decode::decode` meets its contract. Assumes nothing.
use Rattle.words.proofs.Vocabulary.{◌≡◌, length}
use Rattle.rules.specs.Decoding.{DecodesTo}
use Rattle.rules.proofs.Decodes.{Sizes}
use Rattle.rules.proofs.decode.decode.Given as goal

abbrev pub invariant-loop-i : goal.invariant-loop-i
invariant-loop-i l = record { sizes : Sizes l.s l.n l.m; long : length l.records ≡ 128; done : DecodesTo l.s l.i l.records }
