-- `rules::decode::decode` meets its contract. Assumes nothing.
use Rattle.words.proofs.Vocabulary.{◌∙◌, arith, rules, length-set}
use Rattle.rules.proofs.Decodes.{decode-sizes, decode-next}
use Rattle.rules.proofs.decode.decode.Goals as goal

pub loop-i-init : goal.loop-i-init
loop-i-init c =
    record { sizes = decode-sizes c.requires; long = search rules; done = λ i h. absurd (omega arith) }

pub loop-i-preserved : goal.loop-i-preserved
loop-i-preserved c =
    let v = c.loop-i.invariant in record {
      sizes = v.sizes;
      long = length-set _ _ _ ∙ v.long;
      done = decode-next c.requires _ _ v.long v.done c.loop-i-test.true c.fields_at-f.ensures c.decoded.ensures;
    }
