-- `locate` meets its contract: a code that stands at the hint stands nowhere else.
use Rattle.words.proofs.Vocabulary.{arith}
use Rattle.exploring.proofs.Place.{first-own}
use Rattle.exploring.proofs.locate.Goals as goal

pub returns-then-b-g : goal.returns-then-b-g
returns-then-b-g c =
    let b = c.args.b.now in first-own c.args.x b.count b.codes (omega arith) c.from-g.result c.requires.1 c.if-g-b.true c.if-b-g.true
