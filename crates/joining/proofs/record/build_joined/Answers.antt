-- `build_joined` meets its contract: what building and joining promise together.
use Rattle.joining.proofs.Records.{adds_joined}
use Rattle.joining.proofs.record.build_joined.Goals as goal

pub returns-clause-adds_joined : goal.returns-clause-adds_joined
returns-clause-adds_joined c =
    adds_joined c.build_next-k.ensures.adds c.build_next-k.ensures.spared c.if-c-k.false c.join_states.ensures.joins
