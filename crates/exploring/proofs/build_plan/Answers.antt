-- `build_plan` meets its contract.
use Rattle.words.proofs.Vocabulary.{take}
use Rattle.exploring.proofs.Guide.{start-guided}
use Rattle.exploring.proofs.build_plan.Goals as goal

pub build-requires-clause-guided : goal.build-requires-clause-guided
build-requires-clause-guided c =
    let a = c.args in
    rw c.start_code-start.ensures (start-guided (take a.p.base a.ws.now) a.p c.requires.plan_room.ranged.shape c.requires.led)
