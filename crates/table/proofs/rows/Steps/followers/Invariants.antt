-- `followers` meets its contract. The invariant: what is left of the set is still to be walked.
use Rattle.words.specs.Word.{Below, any}
use Rattle.table.specs.Stepping.{entries}
use Rattle.table.specs.Succ.{hit_row}
use Rattle.words.proofs.Members.{Walk}
use Rattle.table.proofs.rows.Steps.followers.Given as goal

abbrev pub invariant-loop-t : goal.invariant-loop-t
invariant-loop-t l =
    let rest = l.t-iterator.rest in
    Below l.self.shape.ceiling rest × Walk l.s rest l.r (λ q t. any (hit_row (entries l.self) l.self.off l.self.on l.s q t) 64)
