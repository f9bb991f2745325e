-- `fill` meets its contract. The invariant: the rows are right at each member of `seen` that is gone from what is left.
use Rattle.words.specs.Word.{Below}
use Rattle.table.specs.Stepping.{entries}
use Rattle.table.proofs.RowLaws.{Filling}
use Rattle.table.proofs.rows.Steps.fill.Given as goal

abbrev pub invariant-loop-t : goal.invariant-loop-t
invariant-loop-t l =
    let rest = l.t-iterator.rest in
    Below l.self.shape.ceiling rest × Filling (entries l.self) l.self.off l.self.on l.s l.seen rest l.rows.left l.rows.right
