-- `fill_rows` meets its contract. The invariant: the words below i are written.
use Rattle.words.proofs.Vocabulary.{get_or}
use Rattle.table.proofs.RowLaws.{Written}
use Rattle.table.proofs.rows.fill_rows.Given as goal

abbrev pub invariant-loop-i : goal.invariant-loop-i
invariant-loop-i g l =
    let new = get_or l.codes l.k 0 in
    Written (λ i x. goal.F-post g l.next (get_or l.codes i 0) new x) (λ i x. goal.F-post g l.next new (get_or l.codes i 0) x) l.i l.rows.left l.rows.right
