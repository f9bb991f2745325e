-- `unions` meets its contract. The invariant: the words below i are written.
use Rattle.words.proofs.Vocabulary.{◌≡◌, get_or}
use Rattle.table.specs.Rows.{union_of}
use Rattle.table.proofs.RowLaws.{Written}
use Rattle.table.proofs.rows.unions.Given as goal

abbrev pub invariant-loop-i : goal.invariant-loop-i
invariant-loop-i l =
    Written (λ i x. x ≡ union_of l.single.right (get_or l.sets i 0)) (λ i x. x ≡ union_of l.single.left (get_or l.sets i 0)) l.i l.rows.left l.rows.right
