-- `join::put_joined` meets its contract. Assumes nothing.
use native.Mathlib.Omega.{arith}
use Rattle.join.proofs.Words.{both_put}
use Rattle.join.proofs.Joining.{words_joined}
use Rattle.join.proofs.put_joined.Goals as goal

pub returns-clause-records : goal.returns-clause-records
returns-clause-records c =
    words_joined c.requires c.count_of-m.ensures c.count_of-p.ensures
    (both_put _ _ _ _ _ c.args.words.now (omega arith) (omega arith) (omega arith) c.put_moved.ensures c.put_moved-2.ensures
    (rw c.number.ensures.value at c.record_word.ensures) (omega arith))
