-- `put` meets its contract.
use Rattle.words.proofs.Vocabulary.{◌≡◌, length, arith}
use Rattle.exploring.proofs.Steps.{put-new, put_full}
use Rattle.exploring.proofs.put.Goals as goal
use Rattle.exploring.proofs.put.Goals.{then-b-c, else-b-c}

pub returns : goal.returns
returns c =
    let a = c.args in
    let p = c.requires in
    let long : length a.b.codes ≡ 64 = omega arith in
    elim c.if-b-c.branch [
      | then-b-c w ↦
          rw w.r-is (omega arith, omega arith, put-new a.c a.x a.b.count a.b.codes long p.count_le_c.1 p.count_le_c.0 p.new w.if-b-c.true)
      | else-b-c w ↦
          rw w.r-is (
            omega arith,
            omega arith,
            put_full a.c a.x a.b.count a.b.codes long p.count_le_c.1 p.count_le_c.0 a.b.codes p.new w.if-b-c.false,
          )
    ]
