-- `cleared` meets its contract.
use Rattle.words.proofs.Vocabulary.{◌*◌, refl, mod-lt, div-mul-le_self, arith}
use Rattle.table.specs.Entry.{off}
use Rattle.table.proofs.Labels.{off_le}
use Rattle.table.proofs.entries.cleared.Goals as goal

pub overflow_add-result : goal.overflow_add-result
unfolding off
overflow_add-result c =
    let a = c.args in omega (arith, off_le a.w a.l c.requires.0)

pub returns : goal.returns
unfolding off
returns c =
    (refl, off_le c.args.w c.args.l c.requires.0)

pub overflow_mul-result-3 : goal.overflow_mul-result-3
overflow_mul-result-3 c =
    let a = c.args in omega (arith, div-mul-le_self a.l (2 * a.w), mod-lt a.l {m = a.w} (omega arith))
