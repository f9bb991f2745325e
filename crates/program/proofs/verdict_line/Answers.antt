-- `program::verdict_line` meets its contract, from those of `rule_in` and `respond`. Assumes nothing.
use Rattle.program.specs.Program.{verdict_line}
use Rattle.report.proofs.Writing.{size, whole}
use Rattle.program.proofs.verdict_line.Goals as goal

pub returns : goal.returns
unfolding verdict_line
returns c =
    let p = c.respond-count.ensures in
    let r = c.rule_in.ensures in
    record { line = rw (← r) (whole p); size = size p; fits = p.fits }
