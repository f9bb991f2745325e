-- `program::respond` meets its contract. Assumes nothing.
use Rattle.program.proofs.respond.Goals as goal

pub returns : goal.returns
returns c =
    let d = c.decide-v.ensures in
    rw (← d.value, ← d.out_after) c.write_line.ensures
