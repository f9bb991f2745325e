-- `report::text::Line::put_shown` meets its contract. Assumes nothing.
use native.Mathlib.Omega.{arith}
use Rattle.report.proofs.Writing.{then, length-hex}
use Rattle.report.proofs.text.Line.put_shown.Goals as goal

pub put_bytes-requires-2 : goal.put_bytes-requires-2
put_bytes-requires-2 c = omega (arith, length-hex c.args.strip.now, c.put_hex.ensures.put.place)

pub returns : goal.returns
returns c =
    then c.put_counted.ensures.put (then c.put_counted-2.ensures.put
    (then c.put_bytes.ensures (then c.put_hex.ensures c.put_bytes-2.ensures)))
