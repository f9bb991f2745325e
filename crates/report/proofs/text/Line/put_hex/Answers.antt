-- `report::text::Line::put_hex` meets its contract. Assumes nothing.
use native.Mathlib.Omega.{arith}
use Rattle.report.specs.Text.{hex}
use Rattle.report.proofs.Writing.{none, then, hex-more, hex-room}
use Rattle.report.proofs.text.Line.put_hex.Goals as goal

pub loop-b-init : goal.loop-b-init
unfolding hex
loop-b-init c = none c.args.self.now (omega arith)

pub put_bytes-requires : goal.put_bytes-requires
put_bytes-requires c = hex-room c.args.s.now c.loop-b.b-index (omega arith) c.requires c.loop-b.invariant

pub loop-b-preserved : goal.loop-b-preserved
loop-b-preserved c =
    rw (hex-more c.args.s.now c.loop-b.b-index (omega arith), ← c.glyph.ensures, ← c.glyph-in-loop-b.ensures)
    (then c.loop-b.invariant c.put_bytes.ensures)
