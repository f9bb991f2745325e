-- `report::text::Line::put_hex` meets its contract. The invariant: the digits of the bytes so far are written. Assumes nothing.
use lib.ListN.{take}
use Rattle.report.specs.Text.{hex, Wrote}
use Rattle.report.proofs.text.Line.put_hex.Given as goal

abbrev pub invariant-loop-b : goal.invariant-loop-b
invariant-loop-b l = Wrote l.initial.self (hex (take l.b-index l.s)) l.self
