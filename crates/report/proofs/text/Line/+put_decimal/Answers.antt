-- `report::text::Line::put_decimal` meets its contract, by what the shorter number's digits are. Assumes nothing.
use native.Mathlib.Omega.{arith}
use Rattle.report.proofs.Writing.{none, then, decimal-none, decimal-one, decimal-more}
use Rattle.report.proofs.text.Line.+put_decimal.Goals as goal
use Rattle.report.proofs.text.Line.+put_decimal.Goals.{then-n-ge10, else-n-ge10}

pub returns-then-d-eq0-clause-put : goal.returns-then-d-eq0-clause-put
returns-then-d-eq0-clause-put t c = rw (decimal-none c.args.d c.args.n c.if-d-eq0.true) (none c.args.self.now (omega arith))

pub put_bytes-requires : goal.put_bytes-requires
put_bytes-requires t c =
    elim c.if-n-ge10.branch [
      | then-n-ge10 w ↦ rw w.self-is (omega arith)
      | else-n-ge10 w ↦ rw w.self-is (omega arith)
    ]

pub returns-clause-put : goal.returns-clause-put
returns-clause-put t c =
    let a = c.args in
    elim c.if-n-ge10.branch [
      | then-n-ge10 w ↦
          rw (decimal-more a.d a.n c.if-d-eq0.false w.if-n-ge10.true, ← c.glyph.ensures)
          (then w.put_decimal.ensures.put (rw w.self-is at c.put_bytes.ensures))
      | else-n-ge10 w ↦
          rw (decimal-one a.d a.n c.if-d-eq0.false w.if-n-ge10.false, ← c.glyph.ensures) (rw w.self-is at c.put_bytes.ensures)
    ]
