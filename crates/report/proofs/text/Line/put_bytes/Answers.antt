-- `report::text::Line::put_bytes` meets its contract. Assumes nothing.
use mathlib.Core.Path.{refl}
use native.Mathlib.Omega.{arith}
use Rattle.report.proofs.Writing.{copied, size}
use Rattle.report.proofs.text.Line.put_bytes.Goals as goal

pub returns : goal.returns
returns c =
    let a = c.args.self.now in
    let p = copied a.bytes.now a.at _ c.args.s.now _ c.copy_from_slice.ensures.after (omega arith) c.requires in
    record { same = refl; size = size p; put = p }
