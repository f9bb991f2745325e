-- `report::text::Line::put_count` meets its contract. Assumes nothing.
use Rattle.report.proofs.Writing.{then}
use Rattle.report.proofs.text.Line.put_count.Goals as goal

pub returns : goal.returns
returns c = then c.put_counted.ensures.put c.put_bytes.ensures
