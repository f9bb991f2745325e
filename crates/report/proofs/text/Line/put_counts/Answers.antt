-- `report::text::Line::put_counts` meets its contract. Assumes nothing.
use Rattle.report.proofs.Writing.{then}
use Rattle.report.proofs.text.Line.put_counts.Goals as goal

pub returns : goal.returns
returns c = then c.put_counted.ensures.put c.put_count.ensures
