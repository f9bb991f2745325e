-- `report::text::Line::put_counted` meets its contract. Assumes nothing.
use Rattle.report.proofs.Writing.{then}
use Rattle.report.proofs.text.Line.put_counted.Goals as goal

pub returns-clause-put : goal.returns-clause-put
returns-clause-put c = then c.put_bytes.ensures c.put_decimal.ensures.put
