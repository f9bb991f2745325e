-- `report::text::Line::put_decimal` meets its contract. The measure is the number of digits there may be.
use Rattle.report.proofs.text.Line.+put_decimal.Given as goal

abbrev pub decreases-put_decimal : goal.decreases-put_decimal
decreases-put_decimal l = l.d
