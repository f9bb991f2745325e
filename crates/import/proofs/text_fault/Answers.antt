-- `import::text_fault` meets its contract.
use Rattle.std.proofs.lemmas.Result.{err_from_is_err_and}
use Rattle.import.proofs.Outcomes.{fault-many, fault-none, fault-token}
use Rattle.import.proofs.text_fault.Goals as goal

pub returns-in_err-read_text : goal.returns-in_err-read_text
returns-in_err-read_text c =
    let p = err_from_is_err_and c.from_residual.result c.from_residual.ensures.1 in
    rw (p.1, p.2, ← c.new-reader.ensures.text_value) (fault-token _ c.in_err-read_text.ensures)

pub returns-then-reader-gt128 : goal.returns-then-reader-gt128
returns-then-reader-gt128 c = rw (← c.new-reader.ensures.text_value) (fault-many _ c.in_ok-read_text.ensures c.if-reader-gt128.true)

pub returns : goal.returns
returns c = rw (← c.new-reader.ensures.text_value) (fault-none _ c.in_ok-read_text.ensures c.if-reader-gt128.false)
