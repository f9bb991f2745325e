-- `import::read_text` meets its contract.
use Rattle.formulas.proofs.Levels.{passed}
use Rattle.import.proofs.Whole.{text-told, text_unheaded}
use Rattle.import.proofs.read_text.Goals as goal

pub returns-in_err-next : goal.returns-in_err-next
returns-in_err-next c = rw (passed c.from_residual.ensures.1) (text_unheaded _ c.in_err-next.ensures)

pub returns : goal.returns
returns c = text-told _ _ c.in_ok-next.ensures c.read_body.ensures
