-- `import::read_body` meets its contract.
use Rattle.std.proofs.Common.{refl}
use Rattle.formulas.proofs.Levels.{passed}
use Rattle.import.proofs.Whole.{body_undeclared, begun, formula-refused, end-refused, body-read}
use Rattle.import.proofs.read_body.Goals as goal

pub returns-in_err-declared : goal.returns-in_err-declared
returns-in_err-declared c = rw (passed c.from_residual.ensures.1) (body_undeclared _ _ c.in_err-declared.ensures)

pub returns-in-Err : goal.returns-in-Err
returns-in-Err c =
    let N = c.in_ok-declared.ensures in
    formula-refused c.args.reader.now c.requires N (begun N.text_is refl refl refl c.look.ensures) (rw c.in-Err.is at c.formula.ensures)

pub returns-in_err-end-in-Ok : goal.returns-in_err-end-in-Ok
returns-in_err-end-in-Ok c =
    let N = c.in_ok-declared.ensures in
    rw (passed c.from_residual-in_err-end-in-Ok.ensures.1)
    (end-refused c.args.reader.now c.requires N (begun N.text_is refl refl refl c.look.ensures) (rw c.in-Ok.is at c.formula.ensures) c.in_err-end-in-Ok.ensures)

pub returns : goal.returns
returns c =
    let N = c.in_ok-declared.ensures in
    body-read c.args.reader.now c.requires N (begun N.text_is refl refl refl c.look.ensures) (rw c.in-Ok.is at c.formula.ensures) c.in_ok-end-in-Ok.ensures
    c.put_free.ensures refl
