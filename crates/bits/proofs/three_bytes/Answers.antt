-- `three_bytes` meets its contract. Assumes nothing.
use native.Mathlib.Omega.{arith}
use Rattle.bits.proofs.Packing.{three-field}
use Rattle.bits.proofs.three_bytes.Goals as goal

pub returns : goal.returns
returns c =
    rw (c.from.ensures, c.from-2.ensures, c.from-3.ensures)
    (three-field c.args.s.now c.args.i c.requires (λ k. omega (arith, c.type_inv.s k)))
