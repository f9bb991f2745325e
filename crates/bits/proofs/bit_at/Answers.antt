-- `bit_at` meets its contract. Assumes nothing.
use mathlib.Core.Path.{◌≡◌, sym, ap, ◌∙◌}
use mathlib.Core.List.{List}
use Prim.Native.Nat.{ℕ, ◌/◌, ◌%◌, ◌*◌, ◌+◌, ◌-◌, ◌<◌}
use native.Mathlib.Omega.{arith}
use lib.ListN.{length, get_or}
use Rattle.bits.proofs.Digits.{bit}
use Rattle.bits.specs.Bits.{bits}
use Rattle.bits.proofs.Fields.{bits_at}
use Rattle.bits.proofs.bit_at.Goals as goal

read : (s : List ℕ) (at : ℕ) → at < 8 * length s → bit (7 - at % 8) (get_or s (at / 8) 0) ≡ get_or (bits s) at 0
read s at h =
    let e : 8 * (at / 8) + at % 8 ≡ at = omega arith in
    sym (ap (λ (k : ℕ). get_or (bits s) k 0) (sym e) ∙ bits_at s (at / 8) (at % 8) (omega arith) (omega arith))

pub returns-clause-value : goal.returns-clause-value
returns-clause-value c = read _ _ c.requires
