-- `set_bit` meets its contract. Assumes nothing.
use mathlib.Core.Path.{◌≡◌, ap, ◌∙◌}
use mathlib.Core.List.{List}
use Prim.Native.Nat.{ℕ, ◌/◌, ◌%◌, ◌*◌, ◌+◌, ◌-◌, ◌<◌, ◌^◌}
use native.Mathlib.Nat.{one-mul}
use native.Mathlib.Omega.{arith}
use lib.Dec.{lit<}
use lib.Pow.{shl_exact}
use lib.Bits.{bit_or}
use lib.ListN.{length, get_or, set}
use Rattle.bits.specs.Bits.{bits}
use Rattle.bits.proofs.Fields.{bits-set}
use Rattle.bits.proofs.set_bit.Goals as goal

stored : (d : List ℕ) (at : ℕ) → at < 8 * length d
    → bits (set d (at / 8) (bit_or (get_or d (at / 8) 0) ((1 * 2 ^ (7 - at % 8)) % 256))) ≡ set (bits d) at 1
stored d at h =
    let e : 8 * (at / 8) + at % 8 ≡ at = omega arith in
    let p = shl_exact {a = 1} 1 (7 - at % 8) 8 (lit< tt) (omega arith) ∙ one-mul (2 ^ (7 - at % 8)) in
    rw p (bits-set d (at / 8) (at % 8) (omega arith) (omega arith) ∙ ap (λ (k : ℕ). set (bits d) k 1) e)

pub returns : goal.returns
returns c =
    stored _ _ c.requires
