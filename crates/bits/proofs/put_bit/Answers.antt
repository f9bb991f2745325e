-- `put_bit` meets its contract. Assumes nothing.
-- a place that holds x, which is 0
use mathlib.Core.Path.{◌≡◌, sym}
use mathlib.Core.List.{List}
use Prim.Native.Nat.{ℕ, ◌<◌}
use native.Mathlib.Omega.{arith}
use lib.ListN.{get_or, set}
use lib.Seq.{set-get_or}
use Rattle.bits.proofs.put_bit.Goals as goal

kept : (l : List ℕ) (at x : ℕ) → get_or l at 0 ≡ 0 → x < 2 → (x ≡ 1 → ⊥) → l ≡ set l at x
kept l at x z h n = let e : x ≡ get_or l at 0 = omega arith in rw e (sym (set-get_or l at 0))

pub returns-then-x-eq1 : goal.returns-then-x-eq1
returns-then-x-eq1 c =
    rw c.if-x-eq1.true c.set_bit.ensures

pub returns-else-x-eq1 : goal.returns-else-x-eq1
returns-else-x-eq1 c =
    kept _ _ _ c.requires.at_value c.requires.x_bound c.if-x-eq1.false
