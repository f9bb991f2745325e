-- Each bit is put at a place that still holds 0. Assumes nothing.
use mathlib.Core.Path.{◌≡◌, ap, ◌∙◌}
use mathlib.Core.List.{List}
use Prim.Native.Nat.{ℕ, ◌<◌, ◌+◌, ◌-◌, ◌/◌, ◌%◌, ◌^◌}
use native.Mathlib.Omega.{arith}
use lib.ListN.{set, take}
use lib.Seq.{sets, take_all}
use Rattle.bits.proofs.Fields.{length_digits, digits_more, digits-after}
use Rattle.bits.specs.Bits.{digits}
use Rattle.bits.proofs.put_field.Goals as goal

turn : (l₀ l l' : List ℕ) (at b v k : ℕ) → k < b → l ≡ sets l₀ at (take k (digits b v)) → l' ≡ set l (at + k) (v / 2 ^ (b - 1 - k) % 2)
    → l' ≡ sets l₀ at (take (k + 1) (digits b v))
turn l₀ l l' at b v k h e q = rw (digits_more l₀ at b v k h, ← e) q

pub put_bit-requires-clause-at_value : goal.put_bit-requires-clause-at_value
put_bit-requires-clause-at_value c =
    rw c.loop-k.invariant (digits-after _ _ _ _ _ c.loop-k-test.true) ∙ c.requires.by_index _ c.loop-k-test.true

pub loop-k-preserved : goal.loop-k-preserved
loop-k-preserved c = turn _ _ _ _ _ _ _ c.loop-k-test.true c.loop-k.invariant c.put_bit.ensures

pub returns : goal.returns
returns c =
    let a = c.args in
    c.loop-k.invariant ∙ ap (sets _ _) (take_all c.loop-k.k (digits a.b a.v) (omega (arith, length_digits a.b a.v)))
