-- `pack` meets its contract. The loop's invariant: v packs the bytes from place i on. Assumes nothing.
use Prim.Native.Nat.{◌≤◌}
use mathlib.Core.Path.{◌≡◌}
use Rattle.tokens.specs.Spans.{part}
use Rattle.tokens.specs.Tokens.{packed}
use Rattle.tokens.proofs.pack.Given as goal

abbrev pub invariant-loop-i : goal.invariant-loop-i
invariant-loop-i l = (l.start ≤ l.i) × (l.v ≡ packed (part l.text l.i l.stop))
