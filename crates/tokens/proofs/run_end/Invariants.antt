-- `run_end` meets its contract. The loop's invariant: the end sought from the start is the one sought from the place reached.
-- Assumes nothing.
use Prim.Native.Nat.{ℕ, ◌+◌, ◌≤◌, max}
use mathlib.Core.Path.{◌≡◌}
use mathlib.Core.Bool.{Bool}
use lib.ListN.{length, drop}
use Rattle.tokens.specs.Tokens.{span}
use Rattle.tokens.proofs.run_end.Given as goal

abbrev pub invariant-loop-i : goal.invariant-loop-i
invariant-loop-i g l = (l.i ≤ max l.at (length l.text)) × ((p : ℕ → Bool) → ((b : ℕ) (r : Bool) → goal.F-post g l.passes b r → r ≡ p b)
    → l.at + span p (drop l.at l.text) ≡ l.i + span p (drop l.i l.text))
