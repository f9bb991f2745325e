-- A stack in an array: what it holds after a push. Assumes nothing.
use Prim.Native.Nat.{ℕ, zero, suc, ◌+◌, ◌-◌, ◌≤◌, ◌<◌}
use mathlib.Core.Path.{◌≡◌, refl, ap}
use mathlib.Core.List.{List, ◌∷◌}
use native.Mathlib.Numerals.{add-one}
use native.Mathlib.Omega.{arith}
use lib.ListN.{length, get_or, set}
use lib.Seq.{get_or-set_same, get_or-set_other}
use Rattle.parts.specs.Stack.{top_first}

pub top-length : (xs : List ℕ) (d : ℕ) → length (top_first xs d) ≡ d
unfolding top_first
top-length xs zero = refl
top-length xs (suc d) = ap suc (top-length xs d)

-- an entry above the stack is none of its own
top_below : (xs : List ℕ) (i v d : ℕ) → d ≤ i → top_first (set xs i v) d ≡ top_first xs d
unfolding top_first
top_below xs i v zero h = refl
top_below xs i v (suc d) h = rw (get_or-set_other xs i d v 0 (λ e. omega arith), top_below xs i v d (omega arith)) refl

pub top-push : (xs : List ℕ) (v d : ℕ) → d < length xs → top_first (set xs d v) (d + 1) ≡ v ∷ top_first xs d
unfolding top_first
top-push xs v d h = rw (add-one d, get_or-set_same xs d v 0 h, top_below xs d v d (omega arith)) refl

-- the entry on top, and those below it
pub top-pop : (xs : List ℕ) (d : ℕ) → 0 < d → top_first xs d ≡ get_or xs (d - 1) 0 ∷ top_first xs (d - 1)
unfolding top_first
top-pop xs zero h = absurd (omega arith)
top-pop xs (suc d) h = let e : suc d - 1 ≡ d = omega arith in rw e refl
