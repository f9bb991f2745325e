-- The states of one, two or three branches in three slots: the slots that are not used come first, and hold the one state 0.
-- Document 02, A12: "k from 1 to 3". Assumes nothing.
use Rattle.std.specs.Prelude.{ℕ, ◌+◌, ◌*◌, ◌-◌, ◌<◌, cond, List, [], ◌∷◌, ltb, drop}
use Rattle.layout.specs.declared.Shape.{Shape}

-- how many numbers below n the slot takes that has so many slots after it
unfoldable pub range_of : ℕ → ℕ → ℕ → ℕ
range_of k after n = cond (ltb after k) n 1

-- the states of k branches that the slots hold, in order
unfoldable pub in_slots : ℕ → ℕ → ℕ → ℕ → List ℕ
in_slots k a b d = drop (3 - k) (a ∷ b ∷ d ∷ [])

-- the first two slots hold numbers below n, as many as k branches have
pub record FirstSlots (k n a b : ℕ) : Type 0 where
  pub first : a < range_of k 2 n
  pub second : b < range_of k 1 n

-- all three do
pub record Slotted (k n a b d : ℕ) : Type 0 where
  pub before : FirstSlots k n a b
  pub third : d < n

-- where the entry for label l and the states in the slots stands in a table
unfoldable pub slot_place : Shape → ℕ → ℕ → ℕ → ℕ → ℕ
slot_place s l a b d = ((l * range_of s.branches 2 s.ceiling + a) * range_of s.branches 1 s.ceiling + b) * s.ceiling + d
