-- A list of numbers as code hands it out. Assumes nothing.
use Rattle.std.specs.Prelude.{ℕ, ◌≡◌, List, length, take}

-- the list stands at the front of an array of 128
pub record Listed (ps : List ℕ) (count : ℕ) (xs : List ℕ) : Type 0 where
  pub counted : count ≡ length ps
  pub front : take count xs ≡ ps
  pub long : length xs ≡ 128
