-- A stack as code keeps it, in an array. Assumes nothing.
use Rattle.std.specs.Prelude.{ℕ, zero, suc, List, [], ◌∷◌, get_or}

-- the first d entries, the last of them on top
unfoldable pub top_first : List ℕ → ℕ → List ℕ
top_first xs zero = []
top_first xs (suc d) = get_or xs d 0 ∷ top_first xs d
