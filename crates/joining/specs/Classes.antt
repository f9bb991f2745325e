-- Classes of states, kept as a list that gives each state the first member of its class. Assumes nothing.
use Rattle.std.specs.Prelude.{ℕ, List, get_or}

-- the class of q, by its first member
abbrev pub class_in : List ℕ → ℕ → ℕ
class_in gs q = get_or gs q 0
