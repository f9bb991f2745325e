-- The numbers that C is given for a check of a tree strip, and 0 where a field does not apply. Assumes nothing.
use Rattle.std.specs.Prelude.{ℕ, ◌≡◌, List, Result, Ok, Err}
use Rattle.refusals.specs.declared.Fault.{Fault}
use Rattle.refusals.specs.Reason.{number_of}
use Rattle.tree_strip.specs.TreePlaces.{OffendsAt}
use Rattle.tree_strip.specs.declared.check.TreeSize.{TreeSize}
use Rattle.tree_strip.specs.declared.numbers.TreeNumbers.{TreeNumbers}

-- refused, by the number and, since A1, the place
abbrev pub refused_tree : ℕ → ℕ → TreeNumbers
refused_tree k p = record { refusal = k; variables = 0; positions = 0; place = p }

-- "Otherwise it returns n and N"
abbrev pub tree_numbers : Result TreeSize Fault → TreeNumbers
tree_numbers (Ok t) = record { refusal = 0; variables = t.variables; positions = t.positions; place = 0 }
tree_numbers (Err f) = refused_tree (number_of f.reason) f.place

-- A1, "Say at which bit": a refusal of the check is one by which the strip offends, at that place
abbrev pub TreeRefusedAt : List ℕ → TreeNumbers → Type 0
TreeRefusedAt s r = (r.refusal ≡ 0 → ⊥) → OffendsAt s r.refusal r.place
