-- Request A5, "Leftover records should not spoil an answer": the "records reached from the last one".
-- Assumes nothing.
use Rattle.std.specs.Prelude.{ℕ, zero, suc, Bool, true, false, ◌&&◌, ◌||◌, List, [], ◌∷◌, T, get_or}
use Rattle.logic.specs.Rule.{Record, no_record, last_of}
use Rattle.logic.specs.Reach.{elem}

-- the records that a record names: "not" in its first field, "or" and "and" in both, "exists" in its second
unfoldable pub names_of : Record → List ℕ
names_of r =
    let a = r.first in
    let b = r.second in
    get_or ([] ∷ [] ∷ [] ∷ [] ∷ [] ∷ (a ∷ []) ∷ (a ∷ b ∷ []) ∷ (a ∷ b ∷ []) ∷ (b ∷ []) ∷ []) r.op []

-- the records reached from `last`, where record i names the records `names i`: itself, and every record that a reached one names
pub data ReachedFrom (names : ℕ → List ℕ) (last : ℕ) : ℕ → Type 0 where
  itself : ReachedFrom names last last
  named : (r i : ℕ) → ReachedFrom names last r → T (elem i (names r)) → ReachedFrom names last i

-- the records that each record of a rule names, by its number
abbrev pub names_in : List Record → ℕ → List ℕ
names_in rs i = names_of (get_or rs i no_record)

-- record i of a rule is reached from the last one; the others are leftovers
abbrev pub ReachedRecord : List Record → ℕ → Type 0
ReachedRecord rs i = ReachedFrom (names_in rs) (last_of rs) i

-- does one of the records from number j on, those with a mark, name record i
unfoldable pub named_after : (ℕ → List ℕ) → ℕ → ℕ → List Bool → Bool
named_after names i j [] = false
named_after names i j (m ∷ ms) = (m && elem i (names j)) || named_after names i (suc j) ms

-- record i's mark before those of the records after it: the last record has one, and whoever a later one with a mark names
unfoldable pub mark : (ℕ → List ℕ) → ℕ → List Bool → List Bool
mark names i [] = true ∷ []
mark names i (m ∷ ms) = named_after names i (suc i) (m ∷ ms) ∷ (m ∷ ms)

-- the marks of d records, the first of which is number i: which of them are reached from the last
unfoldable pub marks : (ℕ → List ℕ) → ℕ → ℕ → List Bool
marks names i zero = []
marks names i (suc d) = mark names i (marks names (suc i) d)

-- is record i, of m records, reached from the last
unfoldable pub is_reached : (ℕ → List ℕ) → ℕ → ℕ → Bool
is_reached names m i = get_or (marks names 0 m) i false
