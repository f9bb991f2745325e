-- Which of the decoded records are reached from the last one: request A5, "records reached from the last one, in strip order".
-- Assumes nothing.
use Rattle.std.specs.Prelude.{ℕ, zero, suc, ◌<◌, Bool, true, false, cond, ◌≡◌, List, [], ◌∷◌, T, get_or, set}
use Rattle.logic.specs.Reach.{elem}
use Rattle.logic.specs.ReachedRecords.{is_reached}
use Rattle.ops.specs.declared.Op.{Op}
use Rattle.ops.specs.declared.Op.TheVariants.{Subset, Single, Child1, Child2, Root, Not, Or, And, Exists}
use Rattle.records.specs.Rule.{OfParts, no_decoded}
use Rattle.records.specs.declared.Decoded.{Decoded}

-- the records that a decoded record of this kind names, by its numbers; "exists" has its record as the first of them once it is decoded
abbrev pub named_by : Op → ℕ → ℕ → List ℕ
named_by Subset a b = []
named_by Single a b = []
named_by Child1 a b = []
named_by Child2 a b = []
named_by Root a b = []
named_by Not a b = a ∷ []
named_by Or a b = a ∷ b ∷ []
named_by And a b = a ∷ b ∷ []
named_by Exists a b = a ∷ []

-- those that a decoded record names
abbrev pub named_of : Decoded → List ℕ
named_of x = named_by x.kind x.first x.second

-- those that a decoded record names are used
abbrev pub NamesUsed : (ℕ → Bool) → Decoded → Type 0
NamesUsed used x = (i : ℕ) → T (elem i (named_of x)) → T (used i)

-- those that each record names, by its number
abbrev pub named_in : List Decoded → ℕ → List ℕ
named_in xs i = named_of (get_or xs i no_decoded)

-- is record i, of m records, reached from the last
abbrev pub used_in : List Decoded → ℕ → ℕ → Bool
used_in xs m = is_reached (named_in xs) m

-- record r's numbers have entries in arrays of 128, and its parts come before it
pub record InOrder (x : Decoded) (r : ℕ) : Type 0 where
  pub first-kept : x.first < 128
  pub second-kept : x.second < 128
  pub before : OfParts x.kind (x.first < r) (x.second < r)

-- has record i a mark
abbrev pub marked : List Bool → ℕ → Bool
marked ms i = get_or ms i false

-- of the first m records those that are used have a mark, and so has the number m, where a search for the next one stops
pub record Marks (used : ℕ → Bool) (m : ℕ) (ms : List Bool) : Type 0 where
  pub below : (i : ℕ) → i < m → marked ms i ≡ used i
  pub end : marked ms m ≡ true

-- whatever a marked record, of the first m, names has a mark
abbrev pub MarksClosed : List Decoded → List Bool → ℕ → Type 0
MarksClosed xs ms m = (r : ℕ) → r < m → T (marked ms r) → NamesUsed (marked ms) (get_or xs r no_decoded)

-- the marks, and one for each of these records
unfoldable pub marking : List ℕ → List Bool → List Bool
marking [] ms = ms
marking (a ∷ ns) ms = marking ns (set ms a true)

-- the first of the d records from number r on that is used; r + d if none is
unfoldable pub next_of : (ℕ → Bool) → ℕ → ℕ → ℕ
next_of used r zero = r
next_of used r (suc d) = cond (used r) r (next_of used (suc r) d)
