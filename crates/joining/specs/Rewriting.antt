-- The table of the joined machine, written over the old one in rising order of places. Document 02, A8: "join its states". Assumes nothing.
use Rattle.std.specs.Prelude.{ℕ, ◌+◌, ◌≤◌, ◌<◌, ◌≡◌, ◌&&◌, cond, List, map, leb, length, get_or}
use Rattle.layout.specs.Shape.{label_at, tuple_at}
use Rattle.layout.specs.declared.Shape.{Shape}
use Rattle.table.specs.Entry.{seen}
use Rattle.exploring.specs.Explore.{are_below}
use Rattle.joining.specs.Parting.{state_in}

-- the first members of m classes of the states below n: none is below its class's number, and state 0 begins the first
pub record Leaders (m n : ℕ) (first : List ℕ) : Type 0 where
  pub rising : (i : ℕ) → i < m → i ≤ get_or first i 0
  pub within : (i : ℕ) → i < m → get_or first i 0 < n
  pub begins : 0 < m → get_or first 0 0 ≡ 0

-- the entry of the joined machine for label l and classes, from the old table; 0 where it has no such classes
abbrev pub joined_entry : Shape → ℕ → List ℕ → List ℕ → List ℕ → ℕ → List ℕ → ℕ
joined_entry s m first number t l is = cond (are_below m is) (get_or number (state_in s t l (map (λ i. get_or first i 0) is)) 0) 0

-- the byte at place q of the share: where the old machine had an entry, the new one; else what was there
unfoldable pub joined_byte : Shape → ℕ → ℕ → ℕ → List ℕ → List ℕ → List ℕ → ℕ → ℕ
joined_byte s bits n m first number t q =
    cond (leb (label_at s q) (seen bits (label_at s q)) && are_below n (tuple_at s q)) (joined_entry s m first number t (label_at s q) (tuple_at s q)) (get_or t q 0)

-- n bytes from a place on are written, and no others
pub record RowWritten (value : ℕ → ℕ) (row n : ℕ) (t t' : List ℕ) : Type 0 where
  pub long : length t' ≡ length t
  pub entries : (d : ℕ) → d < n → get_or t' (row + d) 0 ≡ value d
  pub rest : (q : ℕ) → (row ≤ q → q < row + n → ⊥) → get_or t' q 0 ≡ get_or t q 0

-- the bytes before a place are those of the joined machine, and the others as they were
pub record Rewritten (value : ℕ → ℕ) (at : ℕ) (old new : List ℕ) : Type 0 where
  pub long : length new ≡ length old
  pub done : (q : ℕ) → q < at → get_or new q 0 ≡ value q
  pub rest : (q : ℕ) → at ≤ q → get_or new q 0 ≡ get_or old q 0

-- from one place to another
abbrev pub Rewrites : (List ℕ → ℕ → ℕ) → ℕ → ℕ → List ℕ → List ℕ → Type 0
Rewrites value from to t t' = (old : List ℕ) → Rewritten (value old) from old t → Rewritten (value old) to old t'
