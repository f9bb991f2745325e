-- The machine of "not" is its part's with the other states accepting, so its table is copied. What the copying ensures.
-- Document 01, "Machines": "Not flips acceptance." Assumes nothing.
use Rattle.std.specs.Prelude.{ℕ, ◌+◌, ◌≤◌, ◌<◌, ◌≡◌, List, [], ◌∷◌, length, get_or}
use Rattle.layout.specs.Shape.{place_in, Tuple}
use Rattle.layout.specs.declared.Shape.{Shape}
use Rattle.table.specs.Entry.{seen}

-- the bytes at some offsets from one place are copied to those from another, and no other byte is changed
pub record Copied (at : ℕ → Type 0) (from to : ℕ) (ws ws' : List ℕ) : Type 0 where
  pub long : length ws' ≡ length ws
  pub there : (k : ℕ) → at k → get_or ws' (to + k) 0 ≡ get_or ws (from + k) 0
  pub rest : (q : ℕ) → ((k : ℕ) → at k → q ≡ to + k → ⊥) → get_or ws' q 0 ≡ get_or ws q 0

-- the first n bytes
abbrev pub Bytes : ℕ → ℕ → Type 0
Bytes n k = k < n

-- the entries for label l, a first state below m and a second below n
abbrev pub Rows : Shape → ℕ → ℕ → ℕ → ℕ → Type 0
Rows s l n m k = (i : ℕ) × (j : ℕ) × (i < m) × (j < n) × (k ≡ place_in s l (i ∷ j ∷ []))

-- the entries for states below n and each label below l with no bit but those given
abbrev pub Entries : Shape → ℕ → ℕ → ℕ → ℕ → Type 0
Entries s bits n l k = (m : ℕ) × (is : List ℕ) × (m < l) × (m ≤ seen bits m) × Tuple s.branches n is × (k ≡ place_in s m is)
