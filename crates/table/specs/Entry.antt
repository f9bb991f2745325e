-- A machine's step, a table's entries, and which labels a record tells apart. Assumes nothing.
use Rattle.std.specs.Prelude.{ℕ, ◌+◌, ◌*◌, ◌/◌, ◌%◌, ◌^◌, ◌≤◌, ◌<◌, ◌≡◌, List, length, get_or}
use Rattle.std.specs.Int.Bits.{bit_and}
use Rattle.layout.specs.Shape.{Shaped, share_of, place_in, Tuple}
use Rattle.layout.specs.declared.Shape.{Shape}

-- label l as a record sees it that looks at the bits f
unfoldable pub seen : ℕ → ℕ → ℕ
seen f l = bit_and l f

-- a machine's step: from a label and the states of the branches, in order, to a state
abbrev pub Step : Type 0
Step = ℕ → List ℕ → ℕ

-- the entry of the table at a
unfoldable pub entry : Shape → List ℕ → ℕ → Step
entry s low a l is = get_or low (a + place_in s l is) 0

-- the table at a lies within `low`
pub record Within (s : Shape) (low : List ℕ) (a : ℕ) : Type 0 where
  pub shape : Shaped s
  pub small : a < 4294967296
  pub share : a + share_of s ≤ length low

-- at q stands no entry of the table at base, whose labels have no bit but those given and whose states are below n
abbrev pub Bare : Shape → ℕ → ℕ → ℕ → ℕ → Type 0
Bare s base bits n q = (l : ℕ) (is : List ℕ) → l ≤ seen bits l → Tuple s.branches n is → q ≡ base + place_in s l is → ⊥

-- the step of a machine that looks at the bits f, from its entries at the labels that it tells apart
unfoldable pub through : ℕ → Step → Step
through f e l is = e (seen f l) is

-- the step of a machine that looks at the bits f, from the table at a
abbrev pub step_in : Shape → List ℕ → ℕ → ℕ → Step
step_in s low a f = through f (entry s low a)

-- the label with the bit of weight w cleared, and set
unfoldable pub off : ℕ → ℕ → ℕ
off w l = l / (2 * w) * (2 * w) + l % w

unfoldable pub on : ℕ → ℕ → ℕ
on w l = off w l + w

-- clearing or setting the bit of weight w gives a label, and w is one
pub record Bit (w labels : ℕ) : Type 0 where
  pub is_label : w < labels
  pub off-label : (l : ℕ) → l < labels → off w l < labels
  pub on_label : (l : ℕ) → l < labels → on w l < labels

-- w is the weight of a bit
abbrev pub Power : ℕ → Type 0
Power w = (k : ℕ) × (w ≡ 2 ^ k)
