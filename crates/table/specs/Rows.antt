-- The successors of a new code and the codes before it, and for "exists" what they are the unions of. Document 01, "Machines": "At a node
-- it collects all steps with the bound bit 0 or 1."
-- Assumes nothing.
use Rattle.std.specs.Prelude.{ℕ, ◌+◌, ◌≤◌, ◌<◌, Bool, ◌&&◌, List, [], ◌∷◌, ◌≡◌, length, get_or}
use Rattle.layout.specs.Shape.{labels_in, share_of, Tuple}
use Rattle.layout.specs.declared.Shape.{Shape}
use Rattle.table.specs.Entry.{Bit, Step, Within, on}
use Rattle.table.specs.Succ.{hit, hit_row, first_step}
use Rattle.words.specs.Word.{mem, any, word_where, Below}
use Rattle.table.specs.declared.plan.Plan.{Plan}
use Rattle.ops.specs.declared.Op.TheVariants.{Exists}

-- does state q follow an i that is a member of x and state j under the label l or m
abbrev pub hit_column : Step → ℕ → ℕ → ℕ → ℕ → ℕ → ℕ → Bool
hit_column f l m x q j i = mem i x && hit f l m q (i ∷ j ∷ [])

-- the union of what a row has at the members of s
unfoldable pub union_of : List ℕ → ℕ → ℕ
union_of row s = word_where (λ (q : ℕ). any (λ (t : ℕ). mem t s && mem q (get_or row t 0)) 64) 64

-- at state t the left row has the states that follow a member of s and t, and the right row those that follow t and a member of s
pub record Follows (f : Step) (l m s t : ℕ) (left right : List ℕ) : Type 0 where
  pub after : (q : ℕ) → mem q (get_or left t 0) ≡ any (hit_column f l m s q t) 64
  pub before : (q : ℕ) → mem q (get_or right t 0) ≡ any (hit_row f l m s q t) 64

-- the rows have the successors of code k and each code up to it, on either side
abbrev pub Serves : Step → ℕ → List ℕ → ℕ → List ℕ → List ℕ → Type 0
Serves succ l codes k left right =
    (i : ℕ) → i ≤ k
    → (get_or right i 0 ≡ succ l (get_or codes i 0 ∷ get_or codes k 0 ∷ [])) × (get_or left i 0 ≡ succ l (get_or codes k 0 ∷ get_or codes i 0 ∷ []))

-- the unions of the rows `lefts` and `rights` for each set up to k
abbrev pub UnionsUpTo : ℕ → List ℕ → List ℕ → List ℕ → List ℕ → List ℕ → Type 0
UnionsUpTo k lefts rights sets left right =
    (i : ℕ) → i ≤ k → (get_or right i 0 ≡ union_of rights (get_or sets i 0)) × (get_or left i 0 ≡ union_of lefts (get_or sets i 0))

-- the steps under the labels l and m can be read off the table at a
pub record Readable (sh : Shape) (low : List ℕ) (a l m : ℕ) : Type 0 where
  pub table : Within sh low a
  pub first-label : l < labels_in sh
  pub second-label : m < labels_in sh

-- the entries that the successors of the sets up to k are taken from, with the bit of weight w cleared and set, lie within `low`
pub record RowsReady (sh : Shape) (low : List ℕ) (a w l : ℕ) (sets : List ℕ) (k : ℕ) : Type 0 where
  pub table : Within sh low a
  pub weight : 0 < w
  pub small : w ≤ 128
  pub label : on w l < labels_in sh
  pub last : k < 64
  pub states : (i : ℕ) → i ≤ k → Below sh.ceiling (get_or sets i 0)

-- the table of the part of an "exists" lies within `low`, and leads from its n states to its states
pub record Inside (low : List ℕ) (p : Plan) (n : ℕ) : Type 0 where
  pub some-state : 0 < n
  pub few : n ≤ p.shape.ceiling
  pub share : p.table1 + share_of p.shape ≤ length low
  pub bit : Bit p.wx (labels_in p.shape)
  pub stays : (l : ℕ) (is : List ℕ) → l < labels_in p.shape → Tuple p.shape.branches n is
      → first_step low p l is < n

-- the part's table is there, if the record is an "exists"
abbrev pub Led : List ℕ → Plan → Type 0
Led low p = p.kind ≡ Exists → (n : ℕ) × Inside low p n
