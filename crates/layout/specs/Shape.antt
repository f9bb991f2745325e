-- The shape of tables, and where each table and each of its entries lies. Document 01, "Decide": "workspace shorter than m × 2^n × c × c
-- bytes". Assumes nothing.
use Rattle.std.specs.Prelude.{ℕ, zero, suc, ◌+◌, ◌*◌, ◌/◌, ◌%◌, ◌^◌, ◌≤◌, ◌<◌, ◌≡◌, List, [], ◌∷◌, ◌++◌, length}
use Rattle.layout.specs.declared.Shape.{Shape}

-- the ceilings of document 01, and two branches to a node
pub record Shaped (s : Shape) : Type 0 where
  pub some-variable : 1 ≤ s.variables
  pub variables : s.variables ≤ 8
  pub some-state : 0 < s.ceiling
  pub ceiling : s.ceiling ≤ 64
  pub branches : s.branches ≡ 2

-- the shape of tables for n variables and state ceiling c
abbrev pub shape_of : ℕ → ℕ → Shape
shape_of n c = record { variables = n; ceiling = c; branches = 2 }

-- the number of labels
abbrev pub labels_in : Shape → ℕ
labels_in s = 2 ^ s.variables

-- the bytes of a share: one for each label and each choice of a state for each branch
unfoldable pub share_of : Shape → ℕ
share_of s = labels_in s * s.ceiling ^ s.branches

-- where the share of record r starts
unfoldable pub share_at : Shape → ℕ → ℕ
share_at s r = r * share_of s

-- P holds of each member of a list
pub data Each {A : Type 0} (P : A → Type 0) : List A → Type 0 where
  nil : Each P []
  cons : {x : A} {xs : List A} → P x → Each P xs → Each P (x ∷ xs)

-- k numbers below n: the states of a node's branches, in order
pub record Tuple (k n : ℕ) (is : List ℕ) : Type 0 where
  pub long : length is ≡ k
  pub below : Each (λ (i : ℕ). i < n) is

-- the number whose last digits, to the base c, are the list's, and whose first is l
unfoldable pub digits_of : ℕ → ℕ → List ℕ → ℕ
digits_of c l [] = l
digits_of c l (i ∷ is) = digits_of c (l * c + i) is

-- where the entry for label l and the branches' states stands in a table
unfoldable pub place_in : Shape → ℕ → List ℕ → ℕ
place_in s l is = digits_of s.ceiling l is

-- the k last digits of a number, and what is before them
unfoldable pub above_digits : ℕ → ℕ → ℕ → ℕ
above_digits c zero q = q
above_digits c (suc k) q = above_digits c k (q / c)

unfoldable pub low_digits : ℕ → ℕ → ℕ → List ℕ
low_digits c zero q = []
low_digits c (suc k) q = low_digits c k (q / c) ++ (q % c ∷ [])

-- the label and the states whose entry stands at place q of a table
unfoldable pub label_at : Shape → ℕ → ℕ
label_at s q = above_digits s.ceiling s.branches q

unfoldable pub tuple_at : Shape → ℕ → List ℕ
tuple_at s q = low_digits s.ceiling s.branches q
