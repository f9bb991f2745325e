-- Trees of labels, and the tree of an assignment: document 01, "Trees for assignments".
-- Assumes nothing.
use Rattle.std.specs.Prelude.{ℕ, zero, suc, ◌+◌, ◌-◌, ◌/◌, ◌%◌, ◌^◌, ◌≤◌, ◌<◌, ◌≡◌, ◌↔◌, Bool, true, false, List, [], ◌∷◌, ◌++◌, T, eqb}
use Rattle.std.proofs.Common.{le_refl, le_of_lt}
use Rattle.logic.specs.Meaning.{Branch, Place, Assignment, has, ◌∈◌}

-- "each position is a node with a label and branches; a missing branch is the empty tree"
pub data Tree (k : ℕ) : Type 0 where
  empty : Tree k
  node : ℕ → (Branch k → Tree k) → Tree k

-- the branches below m, the last one first
unfoldable pub down_from : {k : ℕ} (m : ℕ) → m ≤ k → List (Branch k)
down_from zero h = []
down_from (suc m) h = (record { number = m; below = h }) ∷ down_from m (le_of_lt h)

abbrev pub branches : (k : ℕ) → List (Branch k)
branches k = down_from k (le_refl k)

unfoldable pub sum_of : {A : Type 0} → (A → ℕ) → List A → ℕ
sum_of g [] = 0
sum_of g (a ∷ as') = g a + sum_of g as'

-- the number of nodes
unfoldable pub positions : {k : ℕ} → Tree k → ℕ
positions empty = 0
positions {k} (node l f) = suc (sum_of (λ b. positions (f b)) (branches k))

-- binary digit j of l, counted from the least significant
unfoldable pub low : ℕ → ℕ → Bool
low l zero = eqb (l % 2) 1
low l (suc j) = low (l / 2) j

-- "an n-bit label, variable 0 most significant": the bit of variable i
unfoldable pub bit : ℕ → ℕ → ℕ → Bool
bit n l i = low l (n - suc i)

-- whether there is a node at place p
unfoldable pub node_at : {k : ℕ} → Tree k → Place k → Bool
node_at empty p = false
node_at (node l f) [] = true
node_at (node l f) (b ∷ p) = node_at (f b) p

-- the bit of variable i in the label at place p; 0 where there is no node
unfoldable pub bit_at : {k : ℕ} → ℕ → Tree k → ℕ → Place k → Bool
bit_at n empty i p = false
bit_at n (node l f) i [] = bit n l i
bit_at n (node l f) i (b ∷ p) = bit_at n (f b) i p

-- every label has n bits
unfoldable pub Proper : {k : ℕ} → ℕ → Tree k → Type 0
Proper n empty = Unit {0}
Proper {k} n (node l f) = (l < 2 ^ n) × ((b : Branch k) → Proper n (f b))

-- the bits of the tree are the first n sets of A
unfoldable pub Represents : {k : ℕ} → ℕ → Tree k → Assignment k → Type 0
Represents {k} n t A = (i : ℕ) → i < n → (p : Place k) → bit_at n t i p ≡ has (A i) p

-- "The positions of an assignment are all members of all its sets and all prefixes of these."
abbrev pub Position : {k : ℕ} → ℕ → Assignment k → Place k → Type 0
Position {k} n A p = (i : ℕ) × (i < n) × (q : Place k) × ((p ++ q) ∈ A i)

-- t is the tree of the assignment A to n variables
pub record TreeOf {k : ℕ} (n : ℕ) (A : Assignment k) (t : Tree k) : Type 0 where
  pub proper : Proper n t
  pub nodes : (p : Place k) → T (node_at t p) ↔ Position n A p
  pub bits : Represents n t A

-- A and B give the n variables the same sets
abbrev pub SameSets : {k : ℕ} → ℕ → Assignment k → Assignment k → Type 0
SameSets {k} n A B = (i : ℕ) → i < n → (p : Place k) → has (A i) p ≡ has (B i) p
