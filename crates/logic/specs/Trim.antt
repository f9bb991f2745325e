-- Trimmed trees; and the tree of an assignment, computed.
-- Assumes nothing.
use Rattle.std.specs.Prelude.{ℕ, zero, suc, ◌-◌, max, Bool, true, false, cond, not, ◌&&◌, List, [], ◌∷◌, T, eqb, length}
use Rattle.logic.specs.Meaning.{Branch, Place, is_same_branch, has, Assignment}
use Rattle.logic.specs.Tree.{branches, Tree, empty, node}
use Rattle.logic.specs.Machine.{all_of}
use Rattle.logic.specs.Reach.{word_of}

abbrev pub is_empty : {k : ℕ} → Tree k → Bool
is_empty empty = true
is_empty (node l f) = false

-- label 0 above empty branches
abbrev pub bare : {k : ℕ} → ℕ → (Branch k → Tree k) → Bool
bare {k} l f = eqb l 0 && all_of (λ b. is_empty (f b)) (branches k)

-- what refusal 19 asks of a tree
unfoldable pub Trimmed : {k : ℕ} → Tree k → Type 0
Trimmed empty = Unit {0}
Trimmed {k} (node l f) = T (not (bare l f)) × ((b : Branch k) → Trimmed (f b))

-- the places of X below branch c
unfoldable pub under : {k : ℕ} → Branch k → List (Place k) → List (Place k)
under c [] = []
under c ([] ∷ X) = under c X
under c ((b ∷ p) ∷ X) = cond (is_same_branch c b) (p ∷ under c X) (under c X)

-- more than the length of any member
unfoldable pub depth : {k : ℕ} → List (Place k) → ℕ
depth [] = 0
depth (p ∷ X) = max (suc (length p)) (depth X)

unfoldable pub trim : {k : ℕ} → Tree k → Tree k
trim empty = empty
trim (node l f) = cond (bare l (λ b. trim (f b))) empty (node l (λ b. trim (f b)))

-- the n-bit label whose bit of variable i is g i
unfoldable pub label_of : ℕ → (ℕ → Bool) → ℕ
label_of n g = word_of n (λ j. g (n - suc j))

unfoldable pub tree_to : {k : ℕ} → ℕ → ℕ → Assignment k → Tree k
tree_to n zero A = empty
tree_to n (suc d) A = node (label_of n (λ i. has (A i) [])) (λ c. tree_to n d (λ i. under c (A i)))

-- more than the length of any member of the first n sets
unfoldable pub depth_of : {k : ℕ} → ℕ → Assignment k → ℕ
depth_of zero A = 0
depth_of (suc n) A = max (depth (A n)) (depth_of n A)

unfoldable pub tree_of : {k : ℕ} → ℕ → Assignment k → Tree k
tree_of n A = trim (tree_to n (depth_of n A) A)
