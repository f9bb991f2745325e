-- A rule of a table, proved at all of its entries by one test that antt computes.
-- Assumes nothing.
use Rattle.words.proofs.Vocabulary.{ℕ, ◌<◌, ◌+◌, suc, zero, Bool, true, ◌&&◌, ◌≡◌, List, [], ◌∷◌, eqb, ltb, eqb-true, ltb-true}
use Rattle.words.proofs.Vocabulary.{length, get_or, le_of_suc-le-suc, not-suc-le-zero, add-zero, add-suc, suc-add, zero-add}
use Rattle.words.proofs.Any.{and_both}
use Rattle.table.specs.Succ.{rule_at}

-- the test f passes at each entry of the list and its place, counted from i
abbrev pub every : (ℕ → ℕ → Bool) → ℕ → List ℕ → Bool
every f i [] = true
every f i (x ∷ xs) = f i x && every f (suc i) xs

from : (f : ℕ → ℕ → Bool) (xs : List ℕ) (i : ℕ) → every f i xs ≡ true → (k : ℕ) → k < length xs → f (i + k) (get_or xs k 0) ≡ true
from f [] i t k h = absurd (not-suc-le-zero h)
from f (x ∷ xs) i t zero h = rw add-zero (and_both (f i x) (every f (suc i) xs) t).0
from f (x ∷ xs) i t (suc k) h = rw (add-suc, ← suc-add) (from f xs (suc i) (and_both (f i x) (every f (suc i) xs) t).1 k (le_of_suc-le-suc h))

-- an atom's table has the atom's rule
pub rule-at : (f : ℕ → ℕ → ℕ → ℕ → ℕ) (xs : List ℕ) → every (λ (k x : ℕ). eqb x (rule_at f k)) 0 xs ≡ true → (k : ℕ) → k < length xs
    → get_or xs k 0 ≡ rule_at f k
rule-at f xs t k h = eqb-true (get_or xs k 0) (rule_at f k) (rw zero-add at (from (λ (k x : ℕ). eqb x (rule_at f k)) xs 0 t k h))

-- its entries are bytes
pub byte_at : (xs : List ℕ) → every (λ (k x : ℕ). ltb x 256) 0 xs ≡ true → (k : ℕ) → k < length xs → get_or xs k 0 < 256
byte_at xs t k h = ltb-true (get_or xs k 0) 256 (from (λ (k x : ℕ). ltb x 256) xs 0 t k h)
