-- A set of numbers below 64 as a word: q is a member where the word's binary digit q is set. Document 01, "Machines": "a set of states is
-- one 64-bit word; its size and its smallest member are counts of that word's bits". Assumes nothing.
use Rattle.std.specs.Prelude.{ℕ, zero, suc, ◌+◌, ◌*◌, ◌/◌, ◌%◌, ◌<◌, ◌≡◌, Bool, true, false, ◌||◌, eqb}
use Rattle.std.specs.Int.Count.{ones}

-- is q a member
unfoldable pub mem : ℕ → ℕ → Bool
mem zero n = eqb (n % 2) 1
mem (suc q) n = mem q (n / 2)

abbrev pub digit : Bool → ℕ
digit true = 1
digit false = 0

-- the word of the numbers below k that pass the test
unfoldable pub word_where : (ℕ → Bool) → ℕ → ℕ
word_where f zero = 0
word_where f (suc k) = word_where (λ (q : ℕ). f (suc q)) k * 2 + digit (f zero)

-- does a number below n pass the test
unfoldable pub any : (ℕ → Bool) → ℕ → Bool
any f zero = false
any f (suc n) = any f n || f n

-- r is the smallest member of x
pub record Smallest (x r : ℕ) : Type 0 where
  pub top : r < 64
  pub is : mem r x ≡ true
  pub below : (q : ℕ) → q < r → mem q x ≡ false

-- r is x without its member q: one member less
pub record Without (x q r : ℕ) : Type 0 where
  pub same : (t : ℕ) → mem t x ≡ (eqb q t || mem t r)
  pub less : ones x ≡ ones r + 1

-- the members of a set are below n
abbrev pub Below : ℕ → ℕ → Type 0
Below n x = (q : ℕ) → q < 64 → mem q x ≡ true → q < n
