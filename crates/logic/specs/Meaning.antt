-- The meaning of WS2S: document 01, "The logic decided". The number k of successors is a parameter; two successors are k = 2.
-- Nothing here knows of trees, machines or strips. Assumes nothing.
use Rattle.std.specs.Prelude.{ℕ, ◌<◌, ◌≡◌, ◌↔◌, ◌⊎◌, Bool, true, false, cond, ◌&&◌, ◌||◌, List, [], ◌∷◌, ◌++◌, T, eqb}

infix 50 ◌∈◌
-- a successor's number, counted from 0: document 01's branch i is number i - 1
pub record Branch (k : ℕ) : Type 0 where
  pub number : ℕ
  pub below : number < k

-- "finite words over 1 and 2", the root end first: ε is [], and branch b of p is p ++ (b ∷ [])
abbrev pub Place : ℕ → Type 0
Place k = List (Branch k)

abbrev pub is_same_branch : {k : ℕ} → Branch k → Branch k → Bool
is_same_branch b c = eqb b.number c.number

unfoldable pub same_place : {k : ℕ} → Place k → Place k → Bool
same_place [] [] = true
same_place [] (c ∷ q) = false
same_place (b ∷ p) [] = false
same_place (b ∷ p) (c ∷ q) = is_same_branch b c && same_place p q

-- "a finite set of places": its members are listed, in any order, however often
abbrev pub FiniteSet : ℕ → Type 0
FiniteSet k = List (Place k)

unfoldable pub has : {k : ℕ} → FiniteSet k → Place k → Bool
has [] p = false
has (q ∷ X) p = same_place p q || has X p

abbrev pub ◌∈◌ : {k : ℕ} → Place k → FiniteSet k → Type 0
p ∈ X = T (has X p)

-- p is the one member of X: X = {p}
abbrev pub IsOnly : {k : ℕ} → Place k → FiniteSet k → Type 0
IsOnly {k} p X = (q : Place k) → q ∈ X ↔ (q ≡ p)

-- "An assignment gives each of the n variables one finite set"; those from n on are never looked at
abbrev pub Assignment : ℕ → Type 0
Assignment k = ℕ → FiniteSet k

-- "some finite set, put for X": the assignment A with the set X for variable x
abbrev pub assign : {k : ℕ} → ℕ → FiniteSet k → Assignment k → Assignment k
assign x X A i = cond (eqb i x) X (A i)

-- the lines of document 01's table: X ⊆ Y, Sing(X), X = Yi, X = ε, not, or, and, exists; a variable is its number
pub data Formula (k : ℕ) : Type 0 where
  subset : ℕ → ℕ → Formula k
  singleton : ℕ → Formula k
  successor : Branch k → ℕ → ℕ → Formula k
  root : ℕ → Formula k
  negation : Formula k → Formula k
  disjunction conjunction : Formula k → Formula k → Formula k
  exists : ℕ → Formula k → Formula k

-- the variables of the formula are below n
unfoldable pub Valid : {k : ℕ} → ℕ → Formula k → Type 0
Valid n (subset x y) = (x < n) × (y < n)
Valid n (singleton x) = x < n
Valid n (successor i x y) = (x < n) × (y < n)
Valid n (root x) = x < n
Valid n (negation f) = Valid n f
Valid n (disjunction f g) = Valid n f × Valid n g
Valid n (conjunction f g) = Valid n f × Valid n g
Valid n (exists x f) = (x < n) × Valid n f

-- the column "holds when"; inner use of a variable number hides the outer one, because `assign` replaces its set
unfoldable pub Holds : {k : ℕ} → Formula k → Assignment k → Type 0
Holds {k} (subset x y) A = (p : Place k) → p ∈ A x → p ∈ A y
Holds {k} (singleton x) A = (p : Place k) × IsOnly p (A x)
Holds {k} (successor b x y) A = (p : Place k) × IsOnly p (A y) × IsOnly (p ++ (b ∷ [])) (A x)
Holds {k} (root x) A = IsOnly [] (A x)
Holds {k} (negation f) A = ¬ Holds f A
Holds {k} (disjunction f g) A = Holds f A ⊎ Holds g A
Holds {k} (conjunction f g) A = Holds f A × Holds g A
Holds {k} (exists x f) A = (X : FiniteSet k) × Holds f (assign x X A)
