-- The least number of states: document 02, request A8, "Smaller machines". No definition here names a construction.
-- Assumes nothing.
use Rattle.std.specs.Prelude.{ℕ, ◌≤◌, ◌<◌, ◌≡◌, ◌↔◌, T}
use Rattle.logic.specs.Meaning.{Assignment, Formula, Holds}
use Rattle.logic.specs.Tree.{Tree, Proper, TreeOf}
use Rattle.logic.specs.Machine.{Machine, Bounded, run, Decides}

-- "accepts the same trees, those with label 0 above two empty branches included": every tree with n-bit labels
abbrev pub SameTrees : {k : ℕ} {Q R : Type 0} → ℕ → Machine k Q → Machine k R → Type 0
SameTrees {k} n M N = (t : Tree k) → Proper n t → M.accepting (run M t) ≡ N.accepting (run N t)

-- what A8 does not mean: M decides f of the trees of assignments alone, none of which has label 0 above empty branches. Fewer states may do
abbrev pub DecidesAssigned : {k : ℕ} → ℕ → Machine k ℕ → Formula k → Type 0
DecidesAssigned {k} n M f = (t : Tree k) (A : Assignment k) → TreeOf n A t → T (M.accepting (run M t)) ↔ Holds f A

-- N has at least c states: c trees lead it to different ones
abbrev pub AtLeast : {k : ℕ} {Q : Type 0} → ℕ → Machine k Q → ℕ → Type 0
AtLeast {k} n N c = (t : ℕ → Tree k) × ((i : ℕ) → i < c → Proper n (t i)) × ((i j : ℕ) → i < j → j < c → run N (t i) ≡ run N (t j) → ⊥)

-- "no complete deterministic machine with fewer accepts the same trees" as M
abbrev pub Least : {k : ℕ} → ℕ → Machine k ℕ → ℕ → Type 1
Least {k} n M c = (Q : Type 0) (N : Machine k Q) → SameTrees n M N → AtLeast n N c

-- the least number of states for the formula f, whatever states are: a machine with c states decides f, and none with fewer does
pub record LeastStates {k : ℕ} (n : ℕ) (f : Formula k) (c : ℕ) : Type 1 where
  pub enough : (M : Machine k ℕ) × Bounded n c M × Decides n M f
  pub fewest : (Q : Type 0) (N : Machine k Q) → Decides n N f → AtLeast n N c

-- the same of the machines whose states are numbers, every finite machine but for names: what a contract can carry, since it is of Type 0.
-- A machine with states below q decides f, of every tree with n-bit labels, and for every d one with states below d that does has q ≤ d
pub record LeastBelow {k : ℕ} (n : ℕ) (f : Formula k) (q : ℕ) : Type 0 where
  pub enough : (M : Machine k ℕ) × Bounded n q M × Decides n M f
  pub fewest : (d : ℕ) (M : Machine k ℕ) → Bounded n d M → Decides n M f → q ≤ d
