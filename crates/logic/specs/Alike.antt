-- What a builder has to show of a machine, whatever order it finds the states in.
-- Assumes nothing.
use Rattle.std.specs.Prelude.{ℕ, ◌^◌, ◌<◌, ◌≡◌, ◌↔◌, Bool, List, [], ◌∷◌, T}
use Rattle.logic.specs.Meaning.{Branch, Formula}
use Rattle.logic.specs.Tree.{Tree, empty, node, Proper}
use Rattle.logic.specs.Machine.{Machine, Bounded, run, with_bit, Decides}
use Rattle.logic.specs.Reach.{elem, below, Reached}
use Rattle.logic.specs.Table.{Table}
use Rattle.logic.specs.Joined.{constructed, joined_table}

-- M's states are those below c, and it comes to each of them
abbrev pub Full : {k : ℕ} → ℕ → ℕ → Machine k ℕ → Type 0
Full n c M = Bounded n c M × ((q : ℕ) → q < c → Reached M (below (2 ^ n)) q)

unfoldable pub Distinct : List ℕ → Type 0
Distinct [] = Unit {0}
Distinct (q ∷ L) = (T (elem q L) → ⊥) × Distinct L

-- steps of M under the labels ls do not leave L
abbrev pub Closed : {k : ℕ} → Machine k ℕ → List ℕ → List ℕ → Type 0
Closed {k} M ls L = (l : ℕ) → T (elem l ls) → (s : Branch k → ℕ) → ((b : Branch k) → T (elem (s b) L)) → T (elem (M.step l s) L)

-- L lists the states that M comes to, each once
pub record Lists {k : ℕ} (n : ℕ) (M : Machine k ℕ) (L : List ℕ) : Type 0 where
  pub distinct : Distinct L
  pub only : (q : ℕ) → T (elem q L) → Reached M (below (2 ^ n)) q
  pub begins : T (elem M.start L)
  pub closed : Closed M (below (2 ^ n)) L

-- M and N tell the same trees apart
abbrev pub Alike : {k : ℕ} → ℕ → Machine k ℕ → Machine k ℕ → Type 0
Alike {k} n M N = (t u : Tree k) → Proper n t → Proper n u → (run M t ≡ run M u) ↔ (run N t ≡ run N u)

-- M and N do the same at states below c
pub record Agrees {k : ℕ} (n c : ℕ) (M N : Machine k ℕ) : Type 0 where
  pub starts : M.start ≡ N.start
  pub steps : (l : ℕ) → l < 2 ^ n → (s : Branch k → ℕ) → ((b : Branch k) → s b < c) → M.step l s ≡ N.step l s
  pub accepts : (q : ℕ) → q < c → M.accepting q ≡ N.accepting q

-- M decides f, and is a's machine up to the names of its states
pub record MachineOf {k : ℕ} (n : ℕ) (f : Formula k) (a : Table k) (M : Machine k ℕ) : Type 0 where
  pub decides : Decides n M f
  pub alike : Alike n M a.machine

-- M is the construction of f over joined parts
abbrev pub ConstructedOf : {k : ℕ} → ℕ → Formula k → Machine k ℕ → Type 0
ConstructedOf n f M = MachineOf n f (constructed n f) M

-- M is f's machine with its states joined
abbrev pub JoinedOf : {k : ℕ} → ℕ → Formula k → Machine k ℕ → Type 0
JoinedOf n f M = MachineOf n f (joined_table n f) M

-- v is t with any bits for variable x, also at nodes below t's
unfoldable pub Varies : {k : ℕ} → ℕ → ℕ → Tree k → Tree k → Type 0
Varies n x empty empty = Unit {0}
Varies {k} n x empty (node m g) = ((b : Bool) × (m ≡ with_bit n x b 0)) × ((c : Branch k) → Varies n x empty (g c))
Varies n x (node l f) empty = ⊥
Varies {k} n x (node l f) (node m g) = ((b : Bool) × (m ≡ with_bit n x b l)) × ((c : Branch k) → Varies n x (f c) (g c))

-- M comes to q on such a tree
abbrev pub Comes : {k : ℕ} → ℕ → ℕ → Machine k ℕ → Tree k → ℕ → Type 0
Comes {k} n x M t q = (v : Tree k) × Varies n x t v × Proper n v × (run M v ≡ q)
