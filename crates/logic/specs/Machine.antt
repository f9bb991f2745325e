-- Deterministic bottom-up machines on trees.
-- Assumes nothing.
use Rattle.std.specs.Prelude.{ℕ, zero, suc, ◌+◌, ◌*◌, ◌-◌, ◌/◌, ◌%◌, ◌^◌, ◌<◌, ◌≡◌, ◌↔◌, Bool, true, false, not, ◌&&◌, ◌||◌, List, [], ◌∷◌, T}
use Rattle.logic.specs.Meaning.{Branch, Assignment, Formula, Holds}
use Rattle.logic.specs.Tree.{Tree, empty, node, Proper, Represents}

unfoldable pub all_of : {A : Type 0} → (A → Bool) → List A → Bool
all_of g [] = true
all_of g (a ∷ as') = g a && all_of g as'

unfoldable pub any_of : {A : Type 0} → (A → Bool) → List A → Bool
any_of g [] = false
any_of g (a ∷ as') = g a || any_of g as'

abbrev pub bit_of : Bool → ℕ
bit_of true = 1
bit_of false = 0

unfoldable pub set_low : ℕ → Bool → ℕ → ℕ
set_low zero b l = (l / 2) * 2 + bit_of b
set_low (suc j) b l = set_low j b (l / 2) * 2 + l % 2

-- the label l with bit b for variable x
unfoldable pub with_bit : ℕ → ℕ → Bool → ℕ → ℕ
with_bit n x b l = set_low (n - suc x) b l

pub record Machine (k : ℕ) (Q : Type 0) : Type 0 where
  pub start : Q
  pub step : ℕ → (Branch k → Q) → Q
  pub accepting : Q → Bool

-- M's states are numbers below c, under n-bit labels
abbrev pub Bounded : {k : ℕ} → ℕ → ℕ → Machine k ℕ → Type 0
Bounded {k} n c M = (M.start < c) × ((l : ℕ) → l < 2 ^ n → (s : Branch k → ℕ) → ((b : Branch k) → s b < c) → M.step l s < c)

unfoldable pub run : {k : ℕ} {Q : Type 0} → Machine k Q → Tree k → Q
run M empty = M.start
run M (node l f) = M.step l (λ b. run M (f b))

abbrev pub Decides : {k : ℕ} {Q : Type 0} → ℕ → Machine k Q → Formula k → Type 0
Decides {k} n M f = (t : Tree k) → Proper n t → (A : Assignment k) → Represents n t A → T (M.accepting (run M t)) ↔ Holds f A

abbrev pub complement : {k : ℕ} {Q : Type 0} → Machine k Q → Machine k Q
complement M = record { start = M.start; step = M.step; accepting = λ q. not (M.accepting q) }

abbrev pub product : {k : ℕ} {Q R : Type 0} → (Bool → Bool → Bool) → Machine k Q → Machine k R → Machine k (Q × R)
product op M N = record {
  start = (M.start, N.start);
  step = λ l s. (M.step l (λ b. (s b).0), N.step l (λ b. (s b).1));
  accepting = λ s. op (M.accepting s.0) (N.accepting s.1);
}

-- the states that M comes to on trees whose labels are 0 but for variable x
pub data Blank {k : ℕ} {Q : Type 0} (n x : ℕ) (M : Machine k Q) : Q → Type 0 where
  none : Blank n x M M.start
  grown : (v : Bool) (s : Branch k → Q) → ((b : Branch k) → Blank n x M (s b)) → Blank n x M (M.step (with_bit n x v 0) s)

-- E runs the sets of M's states that come from all choices of variable x. `Ok S`: S is a state of E; `Has S q`: q is in the set S
pub record Projects {k : ℕ} {Q S : Type 0} (n x : ℕ) (M : Machine k Q) (E : Machine k S) (Ok : S → Type 0) (Has : S → Q → Type 0) : Type 0 where
  pub start_ok : Ok E.start
  pub step_ok : (l : ℕ) → l < 2 ^ n → (s : Branch k → S) → ((b : Branch k) → Ok (s b)) → Ok (E.step l s)
  pub start-only : (q : Q) → Has E.start q → Blank n x M q
  pub start-all : (q : Q) → Blank n x M q → Has E.start q
  pub step-only : (l : ℕ) → l < 2 ^ n → (s : Branch k → S) → ((b : Branch k) → Ok (s b)) → (q : Q) → Has (E.step l s) q
      → (v : Bool) × (r : Branch k → Q) × ((b : Branch k) → Has (s b) (r b)) × (M.step (with_bit n x v l) r ≡ q)
  pub step-all : (l : ℕ) → l < 2 ^ n → (s : Branch k → S) → ((b : Branch k) → Ok (s b))
      → (v : Bool) (r : Branch k → Q) → ((b : Branch k) → Has (s b) (r b)) → Has (E.step l s) (M.step (with_bit n x v l) r)
  pub accepts-only : (s : S) → Ok s → T (E.accepting s) → (q : Q) × Has s q × T (M.accepting q)
  pub accepts-all : (s : S) → Ok s → (q : Q) → Has s q → T (M.accepting q) → T (E.accepting s)

-- M behaves as N does, at the states that R relates
pub record Simulates {k : ℕ} {Q S : Type 0} (n : ℕ) (M : Machine k Q) (N : Machine k S) (R : Q → S → Type 0) : Type 0 where
  pub at_start : R M.start N.start
  pub at_step : (l : ℕ) → l < 2 ^ n → (s : Branch k → Q) (r : Branch k → S) → ((b : Branch k) → R (s b) (r b)) → R (M.step l s) (N.step l r)
  pub at-end : (q : Q) (s : S) → R q s → M.accepting q ≡ N.accepting s
