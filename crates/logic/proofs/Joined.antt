-- The machines of formulas, each joined once it is built: each decides its formula, and its states are the least number for it.
-- Assumes nothing.
use Prim.Native.Nat.{ℕ, ◌^◌, ◌≤◌, ◌<◌}
use mathlib.Core.Path.{◌≡◌, sym, subst}
use mathlib.Core.Logic.{◌↔◌}
use mathlib.Core.Bool.{Bool}
use mathlib.Core.List.{List}
use native.Mathlib.Nat.{le_antisymm}
use lib.Dec.{T}
use lib.ListN.{length}
use Rattle.logic.specs.Meaning.{Assignment, Formula, Holds, Valid}
use Rattle.logic.specs.Tree.{Tree, TreeOf}
use Rattle.logic.specs.Rule.{Record, formula_at, Accepted}
use Rattle.logic.specs.Machine.{Machine, run, Decides}
use Rattle.logic.specs.Reach.{below, Reached}
use Rattle.logic.specs.Alike.{Full}
use Rattle.logic.specs.Table.{Table}
use Rattle.logic.specs.Least.{SameTrees, LeastStates, LeastBelow}
use Rattle.logic.specs.Joined.{join, constructed, joined_table}
use Rattle.logic.specs.Claims.{states_at}
use Rattle.logic.proofs.Places.{T-ext}
use Rattle.logic.proofs.Numbered.{reached-bound}
use Rattle.logic.proofs.Reach.{elem_below}
use Rattle.logic.proofs.Tables.{Right, KeepsRight, table-right, start-zero}
use Rattle.logic.proofs.Satisfiable.{sets_of, sets_represented}
use Rattle.logic.proofs.Rules.{record_valid}
use Rattle.logic.proofs.Classes.{at_most}
use Rattle.logic.proofs.Joining.{joined-full, joined-accepts, joined-least, joined-fewer, joined-start}

-- machines that decide the same formula accept the same trees
pub deciders_agree : {k : ℕ} {Q R : Type 0} (n : ℕ) (f : Formula k) (M : Machine k Q) (N : Machine k R) → Decides n M f → Decides n N f → SameTrees n M N
deciders_agree n f M N D E t o =
    let i = D t o (sets_of n t) (sets_represented n t) in
    let j = E t o (sets_of n t) (sets_represented n t) in
    T-ext (M.accepting (run M t)) (N.accepting (run N t)) (λ x. j.1 (i.0 x)) (λ x. i.1 (j.0 x))

-- one that accepts the same trees as a decider decides too
pub agree_decides : {k : ℕ} {Q R : Type 0} (n : ℕ) (f : Formula k) (M : Machine k Q) (N : Machine k R) → SameTrees n M N → Decides n N f → Decides n M f
agree_decides n f M N e D t o A r = subst (λ (v : Bool). T v ↔ Holds f A) (sym (e t o)) (D t o A r)

module _ {k : ℕ} (n : ℕ) where
  full_of : (f : Formula k) (a : Table k) → Right n f a → Full n a.count a.machine
  full_of f a r = (r.0, r.2)

  pub join-right : KeepsRight {k = k} n (join n)
  join-right f a r =
      let F = full_of f a r in
      let G = joined-full n a F in
      (G.0, agree_decides n f (join n a).machine a.machine (joined-accepts n a F) r.1, G.1)

  -- THE CONSTRUCTION over joined parts decides the formula; its count is that of its reachable states
  pub constructed-right : (f : Formula k) → Valid n f → Right n f (constructed n f)
  unfolding constructed
  constructed-right f v = table-right n (join n) join-right f v

  -- THE JOINED MACHINE decides its formula, and comes to all of its states
  pub joined-right : (f : Formula k) → Valid n f → Right n f (joined_table n f)
  unfolding joined_table
  joined-right f v = join-right f (constructed n f) (constructed-right f v)

  -- it has no more of them than were built
  pub joined-few : (f : Formula k) → Valid n f → (joined_table n f).count ≤ (constructed n f).count
  unfolding joined_table
  joined-few f v = joined-fewer n (constructed n f) (full_of f (constructed n f) (constructed-right f v))

  -- state 0 is the state of the empty tree
  join-zero : (f : Formula k) (a : Table k) → Right n f a → a.machine.start ≡ 0 → (join n a).machine.start ≡ 0
  join-zero f a r e = joined-start n a (full_of f a r) e

  pub joined-zero : (f : Formula k) → Valid n f → (joined_table n f).machine.start ≡ 0
  unfolding joined_table constructed
  joined-zero f v = join-zero f (constructed n f) (constructed-right f v) (start-zero n (join n) join-right join-zero f v)

  -- THE REPORTED STATES are the least number for the formula
  pub least-states : (f : Formula k) → Valid n f → LeastStates n f (joined_table n f).count
  unfolding joined_table
  least-states f v =
      let r = constructed-right f v in
      let j = join-right f (constructed n f) r in
      record {
        enough = ((join n (constructed n f)).machine, j.0, j.1);
        fewest = λ Q N D. joined-least n (constructed n f) (full_of f (constructed n f) r) Q N (deciders_agree n f (constructed n f).machine N r.1 D);
      }

  -- there is one such number only
  pub least_unique : (f : Formula k) (c d : ℕ) → LeastStates n f c → LeastStates n f d → c ≡ d
  least_unique f c d a b = le_antisymm (below f c d a b) (below f d c b a)
    where
      below : (f : Formula k) (c d : ℕ) → LeastStates n f c → LeastStates n f d → c ≤ d
      below f c d a b = at_most n c d b.enough.0 b.enough.1 (a.fewest ℕ b.enough.0 b.enough.2)

  -- A CONTRACT'S FORM of it, over the machines whose states are the numbers below d
  pub least-below : (f : Formula k) → Valid n f → LeastBelow n f (joined_table n f).count
  least-below f v =
      let l = least-states f v in
      record {
        enough = l.enough;
        fewest = λ d M B D. at_most n (joined_table n f).count d M B (l.fewest ℕ M D);
      }

  -- it is one number only, and the same as that over any type of states
  pub below_unique : (f : Formula k) (c d : ℕ) → LeastBelow n f c → LeastBelow n f d → c ≡ d
  below_unique f c d a b = le_antisymm (a.fewest d b.enough.0 b.enough.1 b.enough.2) (b.fewest c a.enough.0 a.enough.1 a.enough.2)

  pub below-least : (f : Formula k) → Valid n f → (q : ℕ) → LeastBelow n f q ↔ ((joined_table n f).count ≡ q)
  below-least f v q = (
    below_unique f (joined_table n f).count q (least-below f v),
    λ e. subst (LeastBelow n f) e (least-below f v),
  )

  -- so any machine that decides the formula, all of whose states are reached, has that many after joining
  pub any-joined : (f : Formula k) → Valid n f → (a : Table k) → Right n f a → (join n a).count ≡ (joined_table n f).count
  any-joined f v a r =
      let j = join-right f a r in
      least_unique f (join n a).count (joined_table n f).count
      (record {
        enough = ((join n a).machine, j.0, j.1);
        fewest = λ Q N D. joined-least n a (full_of f a r) Q N (deciders_agree n f a.machine N r.1 D);
      }) (least-states f v)

-- ---- for the records of an accepted rule
module _ (k n : ℕ) (rs : List Record) (ok : Accepted k n rs) (r : ℕ) (h : r < length rs) where
  abbrev F : Formula k
  F = formula_at rs r

  valid : Valid {k = k} n F
  valid = record_valid k n rs ok.1 r h

  -- THE THEOREM over any type of states
  pub record_states : LeastStates {k = k} n (formula_at rs r) (joined_table {k = k} n (formula_at rs r)).count
  record_states = least-states n F valid

  -- what refusal 14 counts: the states that the construction over joined parts comes to on trees with n-bit labels
  pub states-counted : (q : ℕ) → (q < states_at k n rs r) ↔ Reached (constructed {k = k} n (formula_at rs r)).machine (below (2 ^ n)) q
  states-counted q =
      let w = constructed-right {k = k} n F valid in
      (w.2 q, reached-bound n (states_at k n rs r) (constructed n F).machine (below (2 ^ n)) w.0 (λ l t. (elem_below l (2 ^ n)).0 t) q)

  -- EACH RECORD'S MACHINE DECIDES ITS RECORD: it accepts the tree of an assignment exactly if the record holds of the assignment
  pub record_decides : (A : Assignment k) (t : Tree k) → TreeOf n A t
      → let M = (joined_table {k = k} n (formula_at rs r)).machine in T (M.accepting (run M t)) ↔ Holds (formula_at rs r) A
  record_decides A t o = (joined-right {k = k} n F valid).1 t o.proper A o.bits
