-- The search for the earliest accepted tree: each round settles one state more, in the order of the states' earliest trees.
-- Assumes nothing.
use Rattle.std.specs.Prelude.{ℕ, zero, suc, ◌-◌, Bool, true, false, ◌||◌, List, [], ◌∷◌, ◌++◌, ltb, eqb, length, get_or}
use Rattle.logic.specs.Meaning.{Branch}
use Rattle.logic.specs.Tree.{branches, sum_of, Tree, empty, node, positions}
use Rattle.logic.specs.Machine.{Machine, run}
use Rattle.logic.specs.Table.{Table}

-- The settled trees stand in a list by rank. `at s i` is the tree of rank i.
abbrev pub at : {k : ℕ} → List (Tree k) → ℕ → Tree k
at s i = get_or s i empty

-- of a list of ranks, one to a branch, that of branch b
abbrev pub rank : {k : ℕ} → List ℕ → Branch k → ℕ
rank is b = get_or is b.number 0

abbrev pub candidate : {k : ℕ} → List (Tree k) → ℕ → List ℕ → Tree k
candidate s l is = node l (λ b. at s (rank is b))

-- Is q the state of a settled tree?
unfoldable pub settled : {k : ℕ} → Machine k ℕ → List (Tree k) → ℕ → Bool
settled M [] q = false
settled M (t ∷ s) q = eqb (run M t) q || settled M s q

-- What a round reads: the step, whether a state is settled, and the state and the positions of each rank.
pub record View (k : ℕ) : Type 0 where
  pub step : ℕ → (Branch k → ℕ) → ℕ
  pub old : ℕ → Bool
  pub state : ℕ → ℕ
  pub size : ℕ → ℕ

unfoldable pub view : {k : ℕ} → Machine k ℕ → List (Tree k) → View k
view M s = record { step = M.step; old = settled M s; state = λ i. run M (at s i); size = λ i. positions (at s i) }

-- The best candidate met so far: nothing, or a label and the ranks of settled branches.
pub data Best : Type 0 where
  nothing : Best
  found : (l : ℕ) (is : List ℕ) → Best

abbrev pub target : {k : ℕ} → View k → ℕ → List ℕ → ℕ
target v l is = v.step l (λ b. v.state (rank is b))

abbrev pub weight : {k : ℕ} → View k → List ℕ → ℕ
weight {k} v is = sum_of (λ b. v.size (rank is b)) (branches k)

-- fewer positions than the best so far: of equals the first one met stays
unfoldable pub lighter : {k : ℕ} → View k → List ℕ → Best → Bool
lighter v is nothing = true
lighter v is (found l' is') = ltb (weight v is) (weight v is')

unfoldable pub choose : Bool → Bool → ℕ → List ℕ → Best → Best
choose true x l is b = b
choose false true l is b = found l is
choose false false l is b = b

unfoldable pub consider : {k : ℕ} → View k → ℕ → List ℕ → Best → Best
consider v l is b = choose (v.old (target v l is)) (lighter v is b) l is b

-- f at 0, 1, .. below n
unfoldable pub loop : (ℕ → Best → Best) → ℕ → Best → Best
loop f zero b = b
loop f (suc n) b = f n (loop f n b)

-- f at all lists of d numbers below n, in order: d nested loops
unfoldable pub tuples : ℕ → ℕ → (List ℕ → Best → Best) → Best → Best
tuples n zero f b = f [] b
tuples n (suc d) f b = loop (λ i. tuples n d (λ is. f (i ∷ is))) n b

-- one round's scan, of the labels below `labels` and of `many` settled trees
unfoldable pub pick : {k : ℕ} → ℕ → ℕ → View k → Best
pick {k} labels many v = loop (λ l. tuples many k (consider v l)) labels nothing

pub data Sought (k : ℕ) : Type 0 where
  tree : Tree k → Sought k
  large absent : Sought k

-- What a round makes of its best candidate t: `go` goes on with one settled tree more.
unfoldable pub verdict : {k : ℕ} → Bool → Bool → Tree k → (List (Tree k) → Sought k) → List (Tree k) → Sought k
verdict true y t go s = large
verdict false true t go s = tree t
verdict false false t go s = go (s ++ (t ∷ []))

unfoldable pub next : {k : ℕ} → (List (Tree k) → Sought k) → Machine k ℕ → ℕ → List (Tree k) → Best → Sought k
next go M P s nothing = absent
next go M P s (found l is) = verdict (ltb P (positions (candidate s l is))) (M.accepting (run M (candidate s l is))) (candidate s l is) go s

unfoldable pub rounds : {k : ℕ} → ℕ → Machine k ℕ → ℕ → ℕ → List (Tree k) → Sought k
rounds labels M P zero s = absent
rounds labels M P (suc d) s = next (rounds labels M P d) M P s (pick labels (length s) (view M s))

-- Does some state below c accept?
unfoldable pub any_below : (ℕ → Bool) → ℕ → Bool
any_below accepts zero = false
any_below accepts (suc q) = accepts q || any_below accepts q

unfoldable pub begin : {k : ℕ} → Bool → Bool → Sought k → Sought k
begin false y r = absent
begin true true r = tree empty
begin true false r = r

-- the earliest tree with labels below `labels` that the machine accepts, if it has at most P positions
unfoldable pub search : {k : ℕ} → ℕ → Table k → ℕ → Sought k
search labels a P =
    begin (any_below a.machine.accepting a.count) (a.machine.accepting a.machine.start) (rounds labels a.machine P (a.count - 1) (empty ∷ []))
