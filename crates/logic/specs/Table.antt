-- The machine of each formula, with exactly the states that can be reached, numbered, over what is kept of the machines of its parts.
-- Assumes nothing.
use Rattle.std.specs.Prelude.{ℕ, ◌+◌, ◌*◌, ◌/◌, ◌%◌, ◌^◌, Bool, true, false, ◌&&◌, ◌||◌, List, [], ◌∷◌, ◌++◌, ltb, length, get_or}
use Rattle.logic.specs.Meaning.{Formula, subset, singleton, successor, root, negation, disjunction, conjunction, exists}
use Rattle.logic.specs.Rule.{Record, successor_at}
use Rattle.logic.specs.Machine.{Machine, complement}
use Rattle.logic.specs.Atom.{subset_machine, singleton_machine, successor_machine, root_machine}
use Rattle.logic.specs.Reach.{below, reach, numbered, projection}

pub record Table (k : ℕ) : Type 0 where
  pub count : ℕ
  pub machine : Machine k ℕ

-- both machines at once; the pair of states q and r is the number q * c + r, where N's states are below c
unfoldable pub coded_product : {k : ℕ} → (Bool → Bool → Bool) → ℕ → Machine k ℕ → Machine k ℕ → Machine k ℕ
coded_product op c M N = record {
  start = M.start * c + N.start;
  step = λ l s. M.step l (λ b. s b / c) * c + N.step l (λ b. s b % c);
  accepting = λ q. op (M.accepting (q / c)) (N.accepting (q % c));
}

-- M with the states that it reaches under n-bit labels; d: a bound on them
unfoldable pub build : {k : ℕ} → ℕ → ℕ → Machine k ℕ → Table k
build n d M = let L = reach M (below (2 ^ n)) d in record { count = length L; machine = numbered M L }

unfoldable pub product_table : {k : ℕ} → ℕ → (Bool → Bool → Bool) → Table k → Table k → Table k
product_table n op a b = build n (a.count * b.count) (coded_product op b.count a.machine b.machine)

unfoldable pub projection_table : {k : ℕ} → ℕ → ℕ → Table k → Table k
projection_table n x a = build n (2 ^ a.count) (projection n x a.count a.machine)

unfoldable pub complement_table : {k : ℕ} → Table k → Table k
complement_table a = record { count = a.count; machine = complement a.machine }

-- the machine of a formula, where `keep` says what is kept of a machine once it is built
unfoldable pub table_by : {k : ℕ} → (Table k → Table k) → ℕ → Formula k → Table k
table_by keep n (subset x y) = build n 2 (subset_machine n x y)
table_by keep n (singleton x) = build n 3 (singleton_machine n x)
table_by keep n (successor i x y) = build n 4 (successor_machine n i x y)
table_by keep n (root x) = build n 3 (root_machine n x)
table_by keep n (negation f) = complement_table (keep (table_by keep n f))
table_by keep n (disjunction f g) = product_table n ◌||◌ (keep (table_by keep n f)) (keep (table_by keep n g))
table_by keep n (conjunction f g) = product_table n ◌&&◌ (keep (table_by keep n f)) (keep (table_by keep n g))
table_by keep n (exists x f) = projection_table n x (keep (table_by keep n f))

-- what is kept of it
abbrev pub kept_by : {k : ℕ} → (Table k → Table k) → ℕ → Formula k → Table k
kept_by keep n f = keep (table_by keep n f)

-- a record: an atom, or a combination of earlier records, by their numbers
pub data Kind (k : ℕ) : Type 0 where
  atom : Formula k → Kind k
  not_of : ℕ → Kind k
  or_of and_of some_of : ℕ → ℕ → Kind k

unfoldable pub kind_of : {k : ℕ} → Record → Kind k
kind_of r =
    let a = r.first in
    let b = r.second in
    get_or (atom (subset a b) ∷ atom (singleton a) ∷ atom (successor_at 0 a b) ∷ atom (successor_at 1 a b) ∷ atom (root a)
    ∷ not_of a ∷ or_of a b ∷ and_of a b ∷ some_of a b ∷ atom (successor_at 2 a b) ∷ []) r.op (atom (root 0))

-- the machine of a record, from what is kept of those of the earlier records
unfoldable pub table_of : {k : ℕ} → (Table k → Table k) → ℕ → Kind k → List (Table k) → Table k
table_of keep n (atom f) ts = table_by keep n f
table_of keep n (not_of a) ts = complement_table (get_or ts a (kept_by keep n (root 0)))
table_of keep n (or_of a b) ts = product_table n ◌||◌ (get_or ts a (kept_by keep n (root 0))) (get_or ts b (kept_by keep n (root 0)))
table_of keep n (and_of a b) ts = product_table n ◌&&◌ (get_or ts a (kept_by keep n (root 0))) (get_or ts b (kept_by keep n (root 0)))
table_of keep n (some_of x a) ts = projection_table n x (get_or ts a (kept_by keep n (root 0)))

-- what is kept of the machines of all records; or the number of the first reached one that is built with more than c states
pub data Built (k : ℕ) : Type 0 where
  over : ℕ → Built k
  built : List (Table k) → Built k

unfoldable pub admit : {k : ℕ} → Bool → Table k → (List (Table k) → Built k) → List (Table k) → Built k
admit true t go ts = over (length ts)
admit false t go ts = go (ts ++ (t ∷ []))

-- the records that follow those of ts, where `used` says which records are reached: each is built, compared with c, and kept
unfoldable pub build_all : {k : ℕ} → (Table k → Table k) → ℕ → ℕ → (ℕ → Bool) → List Record → List (Table k) → Built k
build_all keep n c used [] ts = built ts
build_all keep n c used (r ∷ rs) ts =
    let t = table_of keep n (kind_of r) ts in admit (used (length ts) && ltb c t.count) (keep t) (build_all keep n c used rs) ts
