-- The successor code of the branches' codes under a label, by the kind of record. Document 01, "Machines": the transition rules of the five
-- atoms, the pairs of "or" and "and", and of "exists" the start, "the smallest set that contains 0 and is closed under nodes whose label is
-- 0 except, freely, for the bound variable", and the node, where "it collects all steps with the bound bit 0 or 1".
-- `low` is the workspace before the record's own share. All but the atoms' rules are for any number of branches. Assumes nothing.
use Rattle.std.specs.Prelude.{ℕ, zero, suc, ◌+◌, ◌*◌, ◌/◌, ◌%◌, ◌≤◌, ◌<◌, min, List, [], ◌∷◌, map, Bool, ◌&&◌, ◌||◌, cond, ◌≡◌, eqb, take, get_or, replicate}
use Rattle.std.specs.Int.Bits.{bit_or}
use Rattle.layout.specs.Shape.{Shaped, share_of}
use Rattle.words.specs.Word.{mem, word_where, any}
use Rattle.table.specs.Entry.{seen, Step, off, on, step_in}
use Rattle.table.specs.declared.plan.Plan.{Plan}
use Rattle.ops.specs.declared.Op.{Op}
use Rattle.ops.specs.declared.Op.TheVariants.{Subset, Single, Child1, Child2, Root, Not, Or, And, Exists}

-- a pair of states q and r is q * 64 + r
abbrev pub first_part : ℕ → ℕ
first_part x = x / 64 % 64

abbrev pub second_part : ℕ → ℕ
second_part x = x % 64

-- the pair of states of two machines
unfoldable pub pair_code : Step → Step → Step
pair_code f g l xs = f l (map first_part xs) * 64 + g l (map second_part xs)

-- does state q follow the states under the label l or m
unfoldable pub hit : Step → ℕ → ℕ → ℕ → List ℕ → Bool
hit f l m q is = eqb (f l is % 64) q || eqb (f m is % 64) q

-- does a list pass that has one member of each set
unfoldable pub choice : (List ℕ → Bool) → List ℕ → Bool
choice test [] = test []
choice test (x ∷ xs) = any (λ (i : ℕ). mem i x && choice (λ (is : List ℕ). test (i ∷ is)) xs) 64

-- does state q follow state i and a j that is a member of y
abbrev pub hit_row : Step → ℕ → ℕ → ℕ → ℕ → ℕ → ℕ → Bool
hit_row f l m y q i j = mem j y && hit f l m q (i ∷ j ∷ [])

-- the same of an i that is a member of x and some member of y
abbrev pub hit_set : Step → ℕ → ℕ → ℕ → ℕ → ℕ → ℕ → Bool
hit_set f l m x y q i = mem i x && any (hit_row f l m y q i) 64

-- the states that follow a member of each set, with the bound bit cleared or set
unfoldable pub exists_code : Step → ℕ → Step
exists_code f w l xs = word_where (λ (q : ℕ). choice (hit f (off w l) (on w l) q) xs) 64

-- the set s with the states that follow members of it at k branches under label 0, with the bound bit cleared or set
abbrev pub closer : ℕ → Step → ℕ → ℕ → ℕ
closer k f w s = bit_or s (exists_code f w 0 (replicate k s))

-- and so on, d times
unfoldable pub closing : ℕ → Step → ℕ → ℕ → ℕ → ℕ
closing k f w zero s = s
closing k f w (suc d) s = closer k f w (closing k f w d s)

-- the start of "exists": each time adds a state, of at most 64, or changes nothing
unfoldable pub exists_start : ℕ → Step → ℕ → ℕ
exists_start k f w = closing k f w 64 1

-- where an atom's table has the entry for a label and two states: the two bits, and the two states
unfoldable pub atom_index : ℕ → ℕ → ℕ → ℕ → ℕ → ℕ
atom_index wx wy l x y = l / wx % 2 * 32 + l / wy % 2 * 16 + x % 4 * 4 + y % 4

-- the rules of the atoms, from the bits of X and Y and the states of the two branches
-- subset: 0 good, 1 bad
abbrev pub subset_rule : ℕ → ℕ → ℕ → ℕ → ℕ
subset_rule x y i j = cond (eqb (i + j) 0 && (eqb x 0 || eqb y 1)) 0 1

-- one member: none, one, many
abbrev pub single_rule : ℕ → ℕ → ℕ → ℕ → ℕ
single_rule x y i j = min 2 (i + j + x)

-- a branch: 0 nothing, 1 x at this node alone, 2 matched, 3 bad. i is the state of the branch meant, and j of the other
abbrev pub child_rule : ℕ → ℕ → ℕ → ℕ → ℕ
child_rule x y i j =
    cond (eqb (x + y + i + j) 0) 0
    (cond (eqb (x + y) 0 && (eqb i 2 && eqb j 0 || eqb i 0 && eqb j 2)) 2
    (cond (eqb x 1 && eqb (y + i + j) 0) 1
    (cond (eqb x 0 && eqb y 1 && (eqb i 1 && eqb j 0)) 2 3)))

abbrev pub child1_rule : ℕ → ℕ → ℕ → ℕ → ℕ
child1_rule x y i j = child_rule x y i j

abbrev pub child2_rule : ℕ → ℕ → ℕ → ℕ → ℕ
child2_rule x y i j = child_rule x y j i

-- the root: 0 nothing, 1 x here alone, 2 bad
abbrev pub root_rule : ℕ → ℕ → ℕ → ℕ → ℕ
root_rule x y i j = cond (eqb (i + j) 0) x 2

-- a rule at a place of its table
abbrev pub rule_at : (ℕ → ℕ → ℕ → ℕ → ℕ) → ℕ → ℕ
rule_at f k = f (k / 32) (k / 16 % 2) (k / 4 % 4) (k % 4)

-- an atom's successor, from the place in its table; 0 for any other kind
abbrev pub atom_code : Op → ℕ → ℕ
atom_code Subset k = rule_at subset_rule k
atom_code Single k = rule_at single_rule k
atom_code Child1 k = rule_at child1_rule k
atom_code Child2 k = rule_at child2_rule k
atom_code Root k = rule_at root_rule k
atom_code Not k = 0
atom_code Or k = 0
atom_code And k = 0
atom_code Exists k = 0

-- the step by an atom's table
abbrev pub tabled : (ℕ → ℕ) → ℕ → ℕ → Step
tabled table wx wy l xs = table (atom_index wx wy l (get_or xs 0 0) (get_or xs 1 0))

-- the successor code by the kind of record, from the steps of its parts' machines and the weights of its variables' bits; 0 for "not",
-- whose machine is not explored
unfoldable pub kind_code : Op → Step → Step → ℕ → ℕ → Step
kind_code Subset f g wx wy l xs = tabled (rule_at subset_rule) wx wy l xs
kind_code Single f g wx wy l xs = tabled (rule_at single_rule) wx wy l xs
kind_code Child1 f g wx wy l xs = tabled (rule_at child1_rule) wx wy l xs
kind_code Child2 f g wx wy l xs = tabled (rule_at child2_rule) wx wy l xs
kind_code Root f g wx wy l xs = tabled (rule_at root_rule) wx wy l xs
kind_code Not f g wx wy l xs = 0
kind_code Or f g wx wy l xs = pair_code f g l xs
kind_code And f g wx wy l xs = pair_code f g l xs
kind_code Exists f g wx wy l xs = exists_code f wx l xs

-- the bits that a record looks at, where its variables' bits are wx and wy and its parts look at f and g
abbrev pub looks_of : Op → ℕ → ℕ → ℕ → ℕ → ℕ
looks_of Subset wx wy f g = bit_or wx wy
looks_of Single wx wy f g = wx
looks_of Child1 wx wy f g = bit_or wx wy
looks_of Child2 wx wy f g = bit_or wx wy
looks_of Root wx wy f g = wx
looks_of Not wx wy f g = f
looks_of Or wx wy f g = bit_or f g
looks_of And wx wy f g = bit_or f g
looks_of Exists wx wy f g = off wx f

-- the steps of a plan's parts, from their tables
abbrev pub first_step : List ℕ → Plan → Step
first_step low p = step_in p.shape low p.table1 p.look1

abbrev pub second_step : List ℕ → Plan → Step
second_step low p = step_in p.shape low p.table2 p.look2

unfoldable pub successor_of : List ℕ → Plan → Step
successor_of low p l xs = kind_code p.kind (first_step low p) (second_step low p) p.wx p.wy l xs

-- the successor function of a plan over a workspace: it reads only what lies before the plan's own share
abbrev pub succ_in : List ℕ → Plan → Step
succ_in ws p = successor_of (take p.base ws) p

-- the start code, from the step of the first part with k branches: 0 for all but "exists"
unfoldable pub start_code : Op → ℕ → Step → ℕ → ℕ
start_code Subset k f w = 0
start_code Single k f w = 0
start_code Child1 k f w = 0
start_code Child2 k f w = 0
start_code Root k f w = 0
start_code Not k f w = 0
start_code Or k f w = 0
start_code And k f w = 0
start_code Exists k f w = exists_start k f w

abbrev pub start_of : List ℕ → Plan → ℕ
start_of low p = start_code p.kind p.shape.branches (first_step low p) p.wx

-- the weights of a plan's bits and the places of its parts' tables are in range
pub record Ranged (p : Plan) : Type 0 where
  pub shape : Shaped p.shape
  pub table1_small : p.table1 < 4294967296
  pub table2_small : p.table2 < 4294967296
  pub wx_pos : 0 < p.wx
  pub wx_small : p.wx ≤ 128
  pub wy_pos : 0 < p.wy
  pub wy_small : p.wy ≤ 128

-- and its share is within a workspace of n bytes, and two labels that it does not tell apart have the same successors
pub record PlanRoom (p : Plan) (n : ℕ) : Type 0 where
  pub ranged : Ranged p
  pub share : p.base + share_of p.shape ≤ n
  pub blind : (low : List ℕ) (l : ℕ) (xs : List ℕ) → successor_of low p (seen p.looks l) xs ≡ successor_of low p l xs
