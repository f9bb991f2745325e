-- A rule: its numbered records, each of which names earlier ones only, and the formula of each. Document 01, "The logic decided".
-- Assumes nothing.
use Rattle.std.specs.Prelude.{ℕ, suc, ◌-◌, ◌<◌, Bool, true, false, ◌&&◌, List, [], ◌∷◌, ◌++◌, T, eqb, ltb, length, get_or}
use Rattle.std.proofs.Math.Decide.{dec_lt}
use Rattle.logic.specs.Meaning.{Assignment, Formula, subset, singleton, successor, root, negation, disjunction, conjunction, exists, Holds}

-- an op and two fields
pub record Record : Type 0 where
  pub op : ℕ
  pub first : ℕ
  pub second : ℕ

abbrev pub no_record : Record
no_record = record { op = 0; first = 0; second = 0 }

-- X = Y followed by successor number i, where there are so many successors
unfoldable pub successor_at : {k : ℕ} → ℕ → ℕ → ℕ → Formula k
successor_at {k} i x y = elim (dec_lt i k) [ yes h ↦ successor (record { number = i; below = h }) x y | no h ↦ root 0 ]

-- document 01's column "op": the formula of a record, from the formulas fs of the records before it.
-- Op 9 is X = Y3, for three successors: with two, `good` admits no such record.
unfoldable pub formula_of : {k : ℕ} → Record → List (Formula k) → Formula k
formula_of r fs =
    let a = r.first in
    let b = r.second in
    let fa = get_or fs a (root 0) in
    let fb = get_or fs b (root 0) in
    get_or (subset a b ∷ singleton a ∷ successor_at 0 a b ∷ successor_at 1 a b ∷ root a ∷ negation fa ∷ disjunction fa fb ∷ conjunction fa fb ∷ exists a fb
    ∷ successor_at 2 a b ∷ []) r.op (root 0)

-- fs, the formulas of earlier records, followed by those of rs
unfoldable pub extend : {k : ℕ} → List (Formula k) → List Record → List (Formula k)
extend fs [] = fs
extend fs (r ∷ rs) = extend (fs ++ (formula_of r fs ∷ [])) rs

-- the formula of record i
unfoldable pub formula_at : {k : ℕ} → List Record → ℕ → Formula k
formula_at rs i = get_or (extend [] rs) i (root 0)

abbrev pub last_of : List Record → ℕ
last_of rs = length rs - 1

-- "The last record is the rule. An assignment satisfies the rule if the last record holds for it."
abbrev pub Satisfies : {k : ℕ} → List Record → Assignment k → Type 0
Satisfies rs A = Holds (formula_at rs (last_of rs)) A

-- record number i meets none of the refusals 7 to 10: a known op, variables below n, record numbers below its own, an unused field 0
unfoldable pub good : ℕ → ℕ → ℕ → Record → Bool
good k n i r =
    let a = r.first in
    let b = r.second in
    let xy = ltb a n && ltb b n in
    let x = ltb a n && eqb b 0 in
    let f = ltb a i && eqb b 0 in
    let fg = ltb a i && ltb b i in
    let xf = ltb a n && ltb b i in
    get_or (xy ∷ x ∷ (ltb 0 k && xy) ∷ (ltb 1 k && xy) ∷ x ∷ f ∷ fg ∷ fg ∷ xf ∷ (ltb 2 k && xy) ∷ []) r.op false

unfoldable pub good_from : ℕ → ℕ → ℕ → List Record → Bool
good_from k n i [] = true
good_from k n i (r ∷ rs) = good k n i r && good_from k n (suc i) rs

-- the rules that the strip check accepts: there is a record, and all of them are good
abbrev pub Accepted : ℕ → ℕ → List Record → Type 0
Accepted k n rs = (0 < length rs) × T (good_from k n 0 rs)
