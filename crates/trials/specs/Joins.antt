-- Request A6: the trials by machines. The conjunction of a list of records, built left to right; the refusal 14 of a trial.
-- Assumes nothing.
use Rattle.std.specs.Prelude.{ℕ, ◌<◌, ◌≡◌, Bool, false, cond, not, ◌&&◌, List, [], ◌∷◌, ◌++◌, ltb, length}
use Rattle.logic.specs.Meaning.{Formula, subset, conjunction}
use Rattle.logic.specs.Rule.{Record, formula_at}
use Rattle.logic.specs.Table.{Table, product_table}
use Rattle.logic.specs.Joined.{join, joined_table}
use Rattle.logic.specs.Search.{any_below}
use Rattle.trials.specs.Clash.{NoneHold, SomeHold}

-- f and the records of the list, left to right
unfoldable pub joined_to : {k : ℕ} → List Record → Formula k → List ℕ → Formula k
joined_to rs f [] = f
joined_to rs f (q ∷ L) = joined_to rs (conjunction f (formula_at rs q)) L

-- "The conjunction is built left to right, and the empty one is true": X0 ⊆ X0 stands for true
unfoldable pub conjunction_of : {k : ℕ} → List Record → List ℕ → Formula k
conjunction_of rs [] = subset 0 0
conjunction_of rs (p ∷ L) = joined_to rs (formula_at rs p) L

-- how machines are joined: the machine of each record, the states that refusal 14 counts when two are joined, and the machine that comes out
pub record Joiner (k : ℕ) : Type 0 where
  pub at : ℕ → Table k
  pub states : Table k → Table k → ℕ
  pub join : Table k → Table k → Table k

-- THE ONE PLACE that says so. A8: "After each [..] joining of a clash trial, is built, join its states": the states of the pairs count, and the
-- pairs come out with their states joined
abbrev pub pair_joiner : {k : ℕ} → ℕ → (ℕ → Table k) → Joiner k
pair_joiner n at = record {
  at = at;
  states = λ a b. (product_table n ◌&&◌ a b).count;
  join = λ a b. join n (product_table n ◌&&◌ a b);
}

-- over the machines of the rule's records
abbrev pub rule_joiner : (k n : ℕ) → List Record → Joiner k
rule_joiner k n rs = pair_joiner n (λ p. joined_table n (formula_at rs p))

-- some assignment is accepted: some state accepts, all of them being reached
unfoldable pub accepts : {k : ℕ} → Table k → Bool
accepts a = any_below a.machine.accepting a.count

-- the test of a list by the machine of its conjunction, whatever its states; of the empty list nothing is asked
unfoldable pub none_by : (k n : ℕ) → List Record → List ℕ → Bool
none_by k n rs [] = false
none_by k n rs (p ∷ L) = not (accepts (joined_table {k = k} n (conjunction_of rs (p ∷ L))))

-- the conjunction of some records: of none, which is true and has no machine; its machine; or a join had more than c states, with the part joined
pub data Joint (k : ℕ) : Type 0 where
  no_joint : Joint k
  joint_by : Table k → Joint k
  joint_over : ℕ → Joint k

-- record q joined: of the first of a list nothing is joined, so it never goes over
unfoldable pub join_one : {k : ℕ} → Joiner k → ℕ → Joint k → ℕ → Joint k
join_one J c no_joint q = joint_by (J.at q)
join_one J c (joint_by a) q = cond (ltb c (J.states a (J.at q))) (joint_over q) (joint_by (J.join a (J.at q)))
join_one J c (joint_over r) q = joint_over r

-- left to right
unfoldable pub join_from : {k : ℕ} → Joiner k → ℕ → Joint k → List ℕ → Joint k
join_from J c x [] = x
join_from J c x (q ∷ L) = join_from J c (join_one J c x q) L

abbrev pub join_all : {k : ℕ} → Joiner k → ℕ → List ℕ → Joint k
join_all J c L = join_from J c no_joint L

-- what the trials come to: refusal 14 with the part whose joining went over, or the list kept
pub data Trialled : Type 0 where
  over14 : ℕ → Trialled
  kept_list : List ℕ → Trialled

-- a trial's joining decides whether there is none, and the trials go on; or it went over
unfoldable pub trial_says : {k : ℕ} → Joint k → (Bool → Trialled) → Trialled
trial_says no_joint go = go false
trial_says (joint_by a) go = go (not (accepts a))
trial_says (joint_over r) go = over14 r

-- the trials: kept so far, and those to try
unfoldable pub trials : {k : ℕ} → Joiner k → ℕ → List ℕ → List ℕ → Trialled
trials J c kept [] = kept_list kept
trials J c kept (p ∷ rest) = trial_says (join_all J c (kept ++ rest)) (λ none. trials J c (cond none kept (kept ++ (p ∷ []))) rest)

-- the same where those kept are joined once: x is what joining them came to
unfoldable pub trials_from : {k : ℕ} → Joiner k → ℕ → Joint k → List ℕ → List ℕ → Trialled
trials_from J c x kept [] = kept_list kept
trials_from J c x kept (p ∷ rest) =
    trial_says (join_from J c x rest) (λ none. trials_from J c (cond none x (join_one J c x p)) (cond none kept (kept ++ (p ∷ []))) rest)

-- q is the first of L, left to right, whose joining has more than c states: those before it are joined, and there is one
pub record FirstJoinOver {k : ℕ} (J : Joiner k) (c : ℕ) (L : List ℕ) (q : ℕ) : Type 0 where
  pub before : List ℕ
  pub after : List ℕ
  pub split : L ≡ before ++ (q ∷ after)
  pub some : 0 < length before
  pub machine : Table k
  pub joined : join_all J c before ≡ joint_by machine
  pub over_c : c < J.states machine (J.at q)

abbrev pub JoinsFit : {k : ℕ} → Joiner k → ℕ → List ℕ → Type 0
JoinsFit J c L = (r : ℕ) → ¬ FirstJoinOver J c L r

-- "a 14 met later, in a trial, returns the record number of the part whose joining went over": the first such join, trial by trial
pub data Stops {k : ℕ} (rs : List Record) (J : Joiner k) (c : ℕ) : List ℕ → List ℕ → ℕ → Type 0 where
  goes_over : {kept rest : List ℕ} {p q : ℕ} → FirstJoinOver J c (kept ++ rest) q → Stops rs J c kept (p ∷ rest) q
  dropped-then : {kept rest : List ℕ} {p q : ℕ} → JoinsFit J c (kept ++ rest) → NoneHold k rs (kept ++ rest) → Stops rs J c kept rest q
      → Stops rs J c kept (p ∷ rest) q
  stays_then : {kept rest : List ℕ} {p q : ℕ} → JoinsFit J c (kept ++ rest) → SomeHold k rs (kept ++ rest) → Stops rs J c (kept ++ (p ∷ [])) rest q
      → Stops rs J c kept (p ∷ rest) q
