-- The trials, one after the other, over what is joined: request A6, "Try the parts in that order; drop one if the conjunction of the rest still
-- kept has no satisfying assignment". Assumes nothing.
use Rattle.std.specs.Prelude.{ℕ, ◌+◌, ◌-◌, ◌<◌, ◌≡◌, Bool, Option, Result, Ok, Err, List, [], length, get_or, take, drop, set, replicate}
use Rattle.refusals.specs.declared.OverCeiling.{OverCeiling}
use Rattle.rule_strip.specs.RuleStrip.{count_of, records_of}
use Rattle.parts.specs.Parts.{parts_of}
use Rattle.trials.specs.Joins.{Joint as Conjunct, joint_over, join_one, join_from, Trialled, over14, kept_list, trial_says, trials}
use Rattle.trying.specs.Trying.{joiner_of, JointOf}
use Rattle.trying.specs.declared.joint.Made.{Made}
use Rattle.trying.specs.declared.KeptParts.{KeptParts}

-- how the trials go on behind a trial that ends so: with the part dropped or not, or at a part
abbrev pub went_on : Result Bool OverCeiling → (Bool → Trialled) → Trialled
went_on (Ok dropped) go = go dropped
went_on (Err o) go = over14 o.at

-- t: how the trial of part i ends, whatever those kept are joined to
abbrev pub TrialTells : List ℕ → ℕ → List ℕ → ℕ → Option Made → Result Bool OverCeiling → Type 0
TrialTells rule c ws i j t =
    (x : Conjunct 2) → JointOf rule c ws (count_of rule + i - 1) j x → (go : Bool → Trialled)
    → trial_says (join_from (joiner_of rule) c x (drop (i + 1) (parts_of (records_of rule)))) go ≡ went_on t go

-- k is j with part i joined, where it is not the last, which is never at fault
abbrev pub JoinsKept : List ℕ → ℕ → List ℕ → ℕ → Option Made → List ℕ → Result (Option Made) OverCeiling → Type 0
JoinsKept rule c ws i j ws' (Ok k) =
    let ps = parts_of (records_of rule) in
    (x : Conjunct 2) → JointOf rule c ws (count_of rule + i - 1) j x → i + 1 < length ps
    → JointOf rule c ws' (count_of rule + i) k (join_one (joiner_of rule) c x (get_or ps i 0))
JoinsKept rule c ws i j ws' (Err o) =
    let ps = parts_of (records_of rule) in
    (x : Conjunct 2) → JointOf rule c ws (count_of rule + i - 1) j x
    → (i + 1 < length ps) × (join_one (joiner_of rule) c x (get_or ps i 0) ≡ joint_over o.at)

-- the parts that are kept, with one more
abbrev pub listed_too : KeptParts → ℕ → KeptParts
listed_too t q = record { count = t.count + 1; parts = set t.parts t.count q }

-- what the trials of all parts come to
abbrev pub tried_of : List ℕ → ℕ → Trialled
tried_of rule c = trials (joiner_of rule) c [] (parts_of (records_of rule))

-- the trials end so, and those kept stand at the front of the list, with zeros behind them
abbrev pub TriedAll : List ℕ → ℕ → Result KeptParts OverCeiling → Type 0
TriedAll rule c (Err o) = tried_of rule c ≡ over14 o.at
TriedAll rule c (Ok k) =
    (K : List ℕ) × (tried_of rule c ≡ kept_list K) × (k.count ≡ length K) × (take k.count k.parts ≡ K)
    × (drop k.count k.parts ≡ drop k.count (replicate 16 0))
