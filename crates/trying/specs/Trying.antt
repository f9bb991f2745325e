-- The parts of a rule joined and tried over the machines of its records: request A6, "Which requirements clash?". Assumes nothing.
use Rattle.std.specs.Prelude.{ℕ, ◌+◌, ◌-◌, ◌≤◌, ◌<◌, ◌≡◌, List, length, get_or, drop, Option, None, Some, Result, Ok, Err}
use Rattle.std.specs.Result.{result_map_both}
use Rattle.logic.specs.Meaning.{Formula, conjunction, Valid}
use Rattle.logic.specs.Joined.{constructed, joined_table}
use Rattle.rule_strip.specs.RuleStrip.{variables_of, count_of, records_of}
use Rattle.rules.specs.Room.{room_for, Workable}
use Rattle.rules.specs.Building.{rule_shape, MachineFor}
use Rattle.layout.specs.Shape.{share_at}
use Rattle.parts.specs.Parts.{parts_of}
use Rattle.trials.specs.Joins.{Joint as Conjunct, no_joint, joint_by, joint_over, Joiner, rule_joiner, join_one, join_from}
use Rattle.refusals.specs.declared.OverCeiling.{OverCeiling}
use Rattle.trying.specs.declared.joint.Made.{Made}

-- "The workspace counts m + 15 records": the strip is accepted, and neither 11 for c nor 12 for so many records applies
pub record Triable (rule : List ℕ) (c room : ℕ) : Type 0 where
  pub work : Workable rule c room
  pub long : room_for (variables_of rule) (count_of rule + 15) c ≤ room

-- the machines of some formulas stand in the shares that are named
abbrev pub SomePair : List ℕ → ℕ → List ℕ → Made → Made → Type 0
SomePair rule c ws a b = (F G : Formula 2) × MachineFor rule c ws a.number a.machine F × MachineFor rule c ws b.number b.machine G

-- the joined machine of a formula stands in the share of number r; or more than c states are built, and q is named
abbrev pub MachineMade : List ℕ → ℕ → List ℕ → ℕ → ℕ → Result Made OverCeiling → Formula 2 → Type 0
MachineMade rule c ws q r (Ok k) F =
    (k.number ≡ r) × ((constructed (variables_of rule) F).count ≤ c) × MachineFor rule c ws k.number k.machine F
MachineMade rule c ws q r (Err o) F = (o.at ≡ q) × (c < (constructed (variables_of rule) F).count)

-- whatever formulas the machines are of: what is made is their conjunction's
abbrev pub Conjoins : List ℕ → ℕ → List ℕ → Made → Made → List ℕ → ℕ → Result Made OverCeiling → Type 0
Conjoins rule c ws a b ws' r k =
    (F G : Formula 2) → Valid (variables_of rule) F → Valid (variables_of rule) G → MachineFor rule c ws a.number a.machine F
    → MachineFor rule c ws b.number b.machine G → MachineMade rule c ws' b.number r k (conjunction F G)

-- the machines of the rule's records, and how two are joined
abbrev pub joiner_of : List ℕ → Joiner 2
joiner_of rule = rule_joiner 2 (variables_of rule) (records_of rule)

-- the machine k of the conjunct x stands in the share of a number before `end`
pub record JointMade (rule : List ℕ) (c : ℕ) (ws : List ℕ) (end : ℕ) (k : Made) (x : Conjunct 2) : Type 0 where
  pub formula : Formula 2
  pub valid : Valid (variables_of rule) formula
  pub joined : x ≡ joint_by (joined_table (variables_of rule) formula)
  pub before : k.number < end
  pub behind : count_of rule ≤ end
  pub machine : MachineFor rule c ws k.number k.machine formula

-- j is the conjunct x, joined before the share of number `end`
abbrev pub JointOf : List ℕ → ℕ → List ℕ → ℕ → Option Made → Conjunct 2 → Type 0
JointOf rule c ws end None x = x ≡ no_joint
JointOf rule c ws end (Some k) x = JointMade rule c ws end k x

-- so joining ended: with the conjunct x, or at a part
abbrev pub JoiningOf : List ℕ → ℕ → List ℕ → ℕ → Result (Option Made) OverCeiling → Conjunct 2 → Type 0
JoiningOf rule c ws end (Ok j) x = JointOf rule c ws end j x
JoiningOf rule c ws end (Err o) x = x ≡ joint_over o.at

abbrev pub SomeJoint : List ℕ → ℕ → List ℕ → ℕ → Result (Option Made) OverCeiling → Type 0
SomeJoint rule c ws end j = (x : Conjunct 2) × JoiningOf rule c ws end j x

-- whatever j is, k is that with record q joined in the share of number r
abbrev pub JoinsPart : List ℕ → ℕ → List ℕ → ℕ → Result (Option Made) OverCeiling → ℕ → List ℕ → Result Made OverCeiling → Type 0
JoinsPart rule c ws r j q ws' k =
    (x : Conjunct 2) → JoiningOf rule c ws r j x → JoiningOf rule c ws' (r + 1) (result_map_both Some (λ o. o) k) (join_one (joiner_of rule) c x q)

-- and with all parts from number i on: part p in the share of number m + p - 1
abbrev pub JoinsRest : List ℕ → ℕ → List ℕ → ℕ → Result (Option Made) OverCeiling → List ℕ → Result (Option Made) OverCeiling → Type 0
JoinsRest rule c ws i j ws' k =
    let ps = parts_of (records_of rule) in
    (x : Conjunct 2) → JoiningOf rule c ws (count_of rule + i - 1) j x
    → JoiningOf rule c ws' (count_of rule + length ps - 1) k (join_from (joiner_of rule) c x (drop i ps))

-- nothing is changed but the shares from number r on that are behind the records' own, 15 of them
pub record Confined (rule : List ℕ) (c r : ℕ) (ws ws' : List ℕ) : Type 0 where
  pub records : (q : ℕ) → q < share_at (rule_shape rule c) (count_of rule) → get_or ws' q 0 ≡ get_or ws q 0
  pub earlier : (q : ℕ) → q < share_at (rule_shape rule c) r → get_or ws' q 0 ≡ get_or ws q 0
  pub beyond : drop (share_at (rule_shape rule c) (count_of rule + 15)) ws' ≡ drop (share_at (rule_shape rule c) (count_of rule + 15)) ws
