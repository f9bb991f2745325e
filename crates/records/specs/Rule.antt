-- The machine of one record, from those of its parts, and what is stored of it. Document 01, "Machines". Assumes nothing.
use Rattle.std.specs.Prelude.{ℕ, ◌+◌, ◌≤◌, ◌<◌, ◌≡◌, Bool, true, false, cond, List, length, get_or, drop}
use Rattle.std.proofs.Math.Option.{Option, none, some}
use Rattle.layout.specs.Shape.{Shaped, labels_in, share_of, share_at}
use Rattle.layout.specs.declared.Shape.{Shape}
use Rattle.words.specs.Word.{mem}
use Rattle.logic.specs.Machine.{Machine}
use Rattle.logic.specs.Two.{branching}
use Rattle.table.specs.Entry.{Step, Bit, Power}
use Rattle.table.specs.Succ.{kind_code, looks_of}
use Rattle.records.specs.Machine.{codes_of, step_of, accept_of, others_of, TableHolds, share_byte}
use Rattle.ops.specs.declared.Op.{Op}
use Rattle.ops.specs.declared.Op.TheVariants.{Subset, Single, Child1, Child2, Root, Not, Or, And, Exists}
use Rattle.table.specs.declared.plan.Plan.{Plan}
use Rattle.records.specs.declared.Decoded.{Decoded}
use Rattle.records.specs.declared.Summary.{Summary}

-- a machine: the number of its states, its step and the set of its accepting states
pub record Mach : Type 0 where
  pub count : ℕ
  pub step : Step
  pub accept : ℕ

abbrev pub no_mach : Mach
no_mach = record { count = 0; step = λ l is. 0; accept = 0 }

-- the same in the terms of the logic: state 0 is the state of the empty tree
abbrev pub mach_of : Mach → Machine 2 ℕ
mach_of m = branching 0 m.step (λ q. mem q m.accept)

-- the machine of a record with these codes
abbrev pub mach_from : Decoded → Mach → Mach → List ℕ → Mach
mach_from x f g cs = record {
  count = length cs;
  step = step_of (kind_code x.kind f.step g.step x.wx x.wy) cs;
  accept = accept_of x.kind f.accept g.accept cs;
}

-- the machine of "not": "Not flips acceptance."
abbrev pub complement_of : Mach → Mach
complement_of f = record { count = f.count; step = f.step; accept = others_of f.accept f.count }

-- is it a "not"
abbrev pub is_not : Op → Bool
is_not Subset = false
is_not Single = false
is_not Child1 = false
is_not Child2 = false
is_not Root = false
is_not Not = true
is_not Or = false
is_not And = false
is_not Exists = false

-- the machine that is found, if any
abbrev pub numbered_by : (List ℕ → Mach) → Option (List ℕ) → Option Mach
numbered_by make none = none
numbered_by make (some cs) = some (make cs)

-- the machine of a record from its parts' f and g; none where it has more states than the ceiling
unfoldable pub machine_of : Shape → Decoded → Mach → Mach → Option Mach
machine_of s x f g =
    cond (is_not x.kind) (some (complement_of f)) (numbered_by (mach_from x f g) (codes_of x.kind s f.step g.step x.wx x.wy))

-- the plan of record r, whose parts look at the bits f and g
abbrev pub plan_of : Decoded → ℕ → Shape → ℕ → ℕ → Plan
plan_of x r s f g = record {
  kind = x.kind;
  table1 = share_at s x.first;
  table2 = share_at s x.second;
  wx = x.wx;
  wy = x.wy;
  shape = s;
  base = share_at s r;
  looks = looks_of x.kind x.wx x.wy f g;
  look1 = f;
  look2 = g;
}

-- what is asked of the parts that a record of this kind has: of the first, of both, or nothing
abbrev pub OfParts : Op → Type 0 → Type 0 → Type 0
OfParts Subset A B = Unit {0}
OfParts Single A B = Unit {0}
OfParts Child1 A B = Unit {0}
OfParts Child2 A B = Unit {0}
OfParts Root A B = Unit {0}
OfParts Not A B = A
OfParts Or A B = A × B
OfParts And A B = A × B
OfParts Exists A B = A

-- record r can be built in a workspace of n bytes: its numbers are in range, its parts come before it, and its share is within
pub record Fits (x : Decoded) (r : ℕ) (s : Shape) (n : ℕ) : Type 0 where
  pub shape : Shaped s
  pub first_in : x.first < 256
  pub second_in : x.second < 256
  pub here_in : r < 256
  pub wx_small : x.wx ≤ 128
  pub wy_small : x.wy ≤ 128
  pub wx_power : Power x.wx
  pub wy_power : Power x.wy
  pub bit : Bit x.wx (labels_in s)
  pub before : OfParts x.kind (x.first < r) (x.second < r)
  pub share : share_at s r + share_of s ≤ n

-- machine m is stored: k keeps its number of states, its accepting states and the bits that it looks at, and the table at `base` its
-- steps, at the labels that it tells apart
pub record Stored (s : Shape) (base : ℕ) (m : Mach) (k : Summary) (ws : List ℕ) : Type 0 where
  pub count : k.count ≡ m.count
  pub accept : k.accept ≡ m.accept
  pub holds : TableHolds s ws base k.looks m.count m.step
  pub some-state : 0 < m.count
  pub few : m.count ≤ s.ceiling

-- the machines f and g of the parts that record x has are stored, in the shares of their numbers
abbrev pub PartsStored : Decoded → Shape → Summary → Summary → List ℕ → Mach → Mach → Type 0
PartsStored x s kf kg ws f g = OfParts x.kind (Stored s (share_at s x.first) f kf ws) (Stored s (share_at s x.second) g kg ws)

-- there are such machines
abbrev pub SomeParts : Decoded → Shape → Summary → Summary → List ℕ → Type 0
SomeParts x s kf kg ws = (f : Mach) × (g : Mach) × PartsStored x s kf kg ws f g

-- machine m is stored, with the bits b looked at, in the share at base: each of the share's bytes is given by the machine and the byte
-- that was there
abbrev pub ShareBytes : Shape → ℕ → Mach → ℕ → List ℕ → List ℕ → Type 0
ShareBytes s base m b ws ws' =
    (q : ℕ) → q < share_of s → get_or ws' (base + q) 0 ≡ share_byte s b m.count m.step q (get_or ws (base + q) 0)

-- record r's machine m is k's, and fills the record's share
pub record Placed (s : Shape) (r : ℕ) (m : Mach) (k : Summary) (ws ws' : List ℕ) : Type 0 where
  pub stored : Stored s (share_at s r) m k ws'
  pub bytes : ShareBytes s (share_at s r) m k.looks ws ws'

-- record r's machine, from the parts' machines f and g, of which kf and kg are kept, has too many states; or it is placed in the record's
-- share, and looks at the bits that its kind and its parts give
pub record Added (x : Decoded) (s : Shape) (r : ℕ) (kf kg : Summary) (f g : Mach) (k : Summary) (ws ws' : List ℕ) : Type 0 where
  pub many : s.ceiling < k.count → machine_of s x f g ≡ none
  pub few : k.count ≤ s.ceiling → (m : Mach) × (machine_of s x f g ≡ some m) × Placed s r m k ws ws'
  pub looks : k.count ≤ s.ceiling → k.looks ≡ looks_of x.kind x.wx x.wy kf.looks kg.looks

-- whatever machines of the parts are stored
abbrev pub Adds : Decoded → Shape → ℕ → Summary → Summary → Summary → List ℕ → List ℕ → Type 0
Adds x s r kf kg k ws ws' = (f g : Mach) → PartsStored x s kf kg ws f g → Added x s r kf kg f g k ws ws'

-- nothing but record r's share is changed
pub record Spared (s : Shape) (r : ℕ) (ws ws' : List ℕ) : Type 0 where
  pub low : (q : ℕ) → q < share_at s r → get_or ws' q 0 ≡ get_or ws q 0
  pub high : drop (share_at s r + share_of s) ws' ≡ drop (share_at s r + share_of s) ws

abbrev pub no_decoded : Decoded
no_decoded = record { kind = Subset; first = 0; second = 0; wx = 0; wy = 0 }
