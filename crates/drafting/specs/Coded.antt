-- Atoms as the code holds them, with tracks for names: document 01, "How trainers type a rule". Assumes nothing.
use Rattle.std.specs.Prelude.{ℕ, ◌<◌}
use Rattle.logic.specs.Two.{pair_of}
use Rattle.text.specs.Syntax.{Spot, variable, branch, root, Atom, sub, member, equal, Scope}
use Rattle.text.specs.Records.{track_of}
use Rattle.ops.specs.declared.Op.{Op}
use Rattle.ops.specs.declared.Op.TheVariants.{Child1, Child2}
use Rattle.drafting.specs.declared.Branch.{Branch as BranchCode}
use Rattle.drafting.specs.declared.Branch.TheVariants.{One, Two}
use Rattle.drafting.specs.declared.Spot.{Spot as SpotCode}
use Rattle.drafting.specs.declared.Spot.TheVariants.{Variable, Branch, Root}
use Rattle.drafting.specs.declared.Atom.{Atom as AtomCode}
use Rattle.drafting.specs.declared.Atom.TheVariants.{Sub, Member, Equal}

-- the op that says of a place that it is this branch of another
abbrev pub branch_op : BranchCode → Op
branch_op One = Child1
branch_op Two = Child2

-- "a place that is either a variable, its branch, or the root"
abbrev pub coded_spot : Scope → Spot → SpotCode
coded_spot sc (variable y) = Variable (track_of sc y)
coded_spot sc (branch b y) = Branch (pair_of One Two b) (track_of sc y)
coded_spot sc root = Root

-- "the atoms `X sub Y`, `x in X`, `x = place`"
abbrev pub coded_atom : Scope → Atom → AtomCode
coded_atom sc (sub x y) = Sub (track_of sc x) (track_of sc y)
coded_atom sc (member x y) = Member (track_of sc x) (track_of sc y)
coded_atom sc (equal x p) = Equal (track_of sc x) (coded_spot sc p)

-- its track, if there is one, is below n
abbrev pub SpotBelow : ℕ → SpotCode → Type 0
SpotBelow n (Variable y) = y < n
SpotBelow n (Branch b y) = y < n
SpotBelow n Root = Unit

-- all its tracks are below n
abbrev pub AtomBelow : ℕ → AtomCode → Type 0
AtomBelow n (Sub x y) = (x < n) × (y < n)
AtomBelow n (Member x y) = (x < n) × (y < n)
AtomBelow n (Equal x p) = (x < n) × SpotBelow n p
