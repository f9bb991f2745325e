-- A record's machine built and then joined, in its own share. Document 02, A8: "After each record [..] is built, join its states". Assumes
-- nothing.
use Rattle.std.specs.Prelude.{ℕ, ◌+◌, ◌≤◌, ◌<◌, ◌≡◌, List, get_or}
use Rattle.std.proofs.Math.Option.{none, some}
use Rattle.layout.specs.Shape.{share_of, share_at}
use Rattle.layout.specs.declared.Shape.{Shape}
use Rattle.table.specs.Succ.{looks_of}
use Rattle.records.specs.Rule.{Mach, machine_of, Stored, ShareBytes, PartsStored}
use Rattle.records.specs.declared.Decoded.{Decoded}
use Rattle.records.specs.declared.Summary.{Summary}
use Rattle.joining.specs.Joining.{joined_of}

-- the share of record r is zero
abbrev pub ZeroShare : Shape → ℕ → List ℕ → Type 0
ZeroShare s r ws = (q : ℕ) → q < share_of s → get_or ws (share_at s r + q) 0 ≡ 0

-- the machine m is k's and is stored in record r's share; over a share that was zero the share's bytes are given by the machine alone
pub record Kept (s : Shape) (r : ℕ) (m : Mach) (k : Summary) (ws ws' : List ℕ) : Type 0 where
  pub stored : Stored s (share_at s r) m k ws'
  pub bytes : ZeroShare s r ws → ShareBytes s (share_at s r) m k.looks ws ws'

-- record r's machine, from the parts' machines f and g, has too many states before they are joined; or it is kept joined, and looks at the bits
-- that its kind and its parts give
pub record AddedJoined (x : Decoded) (s : Shape) (r : ℕ) (kf kg : Summary) (f g : Mach) (k : Summary) (ws ws' : List ℕ) : Type 0 where
  pub many : s.ceiling < k.count → machine_of s x f g ≡ none
  pub few : k.count ≤ s.ceiling → (m : Mach) × (machine_of s x f g ≡ some m) × Kept s r (joined_of s m) k ws ws'
  pub looks : k.count ≤ s.ceiling → k.looks ≡ looks_of x.kind x.wx x.wy kf.looks kg.looks

-- whatever machines of the parts are stored
abbrev pub AddsJoined : Decoded → Shape → ℕ → Summary → Summary → Summary → List ℕ → List ℕ → Type 0
AddsJoined x s r kf kg k ws ws' = (f g : Mach) → PartsStored x s kf kg ws f g → AddedJoined x s r kf kg f g k ws ws'
