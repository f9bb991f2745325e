-- The joined machine of a stored one, and what joining leaves in its share. Document 02, A8: "After each record .. is built, join its
-- states until no complete deterministic machine with fewer accepts the same trees". Assumes nothing.
use Rattle.std.specs.Prelude.{ℕ, ◌+◌, ◌≤◌, ◌<◌, ◌≡◌, List, map, length, get_or}
use Rattle.layout.specs.Shape.{Shaped, labels_in, share_of, share_at}
use Rattle.layout.specs.declared.Shape.{Shape}
use Rattle.logic.specs.Reach.{position}
use Rattle.records.specs.Machine.{share_byte}
use Rattle.records.specs.Rule.{Mach, mach_of, Stored}
use Rattle.records.specs.declared.Summary.{Summary}
use Rattle.logic.specs.Joined.{class_of, classes, is_apart}
use Rattle.joining.specs.declared.numbering.Numbered.{Numbered}
use Rattle.joining.specs.Parting.{state_in, Settled}
use Rattle.joining.specs.Numbering.{Numbers, accept_in}
use Rattle.joining.specs.Rewriting.{joined_byte, Rewritten}

-- the first state that behaves as q does
unfoldable pub first_like : Shape → Mach → ℕ → ℕ
first_like s m = class_of m.count (is_apart s.variables m.count (mach_of m))

-- the first members of the classes, in order
unfoldable pub first_members : Shape → Mach → List ℕ
first_members s m = classes m.count (first_like s m)

-- m with the states joined that behave alike: a class's number is its place among the first members
abbrev pub joined_of : Shape → Mach → Mach
joined_of s m = record {
  count = length (first_members s m);
  step = λ l is. position (first_like s m (m.step l (map (λ i. get_or (first_members s m) i 0) is))) (first_members s m);
  accept = accept_in m.accept (length (first_members s m)) (first_members s m);
}

-- the table t is joined in place to t', and r is kept: it is rewritten if there are fewer classes than states
pub record JoinedTable (s : Shape) (k : Summary) (t t' : List ℕ) (r : Summary) : Type 0 where
  pub parts : List ℕ
  pub settled : Settled (state_in s t) s.branches k.count k.looks (labels_in s) k.accept parts
  pub names : Numbered
  pub named : Numbers k.count parts names
  pub bytes : names.count < k.count → Rewritten (joined_byte s k.looks k.count names.count names.first names.number t) (share_of s) t t'
  pub kept : k.count ≤ names.count → t' ≡ t
  pub count : r.count ≡ names.count
  pub accept : r.accept ≡ accept_in k.accept names.count names.first
  pub looks : r.looks ≡ k.looks

-- record r's share can be joined: it lies within the workspace, and k has no more states than the ceiling
pub record Joinable (s : Shape) (r : ℕ) (k : Summary) (ws : List ℕ) : Type 0 where
  pub shape : Shaped s
  pub here : r < 256
  pub share : share_at s r + share_of s ≤ length ws
  pub few : k.count ≤ s.ceiling

-- machine m is k's and becomes that of k', joined: it looks at the same bits, and where a byte of the share was that of m over 0, it is that of the
-- joined machine over 0
pub record Joined (s : Shape) (base : ℕ) (m : Mach) (k k' : Summary) (ws ws' : List ℕ) : Type 0 where
  pub stored : Stored s base (joined_of s m) k' ws'
  pub looks : k'.looks ≡ k.looks
  pub bytes : (q : ℕ) → q < share_of s → get_or ws (base + q) 0 ≡ share_byte s k.looks m.count m.step q 0
      → get_or ws' (base + q) 0 ≡ share_byte s k.looks (length (first_members s m)) (joined_of s m).step q 0

-- whatever machine is stored in record r's share
abbrev pub Joins : Shape → ℕ → Summary → Summary → List ℕ → List ℕ → Type 0
Joins s r k k' ws ws' = (m : Mach) → Stored s (share_at s r) m k ws → Joined s (share_at s r) m k k' ws ws'
