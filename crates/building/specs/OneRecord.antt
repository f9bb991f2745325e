-- One record built from what is kept of its parts, where any records' machines are stored, of earlier numbers and of later ones.
-- Document 01, "Machines": "Counts and accepting sets are kept with one entry for each of the 128 possible records". Assumes nothing.
use Rattle.std.specs.Prelude.{ℕ, ◌<◌, ◌≡◌, Bool, true, false, cond, List, T, eqb, Result, IsOk, IsErr, IfErr}
use Rattle.std.proofs.Math.Option.{none, some}
use Rattle.layout.specs.Shape.{share_at}
use Rattle.layout.specs.declared.Shape.{Shape}
use Rattle.table.specs.Succ.{looks_of}
use Rattle.records.specs.Rule.{Mach, machine_of, Fits, Stored, Spared}
use Rattle.records.specs.declared.Decoded.{Decoded}
use Rattle.records.specs.declared.Summary.{Summary}
use Rattle.joining.specs.Joining.{joined_of}
use Rattle.joining.specs.Record.{Kept}
use Rattle.refusals.specs.declared.OverCeiling.{OverCeiling}
use Rattle.building.specs.Named.{NamesUsed}

-- what building record r asks: its numbers have entries in the arrays of 128, too
pub record Buildable (x : Decoded) (r : ℕ) (s : Shape) (n : ℕ) : Type 0 where
  pub fits : Fits x r s n
  pub first-kept : x.first < 128
  pub second-kept : x.second < 128

-- the machines ms of the records that are used are stored, and es is what is kept of them
abbrev pub AllStored : (ℕ → Bool) → (ℕ → Mach) → Shape → (ℕ → Summary) → List ℕ → Type 0
AllStored used ms s es ws = (a : ℕ) → T (used a) → Stored s (share_at s a) (ms a) (es a) ws

-- f with v at r
unfoldable pub changed : {A : Type 0} → (ℕ → A) → ℕ → A → ℕ → A
changed f r v a = cond (eqb a r) v (f a)

-- Record r was tried where the machines ms of the records that are used are stored, among them those that it names. It has too many states,
-- or it has a machine, which is kept joined in its share, looks at the bits that its kind and its parts give, and is stored beside the others.
pub record Tried (x : Decoded) (s : Shape) (r : ℕ) (used : ℕ → Bool) (ms : ℕ → Mach) (es es' : ℕ → Summary) (ws ws' : List ℕ) (end : Result Unit OverCeiling) : Type 0 where
  pub others : AllStored (changed used r false) ms s es' ws'
  pub many : IsErr end → machine_of s x (ms x.first) (ms x.second) ≡ none
  pub few : IsOk end
      → (m : Mach) × (machine_of s x (ms x.first) (ms x.second) ≡ some m) × Kept s r (joined_of s m) (es' r) ws ws'
      × AllStored (changed used r true) (changed ms r (joined_of s m)) s es' ws'
  pub looks : IsOk end → (es' r).looks ≡ looks_of x.kind x.wx x.wy (es x.first).looks (es x.second).looks

-- What building record r comes to, whichever machines are stored: nothing but its share is changed, and nothing that is kept of another
-- record, nor of it where it has too many states, and then it is named.
pub record Builds (x : Decoded) (s : Shape) (r : ℕ) (es es' : ℕ → Summary) (ws ws' : List ℕ) (end : Result Unit OverCeiling) : Type 0 where
  pub tried : (used : ℕ → Bool) (ms : ℕ → Mach) → AllStored used ms s es ws → NamesUsed used x → Tried x s r used ms es es' ws ws' end
  pub same : (a : ℕ) → (a ≡ r → IsErr end) → es' a ≡ es a
  pub named : IfErr end (λ o. o.at ≡ r)
  pub spared : Spared s r ws ws'
