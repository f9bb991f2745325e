-- The machines of the records that are reached, one after the other in strip order. Request A5: "Refusal 14 now speaks only of records
-- reached from the last one, in strip order". Assumes nothing.
use Rattle.std.specs.Prelude.{ℕ, zero, suc, ◌+◌, ◌≤◌, ◌<◌, ◌≡◌, Bool, false, cond, List, [], ◌∷◌, ◌++◌, T, length, get_or, set, Result, Ok, Err}
use Rattle.std.specs.Result.{result_map_both}
use Rattle.std.proofs.Math.Option.{Option, none, some}
use Rattle.layout.specs.Shape.{share_of, share_at}
use Rattle.layout.specs.declared.Shape.{Shape}
use Rattle.records.specs.Rule.{Mach, no_mach, machine_of, Stored, no_decoded}
use Rattle.records.specs.declared.Decoded.{Decoded}
use Rattle.records.specs.declared.Summary.{Summary}
use Rattle.joining.specs.Joining.{joined_of}
use Rattle.refusals.specs.declared.OverCeiling.{OverCeiling}
use Rattle.building.specs.declared.Machines.{Machines}

-- the machines so far, or the number of the first record with too many states
pub data Progress : Type 0 where
  built : List Mach → Progress
  over : ℕ → Progress

-- the machines with one more, its states joined, or the record's number. A8: "After each record [..] is built, join its states"
abbrev pub more : Shape → ℕ → List Mach → Option Mach → Progress
more s r ms none = over r
more s r ms (some m) = built (ms ++ (joined_of s m ∷ []))

-- after record r
unfoldable pub after : Shape → ℕ → Decoded → Progress → Progress
after s r x (over k) = over k
after s r x (built ms) = more s r ms (machine_of s x (get_or ms x.first no_mach) (get_or ms x.second no_mach))

-- what is kept of record a's machine
abbrev pub entry_of : Machines → ℕ → Summary
entry_of t a = record { count = get_or t.counts a 0; accept = get_or t.accepts a 0; looks = get_or t.looks a 0 }

-- k kept of record a's machine
abbrev pub entered : Machines → ℕ → Summary → Machines
entered t a k = record { counts = set t.counts a k.count; accepts = set t.accepts a k.accept; looks = set t.looks a k.looks }

-- how building ended, with what is then kept of the machines
abbrev pub ended : Machines → Result Unit OverCeiling → Result Machines OverCeiling
ended t = result_map_both (λ u. t) (λ o. o)

-- the machines of the first r records, those of them that are used, are stored; or the first with too many states is named
abbrev pub Made : (ℕ → Bool) → Progress → Shape → ℕ → Result Machines OverCeiling → List ℕ → Type 0
Made used (over k) s r (Ok t) ws = ⊥
Made used (over k) s r (Err o) ws = o.at ≡ k
Made used (built ms) s r (Ok t) ws =
    (length ms ≡ r) × ((a : ℕ) → a < r → T (used a) → Stored s (share_at s a) (get_or ms a no_mach) (entry_of t a) ws)
Made used (built ms) s r (Err o) ws = ⊥

-- a record that is not used is passed over: no machine stands for it
unfoldable pub passed : Progress → Progress
passed (over k) = over k
passed (built ms) = built (ms ++ (no_mach ∷ []))

-- the machines of the first r records, those of them that are used
unfoldable pub upto : List Decoded → (ℕ → Bool) → Shape → ℕ → Progress
upto xs used s zero = built []
upto xs used s (suc r) = cond (used r) (after s r (get_or xs r no_decoded) (upto xs used s r)) (passed (upto xs used s r))

-- what building the first m records, those of them that are used, comes to
abbrev pub MadeBy : (ℕ → Bool) → List Decoded → Shape → ℕ → Result Machines OverCeiling → List ℕ → Type 0
MadeBy used xs s m t ws = Made used (upto xs used s m) s m t ws

-- nothing is built of a record that is not used: its share, of the first m, is as it was
pub record Untouched (used : ℕ → Bool) (s : Shape) (m : ℕ) (ws ws' : List ℕ) : Type 0 where
  pub same : (r q : ℕ) → r < m → used r ≡ false → share_at s r ≤ q → q < share_at s r + share_of s → get_or ws' q 0 ≡ get_or ws q 0
