-- The room refusals, a definition each, and the workspace's end: document 01, "Decide" and "Judge". Assumes nothing.
use Rattle.std.specs.Prelude.{ℕ, ◌*◌, ◌^◌, ◌≤◌, ◌≡◌, cond, Result, Ok, Err, List, ◌++◌, ltb, drop, replicate}
use Rattle.bits.specs.Bits.{between}
use Rattle.refusals.specs.Fault.{sound}
use Rattle.refusals.specs.Refusal.{tested}
use Rattle.refusals.specs.declared.Reason.{Reason}
use Rattle.refusals.specs.declared.Reason.TheVariants as reason
use Rattle.refusals.specs.declared.Refusal.{Refusal}
use Rattle.rule_strip.specs.RuleStrip.{variables_of, count_of, rule_fault}
use Rattle.tree_strip.specs.TreeStrip.{tree_bytes}

-- "m × 2^n × c × c bytes": what refusal 12 asks for
abbrev pub room_for : ℕ → ℕ → ℕ → ℕ
room_for n m c = m * (2 ^ n * c * c)

-- "11 c not 1 to 64"
unfoldable pub ceiling_refusal : ℕ → Result Unit Reason
ceiling_refusal c = cond (between 1 64 c) (Ok tt) (Err reason.Ceiling)

-- "or P above 255"
unfoldable pub places_refusal : ℕ → Result Unit Reason
places_refusal P = cond (ltb 255 P) (Err reason.Ceiling) (Ok tt)

-- "12 workspace shorter than m × 2^n × c × c bytes"
unfoldable pub workspace_refusal : ℕ → ℕ → ℕ → ℕ → Result Unit Reason
workspace_refusal n m c room = cond (ltb room (room_for n m c)) (Err reason.Workspace) (Ok tt)

-- "11 for c alone; 12", and then come the later ones
unfoldable pub work_refusal : ℕ → ℕ → ℕ → ℕ → Result Unit Refusal → Result Unit Refusal
work_refusal n m c room later = tested (ceiling_refusal c) (tested (workspace_refusal n m c room) later)

-- "13 out buffer shorter than 8 + P(n+1) + P + 1 bits rounded up"
unfoldable pub out_refusal : ℕ → ℕ → ℕ → Result Unit Reason
out_refusal n P room = cond (ltb room (tree_bytes n P)) (Err reason.Out) (Ok tt)

-- "the workspace bytes that 12 asks for are zero and later ones unchanged"
abbrev pub cleared : ℕ → List ℕ → List ℕ
cleared need ws = replicate need 0 ++ drop need ws

-- what 12 asks for of a rule strip's records
abbrev pub room_of : List ℕ → ℕ → ℕ
room_of rule c = room_for (variables_of rule) (count_of rule) c

-- the strip is accepted, and neither 11 for c nor 12 applies
pub record Workable (rule : List ℕ) (c room : ℕ) : Type 0 where
  pub sound : rule_fault rule ≡ sound
  pub some-state : 1 ≤ c
  pub few-states : c ≤ 64
  pub long : room_of rule c ≤ room
