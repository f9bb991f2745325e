-- Request A7, "Two strips into one": the joined rule, and what it must be. The claim is over assignments, for every number k of successors.
-- Assumes nothing.
use Rattle.std.specs.Prelude.{ℕ, ◌+◌, max, ◌≡◌, ◌↔◌, cond, List, [], ◌∷◌, ◌++◌, ltb, length}
use Rattle.logic.specs.Meaning.{Assignment}
use Rattle.logic.specs.Rule.{Record, last_of, Satisfies, Accepted}
use Rattle.rule_strip.specs.RuleStrip.{first_use, second_use}
use Rattle.rule_strip.specs.declared.Use.{Use}
use Rattle.rule_strip.specs.declared.Use.TheVariants.{Variable, Earlier, Unused}

-- "record numbers moved up" by m: a field that holds one; a variable, that of "exists" too, and an unused field stay
abbrev pub moved_field : ℕ → Use → ℕ → ℕ
moved_field m Variable v = v
moved_field m Earlier v = m + v
moved_field m Unused v = v

-- a record with the record numbers in it moved up by m
unfoldable pub moved : ℕ → Record → Record
moved m r = record { op = r.op; first = moved_field m (first_use r.op) r.first; second = moved_field m (second_use r.op) r.second }

unfoldable pub moved_all : ℕ → List Record → List Record
moved_all m [] = []
moved_all m (r ∷ rs) = moved m r ∷ moved_all m rs

-- "one "and" of the two last records, the first strip's as its first field"
abbrev pub last_and : List Record → List Record → Record
last_and rs ss = record { op = 7; first = last_of rs; second = length rs + last_of ss }

-- "the first strip's records, then the second's with record numbers moved up, then one "and""
unfoldable pub joined_records : List Record → List Record → List Record
joined_records rs ss = rs ++ (moved_all (length rs) ss ++ (last_and rs ss ∷ []))

-- "as many of its first sets as that strip has variables": A's first n sets, and none further
abbrev pub first_sets : {k : ℕ} → ℕ → Assignment k → Assignment k
first_sets n A i = cond (ltb i n) (A i) []

-- A7'S CLAIM of records: js joins rs, over n variables, and ss, over p
pub record JoinedRule (k n p : ℕ) (rs ss js : List Record) : Type 0 where
  -- "The result passes the strip check"; "n is the larger"
  pub accepted : Accepted k (max n p) js
  pub records : length js ≡ length rs + length ss + 1
  -- "An assignment satisfies the result exactly if, for each strip, as many of its first sets as that strip has variables satisfy that strip"
  pub satisfied : (A : Assignment k) → Satisfies js A ↔ (Satisfies rs (first_sets n A) × Satisfies ss (first_sets p A))
