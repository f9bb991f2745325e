-- The claim of request A2: "The written strip holds exactly for the assignments that satisfy the text, with free first-order variables as
-- singletons." Assumes nothing.
use Rattle.std.specs.Prelude.{ℕ, ◌≡◌, ◌↔◌, List, [], ◌∷◌, Ok, length}
use Rattle.logic.specs.Meaning.{Assignment, IsOnly}
use Rattle.logic.specs.Rule.{Satisfies}
use Rattle.rule_strip.specs.RuleStrip.{records_of, rule_bytes}
use Rattle.rule_strip.specs.RuleAnswers.{checked_rule}
use Rattle.text.specs.Token.{Token}
use Rattle.text.specs.Syntax.{Name, Order, first, second, Scope, Text}
use Rattle.text.specs.Grammar.{got, text_of}
use Rattle.text.specs.Meaning.{Names, Says}
use Rattle.text.specs.Records.{variables_in, count_in}
use Rattle.text.specs.Import.{import, written}

-- a free variable x of track i: of first order, the set of its place alone; of second order, its set
unfoldable pub StandsFor : Order → Name → ℕ → Names → Assignment 2 → Type 0
StandsFor first x i E A = IsOnly (E.place x) (A i)
StandsFor second x i E A = E.set x ≡ A i

-- the declared names stand for what the assignment gives their tracks, "in order of declaration"; the latest is first in the list
unfoldable pub AllStandFor : Scope → Names → Assignment 2 → Type 0
AllStandFor [] E A = Unit
AllStandFor (d ∷ sc) E A = StandsFor d.order d.name (length sc) E A × AllStandFor sc E A

-- the text s was imported as this strip, with n and m: it was read as `text`
pub record Imported (s : List ℕ) (n m : ℕ) (strip : List ℕ) : Type 0 where
  pub text : Text
  pub left : List Token
  pub is_read : text_of s ≡ got text left
  -- "Free variables take tracks", "n is one more than the highest track taken", "Each atom ... makes one record"
  pub variables_are : n ≡ variables_in text
  pub records_are : m ≡ count_in text
  -- the strip passes the strip check, which returns n and m; its length is as document 01 says
  pub passes : checked_rule strip ≡ Ok (record { variables = n; records = m })
  pub size : length strip ≡ rule_bytes m
  -- an assignment satisfies the written rule exactly if each free first-order variable's set is a singleton and the text holds with these places
  -- and the other sets
  pub meaning : (A : Assignment 2) → Satisfies (records_of strip) A ↔ ((E : Names) × AllStandFor text.declared E A × Says text.sentence E)

-- the claim: of whatever import writes
abbrev pub ImportClaim : Type 0
ImportClaim = (s : List ℕ) (room n m : ℕ) (strip : List ℕ) → import s room ≡ written n m strip → Imported s n m strip
