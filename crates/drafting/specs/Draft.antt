-- The records of a text in an array of words, while the text is read. Assumes nothing.
use Rattle.std.specs.Prelude.{ℕ, ◌<◌, ◌≤◌, min, ◌≡◌, List, length, get_or}
use Rattle.logic.specs.Rule.{Record, no_record}
use Rattle.rule_strip.specs.RuleWriting.{record_word}
use Rattle.text.specs.Records.{put}
use Rattle.drafting.specs.declared.Draft.{Draft}

-- the draft d stands for the records rs; a strip has at most 128, and of more nothing is kept but that there are more: so no text is too long
-- for the count
pub record Drafted (d : Draft) (rs : List Record) : Type 0 where
  pub room : length d.words ≡ 128
  pub size : d.count ≡ min (length rs) 129
  pub each : (i : ℕ) → i < length rs → i < 128 → get_or d.words i 0 ≡ record_word (get_or rs i no_record)

-- whatever records stood in the draft, now f of them do
abbrev pub Drafts : Draft → Draft → (List Record → List Record) → Type 0
Drafts d e f = (rs : List Record) → Drafted d rs → Drafted e (f rs)

-- whatever records stood in the draft, now one more does: that of an op's number and two fields, which have to be right only where it is kept
abbrev pub Puts : Draft → ℕ → ℕ → ℕ → Draft → Type 0
Puts d op x y e =
    (rs : List Record) (a b : ℕ) → Drafted d rs → (d.count < 128 → x ≡ a) → (d.count < 128 → y ≡ b) → Drafted e (put op a b rs)

-- whatever records gs stood in the draft, of which fs, counted by l, are the first, now f of them do
abbrev pub Joins : Draft → ℕ → Draft → (List Record → List Record → List Record) → Type 0
Joins d l e f = (fs gs : List Record) → l ≡ min (length fs) 129 → length fs ≤ length gs → Drafted d gs → Drafted e (f fs gs)
