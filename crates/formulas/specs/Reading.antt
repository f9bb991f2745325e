-- The readers of a formula by binding strength, and what the code that reads one answers: request A2, with document 01's "How trainers type
-- a rule". Assumes nothing.
use Rattle.std.specs.Prelude.{ℕ, zero, suc, ◌≤◌, max, ◌≡◌, List, ◌∷◌, length, Result, Ok, Err}
use Rattle.logic.specs.Rule.{Record}
use Rattle.refusals.specs.declared.Reason.TheVariants as reason
use Rattle.text.specs.Token.{Token, spells}
use Rattle.text.specs.declared.kinds.Kind.TheVariants.{Closing}
use Rattle.text.specs.Syntax.{Sentence, both, either, alike, Scope}
use Rattle.text.specs.Grammar.{Read, got, peek, rest, accept, or23, Reader, Part, joined, read_then, reader, operand_at, consequent_at}
use Rattle.text.specs.Grammar.{refused as leaves}
use Rattle.text.specs.Records.{tracks, write}
use Rattle.tokens.specs.Tokens.{tokens_at, StandsNext, refused_at}
use Rattle.tokens.specs.InUse.{scope_of}
use Rattle.tokens.specs.declared.TokenFault.{TokenFault}
use Rattle.phrases.specs.Told.{binder_of, RefusedAt}
use Rattle.drafting.specs.Draft.{Drafted}
use Rattle.drafting.specs.declared.Operator.{Operator}
use Rattle.drafting.specs.declared.Operator.TheVariants.{And, Or, Implies, Alike}
use Rattle.drafting.specs.declared.Quantifier.{Quantifier}
use Rattle.formulas.specs.Words.{order_by, quantifier_by}
use Rattle.formulas.specs.declared.Reader.{Reader as Held}
use Rattle.formulas.specs.declared.Refused.{Refused}

-- the readers one level deeper, where d levels may still open
unfoldable pub deeper_at : ℕ → Part → Reader
deeper_at zero = λ q sc ts. leaves 23 (peek ts)
deeper_at (suc d) = λ q sc ts. reader d q sc ts

-- "Binding strength falls from `~` through `&`, `|`, `=>` to `<=>`": the reader of each strength, 0 `<=>`, 1 `=>`, 2 `|`, 3 `&`, else an operand
unfoldable pub level_at : ℕ → ℕ → Reader
level_at d zero = joined "<=>" alike (consequent_at d (deeper_at d))
level_at d (suc zero) = consequent_at d (deeper_at d)
level_at d (suc (suc zero)) = joined "|" either (joined "&" both (operand_at d (deeper_at d)))
level_at d (suc (suc (suc zero))) = joined "&" both (operand_at d (deeper_at d))
level_at d (suc (suc (suc (suc k)))) = operand_at d (deeper_at d)

-- the strength of each operator
abbrev pub strength_of : Operator → ℕ
strength_of Alike = 0
strength_of Implies = 1
strength_of Or = 2
strength_of And = 3

-- a formula and its closing bracket, behind the opening one, which stands next
unfoldable pub bracket_at : ℕ → Reader
bracket_at d sc ts = read_then (level_at d 0 sc (rest ts)) (λ f us. accept (or23 (spells ")" (peek us))) us (λ _ vs. got f vs))

-- the name, the colon and the formula behind a quantifier word, which stands next
unfoldable pub quantified_at : ℕ → Quantifier → Reader
quantified_at d q sc ts = binder_of sc (rest ts) (λ x vs.
    read_then (level_at d 0 (record { name = x; order = order_by q } ∷ sc) vs) (λ f us. got (quantifier_by q (order_by q) x f) us))

-- the operators that join any number of operands: all but `=>`
pub data Joining : Operator → Type 0 where
  joins-alike : Joining Alike
  joins-either : Joining Or
  joins-both : Joining And

-- what is left of the text where reading has come to h
abbrev pub left_at : Held → List Token
left_at h = tokens_at h.names.text.now h.next.start

-- the token that stands next from a place on is looked at; the rest stays
pub record Looks (at : ℕ) (h h' : Held) : Type 0 where
  pub stands : StandsNext h.names.text.now at h'.next
  pub names_are : h'.names ≡ h.names
  pub draft_is : h'.draft ≡ h.draft
  pub tracks_is : h'.tracks ≡ h.tracks

-- "23 when it leaves this grammar or depth", at the token that stands next
abbrev pub refused_here : Held → Result Unit TokenFault
refused_here h = Err (refused_at h.next reason.TextGrammar)

-- reading is refused with x, which is kept; all else stays
pub record Refuses (x : TokenFault) (h h' : Held) : Type 0 where
  pub fault_is : h'.fault ≡ x
  pub names_are : h'.names ≡ h.names
  pub next_is : h'.next ≡ h.next
  pub draft_is : h'.draft ≡ h.draft
  pub tracks_is : h'.tracks ≡ h.tracks

-- what reading a formula answers: it leaves the tokens from a place on, having put the formula's records behind rs and counted its tracks; or a
-- refusal at a token, which is kept. h and h': where reading had come to before and after
pub data Told (sc : Scope) (rs : List Record) (h h' : Held) (R : Read Sentence) (r : Result Unit Refused) : Type 0 where
  told-got : (f : Sentence) → R ≡ got f (left_at h') → r ≡ Ok tt → Drafted h'.draft (write sc f rs) → h'.tracks ≡ max h.tracks (tracks (length sc) f)
      → Told sc rs h h' R r
  told-refused : (x : Refused) → RefusedAt R h'.fault → r ≡ Err x → Told sc rs h h' R r

-- the answer is what the reader reads; the names in use are as before
pub record Reads (read : Reader) (h h' : Held) (r : Result Unit Refused) : Type 0 where
  pub tells : (rs : List Record) → Drafted h.draft rs → length (scope_of h.names) ≤ h.tracks
      → Told (scope_of h.names) rs h h' (read (scope_of h.names) (left_at h)) r
  pub names_are : h'.names ≡ h.names
  pub onward : r ≡ Ok tt → h.next.start ≤ h'.next.start

-- whatever the reader of a first part left, the reader of the whole answers so
abbrev pub Leads : Reader → Reader → Held → Held → Result Unit Refused → Type 0
Leads part whole h h' r = (i : Held) → Reads part i h (Ok tt) → Reads whole i h' r

-- the bracket that closes a formula stands next, and is taken, or not
pub data Closes (h h' : Held) (r : Result Unit Refused) : Type 0 where
  closes : r ≡ Ok tt → h.next.kind ≡ Closing → Looks h.next.stop h h' → Closes h h' r
  lacks-closing : (x : Refused) → r ≡ Err x → (h.next.kind ≡ Closing → ⊥) → Refuses (refused_at h.next reason.TextGrammar) h h' → Closes h h' r
