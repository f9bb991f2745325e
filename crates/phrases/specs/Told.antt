-- What the code that reads the parts of a text that do not nest says of the definitions' readers: request A2. Assumes nothing.
use Rattle.std.specs.Prelude.{ℕ, ◌<◌, ◌≤◌, ◌≡◌, false, cond, List, eqb, length, Result, Ok, Err}
use Rattle.refusals.specs.Reason.{number_of}
use Rattle.refusals.specs.declared.Reason.TheVariants as reason
use Rattle.text.specs.declared.kinds.Kind.{Kind}
use Rattle.text.specs.Kinds.{kind_number}
use Rattle.text.specs.Token.{Token as TextToken, spells, sub_kind}
use Rattle.text.specs.Syntax.{Name, second, Spot, Atom, sub, member, equal, Sentence, atom, Scope}
use Rattle.text.specs.Grammar.{Read, got, refused, peek, rest, read_then, accept, or23, new_refusal, used, branch_of, spot_of, related, relation_of}
use Rattle.text.specs.Records.{track_of}
use Rattle.tokens.specs.declared.Token.{Token}
use Rattle.tokens.specs.declared.TokenFault.{TokenFault}
use Rattle.tokens.specs.Spans.{part, Span}
use Rattle.tokens.specs.Tokens.{tokens_at, StandsNext}
use Rattle.tokens.specs.InUse.{scope_of}
use Rattle.drafting.specs.Coded.{coded_atom, coded_spot, AtomBelow, SpotBelow}
use Rattle.phrases.specs.declared.Binder.{Binder}
use Rattle.phrases.specs.declared.SpotRead.{SpotRead}
use Rattle.phrases.specs.declared.AtomRead.{AtomRead}
use Rattle.phrases.specs.declared.Declared.{Declared}

-- a reading ends in the refusal f
pub record RefusedAt {A : Type 0} (R : Read A) (f : TokenFault) : Type 0 where
  pub token : TextToken
  pub refuses : R ≡ refused (number_of f.reason) token
  pub start_is : token.start ≡ f.start
  pub stop_is : token.stop ≡ f.stop

-- a word or mark of that kind stands next at place `at` of s, and the next token is looked for from place p on
pub record MarkStands (s : List ℕ) (kind : Kind) (at p : ℕ) : Type 0 where
  pub kind_is : (peek (tokens_at s at)).kind ≡ kind_number kind
  pub stop_is : (peek (tokens_at s at)).stop ≡ p
  pub goes_on : rest (tokens_at s at) ≡ tokens_at s p
  pub onward : at ≤ p

-- another token stands there, at which the text is refused: "23 when it leaves this grammar"
pub record MarkLacks (s : List ℕ) (kind : Kind) (at : ℕ) (f : TokenFault) : Type 0 where
  pub reason_is : f.reason ≡ reason.TextGrammar
  pub other-kind : (peek (tokens_at s at)).kind ≡ kind_number kind → ⊥
  pub start_is : (peek (tokens_at s at)).start ≡ f.start
  pub stop_is : (peek (tokens_at s at)).stop ≡ f.stop

abbrev pub MarkTold : List ℕ → Kind → ℕ → Result ℕ TokenFault → Type 0
MarkTold s kind at (Ok p) = MarkStands s kind at p
MarkTold s kind at (Err f) = MarkLacks s kind at f

-- "a quantifier binds one name": the name and the colon behind a quantifier word, and then what is read by go
abbrev pub binder_of : Scope → List TextToken → (Name → List TextToken → Read Sentence) → Read Sentence
binder_of sc ts go = accept (new_refusal false sc (peek ts)) ts (λ x us. accept (or23 (spells ":" (peek us))) us (λ _ vs. go x vs))

-- the name of b and its colon stand next at place `at`; n names are in use, so a track is left for it
pub record BinderBound (s : List ℕ) (n at : ℕ) (b : Binder) : Type 0 where
  pub reads : (sc : Scope) → length sc ≡ n → (go : Name → List TextToken → Read Sentence)
      → binder_of sc (tokens_at s at) go ≡ go (part s b.start b.stop) (tokens_at s b.next)
  pub few : n < 8
  pub span : Span s b.start b.stop
  pub onward : at ≤ b.next

abbrev pub BinderTold : List ℕ → ℕ → ℕ → Result Binder TokenFault → Type 0
BinderTold s n at (Ok b) = BinderBound s n at b
BinderTold s n at (Err f) = (sc : Scope) → length sc ≡ n → (go : Name → List TextToken → Read Sentence) → RefusedAt (binder_of sc (tokens_at s at) go) f

-- a place was read from place `at` on, and the next token is looked for from place r.next on
pub record SpotIs (s : List ℕ) (sc : Scope) (at : ℕ) (R : Read Spot) (r : SpotRead) : Type 0 where
  pub spot : Spot
  pub code_is : r.place ≡ coded_spot sc spot
  pub reads : R ≡ got spot (tokens_at s r.next)
  pub below : SpotBelow 8 r.place
  pub onward : at ≤ r.next

abbrev pub SpotTold : List ℕ → Scope → ℕ → Read Spot → Result SpotRead TokenFault → Type 0
SpotTold s sc at R (Ok r) = SpotIs s sc at R r
SpotTold s sc at R (Err f) = RefusedAt R f

-- what may follow a name of that track: "`.0` is branch 1 and `.1` branch 2"
abbrev pub BranchTold : List ℕ → ℕ → ℕ → SpotRead → Type 0
BranchTold s track at r = (sc : Scope) (y : Name) → track_of sc y ≡ track → SpotIs s sc at (branch_of y (tokens_at s at)) r

-- an atom was read from place `at` on, and the next token is looked for from place r.next on
pub record AtomIs (s : List ℕ) (sc : Scope) (at : ℕ) (R : Read Sentence) (r : AtomRead) : Type 0 where
  pub said : Atom
  pub code_is : r.atom ≡ coded_atom sc said
  pub reads : R ≡ got (atom said) (tokens_at s r.next)
  pub below : AtomBelow 8 r.atom
  pub onward : at ≤ r.next

abbrev pub AtomTold : List ℕ → Scope → ℕ → Read Sentence → Result AtomRead TokenFault → Type 0
AtomTold s sc at R (Ok r) = AtomIs s sc at R r
AtomTold s sc at R (Err f) = RefusedAt R f

-- the right side of `sub` or, of any other kind, `in`, from place `at` on, behind a name of that track
abbrev pub sided : Kind → Name → Name → Atom
sided k x y = cond (eqb (kind_number k) sub_kind) (sub x y) (member x y)

abbrev pub RightTold : List ℕ → Scope → ℕ → Kind → ℕ → Result AtomRead TokenFault → Type 0
RightTold s sc track kind at r = (x : Name) → track_of sc x ≡ track
    → AtomTold s sc at (used second sc (tokens_at s at) (λ y us. got (atom (sided kind x y)) us)) r

-- the right side of `=`, likewise
abbrev pub EqualTold : List ℕ → Scope → ℕ → ℕ → Result AtomRead TokenFault → Type 0
EqualTold s sc track at r = (x : Name) → track_of sc x ≡ track
    → AtomTold s sc at (read_then (spot_of sc (tokens_at s at)) (λ p us. got (atom (equal x p)) us)) r

-- the rest of an atom, which the token t begins, behind a name of that track
abbrev pub RelatedTold : List ℕ → Scope → ℕ → Token → Result AtomRead TokenFault → Type 0
RelatedTold s sc track t r = (at : ℕ) (x : Name) → StandsNext s at t → track_of sc x ≡ track
    → AtomTold s sc at (related (relation_of (peek (tokens_at s at))) sc x (tokens_at s at)) r

-- the names of d are declared in the text s, and the next token is looked for from place d.next on
pub record NamesAre (s : List ℕ) (at : ℕ) (R : Read Scope) (d : Declared) : Type 0 where
  pub reads : R ≡ got (scope_of d.names) (tokens_at s d.next)
  pub text_is : d.names.text.now ≡ s
  pub onward : at ≤ d.next

abbrev pub DeclarationsTold : List ℕ → ℕ → Read Scope → Result Declared TokenFault → Type 0
DeclarationsTold s at R (Ok d) = NamesAre s at R d
DeclarationsTold s at R (Err f) = RefusedAt R f
