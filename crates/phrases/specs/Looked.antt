-- What is known of a name that was looked up, and by which token an atom goes on: request A2's grammar and its refusal 24. Assumes nothing.
use Rattle.std.specs.Prelude.{ℕ, ◌<◌, ◌≡◌, Bool, true, false, cond, List, eqb, Option, Some, None, Result, Ok, Err}
use Rattle.refusals.specs.Reason.{number_of}
use Rattle.text.specs.declared.kinds.Kind.{Kind}
use Rattle.text.specs.declared.kinds.Kind.TheVariants as kind
use Rattle.text.specs.Kinds.{kind_number}
use Rattle.text.specs.Token.{sub_kind, in_kind, equals_kind}
use Rattle.text.specs.Syntax.{Name, Order, first, second, Scope}
use Rattle.text.specs.Grammar.{same_order, has_order, is_in_use, used_refusal, Relation, inclusion, membership, equality, other}
use Rattle.text.specs.Records.{track_of}
use Rattle.tokens.specs.declared.Token.{Token}
use Rattle.tokens.specs.declared.TokenFault.{TokenFault}
use Rattle.tokens.specs.declared.names.Order.{Order as OrderCode}
use Rattle.tokens.specs.declared.names.Order.TheVariants.{First, Second}
use Rattle.tokens.specs.Spans.{part}
use Rattle.tokens.specs.Named.{order_of}
use Rattle.tokens.specs.Tokens.{read_from}
use Rattle.phrases.specs.declared.Holder.{Holder}

-- the name x is in use among sc, as h
pub record Held (sc : Scope) (x : Name) (h : Holder) : Type 0 where
  pub of_order : (o : Order) → has_order sc o x ≡ same_order o (order_of h.order)
  pub at_all : is_in_use sc x ≡ true
  pub track_is : track_of sc x ≡ h.track
  pub few : h.track < 8

-- the name x "is undeclared"
pub record Unknown (sc : Scope) (x : Name) : Type 0 where
  pub of_order : (o : Order) → has_order sc o x ≡ false
  pub at_all : is_in_use sc x ≡ false

-- the name x as the names sc in use have it
abbrev pub Looked : Scope → Name → Option Holder → Type 0
Looked sc x (Some h) = Held sc x h
Looked sc x None = Unknown sc x

-- a text is refused at the token t
pub record LiesAt (t : Token) (f : TokenFault) : Type 0 where
  pub start_is : f.start ≡ t.start
  pub stop_is : f.stop ≡ t.stop

-- the token t of the text s is good as a name of order o, and has that track
pub record UsedWell (s : List ℕ) (sc : Scope) (o : Order) (t : Token) (track : ℕ) : Type 0 where
  pub refusal_is : used_refusal (has_order sc o (part s t.start t.stop)) (read_from s t) ≡ 0
  pub track_is : track_of sc (part s t.start t.stop) ≡ track
  pub few : track < 8

-- it is refused
pub record UsedBadly (s : List ℕ) (sc : Scope) (o : Order) (t : Token) (f : TokenFault) : Type 0 where
  pub refusal_is : used_refusal (has_order sc o (part s t.start t.stop)) (read_from s t) ≡ number_of f.reason
  pub lies_at : LiesAt t f

-- the token t of the text s, used as a name of order o: its track, or its refusal
abbrev pub UsedAs : List ℕ → Scope → Order → Token → Result ℕ TokenFault → Type 0
UsedAs s sc o t (Ok track) = UsedWell s sc o t track
UsedAs s sc o t (Err f) = UsedBadly s sc o t f

-- a refusal's number; 0 where there is none
abbrev pub refusal_number : Result Unit TokenFault → ℕ
refusal_number (Ok u) = 0
refusal_number (Err f) = number_of f.reason

-- the word or mark between the two sides of an atom, by its kind
abbrev pub relation_by : Kind → Relation
relation_by k =
    let n = kind_number k in
    cond (eqb n sub_kind) inclusion (cond (eqb n in_kind) membership (cond (eqb n equals_kind) equality other))

-- whether a name of that order may stand before it
abbrev pub good_order : Relation → OrderCode → Bool
good_order inclusion p = same_order second (order_of p)
good_order membership p = same_order first (order_of p)
good_order equality p = same_order first (order_of p)
good_order other p = true

-- `var1` declares names of first order, `var2` of second, and no other token declares any
abbrev pub Declares : Kind → Option OrderCode → Type 0
Declares k (Some First) = k ≡ kind.Var1
Declares k (Some Second) = k ≡ kind.Var2
Declares k None = (k ≡ kind.Var1 → ⊥) × (k ≡ kind.Var2 → ⊥)
