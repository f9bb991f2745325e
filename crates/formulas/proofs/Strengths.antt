-- The readers of a formula, by binding strength and by the token that stands next. Assumes nothing.
use Prim.Native.Nat.{ℕ, zero, suc, ◌≤◌, max}
use Prim.Native.String.{String}
use mathlib.Core.Path.{◌≡◌, refl, ◌∙◌, ap}
use mathlib.Core.Bool.{true, false, cond}
use mathlib.Core.List.{List, ◌∷◌}
use native.Mathlib.Omega.{arith}
use lib.Dec.{eqb, eqb-suc-zero}
use lib.ListN.{length}
use Rattle.std.specs.Prelude.{Option, Some, None}
use Rattle.logic.specs.Rule.{Record}
use Rattle.text.specs.Token.{Token, spells, number_in, words, text_marks}
use Rattle.text.specs.Kinds.{kind_number}
use Rattle.text.specs.declared.kinds.Kind.{Kind}
use Rattle.text.specs.declared.kinds.Kind.TheVariants as kind
use Rattle.text.specs.Syntax.{Name, Sentence, denied, both, either, implies, alike, Order, first, second, for_some, for_every, Scope}
use Rattle.text.specs.Grammar.{Read, got, peek, rest, accept, or23, Reader, read_then, joined, chain, reader, part_at, operand_at, consequent_at}
use Rattle.text.specs.Grammar.{implied_by}
use Rattle.text.specs.Grammar.{Part, operand, consequent, formula, operand_of, Start, negation, bracket, atomic, quantifier, opening, operand_start}
use Rattle.text.specs.Grammar.{atom_of}
use Rattle.text.specs.Grammar.{refused as leaves}
use Rattle.text.specs.Records.{tracks, write}
use Rattle.text.proofs.Steps.{Bounded, nothing, reader-within, joined-within, operand_at-within, consequent_at-within}
use Rattle.phrases.specs.Told.{binder_of}
use Rattle.drafting.specs.Joined.{put_joined, put_quantified}
use Rattle.drafting.specs.declared.Operator.{Operator}
use Rattle.drafting.specs.declared.Operator.TheVariants.{And, Or, Implies, Alike}
use Rattle.drafting.specs.declared.Quantifier.{Quantifier}
use Rattle.drafting.specs.declared.Quantifier.TheVariants.{SomePlace, SomeSet, EveryPlace, EverySet}
use Rattle.formulas.specs.declared.Opener.{Opener}
use Rattle.formulas.specs.declared.Opener.TheVariants.{Bracket, Denial, Quantified}
use Rattle.formulas.specs.Words.{opener_of, order_by, quantifier_by, mark_of}
use Rattle.formulas.specs.Reading.{deeper_at, level_at, strength_of, bracket_at, quantified_at, Joining, joins-alike, joins-either, joins-both}

-- ---- the operators

pub most : (w : Operator) → strength_of w ≤ 3
most Alike = omega arith
most Implies = omega arith
most Or = omega arith
most And = omega arith

-- those weaker than `&`, than `|`, and than `=>`
pub below_and : (w : Operator) → (w ≡ And → ⊥) → strength_of w ≤ 2
below_and Alike z = omega arith
below_and Implies z = omega arith
below_and Or z = omega arith
below_and And z = absurd (z refl)

pub below_or : (w : Operator) → (w ≡ And → ⊥) → (w ≡ Or → ⊥) → strength_of w ≤ 1
below_or Alike z y = omega arith
below_or Implies z y = omega arith
below_or Or z y = absurd (y refl)
below_or And z y = absurd (z refl)

pub below_implies : (w : Operator) → (w ≡ And → ⊥) → (w ≡ Or → ⊥) → (w ≡ Implies → ⊥) → strength_of w ≡ 0
below_implies Alike z y x = refl
below_implies Implies z y x = absurd (x refl)
below_implies Or z y x = absurd (y refl)
below_implies And z y x = absurd (z refl)

-- ---- the readers by strength

-- the operators that join any number of operands
unfoldable pub operator_of : {o : Operator} → Joining o → String
operator_of joins-alike = "<=>"
operator_of joins-either = "|"
operator_of joins-both = "&"

unfoldable pub join_of : {o : Operator} → Joining o → Sentence → Sentence → Sentence
join_of joins-alike = alike
join_of joins-either = either
join_of joins-both = both

pub mark-no_end : {o : Operator} → Joining o → mark_of o ≡ kind.End → ⊥
mark-no_end joins-alike e = cc
mark-no_end joins-either e = cc
mark-no_end joins-both e = cc

deeper_within : (d : ℕ) (p : Part) → Bounded (deeper_at d p)
unfolding deeper_at
deeper_within zero p sc ts = nothing
deeper_within (suc d) p sc ts = reader-within d p sc ts

-- the reader of an operator's operands leaves at most what it is given
pub tighter_within : (d : ℕ) {o : Operator} → Joining o → Bounded (level_at d (suc (strength_of o)))
unfolding level_at
tighter_within d joins-alike sc ts = consequent_at-within d (deeper_at d) (deeper_within d) sc ts
tighter_within d joins-either sc ts = joined-within "&" both (operand_at d (deeper_at d)) (operand_at-within d (deeper_at d) (deeper_within d)) sc ts
tighter_within d joins-both sc ts = operand_at-within d (deeper_at d) (deeper_within d) sc ts

-- the first operand, and then more
unfoldable pub ahead : (d : ℕ) {o : Operator} → Joining o → Scope → Read Sentence → Read Sentence
ahead d {o} j sc R = read_then R (λ f us. chain (length us) (operator_of j) (join_of j) (level_at d (suc (strength_of o))) sc f us)

pub level-starts : (d : ℕ) {o : Operator} (j : Joining o) (sc : Scope) (ts : List Token)
    → level_at d (strength_of o) sc ts ≡ ahead d j sc (level_at d (suc (strength_of o)) sc ts)
unfolding level_at joined ahead operator_of join_of
level-starts d joins-alike sc ts = refl
level-starts d joins-either sc ts = refl
level-starts d joins-both sc ts = refl

pub spells-operator : {o : Operator} (j : Joining o) (t : Token) → spells (operator_of j) t ≡ eqb t.kind (kind_number (mark_of o))
unfolding operator_of spells number_in words text_marks
spells-operator joins-alike t = refl
spells-operator joins-either t = refl
spells-operator joins-both t = refl

-- what is put behind both sides is what the joined sentence puts
pub write-join : {o : Operator} (j : Joining o) (sc : Scope) (f g : Sentence) (rs : List Record)
    → put_joined o (write sc f rs) (write sc g (write sc f rs)) ≡ write sc (join_of j f g) rs
unfolding join_of write
write-join joins-alike sc f g rs = refl
write-join joins-either sc f g rs = refl
write-join joins-both sc f g rs = refl

pub tracks-join : {o : Operator} (j : Joining o) (i : ℕ) (f g : Sentence) → tracks i (join_of j f g) ≡ max (tracks i f) (tracks i g)
unfolding join_of tracks
tracks-join joins-alike i f g = refl
tracks-join joins-either i f g = refl
tracks-join joins-both i f g = refl

-- reading on after a change of what was read
pub then-then : (X : Read Sentence) (h : Sentence → Sentence) (go : Sentence → List Token → Read Sentence)
    → read_then (read_then X (λ g us. got (h g) us)) go ≡ read_then X (λ g us. go (h g) us)
then-then (got g us) h go = refl
then-then (leaves k t) h go = refl

-- ---- the readers one level deeper

record Deeper (d : ℕ) : Type 0 where
  pub to_consequent : deeper_at (suc d) consequent ≡ level_at d 1
  pub to_operand : deeper_at (suc d) operand ≡ level_at d 4
  pub to_formula : deeper_at (suc d) formula ≡ level_at d 0

deeper_is : (d : ℕ) → Deeper d
unfolding deeper_at reader part_at level_at
deeper_is zero = record { to_consequent = refl; to_operand = refl; to_formula = refl }
deeper_is (suc d) = record { to_consequent = refl; to_operand = refl; to_formula = refl }

-- the reader of a whole formula is that of the weakest operator
pub reader-formula : (d : ℕ) (sc : Scope) (ts : List Token) → reader d formula sc ts ≡ level_at d 0 sc ts
unfolding deeper_at
reader-formula d sc ts = ap (λ (rd : Reader). rd sc ts) (deeper_is d).to_formula

-- ---- the right side of `=>`

-- `=>` behind the left side f
abbrev pub implied : ℕ → Scope → Sentence → List Token → Read Sentence
implied d sc f us = implied_by d (deeper_at d) sc f us

pub level-one : (d : ℕ) (sc : Scope) (ts : List Token) → level_at d 1 sc ts ≡ read_then (level_at d 2 sc ts) (λ f us. implied d sc f us)
unfolding level_at consequent_at
level-one d sc ts = refl

module _ (sc : Scope) (f : Sentence) (us : List Token) where
  pub implied-none : (d : ℕ) → eqb (peek us).kind 18 ≡ false → implied d sc f us ≡ got f us
  unfolding implied_by spells number_in words text_marks
  implied-none d e = rw (e, implied_by) refl

  pub implied-deep : eqb (peek us).kind 18 ≡ true → implied 0 sc f us ≡ leaves 23 (peek us)
  unfolding implied_by spells number_in words text_marks
  implied-deep e = rw (e, implied_by) refl

  pub implied_is : (d : ℕ) → eqb (peek us).kind 18 ≡ true
      → implied (suc d) sc f us ≡ read_then (level_at d 1 sc (rest us)) (λ g us. got (implies f g) us)
  unfolding implied_by spells number_in words text_marks
  implied_is d e = rw (e, implied_by, eqb-suc-zero d) (ap (λ (rd : Reader). read_then (rd sc (rest us)) (λ g us. got (implies f g) us)) (deeper_is d).to_consequent)

-- ---- operands

-- how an operand starts, by the number of its first token's kind, and by what that opens
abbrev start_number : ℕ → ℕ → Start
start_number d n =
    cond (eqb n 15) (opening d negation)
    (cond (eqb n 13) (opening d bracket)
    (cond (eqb n 3) (opening d (quantifier for_some first))
    (cond (eqb n 4) (opening d (quantifier for_some second))
    (cond (eqb n 5) (opening d (quantifier for_every first)) (cond (eqb n 6) (opening d (quantifier for_every second)) atomic)))))

abbrev start_by : ℕ → Option Opener → Start
start_by d None = atomic
start_by d (Some Bracket) = opening d bracket
start_by d (Some Denial) = opening d negation
start_by d (Some (Quantified q)) = opening d (quantifier (quantifier_by q) (order_by q))

start_is : (d : ℕ) (k : Kind) → start_number d (kind_number k) ≡ start_by d (opener_of k)
start_is d kind.Ws2s = refl
start_is d kind.Var1 = refl
start_is d kind.Var2 = refl
start_is d kind.Ex1 = refl
start_is d kind.Ex2 = refl
start_is d kind.All1 = refl
start_is d kind.All2 = refl
start_is d kind.Sub = refl
start_is d kind.In = refl
start_is d kind.Root = refl
start_is d kind.Semicolon = refl
start_is d kind.Comma = refl
start_is d kind.Colon = refl
start_is d kind.Opening = refl
start_is d kind.Closing = refl
start_is d kind.Not = refl
start_is d kind.And = refl
start_is d kind.Or = refl
start_is d kind.Implies = refl
start_is d kind.Alike = refl
start_is d kind.Equals = refl
start_is d kind.Branch1 = refl
start_is d kind.Branch2 = refl
start_is d kind.Name = refl
start_is d kind.Stray = refl
start_is d kind.End = refl

module _ (sc : Scope) (ts : List Token) (k : Kind) (e : (peek ts).kind ≡ kind_number k) {o : Option Opener} (f : opener_of k ≡ o) where
  operand_is : (d : ℕ) → level_at d 4 sc ts ≡ operand_of (deeper_at d) (start_by d o) sc ts
  unfolding level_at operand_at operand_start spells number_in words text_marks
  operand_is d =
      ap (λ (m : ℕ). operand_of (deeper_at d) (start_number d m) sc ts) e ∙ ap (λ (s : Start). operand_of (deeper_at d) s sc ts) (start_is d k)
      ∙ ap (λ (p : Option Opener). operand_of (deeper_at d) (start_by d p) sc ts) f

  pub atom_is : (d : ℕ) → o ≡ None → level_at d 4 sc ts ≡ atom_of sc ts
  unfolding operand_of
  atom_is d g = operand_is d ∙ ap (λ (p : Option Opener). operand_of (deeper_at d) (start_by d p) sc ts) g

  -- no level is left
  pub operand-deep : (p : Opener) → o ≡ Some p → level_at 0 4 sc ts ≡ leaves 23 (peek ts)
  unfolding operand_of opening
  operand-deep p g = operand_is 0 ∙ ap (λ (p : Option Opener). operand_of (deeper_at 0) (start_by 0 p) sc ts) g ∙ by p
    where
      by : (p : Opener) → operand_of (deeper_at 0) (start_by 0 (Some p)) sc ts ≡ leaves 23 (peek ts)
      by Bracket = refl
      by Denial = refl
      by (Quantified q) = refl

  pub negation_is : (d : ℕ) → o ≡ Some Denial → level_at (suc d) 4 sc ts ≡ read_then (level_at d 4 sc (rest ts)) (λ f us. got (denied f) us)
  unfolding operand_of opening
  negation_is d g =
      operand_is (suc d) ∙ ap (λ (p : Option Opener). operand_of (deeper_at (suc d)) (start_by (suc d) p) sc ts) g
      ∙ ap (λ (rd : Reader). read_then (rd sc (rest ts)) (λ f us. got (denied f) us)) (deeper_is d).to_operand

  pub bracket_is : (d : ℕ) → o ≡ Some Bracket → level_at (suc d) 4 sc ts ≡ bracket_at d sc ts
  unfolding operand_of opening bracket_at
  bracket_is d g =
      operand_is (suc d) ∙ ap (λ (p : Option Opener). operand_of (deeper_at (suc d)) (start_by (suc d) p) sc ts) g
      ∙ ap (λ (rd : Reader). read_then (rd sc (rest ts)) (λ f us. accept (or23 (spells ")" (peek us))) us (λ _ vs. got f vs))) (deeper_is d).to_formula

  pub quantifier_is : (d : ℕ) (q : Quantifier) → o ≡ Some (Quantified q) → level_at (suc d) 4 sc ts ≡ quantified_at d q sc ts
  unfolding operand_of opening quantified_at
  quantifier_is d q g =
      operand_is (suc d) ∙ ap (λ (p : Option Opener). operand_of (deeper_at (suc d)) (start_by (suc d) p) sc ts) g
      ∙ ap (λ (rd : Reader). binder_of sc (rest ts)
      (λ x vs. read_then (rd (record { name = x; order = order_by q } ∷ sc) vs) (λ f us. got (quantifier_by q (order_by q) x f) us))) (deeper_is d).to_formula

-- the closing bracket, or 23 at what stands there
unfoldable pub closing : Sentence → List Token → Read Sentence
closing f us = accept (or23 (spells ")" (peek us))) us (λ _ vs. got f vs)

module _ (f : Sentence) (us : List Token) where
  pub closing-there : (peek us).kind ≡ 14 → closing f us ≡ got f (rest us)
  unfolding closing accept spells number_in words text_marks
  closing-there e = rw e refl

  pub closing-lacks : eqb (peek us).kind 14 ≡ false → closing f us ≡ leaves 23 (peek us)
  unfolding closing accept spells number_in words text_marks
  closing-lacks e = rw e refl

pub bracket-starts : (d : ℕ) (sc : Scope) (ts : List Token) → bracket_at d sc ts ≡ read_then (level_at d 0 sc (rest ts)) (λ f us. closing f us)
unfolding bracket_at closing
bracket-starts d sc ts = refl

-- what a quantifier puts behind the records of its formula
pub write_quantified : (q : Quantifier) (sc : Scope) (x : Name) (f : Sentence) (rs : List Record)
    → put_quantified q (length sc) (write (record { name = x; order = order_by q } ∷ sc) f rs) ≡ write sc (quantifier_by q (order_by q) x f) rs
unfolding write
write_quantified SomePlace sc x f rs = refl
write_quantified SomeSet sc x f rs = refl
write_quantified EveryPlace sc x f rs = refl
write_quantified EverySet sc x f rs = refl

pub tracks_quantified : (q : Quantifier) (i : ℕ) (o : Order) (x : Name) (f : Sentence) → tracks i (quantifier_by q o x f) ≡ tracks (suc i) f
unfolding tracks
tracks_quantified SomePlace i o x f = refl
tracks_quantified SomeSet i o x f = refl
tracks_quantified EveryPlace i o x f = refl
tracks_quantified EverySet i o x f = refl
