-- A token that is taken, or at which a reading ends; marks that must stand; what a quantifier binds. Assumes nothing.
use Prim.Native.Nat.{ℕ, ◌<◌, ◌≤◌}
use Prim.Native.String.{String}
use mathlib.Core.Path.{◌≡◌, refl, sym, ◌∙◌, ap}
use mathlib.Core.Bool.{true, false}
use mathlib.Core.List.{List, ◌++◌}
use native.Mathlib.Omega.{arith}
use borrow.Author.Tests.{eq-eqb, ne_eqb, le-leb, lt-leb}
use lib.ListN.{length}
use Rattle.refusals.specs.Reason.{number_of}
use Rattle.refusals.specs.declared.Reason.{Reason}
use Rattle.refusals.specs.declared.Reason.TheVariants as reason
use Rattle.text.specs.declared.kinds.Kind.{Kind}
use Rattle.text.specs.declared.kinds.Kind.TheVariants as kind
use Rattle.text.specs.Kinds.{kind_number}
use Rattle.text.specs.Token.{Token as TextToken, words, text_marks, number_in, spells}
use Rattle.text.specs.Syntax.{Name, Sentence, Scope}
use Rattle.text.specs.Grammar.{Read, refused, peek, rest, accept, or23, new_refusal}
use Rattle.text.proofs.KindNumbers.{other_kind}
use Rattle.tokens.specs.declared.Token.{Token}
use Rattle.tokens.specs.declared.TokenFault.{TokenFault}
use Rattle.tokens.specs.Spans.{part, Span}
use Rattle.tokens.specs.Tokens.{tokens_at, read_from, refused_at, StandsNext}
use Rattle.phrases.specs.Looked.{LiesAt}
use Rattle.phrases.specs.Told.{RefusedAt, MarkStands, MarkLacks, binder_of, BinderBound}

-- a token of one kind is of no other
pub other_than : {m k l : Kind} → m ≡ k → (k ≡ l → ⊥) → m ≡ l → ⊥
other_than e z d = z (sym e ∙ d)

-- a token of another kind than the end
pub not_end : {m k : Kind} → m ≡ k → (k ≡ kind.End → ⊥) → m ≡ kind.End → ⊥
not_end e l z = l (sym e ∙ z)

-- a name's bytes lie in the text
pub name-span : {s : List ℕ} {at : ℕ} {t : Token} → StandsNext s at t → t.kind ≡ kind.Name → Span s t.start t.stop
name-span st e = record { ordered = st.ordered; inside = (st.onward (not_end e (λ z. cc))).1 }

-- a reason's number is none that says that there is no refusal
pub number-pos : (r : Reason) → number_of r ≡ 0 → ⊥
number-pos reason.RuleShort e = omega arith
number-pos reason.RuleVersion e = omega arith
number-pos reason.RuleVariables e = omega arith
number-pos reason.RuleRecords e = omega arith
number-pos reason.RuleLength e = omega arith
number-pos reason.RulePadding e = omega arith
number-pos reason.Op e = omega arith
number-pos reason.Variable e = omega arith
number-pos reason.Record e = omega arith
number-pos reason.Unused e = omega arith
number-pos reason.Ceiling e = omega arith
number-pos reason.Workspace e = omega arith
number-pos reason.Out e = omega arith
number-pos reason.States e = omega arith
number-pos reason.TreeShort e = omega arith
number-pos reason.TreeVersion e = omega arith
number-pos reason.TreeVariables e = omega arith
number-pos reason.TreeCut e = omega arith
number-pos reason.TreeBare e = omega arith
number-pos reason.TreePositions e = omega arith
number-pos reason.TreeLeftOver e = omega arith
number-pos reason.TreeOther e = omega arith
number-pos reason.TextGrammar e = omega arith
number-pos reason.TextName e = omega arith
number-pos reason.TextVariables e = omega arith
number-pos reason.TextRecords e = omega arith
number-pos reason.RuleOut e = omega arith
number-pos reason.Parts e = omega arith
number-pos reason.Satisfiable e = omega arith
number-pos reason.JoinedRecords e = omega arith

accept-goes : {A : Type 0} (r : ℕ) (ts : List TextToken) (go : Name → List TextToken → Read A) → r ≡ 0 → accept r ts go ≡ go (peek ts).bytes (rest ts)
unfolding accept
accept-goes r ts go e = rw e refl

accept-stops : {A : Type 0} (r : ℕ) (ts : List TextToken) (go : Name → List TextToken → Read A) → (r ≡ 0 → ⊥) → accept r ts go ≡ refused r (peek ts)
unfolding accept
accept-stops r ts go z = rw (ne_eqb r 0 z, accept) refl

-- the token t stands next, and f tells the refusal of a token
module _ {A : Type 0} {s : List ℕ} {at : ℕ} {t : Token} (st : StandsNext s at t) (f : TextToken → ℕ) (go : Name → List TextToken → Read A) where
  pub taken : (t.kind ≡ kind.End → ⊥) → f (read_from s t) ≡ 0
      → accept (f (peek (tokens_at s at))) (tokens_at s at) go ≡ go (part s t.start t.stop) (tokens_at s t.stop)
  taken z e = accept-goes _ (tokens_at s at) go (rw st.stands e) ∙ rw (st.stands, st.goes_on z) refl

  pub turned : (k : TokenFault) → f (read_from s t) ≡ number_of k.reason → LiesAt t k → RefusedAt (accept (f (peek (tokens_at s at))) (tokens_at s at) go) k
  turned k e l = record {
    token = read_from s t;
    refuses = accept-stops _ (tokens_at s at) go (rw (st.stands, e) (number-pos k.reason)) ∙ rw (st.stands, e) refl;
    start_is = sym l.start_is;
    stop_is = sym l.stop_is;
  }

-- ---- marks
-- whether the token that stands next is the word or mark w, of kind k
module _ {s : List ℕ} {at : ℕ} {t : Token} (st : StandsNext s at t) (w : String) {k : Kind} (e : number_in 0 (words ++ text_marks) w ≡ kind_number k) where
  pub spelled : t.kind ≡ k → spells w (peek (tokens_at s at)) ≡ true
  unfolding spells
  spelled d = rw (st.stands, e) (eq-eqb _ _ (ap kind_number d))

  pub not_spelled : (t.kind ≡ k → ⊥) → spells w (peek (tokens_at s at)) ≡ false
  unfolding spells
  not_spelled z = rw (st.stands, e) (ne_eqb _ _ (other_kind z))

-- a mark w that must stand, of that kind, and is taken, or refused
module _ {A : Type 0} {s : List ℕ} {k : Kind} {at : ℕ} (w : String) (e : number_in 0 (words ++ text_marks) w ≡ kind_number k)
    (go : Name → List TextToken → Read A) where
  pub mark-taken : {p : ℕ} → MarkStands s k at p
      → accept (or23 (spells w (peek (tokens_at s at)))) (tokens_at s at) go ≡ go (peek (tokens_at s at)).bytes (tokens_at s p)
  unfolding accept spells
  mark-taken m = rw (e, m.kind_is, eq-eqb (kind_number k) (kind_number k) refl, m.goes_on) refl

  pub mark-turned : {f : TokenFault} → MarkLacks s k at f → RefusedAt (accept (or23 (spells w (peek (tokens_at s at)))) (tokens_at s at) go) f
  unfolding accept spells
  mark-turned m = record {
    token = peek (tokens_at s at);
    refuses = rw (e, ne_eqb _ _ m.other-kind, m.reason_is) refl;
    start_is = m.start_is;
    stop_is = m.stop_is;
  }

module _ {s : List ℕ} {at : ℕ} {t : Token} (st : StandsNext s at t) where
  pub mark-stands : (k : Kind) → (k ≡ kind.End → ⊥) → t.kind ≡ k → MarkStands s k at t.stop
  mark-stands k l e =
      let z = not_end e l in
      record { kind_is = rw st.stands (ap kind_number e); stop_is = rw st.stands refl; goes_on = st.goes_on z; onward = omega (arith, st.onward z) }

  pub mark-lacks : (k : Kind) → (t.kind ≡ k → ⊥) → MarkLacks s k at (refused_at t reason.TextGrammar)
  mark-lacks k z = record { reason_is = refl; other-kind = rw st.stands (other_kind z); start_is = rw st.stands refl; stop_is = rw st.stands refl }

is_colon : number_in 0 (words ++ text_marks) ":" ≡ kind_number kind.Colon
unfolding number_in words text_marks
is_colon = refl

pub is_semicolon : number_in 0 (words ++ text_marks) ";" ≡ kind_number kind.Semicolon
unfolding number_in words text_marks
is_semicolon = refl

-- ---- what a quantifier binds
module _ {s : List ℕ} {at : ℕ} {t : Token} (st : StandsNext s at t) (n : ℕ) where
  pub binder_no_name : (t.kind ≡ kind.Name → ⊥) → (sc : Scope) → length sc ≡ n → (go : Name → List TextToken → Read Sentence)
      → RefusedAt (binder_of sc (tokens_at s at) go) (refused_at t reason.TextGrammar)
  binder_no_name z sc l go =
      turned st (λ u. new_refusal false sc u) _ _ (rw (ne_eqb _ 23 (other_kind {b = kind.Name} z)) refl) (record { start_is = refl; stop_is = refl })

  pub binder_full : t.kind ≡ kind.Name → 8 ≤ n → (sc : Scope) → length sc ≡ n → (go : Name → List TextToken → Read Sentence)
      → RefusedAt (binder_of sc (tokens_at s at) go) (refused_at t reason.TextVariables)
  binder_full e h sc l go = turned st (λ u. new_refusal false sc u) _ _ (rw (e, l, le-leb 8 n h) refl) (record { start_is = refl; stop_is = refl })

  module _ (e : t.kind ≡ kind.Name) (h : n < 8) (sc : Scope) (l : length sc ≡ n) (go : Name → List TextToken → Read Sentence) where
    binder_goes : binder_of sc (tokens_at s at) go
        ≡ accept (or23 (spells ":" (peek (tokens_at s t.stop)))) (tokens_at s t.stop) (λ _ vs. go (part s t.start t.stop) vs)
    binder_goes = taken st (λ u. new_refusal false sc u) _ (not_end e (λ z. cc)) (rw (e, l, lt-leb 8 n h) refl)

    pub binder_lacks : {f : TokenFault} → MarkLacks s kind.Colon t.stop f → RefusedAt (binder_of sc (tokens_at s at) go) f
    binder_lacks m = rw binder_goes (mark-turned ":" is_colon _ m)

  pub binder_bound : t.kind ≡ kind.Name → n < 8 → {p : ℕ} → MarkStands s kind.Colon t.stop p
      → BinderBound s n at (record { start = t.start; stop = t.stop; next = p })
  binder_bound e h m = record {
    reads = λ sc l go. binder_goes e h sc l go ∙ mark-taken ":" is_colon _ m;
    few = h;
    span = name-span st e;
    onward = omega (arith, st.onward (not_end e (λ z. cc)), m.onward);
  }
