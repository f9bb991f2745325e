-- The names of one declaration, and all declarations. Assumes nothing.
use Prim.Native.Nat.{ℕ, ◌<◌, ◌≤◌}
use mathlib.Core.Path.{◌≡◌, refl, sym, ◌∙◌, ap, subst}
use mathlib.Core.Bool.{Bool, true, false, not, cond}
use mathlib.Core.List.{List, [], ◌∷◌, ◌++◌}
use native.Mathlib.Omega.{arith}
use borrow.Author.Tests.{eqb-true, leb-false}
use lib.Dec.{eqb, leb}
use lib.ListN.{length}
use Rattle.std.specs.Prelude.{Some}
use Rattle.refusals.specs.Reason.{number_of}
use Rattle.refusals.specs.declared.Reason.TheVariants as reason
use Rattle.text.specs.declared.kinds.Kind.TheVariants as kind
use Rattle.text.specs.Kinds.{kind_number}
use Rattle.text.specs.Token.{Token as TextToken, words, text_marks, number_in, spells}
use Rattle.text.specs.Syntax.{Order, Scope}
use Rattle.text.specs.Grammar.{Read, got, read_then, peek, rest, accept, or23, new_refusal, is_in_use, names, declarations}
use Rattle.text.proofs.Steps.{names_is, declarations_by, declarations_is}
use Rattle.text.proofs.KindNumbers.{same_kind}
use Rattle.tokens.specs.declared.Token.{Token}
use Rattle.tokens.specs.declared.TokenFault.{TokenFault}
use Rattle.tokens.specs.declared.names.Names.{Names}
use Rattle.tokens.specs.declared.names.Order.{Order as OrderCode}
use Rattle.tokens.specs.declared.names.Order.TheVariants.{First, Second}
use Rattle.tokens.specs.Spans.{part}
use Rattle.tokens.specs.Named.{order_of}
use Rattle.tokens.specs.Tokens.{tokens_at, read_from, refused_at, StandsNext}
use Rattle.tokens.specs.InUse.{scope_of, Bound}
use Rattle.tokens.proofs.Scopes.{no_names, scope-length}
use Rattle.phrases.specs.declared.Declared.{Declared}
use Rattle.phrases.specs.Looked.{LiesAt, Declares}
use Rattle.phrases.specs.Told.{RefusedAt, NamesAre}
use Rattle.phrases.proofs.Taking.{other_than, not_end, taken, turned, spelled, not_spelled, mark-stands, mark-lacks, mark-taken, mark-turned}
use Rattle.phrases.proofs.Taking.{is_semicolon}

is_var1 : number_in 0 (words ++ text_marks) "var1" ≡ kind_number kind.Var1
unfolding number_in words text_marks
is_var1 = refl

is_var2 : number_in 0 (words ++ text_marks) "var2" ≡ kind_number kind.Var2
unfolding number_in words text_marks
is_var2 = refl

is_comma : number_in 0 (words ++ text_marks) "," ≡ kind_number kind.Comma
unfolding number_in words text_marks
is_comma = refl

-- ---- a new name
new-test : (v twice full : Bool) → ◌≡◌ {A = ℕ} 0 (cond (not v) 23 (cond twice 24 (cond full 25 0))) → (v ≡ true) × (full ≡ false)
new-test true true full e = absurd (omega arith)
new-test true false true e = absurd (omega arith)
new-test true false false e = (refl, refl)
new-test false twice full e = absurd (omega arith)

-- what is declared without refusal is a name, and there is a track for it
module _ (s : List ℕ) (sc : Scope) (t : Token) (e : 0 ≡ new_refusal (is_in_use sc (part s t.start t.stop)) sc (read_from s t)) where
  new-parts : (eqb (kind_number t.kind) 23 ≡ true) × (leb 8 (length sc) ≡ false)
  new-parts = new-test (eqb (kind_number t.kind) 23) (is_in_use sc (part s t.start t.stop)) (leb 8 (length sc)) e

  pub new-name : t.kind ≡ kind.Name
  new-name = same_kind t.kind kind.Name (eqb-true _ 23 new-parts.0)

  pub new-room : length sc < 8
  new-room = leb-false 8 _ new-parts.1

-- ---- the names of one declaration: the token t stands next
module _ {s : List ℕ} (o : Order) (sc : Scope) {at : ℕ} {t : Token} (st : StandsNext s at t) where
  names-turned : {f : TokenFault} → number_of f.reason ≡ new_refusal (is_in_use sc (part s t.start t.stop)) sc (read_from s t) → LiesAt t f
      → RefusedAt (names (length (tokens_at s at)) o sc (tokens_at s at)) f
  names-turned {f} e l = rw (names_is o sc (tokens_at s at)) (turned st (λ v. new_refusal (is_in_use sc v.bytes) sc v) _ f (sym e) l)

  module _ (e : 0 ≡ new_refusal (is_in_use sc (part s t.start t.stop)) sc (read_from s t)) where
    -- with the name
    abbrev grown : Scope
    grown = record { name = part s t.start t.stop; order = o } ∷ sc

    -- what follows the name
    abbrev after : List TextToken → Read Scope
    after us = elim (spells "," (peek us)) as (λ _. Read Scope) [
      | true ↦ names (length (rest us)) o grown (rest us)
      | false ↦ accept (or23 (spells ";" (peek us))) us (λ _ vs. got grown vs)
    ]

    names-taken : names (length (tokens_at s at)) o sc (tokens_at s at) ≡ after (tokens_at s t.stop)
    names-taken =
        names_is o sc (tokens_at s at)
        ∙ taken st (λ v. new_refusal (is_in_use sc v.bytes) sc v) _ (not_end (new-name s sc t e) (λ d. cc)) (sym e)

    module _ {u : Token} (su : StandsNext s t.stop u) where
      names_more : u.kind ≡ kind.Comma
          → names (length (tokens_at s at)) o sc (tokens_at s at) ≡ names (length (tokens_at s u.stop)) o grown (tokens_at s u.stop)
      names_more d = names-taken ∙ rw (spelled su "," is_comma d, after) (rw (su.goes_on (not_end d (λ z. cc))) refl)

      module _ (z : u.kind ≡ kind.Comma → ⊥) where
        names-ended : names (length (tokens_at s at)) o sc (tokens_at s at)
            ≡ accept (or23 (spells ";" (peek (tokens_at s t.stop)))) (tokens_at s t.stop) (λ _ vs. got grown vs)
        names-ended = names-taken ∙ rw (not_spelled su "," is_comma z, after) refl

        names_lack : (u.kind ≡ kind.Semicolon → ⊥) → RefusedAt (names (length (tokens_at s at)) o sc (tokens_at s at)) (refused_at u reason.TextGrammar)
        names_lack y = rw names-ended (mark-turned ";" is_semicolon _ (mark-lacks su kind.Semicolon y))

        names-done : u.kind ≡ kind.Semicolon → names (length (tokens_at s at)) o sc (tokens_at s at) ≡ got grown (tokens_at s u.stop)
        names-done d = names-ended ∙ mark-taken ";" is_semicolon _ (mark-stands su kind.Semicolon (λ c. cc) d)

-- the names of order o of a declaration that starts at a place, where the names sc are in use
abbrev listing : List ℕ → OrderCode → Scope → ℕ → Read Scope
listing s o sc at = names (length (tokens_at s at)) (order_of o) sc (tokens_at s at)

-- k is the refusal of the token t as a new name, or 0
abbrev NewIs : ℕ → Scope → Token → List ℕ → Type 0
NewIs k sc t s = k ≡ new_refusal (is_in_use sc (part s t.start t.stop)) sc (read_from s t)

-- from place at₀ of s on, where the names sc₀ are in use, a declaration's names were read up to place p, and now the names ns are in use
pub record Listed (s : List ℕ) (o : OrderCode) (sc₀ : Scope) (at₀ : ℕ) (ns : Names) (p : ℕ) : Type 0 where
  pub text_is : ns.text.now ≡ s
  pub same : listing s o sc₀ at₀ ≡ listing s o (scope_of ns) p
  pub onward : at₀ ≤ p

-- what is declared without refusal is a name, and there is a track for it
module _ (ns : Names) (t : Token) (e : NewIs 0 (scope_of ns) t ns.text.now) where
  pub listed-name : t.kind ≡ kind.Name
  listed-name = new-name ns.text.now (scope_of ns) t e

  pub listed-room : ns.count < 8
  listed-room = rw scope-length at (new-room ns.text.now (scope_of ns) t e)

module _ {s : List ℕ} {o : OrderCode} {sc₀ : Scope} {at₀ : ℕ} {ns : Names} {p : ℕ} (l : Listed s o sc₀ at₀ ns p) {t : Token}
    (st : StandsNext ns.text.now p t) where
  stands : StandsNext s p t
  stands = subst (λ (x : List ℕ). StandsNext x p t) l.text_is st

  pub listed-turned : {f : TokenFault} → NewIs (number_of f.reason) (scope_of ns) t ns.text.now → LiesAt t f → RefusedAt (listing s o sc₀ at₀) f
  listed-turned {f} e z =
      rw l.same (names-turned (order_of o) (scope_of ns) stands (subst (NewIs (number_of f.reason) (scope_of ns) t) l.text_is e) z)

  module _ (e : NewIs 0 (scope_of ns) t ns.text.now) {ms : Names} (b : Bound ns (record { start = t.start; stop = t.stop; order = o }) ms)
      {u : Token} (su : StandsNext ms.text.now t.stop u) where
    accepted : NewIs 0 (scope_of ns) t s
    accepted = subst (NewIs 0 (scope_of ns) t) l.text_is e

    scope-is : scope_of ms ≡ record { name = part s t.start t.stop; order = order_of o } ∷ scope_of ns
    scope-is = subst (λ (x : List ℕ). scope_of ms ≡ record { name = part x t.start t.stop; order = order_of o } ∷ scope_of ns) l.text_is b.scope

    behind : StandsNext s t.stop u
    behind = subst (λ (x : List ℕ). StandsNext x t.stop u) (b.text ∙ l.text_is) su

    ends : (u.kind ≡ kind.End → ⊥) → p < u.stop × (u.stop ≤ length s)
    ends z =
        let h = stands.onward (not_end (listed-name ns t e) (λ z. cc)) in
        let g = behind.onward z in
        (omega arith, omega arith)

    pub listed_more : u.kind ≡ kind.Comma → Listed s o sc₀ at₀ ms u.stop
    listed_more d =
        let h = ends (not_end d (λ z. cc)) in
        record {
          text_is = b.text ∙ l.text_is;
          same = l.same ∙ rw scope-is (names_more (order_of o) (scope_of ns) stands accepted behind d);
          onward = omega (arith, l.onward);
        }

    pub listed_lack : (u.kind ≡ kind.Comma → ⊥) → (u.kind ≡ kind.Semicolon → ⊥) → RefusedAt (listing s o sc₀ at₀) (refused_at u reason.TextGrammar)
    listed_lack y x = rw l.same (names_lack (order_of o) (scope_of ns) stands accepted behind y x)

    pub listed-done : u.kind ≡ kind.Semicolon → NamesAre s at₀ (listing s o sc₀ at₀) (record { names = ms; next = u.stop })
    listed-done d =
        let h = ends (not_end d (λ z. cc)) in
        let n : u.kind ≡ kind.Comma → ⊥ = other_than d (λ z. cc) in
        record {
          reads = l.same ∙ rw scope-is (names-done (order_of o) (scope_of ns) stands accepted behind n d);
          text_is = b.text ∙ l.text_is;
          onward = omega (arith, l.onward);
        }

-- ---- all declarations: the token t stands next
module _ {s : List ℕ} (sc : Scope) {at : ℕ} {t : Token} (st : StandsNext s at t) where
  all_read : (t.kind ≡ kind.Var1 → ⊥) → (t.kind ≡ kind.Var2 → ⊥) → declarations (length (tokens_at s at)) sc (tokens_at s at) ≡ got sc (tokens_at s at)
  all_read y z = declarations_is sc (tokens_at s at) ∙ rw (not_spelled st "var1" is_var1 y, declarations_by) (rw (not_spelled st "var2" is_var2 z) refl)

  one-read : (o : OrderCode) → Declares t.kind (Some o) → declarations (length (tokens_at s at)) sc (tokens_at s at)
      ≡ read_then (names (length (tokens_at s t.stop)) (order_of o) sc (tokens_at s t.stop)) (λ sd us. declarations (length us) sd us)
  one-read First e =
      declarations_is sc (tokens_at s at)
      ∙ rw (spelled st "var1" is_var1 e, declarations_by) (rw (st.goes_on (not_end e (λ z. cc))) refl)
  one-read Second e =
      let n : t.kind ≡ kind.Var1 → ⊥ = other_than e (λ z. cc) in
      declarations_is sc (tokens_at s at)
      ∙ rw (not_spelled st "var1" is_var1 n, declarations_by)
      (rw (spelled st "var2" is_var2 e) (rw (st.goes_on (not_end e (λ z. cc))) refl))

declares-no_end : (t : Token) (o : OrderCode) → Declares t.kind (Some o) → t.kind ≡ kind.End → ⊥
declares-no_end t First e = not_end e (λ z. cc)
declares-no_end t Second e = not_end e (λ z. cc)

-- from place at₀ of s on declarations were read, and those of d are declared
pub record Reached (s : List ℕ) (at₀ : ℕ) (d : Declared) : Type 0 where
  pub text_is : d.names.text.now ≡ s
  pub same : declarations (length (tokens_at s at₀)) [] (tokens_at s at₀)
      ≡ declarations (length (tokens_at s d.next)) (scope_of d.names) (tokens_at s d.next)
  pub onward : at₀ ≤ d.next

pub reached-none : (s : List ℕ) (at : ℕ) (ns : Names) → ns.text.now ≡ s → ns.count ≡ 0 → Reached s at (record { names = ns; next = at })
reached-none s at ns t c = record { text_is = t; same = rw (no_names ns c) refl; onward = omega arith }

module _ {s : List ℕ} {at₀ : ℕ} {d : Declared} (l : Reached s at₀ d) {t : Token} (st : StandsNext s d.next t) where
  pub reached-last : (t.kind ≡ kind.Var1 → ⊥) → (t.kind ≡ kind.Var2 → ⊥) → NamesAre s at₀ (declarations (length (tokens_at s at₀)) [] (tokens_at s at₀)) d
  reached-last y z = record { reads = l.same ∙ all_read (scope_of d.names) st y z; text_is = l.text_is; onward = l.onward }

  module _ (o : OrderCode) (h : Declares t.kind (Some o)) where
    -- the text of the declared names
    abbrev their : List ℕ
    their = d.names.text.now

    reached-one : declarations (length (tokens_at s at₀)) [] (tokens_at s at₀)
        ≡ read_then (listing their o (scope_of d.names) t.stop) (λ sd us. declarations (length us) sd us)
    reached-one =
        l.same ∙ one-read (scope_of d.names) st o h
        ∙ ap (λ (x : List ℕ). read_then (listing x o (scope_of d.names) t.stop) (λ sd us. declarations (length us) sd us)) (sym l.text_is)

    pub reached-refused : {f : TokenFault} → RefusedAt (listing their o (scope_of d.names) t.stop) f
        → RefusedAt (declarations (length (tokens_at s at₀)) [] (tokens_at s at₀)) f
    reached-refused f = record { token = f.token; refuses = reached-one ∙ rw f.refuses refl; start_is = f.start_is; stop_is = f.stop_is }

    module _ {r : Declared} (a : NamesAre their t.stop (listing their o (scope_of d.names) t.stop) r) where
      pub reached-more : Reached s at₀ r
      reached-more =
          let k = st.onward (declares-no_end t o h) in
          record {
            text_is = a.text_is ∙ l.text_is;
            same = reached-one ∙ rw a.reads
                (ap (λ (x : List ℕ). declarations (length (tokens_at x r.next)) (scope_of r.names) (tokens_at x r.next)) l.text_is);
            onward = omega (arith, l.onward, a.onward);
          }
