-- A whole text, step by step, as the code takes it. Assumes nothing.
use Prim.Native.Nat.{ℕ, zero, suc, ◌+◌}
use mathlib.Core.Path.{◌≡◌, refl, sym, ◌∙◌, ap, subst}
use mathlib.Core.Bool.{true, false}
use mathlib.Core.List.{List, [], ◌++◌}
use native.Mathlib.Numerals.{add-one}
use native.Mathlib.Omega.{arith}
use lib.Dec.{eqb}
use lib.ListN.{length, get_or}
use Rattle.std.specs.Prelude.{Result, Ok, Err}
use Rattle.logic.specs.Rule.{Record}
use Rattle.text.specs.Token.{Token, the_end, spells, number_in, words, text_marks}
use Rattle.text.specs.declared.kinds.Kind.TheVariants.{Ws2s, Semicolon}
use Rattle.text.specs.Syntax.{Name, Sentence, Scope, Text}
use Rattle.text.specs.Grammar.{Read, got, peek, rest, accept, or23, read_then, declarations, reader, formula, text_from, text_of}
use Rattle.text.specs.Grammar.{refused as leaves}
use Rattle.text.specs.Records.{write, write_free, put_single, variables_in, records_in}
use Rattle.text.proofs.Written.{tracks-least}
use Rattle.tokens.specs.Tokens.{tokens_at}
use Rattle.tokens.specs.Named.{scope_by, no_name}
use Rattle.tokens.specs.InUse.{scope_of}
use Rattle.tokens.specs.declared.TokenFault.{TokenFault}
use Rattle.tokens.specs.declared.names.Order.{Order as OrderCode}
use Rattle.tokens.specs.declared.names.Order.TheVariants.{First, Second}
use Rattle.tokens.specs.declared.names.Name.{Name as NameCode}
use Rattle.tokens.specs.declared.names.Names.{Names}
use Rattle.tokens.proofs.Reading.{tokens-start}
use Rattle.tokens.proofs.Scopes.{scope-length}
use Rattle.drafting.specs.Draft.{Drafted, Drafts}
use Rattle.drafting.specs.declared.Draft.{Draft}
use Rattle.phrases.specs.Told.{RefusedAt, MarkStands, MarkLacks, MarkTold, NamesAre}
use Rattle.phrases.specs.declared.Declared.{Declared}
use Rattle.phrases.proofs.Taking.{mark-taken, mark-turned, is_semicolon}
use Rattle.formulas.specs.Reading.{level_at, left_at, Looks, Reads, Told, told-got, told-refused}
use Rattle.formulas.specs.declared.Reader.{Reader as Held}
use Rattle.formulas.specs.declared.Refused.{Refused}
use Rattle.formulas.proofs.Strengths.{reader-formula}
use Rattle.formulas.proofs.Levels.{refused-then, same-text, kind-same, kind-other, refused_next, taken, told_is}
use Rattle.import.specs.Answers.{headed, ended_text, body_of, HeadingTold, Ends, ends, no_semicolon, no_end, FreePut, TextTold, text-got, text-refused}

heading_is : number_in 0 (words ++ text_marks) "ws2s" ≡ 0
unfolding number_in words text_marks
heading_is = refl

-- an equal reading is refused likewise
refused_as : {A : Type 0} {R S : Read A} {x : TokenFault} → R ≡ S → RefusedAt S x → RefusedAt R x
refused_as q w = record { token = w.token; refuses = q ∙ w.refuses; start_is = w.start_is; stop_is = w.stop_is }

-- ---- the heading

behind_heading : (go : List Token → Read Text) → Name → List Token → Read Text
behind_heading go _ us = accept (or23 (spells ";" (peek us))) us (λ _ vs. go vs)

module _ {s : List ℕ} where
  headed-first : (go : List Token → Read Text) {p : ℕ} → MarkStands s Ws2s 0 p → headed (tokens_at s 0) go ≡ behind_heading go [] (tokens_at s p)
  unfolding behind_heading
  headed-first go st = mark-taken "ws2s" heading_is (behind_heading go) st

  pub heading_told : (r : Result ℕ TokenFault) {p : ℕ} → MarkStands s Ws2s 0 p → MarkTold s Semicolon p r → HeadingTold s r
  unfolding behind_heading
  heading_told (Ok q) st w = λ go. headed-first go st ∙ mark-taken ";" is_semicolon (λ _ vs. go vs) w
  heading_told (Err x) st w = λ go. refused_as (headed-first go st) (mark-turned ";" is_semicolon (λ _ vs. go vs) w)

  pub heading_lacks : {x : TokenFault} → MarkLacks s Ws2s 0 x → HeadingTold s (Err x)
  unfolding behind_heading
  heading_lacks w go = mark-turned "ws2s" heading_is (behind_heading go) w

-- ---- the end

-- behind the semicolon
last : Text → List Token → Read Text
last t ys = accept (or23 (eqb (peek ys).kind the_end)) ys (λ _ zs. got t zs)

last-there : (t : Text) (ys : List Token) → eqb (peek ys).kind the_end ≡ true → last t ys ≡ got t (rest ys)
unfolding last accept
last-there t ys e = rw e refl

last_not : (t : Text) (ys : List Token) → eqb (peek ys).kind the_end ≡ false → last t ys ≡ leaves 23 (peek ys)
unfolding last accept
last_not t ys e = rw e refl

-- the semicolon
semicolon_there : (t : Text) (xs : List Token) → eqb (peek xs).kind 10 ≡ true → ended_text t xs ≡ last t (rest xs)
unfolding last accept spells number_in words text_marks
semicolon_there t xs e = rw e refl

semicolon_not : (t : Text) (xs : List Token) → eqb (peek xs).kind 10 ≡ false → ended_text t xs ≡ leaves 23 (peek xs)
unfolding accept spells number_in words text_marks
semicolon_not t xs e = rw e refl

-- ---- the records of the free variables: those of the first i names are put
abbrev pub Freed : Names → Draft → Draft → ℕ → Type 0
Freed ns d e i = (rs : List Record) → Drafted d rs → Drafted e (write_free (scope_by ns.text.now ns.entries i) rs)

names-length : (s : List ℕ) (ns : List NameCode) (n : ℕ) → length (scope_by s ns n) ≡ n
unfolding scope_by
names-length s ns zero = refl
names-length s ns (suc n) = ap suc (names-length s ns n)

pub freed_none : (ns : Names) {d : Draft} → Freed ns d d 0
unfolding scope_by write_free
freed_none ns = λ rs D. D

pub freed_first : (ns : Names) {d e e' : Draft} (i : ℕ) → Freed ns d e i → (get_or ns.entries i no_name).order ≡ First → Drafts e e' (put_single i)
    → Freed ns d e' (i + 1)
unfolding scope_by write_free
freed_first ns {e' = e'} i F q P = λ rs D.
    let ss = write_free (scope_by ns.text.now ns.entries i) rs in
    rw (add-one, q) (subst (λ (k : ℕ). Drafted e' (put_single k ss)) (sym (names-length ns.text.now ns.entries i)) (P ss (F rs D)))

pub freed_second : (ns : Names) {d e : Draft} (i : ℕ) → Freed ns d e i → ((get_or ns.entries i no_name).order ≡ First → ⊥) → Freed ns d e (i + 1)
unfolding scope_by write_free
freed_second ns i F z = λ rs D. rw (add-one, other _ z) (F rs D)
  where
    other : (o : OrderCode) → (o ≡ First → ⊥) → o ≡ Second
    other First z = absurd (z refl)
    other Second z = refl

-- ---- the body

-- the formula and the end, where the names sc are declared
abbrev sentenced : Scope → List Token → Read Text
sentenced sc ws = read_then (reader 32 formula sc ws) (λ f xs. ended_text (record { declared = sc; sentence = f }) xs)

pub body_undeclared : (s : List ℕ) (at : ℕ) {h : Held} {x : TokenFault} → RefusedAt (declarations (length (tokens_at s at)) [] (tokens_at s at)) x
    → TextTold h (body_of (tokens_at s at)) (Err x)
unfolding body_of
body_undeclared s at w = text-refused _ (refused-then sentenced w) refl

-- what is read behind them
abbrev behind_names : Declared → Sentence → List Token → Read Text
behind_names d f xs = ended_text (record { declared = scope_of d.names; sentence = f }) xs

-- the names of d are declared, all of them tracks, and the formula is read from h on
pub record Begun (d : Declared) (h₀ h : Held) : Type 0 where
  pub names_are : h.names ≡ d.names
  pub draft_is : h.draft ≡ h₀.draft
  pub tracks_is : h.tracks ≡ d.names.count
  pub skips : tokens_at h₀.names.text.now d.next ≡ left_at h

pub begun : {d : Declared} {h₀ m h : Held} → d.names.text.now ≡ h₀.names.text.now → m.names ≡ d.names → m.draft ≡ h₀.draft → m.tracks ≡ d.names.count
    → Looks d.next m h → Begun d h₀ h
begun {d} {h₀} {m} {h} s n e t L = record {
  names_are = L.names_are ∙ n;
  draft_is = L.draft_is ∙ e;
  tracks_is = L.tracks_is ∙ t;
  skips =
      ap (λ (s : List ℕ). tokens_at s d.next) (sym (ap (λ (ns : Names). ns.text.now) n ∙ s)) ∙ L.stands.skips
      ∙ same-text (sym L.names_are) h.next.start;
}

module _ (h₀ : Held) (none : Drafted h₀.draft []) {at : ℕ} {d : Declared}
    (N : NamesAre h₀.names.text.now at (declarations (length (tokens_at h₀.names.text.now at)) [] (tokens_at h₀.names.text.now at)) d)
    {h : Held} (B : Begun d h₀ h) where
  body_is : body_of (tokens_at h₀.names.text.now at)
      ≡ read_then (level_at 32 0 (scope_of d.names) (left_at h)) (behind_names d)
  unfolding body_of
  body_is =
      ap (λ (R : Read Scope). read_then R sentenced) N.reads
      ∙ ap (λ (R : Read Sentence). read_then R (behind_names d))
      (reader-formula 32 (scope_of d.names) (tokens_at h₀.names.text.now d.next))
      ∙ ap (λ (us : List Token). read_then (level_at 32 0 (scope_of d.names) us) (behind_names d)) B.skips

  told : {h₂ : Held} {r : Result Unit Refused} → Reads (level_at 32 0) h h₂ r
      → Told (scope_of d.names) [] h h₂ (level_at 32 0 (scope_of d.names) (left_at h)) r
  told {h₂} {r} X =
      let s = ap scope_of B.names_are in
      let l = scope-length h.names in
      let c = ap (λ (ns : Names). ns.count) B.names_are in
      let t = B.tracks_is in
      subst (λ (sd : Scope). Told sd [] h h₂ (level_at 32 0 sd (left_at h)) r) s (X.tells [] (rw B.draft_is none) (omega arith))

  pub formula-refused : {h₂ h₃ : Held} {x : Refused} → Reads (level_at 32 0) h h₂ (Err x)
      → TextTold h₃ (body_of (tokens_at h₀.names.text.now at)) (Err h₂.fault)
  formula-refused X = go (told X)
    where
      go : {h₂ h₃ : Held} {x : Refused} → Told (scope_of d.names) [] h h₂ (level_at 32 0 (scope_of d.names) (left_at h)) (Err x)
          → TextTold h₃ (body_of (tokens_at h₀.names.text.now at)) (Err h₂.fault)
      go (told-got f e q m t) = absurd cc
      go {h₂} (told-refused x w q) = text-refused h₂.fault (refused_as body_is (refused-then _ w)) refl

  module _ {h₂ : Held} (X : Reads (level_at 32 0) h h₂ (Ok tt)) where
    abbrev text : Text
    text = record { declared = scope_of d.names; sentence = (told_is (told X)).sentence }

    -- what was read, up to the end
    read_to : body_of (tokens_at h₀.names.text.now at) ≡ ended_text text (left_at h₂)
    read_to = body_is ∙ ap (λ (R : Read Sentence). read_then R (behind_names d)) (told_is (told X)).reads

    -- up to what stands behind the semicolon
    read_on : h₂.next.kind ≡ Semicolon → {h₃ : Held} → Looks h₂.next.stop h₂ h₃ → body_of (tokens_at h₀.names.text.now at) ≡ last text (left_at h₃)
    read_on e L = read_to ∙ semicolon_there text (left_at h₂) (kind-same h₂ e) ∙ ap (λ (ys : List Token). last text ys) (taken h₂ (λ z. absurd cc) L)

    pub end-refused : {h₃ : Held} {x : TokenFault} → Ends h₂ h₃ (Err x) → TextTold h₃ (body_of (tokens_at h₀.names.text.now at)) (Err x)
    end-refused (ends q e L z) = absurd cc
    end-refused (no_semicolon q z) = text-refused _ (refused_next h₂ (read_to ∙ semicolon_not text (left_at h₂) (kind-other h₂ z))) q
    end-refused {h₃} (no_end q e L z) = text-refused _ (refused_next h₃ (read_on e L ∙ last_not text (left_at h₃) (kind-other h₃ z))) q

    pub body-read : {h₃ h₄ : Held} → Ends h₂ h₃ (Ok tt) → FreePut h₃.names h₃.draft h₄.draft → h₄.tracks ≡ h₃.tracks
        → TextTold h₄ (body_of (tokens_at h₀.names.text.now at)) (Ok tt)
    unfolding variables_in records_in
    body-read {h₃} {h₄} (ends q e L z) F t =
        let i = told_is (told X) in
        let n : h₃.names ≡ d.names = L.names_are ∙ X.names_are ∙ B.names_are in
        let l = scope-length d.names in
        let a = i.counts in
        let m = B.tracks_is in
        let o = L.tracks_is in
        let least = tracks-least i.sentence (length (scope_of d.names)) in
        text-got text (rest (left_at h₃)) (read_on e L ∙ last-there text (left_at h₃) (kind-same h₃ z)) refl (omega arith)
        (subst (λ (sd : Scope). Drafted h₄.draft (write_free sd (write (scope_of d.names) i.sentence []))) (ap scope_of n) (F _ (rw L.draft_is i.drafts)))
    body-read (no_semicolon q z) F t = absurd cc
    body-read (no_end q e L z) F t = absurd cc

-- ---- the whole text

text_is : (s : List ℕ) → text_of s ≡ headed (tokens_at s 0) body_of
unfolding text_of text_from body_of
text_is s = rw (tokens-start s) refl

pub text-told : (s : List ℕ) (p : ℕ) {h : Held} {r : Result Unit TokenFault} → HeadingTold s (Ok p) → TextTold h (body_of (tokens_at s p)) r
    → TextTold h (text_of s) r
text-told s p {h} {r} g w = subst (λ (R : Read Text). TextTold h R r) (sym (text_is s ∙ g body_of)) w

pub text_unheaded : (s : List ℕ) {h : Held} {x : TokenFault} → HeadingTold s (Err x) → TextTold h (text_of s) (Err x)
text_unheaded s g = text-refused _ (refused_as (text_is s) (g body_of)) refl
