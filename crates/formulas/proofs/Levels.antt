-- What reading a formula answers, step by step, as the code takes it. Assumes nothing.
use Prim.Native.Nat.{ℕ, zero, suc, ◌+◌, ◌-◌, ◌≤◌, ◌<◌, max}
use mathlib.Core.Path.{◌≡◌, refl, sym, ◌∙◌, ap, subst}
use mathlib.Core.Bool.{Bool, true, false}
use mathlib.Core.List.{List, [], ◌∷◌}
use native.Mathlib.Decide.{dec_lt}
use native.Mathlib.Omega.{arith}
use borrow.Author.Tests.{eq-eqb, ne_eqb}
use lib.Dec.{eqb}
use lib.ListN.{length}
use Rattle.std.specs.Prelude.{Option, Some, None, Result, Ok, Err}
use Rattle.std.specs.Result.{IsErrAnd}
use Rattle.std.proofs.lemmas.Result.{err_from_is_err_and}
use Rattle.logic.specs.Rule.{Record}
use Rattle.refusals.specs.declared.Reason.TheVariants as reason
use Rattle.text.specs.Token.{Token, spells}
use Rattle.text.specs.Kinds.{kind_number}
use Rattle.text.specs.declared.kinds.Kind.{Kind}
use Rattle.text.specs.declared.kinds.Kind.TheVariants as kind
use Rattle.text.specs.Syntax.{Name, Atom, Sentence, atom, denied, implies, Order, Scope}
use Rattle.text.specs.Grammar.{Read, got, peek, rest, Reader, chain, joined, consequent_at, read_then, atom_of}
use Rattle.text.specs.Grammar.{refused as leaves}
use Rattle.text.specs.Records.{tracks, write, write_atom, put_not}
use Rattle.text.proofs.KindNumbers.{other_kind}
use Rattle.text.proofs.Steps.{more-is}
use Rattle.text.proofs.Written.{tracks-least}
use Rattle.tokens.specs.Spans.{part}
use Rattle.tokens.specs.Tokens.{tokens_at, refused_at}
use Rattle.tokens.specs.Named.{order_of}
use Rattle.tokens.specs.InUse.{scope_of}
use Rattle.tokens.specs.InUse.{Bound as NewName}
use Rattle.tokens.specs.declared.Token.{Token as TokenRead}
use Rattle.tokens.specs.declared.TokenFault.{TokenFault}
use Rattle.tokens.specs.declared.names.Order.{Order as OrderCode}
use Rattle.tokens.specs.declared.names.Names.{Names}
use Rattle.tokens.proofs.Scopes.{scope-length}
use Rattle.phrases.specs.Told.{binder_of, RefusedAt, BinderBound, AtomIs}
use Rattle.phrases.specs.declared.Binder.{Binder}
use Rattle.phrases.specs.declared.AtomRead.{AtomRead}
use Rattle.drafting.specs.Coded.{coded_atom}
use Rattle.drafting.specs.Draft.{Drafted, Drafts, Joins}
use Rattle.drafting.specs.Joined.{put_joined, put_quantified}
use Rattle.drafting.specs.declared.Draft.{Draft}
use Rattle.drafting.specs.declared.Operator.{Operator}
use Rattle.drafting.specs.declared.Operator.TheVariants.{Implies}
use Rattle.drafting.specs.declared.Quantifier.{Quantifier}
use Rattle.drafting.proofs.Sentences.{write-longer}
use Rattle.formulas.specs.declared.Opener.{Opener}
use Rattle.formulas.specs.declared.Opener.TheVariants.{Bracket, Denial, Quantified}
use Rattle.formulas.specs.declared.Reader.{Reader as Held}
use Rattle.formulas.specs.declared.Refused.{Refused}
use Rattle.formulas.specs.Words.{opener_of, order_by, quantifier_by, mark_of}
use Rattle.formulas.specs.Reading.{level_at, strength_of, bracket_at, quantified_at, Joining, left_at, Looks, Refuses}
use Rattle.formulas.specs.Reading.{Told, told-got, told-refused, Reads, Leads, Closes, closes, lacks-closing}
use Rattle.formulas.proofs.Strengths.{operator_of, join_of, mark-no_end, tighter_within, ahead, level-starts, spells-operator, write-join, tracks-join}
use Rattle.formulas.proofs.Strengths.{then-then, implied, level-one, implied-none, implied-deep, implied_is, atom_is, operand-deep, negation_is, bracket_is}
use Rattle.formulas.proofs.Strengths.{quantifier_is, closing, closing-there, closing-lacks, bracket-starts, write_quantified, tracks_quantified}

-- what the exit of a `?` returns: the refusal that it met
pub passed : {E : Type 0} {x : E} {r : Result Unit E} → IsErrAnd r (λ y. y ≡ x) → r ≡ Err x
passed {x = x} {r} e = let p = err_from_is_err_and r e in p.1 ∙ ap Err p.2

-- a refusal is one of whatever is read on
pub refused-then : {A B : Type 0} {R : Read A} {x : TokenFault} (go : A → List Token → Read B) → RefusedAt R x → RefusedAt (read_then R go) x
refused-then {A} go w = record {
  token = w.token;
  refuses = ap (λ (S : Read A). read_then S go) w.refuses;
  start_is = w.start_is;
  stop_is = w.stop_is;
}

-- the fault that is kept is one of what is read
fault-told : {A : Type 0} {R : Read A} {x : TokenFault} {h h' : Held} → Refuses x h h' → RefusedAt R x → RefusedAt R h'.fault
fault-told {R = R} F w = subst (λ (y : TokenFault). RefusedAt R y) (sym F.fault_is) w

-- the tokens of one text
pub same-text : {ns ms : Names} → ms ≡ ns → (i : ℕ) → tokens_at ms.text.now i ≡ tokens_at ns.text.now i
same-text e i = ap (λ (ns : Names). tokens_at ns.text.now i) e

-- only records were put since: all else is as before
pub record Same (h h' : Held) : Type 0 where
  pub names_are : h'.names ≡ h.names
  pub next_is : h'.next ≡ h.next
  pub tracks_is : h'.tracks ≡ h.tracks

pub same : {h h' : Held} → h'.names ≡ h.names → h'.next ≡ h.next → h'.tracks ≡ h.tracks → Same h h'
same n e t = record { names_are = n; next_is = e; tracks_is = t }

-- ---- the token that stands next
module _ (h : Held) where
  pub kind_is : (peek (left_at h)).kind ≡ kind_number h.next.kind
  kind_is = ap (λ (u : Token). u.kind) h.stands.stands

  pub kind-other : {k : Kind} → (h.next.kind ≡ k → ⊥) → eqb (peek (left_at h)).kind (kind_number k) ≡ false
  kind-other {k} z = ne_eqb _ (kind_number k) (λ e. other_kind z (sym kind_is ∙ e))

  pub kind-same : {k : Kind} → h.next.kind ≡ k → eqb (peek (left_at h)).kind (kind_number k) ≡ true
  kind-same {k} e = eq-eqb _ (kind_number k) (kind_is ∙ ap kind_number e)

  -- a refusal at it
  pub refused_next : {A : Type 0} {R : Read A} → R ≡ leaves 23 (peek (left_at h)) → RefusedAt R (refused_at h.next reason.TextGrammar)
  refused_next e = record {
    token = peek (left_at h);
    refuses = e;
    start_is = ap (λ (u : Token). u.start) h.stands.stands;
    stop_is = ap (λ (u : Token). u.stop) h.stands.stands;
  }

  refused-there : {sc : Scope} {rs : List Record} {i h' : Held} {R : Read Sentence} {x : Refused} → Refuses (refused_at h.next reason.TextGrammar) h h'
      → R ≡ leaves 23 (peek (left_at h)) → Told sc rs i h' R (Err x)
  refused-there F e = told-refused _ (fault-told F (refused_next e)) refl

  -- unless it is the end, it is taken: what is looked at behind it is what is left
  module _ (z : h.next.kind ≡ kind.End → ⊥) {h' : Held} (L : Looks h.next.stop h h') where
    pub taken : rest (left_at h) ≡ left_at h'
    taken = h.stands.goes_on z ∙ L.stands.skips ∙ same-text (sym L.names_are) h'.next.start

    pub beyond : (h.next.start < h'.next.start) × (h.next.start < length h.names.text.now)
    beyond = let o = h.stands.onward z in let f = L.stands.forward in (omega arith, omega arith)

-- ---- the answers

-- what was read, where something was
pub record Is (sc : Scope) (rs : List Record) (h h' : Held) (R : Read Sentence) : Type 0 where
  pub sentence : Sentence
  pub reads : R ≡ got sentence (left_at h')
  pub drafts : Drafted h'.draft (write sc sentence rs)
  pub counts : h'.tracks ≡ max h.tracks (tracks (length sc) sentence)

module _ {sc : Scope} {rs : List Record} {h h' : Held} {R : Read Sentence} where
  pub told_is : Told sc rs h h' R (Ok tt) → Is sc rs h h' R
  told_is (told-got f e q d m) = record { sentence = f; reads = e; drafts = d; counts = m }
  told_is (told-refused x w q) = absurd cc

  -- a refusal is passed up by whatever comes after
  pub told_up : {x : Refused} {sd : Scope} {ss : List Record} {i i' : Held} (go : Sentence → List Token → Read Sentence) → i'.fault ≡ h'.fault
      → Told sc rs h h' R (Err x) → Told sd ss i i' (read_then R go) (Err x)
  told_up go e (told-got f g q d m) = absurd cc
  told_up go e (told-refused x w q) = told-refused x (subst (λ (y : TokenFault). RefusedAt (read_then R go) y) (sym e) (refused-then go w)) q

-- a part was read, and records of the construct's own were put behind its records
pub told_made : {sc sd : Scope} {rs ss : List Record} {h m h₂ h₃ : Held} {X : Read Sentence} (make : Sentence → Sentence) → left_at h₃ ≡ left_at h₂
    → h₃.tracks ≡ h₂.tracks → ((g : Sentence) → Drafted h₂.draft (write sd g ss) → Drafted h₃.draft (write sc (make g) rs))
    → ((g : Sentence) → max m.tracks (tracks (length sd) g) ≡ max h.tracks (tracks (length sc) (make g)))
    → Told sd ss m h₂ X (Ok tt) → Told sc rs h h₃ (read_then X (λ g us. got (make g) us)) (Ok tt)
told_made make l t D M w =
    let i = told_is w in
    let g = i.sentence in
    told-got (make g) (ap (λ (S : Read Sentence). read_then S (λ g us. got (make g) us)) i.reads ∙ ap (λ (us : List Token). got (make g) us) (sym l)) refl
    (D g i.drafts) (t ∙ i.counts ∙ M g)

left-same : {h h' : Held} → Same h h' → left_at h' ≡ left_at h
left-same {h} {h'} S = rw (S.names_are, S.next_is) refl

-- a strength by another number
pub level_as : (d : ℕ) {a b : ℕ} {h h' : Held} {r : Result Unit Refused} → a ≡ b → Reads (level_at d a) h h' r → Reads (level_at d b) h h' r
level_as d {h = h} {h'} {r} e X = subst (λ (k : ℕ). Reads (level_at d k) h h' r) e X

-- ---- a refusal of a part is one of the whole formula

refused-up : {part whole : Reader} {h h' : Held} {x : Refused} (go : Scope → Sentence → List Token → Read Sentence)
    → ((sc : Scope) (ts : List Token) → whole sc ts ≡ read_then (part sc ts) (go sc)) → Reads part h h' (Err x) → Reads whole h h' (Err x)
refused-up go e X = record { tells = λ rs D l. rw (e _ _) (told_up _ refl (X.tells rs D l)); names_are = X.names_are; onward = λ q. absurd cc }

module _ (d : ℕ) {h h' : Held} {x : Refused} where
  weaker : (k : ℕ) → Reads (level_at d (suc k)) h h' (Err x) → Reads (level_at d k) h h' (Err x)
  unfolding level_at joined consequent_at
  weaker zero X = refused-up _ (λ sc ts. refl) X
  weaker (suc zero) X = refused-up _ (λ sc ts. refl) X
  weaker (suc (suc zero)) X = refused-up _ (λ sc ts. refl) X
  weaker (suc (suc (suc zero))) X = refused-up _ (λ sc ts. refl) X
  weaker (suc (suc (suc (suc k)))) X = X

  pub refused-down : (m k : ℕ) → k ≤ m → Reads (level_at d m) h h' (Err x) → Reads (level_at d k) h h' (Err x)
  refused-down zero k l X = level_as d (omega arith) X
  refused-down (suc m) k l X = elim (dec_lt k (suc m)) [ yes p ↦ refused-down m k (omega arith) (weaker m X) | no q ↦ level_as d (omega arith) X ]

-- ---- operands that an operator joins

module _ (d : ℕ) {o : Operator} (j : Joining o) {sc : Scope} {rs : List Record} {h h' : Held} {R : Read Sentence} (w : Told sc rs h h' R (Ok tt)) where
  -- what comes after another operand g
  after : Sentence → Sentence → List Token → Read Sentence
  after f g us = chain (length us) (operator_of j) (join_of j) (level_at d (suc (strength_of o))) sc (join_of j f g) us

  ahead_is : (v : Bool) → eqb (peek (left_at h')).kind (kind_number (mark_of o)) ≡ v
      → ahead d j sc R ≡ (elim v as (λ _. Read Sentence) [
        | true ↦ read_then (level_at d (suc (strength_of o)) sc (rest (left_at h'))) (after (told_is w).sentence)
        | false ↦ got (told_is w).sentence (left_at h')
      ])
  unfolding ahead after
  ahead_is v x =
      let i = told_is w in
      let us = left_at h' in
      let p : spells (operator_of j) (peek us) ≡ v = spells-operator j (peek us) ∙ x in
      rw i.reads (more-is (operator_of j) (join_of j) (level_at d (suc (strength_of o))) (tighter_within d j) sc (no_end j) i.sentence us ∙ rw p refl)
    where
      no_end : {o : Operator} (j : Joining o) → spells (operator_of j) (peek []) ≡ false
      no_end {o} j = spells-operator j (peek []) ∙ ne_eqb 25 (kind_number (mark_of o)) (other_kind (λ e. mark-no_end j (sym e)))

  -- no operator: all is read
  pub ahead-ends : (h'.next.kind ≡ mark_of o → ⊥) → Told sc rs h h' (ahead d j sc R) (Ok tt)
  ahead-ends n = let i = told_is w in told-got i.sentence (ahead_is false (kind-other h' n)) refl i.drafts i.counts

  -- one operand more is read behind the operator
  module _ (e : h'.next.kind ≡ mark_of o) {m : Held} (L : Looks h'.next.stop h' m) (sc_is : scope_of h'.names ≡ sc) where
    on : ahead d j sc R ≡ read_then (level_at d (suc (strength_of o)) sc (left_at m)) (after (told_is w).sentence)
    on = ahead_is true (kind-same h' e)
        ∙ ap (λ (us : List Token). read_then (level_at d (suc (strength_of o)) sc us) (after (told_is w).sentence))
        (taken h' (λ z. mark-no_end j (sym e ∙ z)) L)

    inside : {h₂ : Held} {r : Result Unit Refused} → length sc ≤ h.tracks → Reads (level_at d (suc (strength_of o))) m h₂ r
        → Told sc (write sc (told_is w).sentence rs) m h₂ (level_at d (suc (strength_of o)) sc (left_at m)) r
    inside {h₂} {r} l X =
        let i = told_is w in
        let t = L.tracks_is in
        let c = i.counts in
        let s : scope_of m.names ≡ sc = ap scope_of L.names_are ∙ sc_is in
        subst (λ (sd : Scope). Told sd (write sc i.sentence rs) m h₂ (level_at d (suc (strength_of o)) sd (left_at m)) r) s
        (X.tells _ (rw L.draft_is i.drafts) (rw s (omega arith)))

    pub ahead-refused : {h₂ : Held} {x : Refused} → length sc ≤ h.tracks → Reads (level_at d (suc (strength_of o))) m h₂ (Err x)
        → Told sc rs h h₂ (ahead d j sc R) (Err x)
    ahead-refused l X = rw on (told_up _ refl (inside l X))

    pub ahead_on : {h₂ h₃ : Held} → length sc ≤ h.tracks → Reads (level_at d (suc (strength_of o))) m h₂ (Ok tt) → Same h₂ h₃
        → Joins h₂.draft h'.draft.count h₃.draft (put_joined o)
        → (S : Read Sentence) × (ahead d j sc R ≡ ahead d j sc S) × Told sc rs h h₃ S (Ok tt)
    unfolding ahead after
    ahead_on {h₂} {h₃} l X A P =
        let i = told_is w in
        let f = i.sentence in
        let c = i.counts in
        let t = L.tracks_is in
        let tr = tracks-join j (length sc) in
        let Y = level_at d (suc (strength_of o)) sc (left_at m) in (
          read_then Y (λ g us. got (join_of j f g) us),
          on ∙ sym (then-then Y (join_of j f) (λ g us. chain (length us) (operator_of j) (join_of j) (level_at d (suc (strength_of o))) sc g us)),
          told_made (join_of j f) (left-same A) A.tracks_is
              (λ g D. let ss = write sc f rs in rw (← write-join j sc f g rs) (P ss (write sc g ss) i.drafts.size (write-longer sc g ss) D))
              (λ g. rw (tr f g) (omega arith)) (inside l X),
        )

-- ---- the loop over an operator's operands

-- from the first operand, at h₀, reading has come to h
pub record Joined (d : ℕ) (o : Operator) (h₀ h : Held) : Type 0 where
  pub operator : Joining o
  pub tells : (rs : List Record) (i : Held) (R₀ : Read Sentence) → Told (scope_of h₀.names) rs i h₀ R₀ (Ok tt) → length (scope_of h₀.names) ≤ i.tracks
      → (R : Read Sentence) × (ahead d operator (scope_of h₀.names) R₀ ≡ ahead d operator (scope_of h₀.names) R) × Told (scope_of h₀.names) rs i h R (Ok tt)
  pub names_are : h.names ≡ h₀.names
  pub onward : h₀.next.start ≤ h.next.start

pub joined-first : {d : ℕ} {o : Operator} {h : Held} → Joining o → Joined d o h h
joined-first j = record { operator = j; tells = λ rs i R w x. (R, refl, w); names_are = refl; onward = omega arith }

module _ {d : ℕ} {o : Operator} {h₀ h : Held} (J : Joined d o h₀ h) where
  -- what comes of what was read so far comes of the first operand, which any reader left
  lifted : {h' : Held} {r : Result Unit Refused}
      → ((rs : List Record) (i : Held) (R : Read Sentence) → Told (scope_of h₀.names) rs i h R (Ok tt) → length (scope_of h₀.names) ≤ i.tracks
      → Told (scope_of h₀.names) rs i h' (ahead d J.operator (scope_of h₀.names) R) r)
      → h'.names ≡ h₀.names → (r ≡ Ok tt → h₀.next.start ≤ h'.next.start)
      → Leads (level_at d (suc (strength_of o))) (level_at d (strength_of o)) h₀ h' r
  lifted {h'} {r} go n f i Y = record {
    tells = λ rs D l.
        let s : scope_of i.names ≡ scope_of h₀.names = sym (ap scope_of Y.names_are) in
        let first : Reader → Scope → Read Sentence = (λ (rd : Reader) (sd : Scope). rd sd (left_at i)) in
        let part = level_at d (suc (strength_of o)) in
        let w = subst (λ (sd : Scope). Told sd rs i h₀ (first part sd) (Ok tt)) s (Y.tells rs D l) in
        let z = J.tells rs i (first part (scope_of h₀.names)) w (rw (← s) l) in
        subst (λ (sd : Scope). Told sd rs i h' (first (level_at d (strength_of o)) sd) r) (sym s)
        (rw (level-starts d J.operator (scope_of h₀.names) (left_at i) ∙ z.1) (go rs i z.0 z.2 (rw (← s) l)));
    names_are = n ∙ Y.names_are;
    onward = λ q. let a = Y.onward refl in let b = f q in omega arith;
  }

  module _ (e : h.next.kind ≡ mark_of o) {m : Held} (L : Looks h.next.stop h m) where
    no_end : h.next.kind ≡ kind.End → ⊥
    no_end z = mark-no_end J.operator (sym e ∙ z)

    pub joined_on : {h₂ h₃ : Held} → Reads (level_at d (suc (strength_of o))) m h₂ (Ok tt) → Same h₂ h₃
        → Joins h₂.draft h.draft.count h₃.draft (put_joined o) → Joined d o h₀ h₃
    joined_on X A P = record {
      operator = J.operator;
      tells = λ rs i R₀ w l.
          let z = J.tells rs i R₀ w l in
          let y = ahead_on d J.operator z.2 e L (ap scope_of J.names_are) l X A P in
          (y.0, z.1 ∙ y.1, y.2);
      names_are = A.names_are ∙ X.names_are ∙ L.names_are ∙ J.names_are;
      onward = let a = J.onward in let b = beyond h no_end L in let c = X.onward refl in rw A.next_is (omega arith);
    }

    pub joined-less : {h₂ : Held} → Reads (level_at d (suc (strength_of o))) m h₂ (Ok tt)
        → length h₂.names.text.now - h₂.next.start < length h.names.text.now - h.next.start
    joined-less X = let b = beyond h no_end L in let c = X.onward refl in rw (X.names_are ∙ L.names_are) (omega arith)

    pub joined-refused : {h₂ : Held} {x : Refused} → Reads (level_at d (suc (strength_of o))) m h₂ (Err x)
        → Leads (level_at d (suc (strength_of o))) (level_at d (strength_of o)) h₀ h₂ (Err x)
    joined-refused X =
        lifted (λ rs i R w l. ahead-refused d J.operator w e L (ap scope_of J.names_are) l X) (X.names_are ∙ L.names_are ∙ J.names_are) (λ q. absurd cc)

  pub joined-ends : (h.next.kind ≡ mark_of o → ⊥) → Leads (level_at d (suc (strength_of o))) (level_at d (strength_of o)) h₀ h (Ok tt)
  joined-ends n = lifted (λ rs i R w l. ahead-ends d J.operator w n) J.names_are (λ q. J.onward)

-- ---- the right side of `=>`, which goes on from h

module _ {h : Held} where
  -- what the whole is, by the token behind its left side
  whole_is : (d : ℕ) {sc : Scope} {rs : List Record} {i : Held} (w : Told sc rs i h (level_at d 2 sc (left_at i)) (Ok tt))
      → level_at d 1 sc (left_at i) ≡ implied d sc (told_is w).sentence (left_at h)
  whole_is d {sc} {i = i} w = level-one d sc (left_at i) ∙ ap (λ (R : Read Sentence). read_then R (λ f us. implied d sc f us)) (told_is w).reads

  pub arrow-none : (d : ℕ) → (h.next.kind ≡ kind.Implies → ⊥) → Leads (level_at d 2) (level_at d 1) h h (Ok tt)
  arrow-none d n i X = record {
    tells = λ rs D l.
        let w = X.tells rs D l in
        let f = told_is w in
        told-got f.sentence (whole_is d w ∙ implied-none _ f.sentence (left_at h) d (kind-other h n)) refl f.drafts f.counts;
    names_are = X.names_are;
    onward = X.onward;
  }

  module _ (e : h.next.kind ≡ kind.Implies) where
    pub arrow-deep : (d : ℕ) → d ≡ 0 → {h' : Held} {x : Refused} → Refuses (refused_at h.next reason.TextGrammar) h h'
        → Leads (level_at d 2) (level_at d 1) h h' (Err x)
    arrow-deep d z F = rw z (λ i X. record {
      tells = λ rs D l. let w = X.tells rs D l in refused-there h F (whole_is 0 w ∙ implied-deep _ (told_is w).sentence (left_at h) (kind-same h e));
      names_are = F.names_are ∙ X.names_are;
      onward = λ q. absurd cc;
    })

    module _ {m n : Held} (S : Same h m) (N : Drafts h.draft m.draft put_not) (L : Looks m.next.stop m n) where
      no-end : m.next.kind ≡ kind.End → ⊥
      no-end z = let y = ap (λ (t : TokenRead). t.kind) S.next_is in absurd cc

      module _ (d : ℕ) {sc : Scope} {rs : List Record} {i : Held} (w : Told sc rs i h (level_at (suc d) 2 sc (left_at i)) (Ok tt)) where
        arrow-starts : level_at (suc d) 1 sc (left_at i) ≡ read_then (level_at d 1 sc (left_at n)) (λ g us. got (implies (told_is w).sentence g) us)
        arrow-starts =
            whole_is (suc d) w ∙ implied_is _ (told_is w).sentence (left_at h) d (kind-same h e)
            ∙ ap (λ (us : List Token). read_then (level_at d 1 sc us) (λ g us. got (implies (told_is w).sentence g) us))
            (ap rest (sym (left-same S)) ∙ taken m no-end L)

        right-side : {h₂ : Held} {r : Result Unit Refused} → scope_of h.names ≡ sc → length sc ≤ i.tracks → Reads (level_at d 1) n h₂ r
            → Told sc (put_not (write sc (told_is w).sentence rs)) n h₂ (level_at d 1 sc (left_at n)) r
        right-side {h₂} {r} x l Y =
            let s : scope_of n.names ≡ sc = ap scope_of (L.names_are ∙ S.names_are) ∙ x in
            let c = (told_is w).counts in
            let t = L.tracks_is ∙ S.tracks_is in
            let fs = put_not (write sc (told_is w).sentence rs) in
            subst (λ (sd : Scope). Told sd fs n h₂ (level_at d 1 sd (left_at n)) r) s
            (Y.tells fs (subst (λ (e : Draft). Drafted e fs) (sym L.draft_is) (N _ (told_is w).drafts)) (rw s (omega arith)))

      pub arrow-refused : {d k : ℕ} {h₂ : Held} {x : Refused} → d ≡ suc k → Reads (level_at k 1) n h₂ (Err x)
          → Leads (level_at d 2) (level_at d 1) h h₂ (Err x)
      arrow-refused {k = k} q Y = rw q (λ i X. record {
        tells = λ rs D l. let w = X.tells rs D l in rw (arrow-starts k w) (told_up _ refl (right-side k w (ap scope_of X.names_are) l Y));
        names_are = Y.names_are ∙ L.names_are ∙ S.names_are ∙ X.names_are;
        onward = λ q. absurd cc;
      })

      pub arrow_on : {d k : ℕ} {h₂ h₃ : Held} → d ≡ suc k → Reads (level_at k 1) n h₂ (Ok tt) → Same h₂ h₃
          → Joins h₂.draft m.draft.count h₃.draft (put_joined Implies) → Leads (level_at d 2) (level_at d 1) h h₃ (Ok tt)
      unfolding write tracks
      arrow_on {k = k} {h₂ = h₂} {h₃} q Y A P = rw q (λ i X. record {
        tells = λ rs D l.
            let w = X.tells rs D l in
            let sc = scope_of i.names in
            let f = (told_is w).sentence in
            let c = (told_is w).counts in
            let t = L.tracks_is ∙ S.tracks_is in
            let fs = put_not (write sc f rs) in
            rw (arrow-starts k w) (told_made (implies f) (left-same A) A.tracks_is
            (λ g G. P fs (write sc g fs) (N _ (told_is w).drafts).size (write-longer sc g fs) G) (λ g. omega arith)
            (right-side k w (ap scope_of X.names_are) l Y));
        names_are = A.names_are ∙ Y.names_are ∙ L.names_are ∙ S.names_are ∙ X.names_are;
        onward = λ q.
            let a = X.onward refl in
            let b = Y.onward refl in
            let c = (beyond m no-end L).0 in
            let t = ap (λ (t : TokenRead). t.start) S.next_is in
            rw A.next_is (omega arith);
      })

-- ---- operands

-- by another reader of the same tokens
by : {read whole : Reader} {h h' : Held} {r : Result Unit Refused} → ((sc : Scope) → whole sc (left_at h) ≡ read sc (left_at h)) → Reads read h h' r
    → Reads whole h h' r
by e X = record { tells = λ rs D l. rw (e _) (X.tells rs D l); names_are = X.names_are; onward = X.onward }

opens-no_end : {k : Kind} {p : Opener} → opener_of k ≡ Some p → k ≡ kind.End → ⊥
opens-no_end {k} {p} e z = let y : ◌≡◌ {A = Option Opener} (Some p) None = sym e ∙ ap opener_of z in absurd cc

-- the token behind one that opens a level
module _ {h m : Held} {p : Opener} (e : opener_of h.next.kind ≡ Some p) (L : Looks h.next.stop h m) where
  inner-left : rest (left_at h) ≡ left_at m
  inner-left = taken h (opens-no_end e) L

  -- what is read from there on
  inner-told : {part : Reader} {h₂ : Held} {r : Result Unit Refused} → Reads part m h₂ r → (rs : List Record) → Drafted h.draft rs
      → length (scope_of h.names) ≤ h.tracks → Told (scope_of h.names) rs m h₂ (part (scope_of h.names) (left_at m)) r
  inner-told {part} {h₂} {r} X rs D l =
      let s : scope_of m.names ≡ scope_of h.names = ap scope_of L.names_are in
      let t = L.tracks_is in
      subst (λ (sd : Scope). Told sd rs m h₂ (part sd (left_at m)) r) s (X.tells rs (rw L.draft_is D) (rw s (omega arith)))

  inner-onward : h.next.start ≤ m.next.start
  inner-onward = let b = (beyond h (opens-no_end e) L).0 in omega arith

module _ {h : Held} where
  pub operand-atom : (d : ℕ) {h' : Held} {r : Result Unit Refused} → opener_of h.next.kind ≡ None → Reads atom_of h h' r → Reads (level_at d 4) h h' r
  operand-atom d e X = by {read = atom_of} (λ sc. atom_is sc (left_at h) h.next.kind (kind_is h) e d refl) X

  module _ {p : Opener} (e : opener_of h.next.kind ≡ Some p) where
    pub operand_deep : (d : ℕ) → d ≡ 0 → {h' : Held} {x : Refused} → Refuses (refused_at h.next reason.TextGrammar) h h' → Reads (level_at d 4) h h' (Err x)
    operand_deep d z F = rw z (record {
      tells = λ rs D l. refused-there h F (operand-deep _ (left_at h) h.next.kind (kind_is h) e p refl);
      names_are = F.names_are;
      onward = λ q. absurd cc;
    })

  module _ {d k : ℕ} (q : d ≡ suc k) {h' : Held} {r : Result Unit Refused} where
    pub operand-bracket : opener_of h.next.kind ≡ Some Bracket → Reads (bracket_at k) h h' r → Reads (level_at d 4) h h' r
    operand-bracket e X = rw q (by {read = bracket_at k} (λ sc. bracket_is sc (left_at h) h.next.kind (kind_is h) e k refl) X)

    pub operand-quantifier : {w : Quantifier} → opener_of h.next.kind ≡ Some (Quantified w) → Reads (quantified_at k w) h h' r → Reads (level_at d 4) h h' r
    operand-quantifier {w} e X = rw q (by {read = quantified_at k w} (λ sc. quantifier_is sc (left_at h) h.next.kind (kind_is h) e k w refl) X)

  module _ {d k : ℕ} (q : d ≡ suc k) {m : Held} (e : opener_of h.next.kind ≡ Some Denial) (L : Looks h.next.stop h m) where
    denial-starts : (sc : Scope) → level_at (suc k) 4 sc (left_at h) ≡ read_then (level_at k 4 sc (left_at m)) (λ f us. got (denied f) us)
    denial-starts sc =
        negation_is sc (left_at h) h.next.kind (kind_is h) e k refl
        ∙ ap (λ (us : List Token). read_then (level_at k 4 sc us) (λ f us. got (denied f) us)) (inner-left e L)

    pub operand_not-refused : {h₂ : Held} {x : Refused} → Reads (level_at k 4) m h₂ (Err x) → Reads (level_at d 4) h h₂ (Err x)
    operand_not-refused X = rw q (record {
      tells = λ rs D l. rw denial-starts (told_up _ refl (inner-told e L X rs D l));
      names_are = X.names_are ∙ L.names_are;
      onward = λ q. absurd cc;
    })

    pub operand_not : {h₂ h₃ : Held} → Reads (level_at k 4) m h₂ (Ok tt) → Same h₂ h₃ → Drafts h₂.draft h₃.draft put_not → Reads (level_at d 4) h h₃ (Ok tt)
    unfolding write tracks
    operand_not X A P = rw q (record {
      tells = λ rs D l.
          let t = L.tracks_is in
          rw denial-starts (told_made denied (left-same A) A.tracks_is (λ g G. P _ G) (λ g. omega arith) (inner-told e L X rs D l));
      names_are = A.names_are ∙ X.names_are ∙ L.names_are;
      onward = λ q. let a = X.onward refl in let b = inner-onward e L in rw A.next_is (omega arith);
    })

-- ---- brackets

module _ (d : ℕ) {h m : Held} (e : opener_of h.next.kind ≡ Some Bracket) (L : Looks h.next.stop h m) where
  starts : (sc : Scope) → bracket_at d sc (left_at h) ≡ read_then (level_at d 0 sc (left_at m)) (λ f us. closing f us)
  starts sc = bracket-starts d sc (left_at h) ∙ ap (λ (us : List Token). read_then (level_at d 0 sc us) closing) (inner-left e L)

  pub bracket-refused : {h₂ : Held} {x : Refused} → Reads (level_at d 0) m h₂ (Err x) → Reads (bracket_at d) h h₂ (Err x)
  bracket-refused X = record {
    tells = λ rs D l. rw starts (told_up _ refl (inner-told e L X rs D l));
    names_are = X.names_are ∙ L.names_are;
    onward = λ q. absurd cc;
  }

  pub bracket-reads : {h₂ h₃ : Held} {r : Result Unit Refused} → Reads (level_at d 0) m h₂ (Ok tt) → Closes h₂ h₃ r → Reads (bracket_at d) h h₃ r
  bracket-reads {h₂} X (closes q k M) = record {
    tells = λ rs D l.
        let i = told_is (inner-told e L X rs D l) in
        let t = L.tracks_is in
        let u = M.tracks_is in
        let c = i.counts in
        told-got i.sentence (starts _ ∙ ap (λ (S : Read Sentence). read_then S (λ f us. closing f us)) i.reads
        ∙ closing-there i.sentence (left_at h₂) (kind_is h₂ ∙ ap kind_number k)
        ∙ ap (λ (vs : List Token). got i.sentence vs) (taken h₂ (λ z. absurd cc) M)) q
        (rw M.draft_is i.drafts) (omega arith);
    names_are = M.names_are ∙ X.names_are ∙ L.names_are;
    onward = λ q. let a = X.onward refl in let b = inner-onward e L in let c = (beyond h₂ (λ z. absurd cc) M).0 in omega arith;
  }
  bracket-reads {h₂} X (lacks-closing y q z F) = rw q (record {
    tells = λ rs D l.
        let i = told_is (inner-told e L X rs D l) in
        refused-there h₂ F (starts _ ∙ ap (λ (S : Read Sentence). read_then S (λ f us. closing f us)) i.reads
        ∙ closing-lacks i.sentence (left_at h₂) (kind-other h₂ z));
    names_are = F.names_are ∙ X.names_are ∙ L.names_are;
    onward = λ q. absurd cc;
  })

-- ---- atoms

pub atom-refused : {h m h' : Held} {x : TokenFault} {y : Refused} → Same h m → Refuses x m h' → RefusedAt (atom_of (scope_of h.names) (left_at h)) x
    → Reads atom_of h h' (Err y)
atom-refused S F w = record { tells = λ rs D l. told-refused _ (fault-told F w) refl; names_are = F.names_are ∙ S.names_are; onward = λ q. absurd cc }

-- its record is put, and the token behind it looked at
pub atom-reads : {h m h' : Held} {a : AtomRead} → AtomIs h.names.text.now (scope_of h.names) h.next.start (atom_of (scope_of h.names) (left_at h)) a
    → Same h m → ((sc : Scope) (b : Atom) → a.atom ≡ coded_atom sc b → Drafts h.draft m.draft (write_atom sc b)) → Looks a.next m h' → Reads atom_of h h' (Ok tt)
unfolding write tracks
atom-reads {h} {m} {h'} {a} w S P L = record {
  tells = λ rs D l.
      let t = L.tracks_is ∙ S.tracks_is in
      let n = L.names_are ∙ S.names_are in
      let us : tokens_at h.names.text.now a.next ≡ left_at h' =
      same-text (sym S.names_are) a.next ∙ L.stands.skips ∙ same-text (sym L.names_are) h'.next.start in
      told-got (atom w.said) (w.reads ∙ ap (λ (us : List Token). got (atom w.said) us) us) refl
      (rw L.draft_is (P (scope_of h.names) w.said w.code_is rs D)) (omega arith);
  names_are = L.names_are ∙ S.names_are;
  onward = λ q. let a = w.onward in let f = L.stands.forward in omega arith;
}

-- ---- quantifiers

-- the names in use under a quantifier, and the sentence that it makes
abbrev bound_scope : Quantifier → Binder → Held → Scope
bound_scope q b h = record { name = part h.names.text.now b.start b.stop; order = order_by q } ∷ scope_of h.names

abbrev bound-sentence : Quantifier → Binder → Held → Sentence → Sentence
bound-sentence q b h f = quantifier_by q (order_by q) (part h.names.text.now b.start b.stop) f

-- the name of b is in use too, and its track is taken
pub record Inner (q : Quantifier) (b : Binder) (h m : Held) : Type 0 where
  pub text_is : m.names.text.now ≡ h.names.text.now
  pub scope_is : scope_of m.names ≡ bound_scope q b h
  pub draft_is : m.draft ≡ h.draft
  pub tracks_is : m.tracks ≡ max h.tracks (h.names.count + 1)

pub inner_is : {q : Quantifier} {b : Binder} {h m : Held} {o : OrderCode} → NewName h.names (record { start = b.start; stop = b.stop; order = o }) m.names
    → order_of o ≡ order_by q → m.draft ≡ h.draft → m.tracks ≡ max h.tracks (h.names.count + 1) → Inner q b h m
inner_is {b = b} {h} B e d t = record {
  text_is = B.text;
  scope_is = B.scope ∙ ap (λ (o : Order). record { name = part h.names.text.now b.start b.stop; order = o } ∷ scope_of h.names) e;
  draft_is = d;
  tracks_is = t;
}

module _ (d : ℕ) {q : Quantifier} (h : Held) (e : opener_of h.next.kind ≡ Some (Quantified q)) where
  quantified_starts : (sc : Scope) → quantified_at d q sc (left_at h) ≡ binder_of sc (tokens_at h.names.text.now h.next.stop)
      (λ x vs. read_then (level_at d 0 (record { name = x; order = order_by q } ∷ sc) vs) (λ f us. got (quantifier_by q (order_by q) x f) us))
  unfolding quantified_at
  quantified_starts sc = rw (h.stands.goes_on (opens-no_end e)) refl

  pub quantified_unbound : {m h' : Held} {x : TokenFault} {y : Refused} → Same h m → Refuses x m h'
      → ((sc : Scope) → length sc ≡ h.names.count → (go : Name → List Token → Read Sentence)
      → RefusedAt (binder_of sc (tokens_at h.names.text.now h.next.stop) go) x)
      → Reads (quantified_at d q) h h' (Err y)
  quantified_unbound S F w = record {
    tells = λ rs D l. rw (quantified_starts (scope_of h.names)) (told-refused _ (fault-told F (w (scope_of h.names) (scope-length h.names) _)) refl);
    names_are = F.names_are ∙ S.names_are;
    onward = λ q. absurd cc;
  }

  module _ {m n : Held} {b : Binder} (w : BinderBound h.names.text.now h.names.count h.next.stop b) (I : Inner q b h m) (L : Looks b.next m n) where
    body-starts : quantified_at d q (scope_of h.names) (left_at h)
        ≡ read_then (level_at d 0 (bound_scope q b h) (left_at n)) (λ f us. got (bound-sentence q b h f) us)
    body-starts =
        quantified_starts (scope_of h.names) ∙ w.reads (scope_of h.names) (scope-length h.names) _
        ∙ ap (λ (us : List Token). read_then (level_at d 0 (bound_scope q b h) us) (λ f us. got (bound-sentence q b h f) us))
        (ap (λ (s : List ℕ). tokens_at s b.next) (sym I.text_is) ∙ L.stands.skips ∙ same-text (sym L.names_are) n.next.start)

    body-told : {h₂ : Held} {r : Result Unit Refused} → Reads (level_at d 0) n h₂ r → (rs : List Record) → Drafted h.draft rs
        → length (scope_of h.names) ≤ h.tracks → Told (bound_scope q b h) rs n h₂ (level_at d 0 (bound_scope q b h) (left_at n)) r
    body-told {h₂} {r} X rs D l =
        let s : scope_of n.names ≡ (bound_scope q b h) = ap scope_of L.names_are ∙ I.scope_is in
        let t = L.tracks_is ∙ I.tracks_is in
        let ln = scope-length h.names in
        subst (λ (sx : Scope). Told sx rs n h₂ (level_at d 0 sx (left_at n)) r) s
        (X.tells rs (rw (L.draft_is ∙ I.draft_is) D) (rw s (omega arith)))

    pub quantified-refused : {h₂ h₃ : Held} {x : Refused} → Reads (level_at d 0) n h₂ (Err x) → h₃.names ≡ h.names → h₃.fault ≡ h₂.fault
        → Reads (quantified_at d q) h h₃ (Err x)
    quantified-refused X back f = record {
      tells = λ rs D l. rw body-starts (told_up _ f (body-told X rs D l));
      names_are = back;
      onward = λ q. absurd cc;
    }

    -- the name is in use in its formula, which was read, and the quantifier's own records were put
    pub quantified_reads : {h₂ h₃ : Held} → Reads (level_at d 0) n h₂ (Ok tt) → h₃.names ≡ h.names → h₃.next ≡ h₂.next → h₃.tracks ≡ h₂.tracks
        → Drafts h₂.draft h₃.draft (put_quantified q h.names.count) → Reads (quantified_at d q) h h₃ (Ok tt)
    quantified_reads {h₂} {h₃} X back e t P = record {
      tells = λ rs D l.
          let ln = scope-length h.names in
          let x = part h.names.text.now b.start b.stop in
          let k = L.tracks_is ∙ I.tracks_is in
          let us : left_at h₃ ≡ left_at h₂ =
          same-text back h₃.next.start ∙ ap (λ (u : TokenRead). tokens_at h.names.text.now u.start) e
          ∙ ap (λ (s : List ℕ). tokens_at s h₂.next.start) (sym (ap (λ (ns : Names). ns.text.now) (X.names_are ∙ L.names_are) ∙ I.text_is)) in
          rw body-starts (told_made (bound-sentence q b h) us t
          (λ f G. rw (← write_quantified q (scope_of h.names) x f rs, ln) (P _ G))
          (λ f. rw (tracks_quantified q (length (scope_of h.names)) (order_by q) x f)
          (let z = tracks-least f (suc (length (scope_of h.names))) in omega arith))
          (body-told X rs D l));
      names_are = back;
      onward = λ q. let a = X.onward refl in let f = L.stands.forward in let o = w.onward in let z = h.stands.ordered in rw e (omega arith);
    }
