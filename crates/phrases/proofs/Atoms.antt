-- The right side of an equality, and an atom. Assumes nothing.
use Prim.Native.Nat.{ℕ, ◌<◌, ◌≤◌}
use mathlib.Core.Path.{◌≡◌, refl, ◌∙◌}
use mathlib.Core.Bool.{Bool, true, false, not, cond}
use mathlib.Core.List.{List, ◌++◌}
use native.Mathlib.Omega.{arith}
use borrow.Author.Tests.{ne_eqb, eqb-true}
use lib.Dec.{eqb}
use Rattle.std.specs.Prelude.{Result, Ok, Err}
use Rattle.logic.specs.Two.{one, two}
use Rattle.refusals.specs.declared.Reason.TheVariants as reason
use Rattle.text.specs.declared.kinds.Kind.{Kind}
use Rattle.text.specs.declared.kinds.Kind.TheVariants as kind
use Rattle.text.specs.Kinds.{kind_number}
use Rattle.text.specs.Token.{Token as TextToken, words, text_marks, number_in}
use Rattle.text.specs.Syntax.{Name, Order, first, second, variable, branch, root, sub, member, Sentence, Scope}
use Rattle.text.specs.Grammar.{Read, peek, rest, used_refusal, used, has_order, left_good, branch_of, spot_of, related, atom_of}
use Rattle.text.specs.Grammar.{relation_of}
use Rattle.text.proofs.KindNumbers.{same_kind, other_kind}
use Rattle.tokens.specs.declared.Token.{Token}
use Rattle.tokens.specs.declared.TokenFault.{TokenFault}
use Rattle.tokens.specs.Spans.{part}
use Rattle.tokens.specs.Tokens.{tokens_at, read_from, refused_at, StandsNext}
use Rattle.drafting.specs.declared.Branch.TheVariants.{One, Two}
use Rattle.drafting.specs.declared.Spot.TheVariants.{Variable, Branch, Root}
use Rattle.drafting.specs.declared.Atom.TheVariants.{Sub, Member}
use Rattle.phrases.specs.declared.Holder.{Holder}
use Rattle.phrases.specs.declared.SpotRead.{SpotRead}
use Rattle.phrases.specs.declared.AtomRead.{AtomRead}
use Rattle.phrases.specs.Looked.{Held, Unknown, UsedWell, UsedBadly, relation_by, good_order}
use Rattle.phrases.specs.Told.{RefusedAt, SpotIs, AtomTold, BranchTold, RightTold, EqualTold, RelatedTold}
use Rattle.phrases.proofs.Taking.{other_than, not_end, taken, turned, spelled, not_spelled}
use Rattle.phrases.proofs.Looking.{relation_is, left_is, left_unknown}

is_root : number_in 0 (words ++ text_marks) "root" ≡ kind_number kind.Root
unfolding number_in words text_marks
is_root = refl

is_one : number_in 0 (words ++ text_marks) ".0" ≡ kind_number kind.Branch1
unfolding number_in words text_marks
is_one = refl

is_two : number_in 0 (words ++ text_marks) ".1" ≡ kind_number kind.Branch2
unfolding number_in words text_marks
is_two = refl

-- ---- the branch of a variable
module _ {s : List ℕ} {at : ℕ} {t : Token} (st : StandsNext s at t) (track : ℕ) (l : track < 8) where
  pub branch_one : t.kind ≡ kind.Branch1 → BranchTold s track at (record { place = Branch One track; next = t.stop })
  unfolding branch_of
  branch_one e sc y h =
      let z = not_end e (λ d. cc) in
      record {
        spot = branch one y;
        code_is = rw h refl;
        reads = rw (spelled st ".0" is_one e, branch_of) (rw (st.goes_on z) refl);
        below = l;
        onward = omega (arith, st.onward z);
      }

  pub branch-two : t.kind ≡ kind.Branch2 → BranchTold s track at (record { place = Branch Two track; next = t.stop })
  unfolding branch_of
  branch-two e sc y h =
      let z = not_end e (λ d. cc) in
      let n : t.kind ≡ kind.Branch1 → ⊥ = other_than e (λ d. cc) in
      record {
        spot = branch two y;
        code_is = rw h refl;
        reads = rw (not_spelled st ".0" is_one n, branch_of) (rw (spelled st ".1" is_two e) (rw (st.goes_on z) refl));
        below = l;
        onward = omega (arith, st.onward z);
      }

  pub branch-none : (t.kind ≡ kind.Branch1 → ⊥) → (t.kind ≡ kind.Branch2 → ⊥) → BranchTold s track at (record { place = Variable track; next = at })
  unfolding branch_of
  branch-none u v sc y h = record {
    spot = variable y;
    code_is = rw h refl;
    reads = rw (not_spelled st ".0" is_one u, branch_of) (rw (not_spelled st ".1" is_two v) refl);
    below = l;
    onward = omega arith;
  }

-- ---- a name that is used
name-test : (v w : Bool) → ◌≡◌ {A = ℕ} (cond (not v) 23 (cond (not w) 24 0)) 0 → v ≡ true
name-test true w e = refl
name-test false w e = absurd (omega arith)

-- what is used without refusal is a name
use_name : {s : List ℕ} {sc : Scope} {o : Order} {t : Token} {track : ℕ} → UsedWell s sc o t track → t.kind ≡ kind.Name
use_name {s} {sc} {o} {t} k =
    same_kind t.kind kind.Name (eqb-true _ 23 (name-test (eqb (kind_number t.kind) 23) (has_order sc o (part s t.start t.stop)) k.refusal_is))

module _ {A : Type 0} {s : List ℕ} {sc : Scope} {o : Order} {at : ℕ} {t : Token} (st : StandsNext s at t) (go : Name → List TextToken → Read A) where
  pub used-turned : {f : TokenFault} → UsedBadly s sc o t f → RefusedAt (used o sc (tokens_at s at) go) f
  unfolding used
  used-turned {f} k = turned st (λ v. used_refusal (has_order sc o v.bytes) v) go f k.refusal_is k.lies_at

  pub used-taken : {track : ℕ} → UsedWell s sc o t track → used o sc (tokens_at s at) go ≡ go (part s t.start t.stop) (tokens_at s t.stop)
  unfolding used
  used-taken k = taken st (λ v. used_refusal (has_order sc o v.bytes) v) go (not_end (use_name k) (λ d. cc)) k.refusal_is

-- ---- the right side of an equality
refused-wider : {A : Type 0} {R Q : Read A} {f : TokenFault} → R ≡ Q → RefusedAt Q f → RefusedAt R f
refused-wider e f = record { token = f.token; refuses = e ∙ f.refuses; start_is = f.start_is; stop_is = f.stop_is }

module _ {s : List ℕ} (sc : Scope) {at : ℕ} {t : Token} (st : StandsNext s at t) where
  pub spot-root : t.kind ≡ kind.Root → SpotIs s sc at (spot_of sc (tokens_at s at)) (record { place = Root; next = t.stop })
  unfolding spot_of
  spot-root e =
      let z = not_end e (λ d. cc) in
      record {
        spot = root;
        code_is = refl;
        reads = rw (spelled st "root" is_root e, spot_of) (rw (st.goes_on z) refl);
        below = tt;
        onward = omega (arith, st.onward z);
      }

  module _ (n : t.kind ≡ kind.Root → ⊥) where
    spot-name : spot_of sc (tokens_at s at) ≡ used first sc (tokens_at s at) branch_of
    unfolding spot_of
    spot-name = rw (not_spelled st "root" is_root n, spot_of) refl

    pub spot-turned : {f : TokenFault} → UsedBadly s sc first t f → RefusedAt (spot_of sc (tokens_at s at)) f
    spot-turned k = rw spot-name (used-turned st branch_of k)

    pub spot-goes : {track : ℕ} → UsedWell s sc first t track → {r : SpotRead} → BranchTold s track t.stop r → SpotIs s sc at (spot_of sc (tokens_at s at)) r
    spot-goes k b =
        let o = st.onward (not_end (use_name k) (λ d. cc)) in
        let i = b sc (part s t.start t.stop) k.track_is in
        record { spot = i.spot; code_is = i.code_is; reads = spot-name ∙ used-taken st branch_of k ∙ i.reads; below = i.below; onward = omega (arith, i.onward) }

-- ---- an atom
module _ (s : List ℕ) (sc : Scope) (track at : ℕ) {t : Token} (st : StandsNext s at t) where
  pub right-turned : (k : Kind) {f : TokenFault} → UsedBadly s sc second t f → RightTold s sc track k at (Err f)
  right-turned k u x h = used-turned st _ u

  module _ (l : track < 8) {right : ℕ} (u : UsedWell s sc second t right) where
    pub right-sub : RightTold s sc track kind.Sub at (Ok (record { atom = Sub track right; next = t.stop }))
    right-sub x h =
        let o = st.onward (not_end (use_name u) (λ d. cc)) in
        record {
          said = sub x (part s t.start t.stop);
          code_is = rw (h, u.track_is) refl;
          reads = used-taken st _ u;
          below = (l, u.few);
          onward = omega arith;
        }

    pub right-member : (k : Kind) → (k ≡ kind.Sub → ⊥) → RightTold s sc track k at (Ok (record { atom = Member track right; next = t.stop }))
    right-member k z x h =
        let o = st.onward (not_end (use_name u) (λ d. cc)) in
        record {
          said = member x (part s t.start t.stop);
          code_is = rw (h, u.track_is) refl;
          reads = used-taken st _ u ∙ rw (ne_eqb _ 7 (other_kind {b = kind.Sub} z)) refl;
          below = (l, u.few);
          onward = omega arith;
        }

atom-wider : (s : List ℕ) (sc : Scope) {at p : ℕ} {R Q : Read Sentence} (r : Result AtomRead TokenFault) → at ≤ p → R ≡ Q → AtomTold s sc p Q r → AtomTold s sc at R r
atom-wider s sc (Ok r) h e i = record { said = i.said; code_is = i.code_is; reads = e ∙ i.reads; below = i.below; onward = omega (arith, i.onward) }
atom-wider s sc (Err f) h e i = refused-wider e i

-- the token behind the left name, by its kind
relation-of : {s : List ℕ} {at : ℕ} {t : Token} → StandsNext s at t → relation_of (peek (tokens_at s at)) ≡ relation_by t.kind
relation-of {t = t} st = relation_is t _ (rw st.stands refl)

-- it is none of the three
pub related-other : (s : List ℕ) (sc : Scope) (track : ℕ) (t : Token) → (t.kind ≡ kind.Equals → ⊥) → (t.kind ≡ kind.Sub → ⊥) → (t.kind ≡ kind.In → ⊥)
    → RelatedTold s sc track t (Err (refused_at t reason.TextGrammar))
unfolding related
related-other s sc track t u v w at x st h = record {
  token = read_from s t;
  refuses = rw (
    relation-of st,
    ne_eqb _ 7 (other_kind {b = kind.Sub} v),
    ne_eqb _ 8 (other_kind {b = kind.In} w),
    ne_eqb _ 20 (other_kind {b = kind.Equals} u),
    st.stands,
  ) refl;
  start_is = refl;
  stop_is = refl;
}

module _ (s : List ℕ) (sc : Scope) (track : ℕ) (t : Token) (r : Result AtomRead TokenFault) where
  pub related-equal : t.kind ≡ kind.Equals → EqualTold s sc track t.stop r → RelatedTold s sc track t r
  unfolding related
  related-equal e k at x st h =
      let z = not_end e (λ d. cc) in
      let o = st.onward z in
      atom-wider s sc r (omega arith) (rw (relation-of st, e, st.goes_on z) refl) (k x h)

  pub related-right : t.kind ≡ kind.Sub → RightTold s sc track kind.Sub t.stop r → RelatedTold s sc track t r
  unfolding related
  related-right e k at x st h =
      let z = not_end e (λ d. cc) in
      let o = st.onward z in
      atom-wider s sc r (omega arith) (rw (relation-of st, e, st.goes_on z) refl) (k x h)

  pub related_in : t.kind ≡ kind.In → RightTold s sc track kind.In t.stop r → RelatedTold s sc track t r
  unfolding related
  related_in e k at x st h =
      let z = not_end e (λ d. cc) in
      let o = st.onward z in
      atom-wider s sc r (omega arith) (rw (relation-of st, e, st.goes_on z) refl) (k x h)

module _ {s : List ℕ} (sc : Scope) {at : ℕ} {t : Token} (st : StandsNext s at t) where
  pub atom_no_name : (t.kind ≡ kind.Name → ⊥) → RefusedAt (atom_of sc (tokens_at s at)) (refused_at t reason.TextGrammar)
  unfolding atom_of
  atom_no_name z =
      let r = relation_of (peek (rest (tokens_at s at))) in
      turned st (λ v. used_refusal (left_good r sc v.bytes) v) (λ x us. related r sc x us) _ (rw (ne_eqb _ 23 (other_kind {b = kind.Name} z)) refl)
      (record { start_is = refl; stop_is = refl })

  module _ (e : t.kind ≡ kind.Name) where
    -- the name is of no order that may stand before what follows
    atom_bad : left_good (relation_of (peek (rest (tokens_at s at)))) sc (part s t.start t.stop) ≡ false
        → RefusedAt (atom_of sc (tokens_at s at)) (refused_at t reason.TextName)
    unfolding atom_of
    atom_bad b =
        let r = relation_of (peek (rest (tokens_at s at))) in
        turned st (λ v. used_refusal (left_good r sc v.bytes) v) (λ x us. related r sc x us) _ (rw (e, b) refl) (record { start_is = refl; stop_is = refl })

    pub atom_unknown : Unknown sc (part s t.start t.stop) → RefusedAt (atom_of sc (tokens_at s at)) (refused_at t reason.TextName)
    atom_unknown u = atom_bad (left_unknown u _)

    module _ {h : Holder} (k : Held sc (part s t.start t.stop) h) {u : Token} (su : StandsNext s t.stop u) where
      left-of : left_good (relation_of (peek (rest (tokens_at s at)))) sc (part s t.start t.stop) ≡ good_order (relation_by u.kind) h.order
      left-of = rw (st.goes_on (not_end e (λ d. cc)), relation-of su) (left_is k _)

      pub atom_wrong : good_order (relation_by u.kind) h.order ≡ false → RefusedAt (atom_of sc (tokens_at s at)) (refused_at t reason.TextName)
      atom_wrong b = atom_bad (left-of ∙ b)

      pub atom-goes : good_order (relation_by u.kind) h.order ≡ true → (r : Result AtomRead TokenFault) → RelatedTold s sc h.track u r
          → AtomTold s sc at (atom_of sc (tokens_at s at)) r
      unfolding atom_of
      atom-goes b a q =
          let r = relation_of (peek (rest (tokens_at s at))) in
          let z = not_end e (λ d. cc) in
          let o = st.onward z in
          let x = part s t.start t.stop in
          atom-wider s sc a (omega arith)
          (taken st (λ v. used_refusal (left_good r sc v.bytes) v) (λ x us. related r sc x us) z (rw (e, left-of, b) refl) ∙ rw (st.goes_on z) refl)
          (q t.stop x su k.track_is)
