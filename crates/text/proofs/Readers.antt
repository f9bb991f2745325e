-- What the readers accept has every name in use and of the right order, and needs at most eight tracks. Assumes nothing.
use Prim.Native.Nat.{ℕ, zero, suc, ◌<◌, ◌≤◌, max}
use Prim.Native.String.{String}
use mathlib.Core.Path.{◌≡◌, refl, subst}
use mathlib.Core.Bool.{Bool, true, false, not, cond, ◌&&◌, false≢true}
use mathlib.Core.List.{List, [], ◌∷◌}
use native.Mathlib.Omega.{arith}
use borrow.Author.Tests.{leb-false}
use lib.Dec.{T, eqb, leb}
use lib.ListN.{length}
use Rattle.text.specs.Token.{Token, spells, is_name, tokens_of}
use Rattle.text.specs.Syntax.{Name, Order, first, second, Spot, variable, branch, root, Atom, sub, member, equal, Sentence, atom, denied, both}
use Rattle.text.specs.Syntax.{either, implies, alike, for_some, for_every, Scope, Text}
use Rattle.text.specs.Grammar.{Read, got, refused, read_then, peek, rest, accept, has_order, is_in_use, used_refusal, new_refusal, used, Relation}
use Rattle.text.specs.Grammar.{inclusion, membership, equality, other, relation_of, left_good, branch_of, spot_of, related, Reader, atom_of, chain}
use Rattle.text.specs.Grammar.{joined, Start, negation, bracket, atomic, too_deep, quantifier, opening, operand_start, Part, operand, consequent}
use Rattle.text.specs.Grammar.{formula, operand_of, implied_by, operand_at, consequent_at, part_at, reader, names, declarations, text_from, text_of}
use Rattle.text.specs.Records.{tracks}
use Rattle.text.proofs.Meant.{scoped_atom, scoped}
use Rattle.text.proofs.Puts.{and-true}
use Rattle.text.proofs.Scopes.{track_lt}
use Rattle.text.proofs.Sayings.{both_true}
use Rattle.text.proofs.Texts.{distinct}

-- what is got, if anything, has P
pub data After {A : Type 0} (P : A → Type 0) : Read A → Type 0 where
  fine : {a : A} {ts : List Token} → P a → After P (got a ts)
  nothing : {r : ℕ} {t : Token} → After P (refused r t)

pub after-got : {A : Type 0} {P : A → Type 0} {a : A} {ts : List Token} → After P (got a ts) → P a
after-got (fine p) = p

after_then : {A B : Type 0} {P : A → Type 0} {Q : B → Type 0} (r : Read A) (go : A → List Token → Read B) → After P r
    → ((a : A) (ts : List Token) → P a → After Q (go a ts)) → After Q (read_then r go)
after_then (got a ts) go h k = k a ts (after-got h)
after_then (refused r t) go h k = nothing

by_test : {A : Type 0} {P : A → Type 0} (b : Bool) {x y : Read A} → (b ≡ true → After P x) → (b ≡ false → After P y)
    → After P (elim b as (λ _. Read A) [ true ↦ x | false ↦ y ])
by_test true h k = h refl
by_test false h k = k refl

after-accept : {A : Type 0} {P : A → Type 0} (r : ℕ) (ts : List Token) (go : Name → List Token → Read A)
    → (eqb r 0 ≡ true → (us : List Token) → After P (go (peek ts).bytes us)) → After P (accept r ts go)
unfolding accept
after-accept r ts go h = by_test (eqb r 0) (λ e. h e (rest ts)) (λ e. nothing)

-- a refusal that is 0 says that its tests passed
used-passed : (v w : Bool) → eqb (cond (not v) 23 (cond (not w) 24 0)) 0 ≡ true → T w
used-passed true true e = tt
used-passed true false e = absurd (false≢true e)
used-passed false w e = absurd (false≢true e)

new-passed : (v twice full : Bool) → eqb (cond (not v) 23 (cond twice 24 (cond full 25 0))) 0 ≡ true → T (not twice) × (full ≡ false)
new-passed true true full e = absurd (false≢true e)
new-passed true false true e = absurd (false≢true e)
new-passed true false false e = (tt, refl)
new-passed false twice full e = absurd (false≢true e)

-- a sentence is in order where the names sc are in use
pub record WellScoped (sc : Scope) (f : Sentence) : Type 0 where
  pub names_are : T (scoped sc f)
  pub few : tracks (length sc) f ≤ 8

after-used : {A : Type 0} {P : A → Type 0} (o : Order) (sc : Scope) (ts : List Token) (go : Name → List Token → Read A)
    → ((x : Name) (us : List Token) → T (has_order sc o x) → After P (go x us)) → After P (used o sc ts go)
unfolding used
after-used o sc ts go h =
    let x = (peek ts).bytes in
    after-accept (used_refusal (has_order sc o x) (peek ts)) ts go (λ e us. h x us (used-passed (is_name (peek ts)) (has_order sc o x) e))

-- the right side of `=`
abbrev SpotGood : Scope → Name → Spot → Type 0
SpotGood sc x p = T (scoped_atom sc (equal x p))

module _ (sc : Scope) (x : Name) (t : T (has_order sc first x)) where
  branch-good : (y : Name) (us : List Token) → T (has_order sc first y) → After (SpotGood sc x) (branch_of y us)
  unfolding branch_of scoped_atom
  branch-good y us u =
      let w = and-true (has_order sc first x) (has_order sc first y) t u in
      by_test (spells ".0" (peek us)) (λ e. fine w) (λ e. by_test (spells ".1" (peek us)) (λ e. fine w) (λ e. fine w))

  spot-good : (ts : List Token) → After (SpotGood sc x) (spot_of sc ts)
  unfolding spot_of scoped_atom
  spot-good ts = by_test (spells "root" (peek ts)) (λ e. fine t) (λ e. after-used first sc ts branch_of branch-good)

module _ (sc : Scope) (l : length sc ≤ 8) where
  atom-fine : {a : Atom} {ts : List Token} → T (scoped_atom sc a) → After (WellScoped sc) (got (atom a) ts)
  unfolding scoped tracks
  atom-fine t = fine (record { names_are = t; few = l })

  related-good : (r : Relation) (x : Name) (us : List Token) → T (left_good r sc x) → After (WellScoped sc) (related r sc x us)
  unfolding left_good related scoped_atom
  related-good inclusion x us t =
      after-used second sc (rest us) (λ y vs. got (atom (sub x y)) vs)
      (λ y vs u. atom-fine {a = sub x y} (and-true (has_order sc second x) (has_order sc second y) t u))
  related-good membership x us t =
      after-used second sc (rest us) (λ y vs. got (atom (member x y)) vs)
      (λ y vs u. atom-fine {a = member x y} (and-true (has_order sc first x) (has_order sc second y) t u))
  related-good equality x us t =
      after_then (spot_of sc (rest us)) (λ p vs. got (atom (equal x p)) vs) (spot-good sc x t (rest us)) (λ p vs u. atom-fine {a = equal x p} u)
  related-good other x us t = nothing

  atom-good : (ts : List Token) → After (WellScoped sc) (atom_of sc ts)
  unfolding atom_of
  atom-good ts =
      let r = relation_of (peek (rest ts)) in
      let x = (peek ts).bytes in
      after-accept (used_refusal (left_good r sc x) (peek ts)) ts (λ y us. related r sc y us)
      (λ e us. related-good r x us (used-passed (is_name (peek ts)) (left_good r sc x) e))

  -- joining keeps sentences in order
  module _ (join : Sentence → Sentence → Sentence) (keeps : (f g : Sentence) → WellScoped sc f → WellScoped sc g → WellScoped sc (join f g)) (read : Reader)
      (good : (ts : List Token) → After (WellScoped sc) (read sc ts)) (w : String) where
    more-good : (d : ℕ) (f : Sentence) (ts : List Token) → WellScoped sc f → After (WellScoped sc) (chain d w join read sc f ts)
    unfolding chain
    more-good zero f ts h = fine h
    more-good (suc d) f ts h =
        by_test (spells w (peek ts)) (λ e. after_then (read sc (rest ts)) (λ g us. chain d w join read sc (join f g) us) (good (rest ts))
        (λ g us k. more-good d (join f g) us (keeps f g h k))) (λ e. fine h)

    joined-good : (ts : List Token) → After (WellScoped sc) (joined w join read sc ts)
    unfolding joined
    joined-good ts = after_then (read sc ts) (λ f us. chain (length us) w join read sc f us) (good ts) (λ f us h. more-good (length us) f us h)

  two-keep : (f g h : Sentence) → scoped sc h ≡ (scoped sc f && scoped sc g) → tracks (length sc) h ≡ max (tracks (length sc) f) (tracks (length sc) g)
      → WellScoped sc f → WellScoped sc g → WellScoped sc h
  two-keep f g h e d a b =
      let p = a.few in
      let q = b.few in
      record { names_are = rw e (and-true (scoped sc f) (scoped sc g) a.names_are b.names_are); few = omega arith }

  both-keep : (f g : Sentence) → WellScoped sc f → WellScoped sc g → WellScoped sc (both f g)
  unfolding scoped tracks
  both-keep f g = two-keep f g (both f g) refl refl

  either-keep : (f g : Sentence) → WellScoped sc f → WellScoped sc g → WellScoped sc (either f g)
  unfolding scoped tracks
  either-keep f g = two-keep f g (either f g) refl refl

  implies-keep : (f g : Sentence) → WellScoped sc f → WellScoped sc g → WellScoped sc (implies f g)
  unfolding scoped tracks
  implies-keep f g = two-keep f g (implies f g) refl refl

  alike-keep : (f g : Sentence) → WellScoped sc f → WellScoped sc g → WellScoped sc (alike f g)
  unfolding scoped tracks
  alike-keep f g = two-keep f g (alike f g) refl refl

  denied-keep : (f : Sentence) → WellScoped sc f → WellScoped sc (denied f)
  unfolding scoped tracks
  denied-keep f h = record { names_are = h.names_are; few = h.few }

-- what a quantifier makes
abbrev Binds : (Order → Name → Sentence → Sentence) → Type 0
Binds make = (o : Order) (x : Name) (f : Sentence) (sc : Scope) → WellScoped (record { name = x; order = o } ∷ sc) f → WellScoped sc (make o x f)

some-binds : Binds for_some
unfolding scoped tracks
some-binds o x f sc h = record { names_are = h.names_are; few = h.few }

every-binds : Binds for_every
unfolding scoped tracks
every-binds o x f sc h = record { names_are = h.names_are; few = h.few }

-- a start's quantifier binds
StartGood : Start → Type 0
StartGood negation = Unit
StartGood bracket = Unit
StartGood atomic = Unit
StartGood too_deep = Unit
StartGood (quantifier make o) = Binds make

opening-good : (d : ℕ) (s : Start) → StartGood s → StartGood (opening d s)
unfolding StartGood opening
opening-good zero s h = tt
opening-good (suc d) s h = h

or_good : (b : Bool) (s t : Start) → StartGood s → StartGood t → StartGood (cond b s t)
or_good true s t h k = h
or_good false s t h k = k

start-good : (d : ℕ) (t : Token) → StartGood (operand_start d t)
unfolding operand_start StartGood
start-good d t =
    or_good (spells "~" t) _ _ (opening-good d negation tt)
    (or_good (spells "(" t) _ _ (opening-good d bracket tt)
    (or_good (spells "ex1" t) _ _ (opening-good d (quantifier for_some first) some-binds)
    (or_good (spells "ex2" t) _ _ (opening-good d (quantifier for_some second) some-binds)
    (or_good (spells "all1" t) _ _ (opening-good d (quantifier for_every first) every-binds)
    (or_good (spells "all2" t) _ _ (opening-good d (quantifier for_every second) every-binds) tt)))))

-- a reader whose sentences are in order
abbrev Good : Reader → Type 0
Good read = (sc : Scope) → length sc ≤ 8 → (ts : List Token) → After (WellScoped sc) (read sc ts)

module _ (d : ℕ) (deeper : Part → Reader) (good : (p : Part) → Good (deeper p)) where
  operand_of-good : (s : Start) → StartGood s → Good (operand_of deeper s)
  unfolding operand_of StartGood
  operand_of-good negation b sc l ts =
      after_then (deeper operand sc (rest ts)) (λ f us. got (denied f) us) (good operand sc l (rest ts)) (λ f us h. fine (denied-keep sc l f h))
  operand_of-good bracket b sc l ts = after_then (deeper formula sc (rest ts)) _ (good formula sc l (rest ts)) (λ f us h. after-accept _ us _ (λ e vs. fine h))
  operand_of-good atomic b sc l ts = atom-good sc l ts
  operand_of-good too_deep b sc l ts = nothing
  operand_of-good (quantifier make o) b sc l ts =
      after-accept (new_refusal false sc (peek (rest ts))) (rest ts) _ (λ e us.
      let w = new-passed (is_name (peek (rest ts))) false (leb 8 (length sc)) e in
      let x = (peek (rest ts)).bytes in
      let q = leb-false 8 (length sc) w.1 in
      after-accept _ us _ (λ e' vs.
      after_then (deeper formula (record { name = x; order = o } ∷ sc) vs) (λ f ws. got (make o x f) ws)
      (good formula (record { name = x; order = o } ∷ sc) (omega arith) vs) (λ f ws h. fine (b o x f sc h))))

  operand_at-good : Good (operand_at d deeper)
  unfolding operand_at
  operand_at-good sc l ts = operand_of-good (operand_start d (peek ts)) (start-good d (peek ts)) sc l ts

  implied-good : (sc : Scope) → length sc ≤ 8 → (f : Sentence) (ts : List Token) → WellScoped sc f → After (WellScoped sc) (implied_by d deeper sc f ts)
  unfolding implied_by
  implied-good sc l f ts h =
      by_test (spells "=>" (peek ts)) (λ e. by_test (eqb d 0) (λ e. nothing) (λ e.
      after_then (deeper consequent sc (rest ts)) (λ g us. got (implies f g) us) (good consequent sc l (rest ts))
      (λ g us k. fine (implies-keep sc l f g h k)))) (λ e. fine h)

  consequent_at-good : Good (consequent_at d deeper)
  unfolding consequent_at
  consequent_at-good sc l ts =
      after_then (joined "|" either (joined "&" both (operand_at d deeper)) sc ts) (λ f us. implied_by d deeper sc f us)
      (joined-good sc l either (either-keep sc l) (joined "&" both (operand_at d deeper))
      (λ us. joined-good sc l both (both-keep sc l) (operand_at d deeper) (operand_at-good sc l) "&" us) "|" ts)
      (λ f us h. implied-good sc l f us h)

  part_at-good : (p : Part) → Good (part_at d deeper p)
  unfolding part_at
  part_at-good operand sc l ts = operand_at-good sc l ts
  part_at-good consequent sc l ts = consequent_at-good sc l ts
  part_at-good formula sc l ts = joined-good sc l alike (alike-keep sc l) (consequent_at d deeper) (consequent_at-good sc l) "<=>" ts

reader-good : (d : ℕ) (p : Part) → Good (reader d p)
unfolding reader
reader-good zero p sc l ts = part_at-good zero (λ q sd us. refused 23 (peek us)) (λ q sd m us. nothing) p sc l ts
reader-good (suc d) p sc l ts = part_at-good (suc d) (λ q sd us. reader d q sd us) (λ q sd m us. reader-good d q sd m us) p sc l ts

-- declarations
record Declares (sc : Scope) : Type 0 where
  once : T (distinct sc)
  room : length sc ≤ 8

names-good : (d : ℕ) (o : Order) (sc : Scope) (ts : List Token) → Declares sc → After Declares (names d o sc ts)
unfolding names distinct
names-good zero o sc ts h = nothing
names-good (suc d) o sc ts h =
    let x = (peek ts).bytes in
    after-accept (new_refusal (is_in_use sc x) sc (peek ts)) ts _ (λ e us.
    let w = new-passed (is_name (peek ts)) (is_in_use sc x) (leb 8 (length sc)) e in
    let q = leb-false 8 (length sc) w.1 in
    let k : Declares (record { name = x; order = o } ∷ sc) = record { once = and-true (not (is_in_use sc x)) (distinct sc) w.0 h.once; room = omega arith } in
    by_test (spells "," (peek us)) (λ e'. names-good d o _ (rest us) k) (λ e'. after-accept _ us _ (λ e'' vs. fine k)))

declarations-good : (d : ℕ) (sc : Scope) (ts : List Token) → Declares sc → After Declares (declarations d sc ts)
unfolding declarations
declarations-good zero sc ts h = fine h
declarations-good (suc d) sc ts h =
    let further : (o : Order) → After Declares (read_then (names d o sc (rest ts)) (declarations d)) =
    (λ o. after_then (names d o sc (rest ts)) (declarations d) (names-good d o sc (rest ts) h) (λ sd us k. declarations-good d sd us k)) in
    by_test (spells "var1" (peek ts)) (λ e. further first) (λ e. by_test (spells "var2" (peek ts)) (λ e. further second) (λ e. fine h))

-- a text that is read
pub record ReadGood (t : Text) : Type 0 where
  pub once : T (distinct t.declared)
  pub names_are : T (scoped t.declared t.sentence)
  pub few : tracks (length t.declared) t.sentence ≤ 8

text-good : (ts : List Token) → After ReadGood (text_from ts)
unfolding text_from distinct
text-good ts =
    after-accept _ ts _ (λ e us. after-accept _ us _ (λ e vs.
    after_then (declarations (length vs) [] vs) _ (declarations-good (length vs) [] vs (record { once = tt; room = omega arith })) (λ sc ws h.
    after_then (reader 32 formula sc ws) _ (reader-good 32 formula sc h.room ws) (λ f xs k.
    after-accept _ xs _ (λ e ys. after-accept _ ys _ (λ e zs. fine (record { once = h.once; names_are = k.names_are; few = k.few })))))))

-- THE THEOREM
pub read-good : (s : List ℕ) (t : Text) (ts : List Token) → text_of s ≡ got t ts → ReadGood t
unfolding text_of
read-good s t ts e = after-got (subst (After ReadGood) e (text-good (tokens_of s)))

-- a sentence has an atom, and an atom a name: so there is a track
pub tracks-pos : (f : Sentence) (sc : Scope) → T (scoped sc f) → 0 < tracks (length sc) f
unfolding scoped scoped_atom tracks
tracks-pos (atom (sub x y)) sc t = let h = track_lt sc second x (both_true (has_order sc second x) (has_order sc second y) t).0 in omega arith
tracks-pos (atom (member x y)) sc t = let h = track_lt sc first x (both_true (has_order sc first x) (has_order sc second y) t).0 in omega arith
tracks-pos (atom (equal x (variable y))) sc t = let h = track_lt sc first x (both_true (has_order sc first x) (has_order sc first y) t).0 in omega arith
tracks-pos (atom (equal x (branch b y))) sc t = let h = track_lt sc first x (both_true (has_order sc first x) (has_order sc first y) t).0 in omega arith
tracks-pos (atom (equal x root)) sc t = let h = track_lt sc first x t in omega arith
tracks-pos (denied f) sc t = tracks-pos f sc t
tracks-pos (both f g) sc t = let h = tracks-pos f sc (both_true (scoped sc f) (scoped sc g) t).0 in omega arith
tracks-pos (either f g) sc t = let h = tracks-pos f sc (both_true (scoped sc f) (scoped sc g) t).0 in omega arith
tracks-pos (implies f g) sc t = let h = tracks-pos f sc (both_true (scoped sc f) (scoped sc g) t).0 in omega arith
tracks-pos (alike f g) sc t = let h = tracks-pos f sc (both_true (scoped sc f) (scoped sc g) t).0 in omega arith
tracks-pos (for_some o x f) sc t = tracks-pos f (record { name = x; order = o } ∷ sc) t
tracks-pos (for_every o x f) sc t = tracks-pos f (record { name = x; order = o } ∷ sc) t
