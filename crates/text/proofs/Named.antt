-- A text is refused by 23, 24 or 25 only, and an import by 23 to 27 only: request A2's numbers. Assumes nothing.
use Prim.Native.Nat.{ℕ, zero, suc, ◌≤◌}
use Prim.Native.String.{String}
use mathlib.Core.Path.{◌≡◌, refl, subst}
use mathlib.Core.Bool.{Bool, true, false, not, cond}
use mathlib.Core.List.{List, []}
use native.Mathlib.Omega.{arith}
use lib.Dec.{ltb, leb, eqb}
use lib.ListN.{length}
use Rattle.rule_strip.specs.RuleWriting.{strip_of_rule}
use Rattle.text.specs.Token.{Token, the_end, spells, is_name, tokens_of}
use Rattle.text.specs.Syntax.{Name, Order, first, second, sub, Sentence, atom, both, either, alike, Scope, Text}
use Rattle.text.specs.Grammar.{Read, got, refused, read_then, peek, rest, accept, or23, used_refusal, new_refusal, has_order, is_in_use, used, left_good}
use Rattle.text.specs.Grammar.{Relation, inclusion, membership, equality, other, relation_of, branch_of, spot_of, related, Reader, atom_of}
use Rattle.text.specs.Grammar.{chain, joined, Start, negation, bracket, atomic, too_deep, quantifier, operand_start, operand_of, implied_by}
use Rattle.text.specs.Grammar.{Part, operand, consequent, formula, operand_at, consequent_at, part_at, reader, names, declarations, text_from}
use Rattle.text.specs.Grammar.{text_of}
use Rattle.text.specs.Records.{variables_in, count_in, records_in}
use Rattle.text.specs.Import.{Import, written, rule_of, import}
use Rattle.text.specs.Import.{refused as refuses}

-- the numbers by which a token is refused: it leaves the grammar, its name may not stand there, or it needs a ninth track
data TokenRefusal : ℕ → Type 0 where
  grammar : TokenRefusal 23
  name : TokenRefusal 24
  track : TokenRefusal 25

-- the numbers by which the next token is judged; 0 takes it
data TokenJudged : ℕ → Type 0 where
  taken : TokenJudged 0
  fault : {k : ℕ} → TokenRefusal k → TokenJudged k

-- a reading that is refused, if at all, by one of these numbers
data Named {A : Type 0} : Read A → Type 0 where
  fine : {a : A} {ts : List Token} → Named (got a ts)
  named : {k : ℕ} {t : Token} → TokenRefusal k → Named (refused k t)

named-then : {A B : Type 0} (r : Read A) (go : A → List Token → Read B) → Named r → ((a : A) (ts : List Token) → Named (go a ts)) → Named (read_then r go)
named-then (got a ts) go h k = k a ts
named-then (refused r t) go (named x) k = named x

named-test : {A : Type 0} (b : Bool) {x y : Read A} → Named x → Named y → Named {A = A} (elim b as (λ _. Read A) [ true ↦ x | false ↦ y ])
named-test true h k = h
named-test false h k = k

named-accept : {A : Type 0} (r : ℕ) (ts : List Token) (go : Name → List Token → Read A) → TokenJudged r → ((x : Name) (us : List Token) → Named (go x us))
    → Named (accept r ts go)
unfolding accept
named-accept _ ts go taken h = h (peek ts).bytes (rest ts)
named-accept r ts go (fault x) h = named-test (eqb r 0) (h (peek ts).bytes (rest ts)) (named x)

-- ---- what `accept` is given
or23-judges : (b : Bool) → TokenJudged (or23 b)
or23-judges true = taken
or23-judges false = fault grammar

used-judges : (good : Bool) (t : Token) → TokenJudged (used_refusal good t)
used-judges good t = go (is_name t) good
  where
    go : (a b : Bool) → TokenJudged (cond (not a) 23 (cond (not b) 24 0))
    go false b = fault grammar
    go true false = fault name
    go true true = taken

new-judges : (twice : Bool) (sc : Scope) (t : Token) → TokenJudged (new_refusal twice sc t)
new-judges twice sc t = go (is_name t) twice (leb 8 (length sc))
  where
    go : (a b c : Bool) → TokenJudged (cond (not a) 23 (cond b 24 (cond c 25 0)))
    go false b c = fault grammar
    go true true c = fault name
    go true false true = fault track
    go true false false = taken

-- ---- atoms
named-used : {A : Type 0} (o : Order) (sc : Scope) (ts : List Token) (go : Name → List Token → Read A)
    → ((x : Name) (us : List Token) → Named (go x us)) → Named (used o sc ts go)
unfolding used
named-used o sc ts go h = named-accept _ ts go (used-judges (has_order sc o (peek ts).bytes) (peek ts)) h

branch-named : (y : Name) (ts : List Token) → Named (branch_of y ts)
unfolding branch_of
branch-named y ts = named-test (spells ".0" (peek ts)) fine (named-test (spells ".1" (peek ts)) fine fine)

spot-named : (sc : Scope) (ts : List Token) → Named (spot_of sc ts)
unfolding spot_of
spot-named sc ts = named-test (spells "root" (peek ts)) fine (named-used first sc ts branch_of branch-named)

related-named : (r : Relation) (sc : Scope) (x : Name) (ts : List Token) → Named (related r sc x ts)
unfolding related
related-named inclusion sc x ts = named-used second sc (rest ts) _ (λ y us. fine)
related-named membership sc x ts = named-used second sc (rest ts) _ (λ y us. fine)
related-named equality sc x ts = named-then (spot_of sc (rest ts)) _ (spot-named sc (rest ts)) (λ p us. fine)
related-named other sc x ts = named grammar

-- every reader of sentences is so
abbrev NamedReader : Reader → Type 0
NamedReader read = (sc : Scope) (ts : List Token) → Named (read sc ts)

atom-named : NamedReader atom_of
unfolding atom_of
atom-named sc ts =
    let r = relation_of (peek (rest ts)) in
    named-accept _ ts _ (used-judges (left_good r sc (peek ts).bytes) (peek ts)) (λ x us. related-named r sc x us)

-- ---- operators and levels
module _ (w : String) (join : Sentence → Sentence → Sentence) (read : Reader) (h : NamedReader read) (sc : Scope) where
  more-named : (d : ℕ) (f : Sentence) (ts : List Token) → Named (chain d w join read sc f ts)
  unfolding chain
  more-named zero f ts = fine
  more-named (suc d) f ts =
      named-test (spells w (peek ts)) (named-then (read sc (rest ts)) _ (h sc (rest ts)) (λ g us. more-named d (join f g) us)) fine

  joined-named : (ts : List Token) → Named (joined w join read sc ts)
  unfolding joined
  joined-named ts = named-then (read sc ts) _ (h sc ts) (λ f us. more-named (length us) f us)

module _ (d : ℕ) (deeper : Part → Reader) (h : (p : Part) → NamedReader (deeper p)) where
  operand_of-named : (s : Start) → NamedReader (operand_of deeper s)
  unfolding operand_of
  operand_of-named negation sc ts = named-then (deeper operand sc (rest ts)) _ (h operand sc (rest ts)) (λ f us. fine)
  operand_of-named bracket sc ts =
      named-then (deeper formula sc (rest ts)) _ (h formula sc (rest ts)) (λ f us.
      named-accept _ us _ (or23-judges (spells ")" (peek us))) (λ x vs. fine))
  operand_of-named atomic sc ts = atom-named sc ts
  operand_of-named too_deep sc ts = named grammar
  operand_of-named (quantifier make o) sc ts =
      named-accept _ (rest ts) _ (new-judges false sc (peek (rest ts))) (λ x us.
      named-accept _ us _ (or23-judges (spells ":" (peek us))) (λ y vs.
      named-then (deeper formula _ vs) _ (h formula _ vs) (λ f ws. fine)))

  operand_at-named : NamedReader (operand_at d deeper)
  unfolding operand_at
  operand_at-named sc ts = operand_of-named (operand_start d (peek ts)) sc ts

  implied-named : (sc : Scope) (f : Sentence) (ts : List Token) → Named (implied_by d deeper sc f ts)
  unfolding implied_by
  implied-named sc f ts =
      named-test (spells "=>" (peek ts))
      (named-test (eqb d 0) (named grammar) (named-then (deeper consequent sc (rest ts)) _ (h consequent sc (rest ts)) (λ g us. fine))) fine

  consequent_at-named : NamedReader (consequent_at d deeper)
  unfolding consequent_at
  consequent_at-named sc ts =
      named-then (joined "|" either (joined "&" both (operand_at d deeper)) sc ts) _
      (joined-named "|" either (joined "&" both (operand_at d deeper)) (λ sd us. joined-named "&" both (operand_at d deeper) operand_at-named sd us) sc ts)
      (λ f us. implied-named sc f us)

  part_at-named : (p : Part) → NamedReader (part_at d deeper p)
  unfolding part_at
  part_at-named operand sc ts = operand_at-named sc ts
  part_at-named consequent sc ts = consequent_at-named sc ts
  part_at-named formula sc ts = joined-named "<=>" alike (consequent_at d deeper) consequent_at-named sc ts

reader-named : (d : ℕ) (p : Part) → NamedReader (reader d p)
unfolding reader
reader-named zero p sc ts = part_at-named zero (λ q sd us. refused 23 (peek us)) (λ q sd us. named grammar) p sc ts
reader-named (suc d) p sc ts = part_at-named (suc d) (λ q sd us. reader d q sd us) (λ q sd us. reader-named d q sd us) p sc ts

-- ---- declarations, and the whole text
names-named : (d : ℕ) (o : Order) (sc : Scope) (ts : List Token) → Named (names d o sc ts)
unfolding names
names-named zero o sc ts = named grammar
names-named (suc d) o sc ts =
    named-accept _ ts _ (new-judges (is_in_use sc (peek ts).bytes) sc (peek ts)) (λ x us.
    named-test (spells "," (peek us)) (names-named d o _ (rest us)) (named-accept _ us _ (or23-judges (spells ";" (peek us))) (λ y vs. fine)))

declarations-named : (d : ℕ) (sc : Scope) (ts : List Token) → Named (declarations d sc ts)
unfolding declarations
declarations-named zero sc ts = fine
declarations-named (suc d) sc ts =
    named-test (spells "var1" (peek ts)) (named-then (names d first sc (rest ts)) _ (names-named d first sc (rest ts)) (declarations-named d))
    (named-test (spells "var2" (peek ts)) (named-then (names d second sc (rest ts)) _ (names-named d second sc (rest ts)) (declarations-named d)) fine)

text-named : (ts : List Token) → Named (text_from ts)
unfolding text_from
text-named ts =
    named-accept _ ts _ (or23-judges (spells "ws2s" (peek ts))) (λ _ us.
    named-accept _ us _ (or23-judges (spells ";" (peek us))) (λ _ vs.
    named-then (declarations (length vs) [] vs) _ (declarations-named (length vs) [] vs) (λ sc ws.
    named-then (reader 32 formula sc ws) _ (reader-named 32 formula sc ws) (λ f xs.
    named-accept _ xs _ (or23-judges (spells ";" (peek xs))) (λ _ ys.
    named-accept _ ys _ (or23-judges (eqb (peek ys).kind the_end)) (λ _ zs. fine))))))

refusal_numbers : {A : Type 0} (k : ℕ) (t : Token) → Named {A = A} (refused k t) → (23 ≤ k) × (k ≤ 25)
refusal_numbers _ t (named grammar) = (omega arith, omega arith)
refusal_numbers _ t (named name) = (omega arith, omega arith)
refusal_numbers _ t (named track) = (omega arith, omega arith)

-- THE LAW, of texts
pub refusal-named : (s : List ℕ) (k : ℕ) (t : Token) → text_of s ≡ refused k t → (23 ≤ k) × (k ≤ 25)
unfolding text_of
refusal-named s k t e = refusal_numbers k t (subst Named e (text-named (tokens_of s)))

-- THE LAW, of imports: 27 where out is too short, 26 where the records are too many, else the text's refusal
pub import-named : (s : List ℕ) (size k : ℕ) → import s size ≡ refuses k → (23 ≤ k) × (k ≤ 27)
unfolding import rule_of
import-named s size k e = room (ltb size 290) e
  where
    counted : (t : Text) (v : Bool) → (elim v as (λ _. Import) [
      | true ↦ written (variables_in t) (count_in t) (strip_of_rule (variables_in t) (records_in t))
      | false ↦ refuses 26
    ]) ≡ refuses k → (23 ≤ k) × (k ≤ 27)
    counted t true p = let z : ◌≡◌ {A = ℕ} 0 1 = cc in absurd (omega arith)
    counted t false p = let q : 26 ≡ k = cc in (omega arith, omega arith)

    ruled : (r : Read Text) → text_of s ≡ r → rule_of r ≡ refuses k → (23 ≤ k) × (k ≤ 27)
    ruled (got t ts) h p = counted t (leb (count_in t) 128) p
    ruled (refused i t) h p = let q : i ≡ k = cc in let a = (refusal-named s i t h).0 in let b = (refusal-named s i t h).1 in (omega arith, omega arith)

    room : (v : Bool) → (elim v as (λ _. Import) [ true ↦ refuses 27 | false ↦ rule_of (text_of s) ]) ≡ refuses k → (23 ≤ k) × (k ≤ 27)
    room true p = let q : 27 ≡ k = cc in (omega arith, omega arith)
    room false p = ruled (text_of s) refl p

-- ---- no refusal has the number 0

some : {A : Type 0} (R : Read A) (k : ℕ) (t : Token) → Named R → R ≡ refused k t → k ≡ 0 → ⊥
some R k t n e z = let w = (refusal_numbers k t (subst Named e n)).0 in omega arith

pub atom-some : (sc : Scope) (ts : List Token) (k : ℕ) (t : Token) → atom_of sc ts ≡ refused k t → k ≡ 0 → ⊥
atom-some sc ts k t e = some (atom_of sc ts) k t (atom-named sc ts) e

-- what a quantifier binds, and then an atom of it
pub binder_some : (sc : Scope) (ts : List Token) (k : ℕ) (t : Token)
    → accept (new_refusal false sc (peek ts)) ts (λ x us. accept (or23 (spells ":" (peek us))) us (λ _ vs. got (atom (sub x x)) vs)) ≡ refused k t → k ≡ 0 → ⊥
binder_some sc ts k t e =
    some _ k t (named-accept _ ts _ (new-judges false sc (peek ts)) (λ x us. named-accept _ us _ (or23-judges (spells ":" (peek us))) (λ y vs. fine))) e
