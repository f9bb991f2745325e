-- What stands behind a fault's token, but for one token of lookahead, does not matter. Assumes nothing.
use Prim.Native.Nat.{ℕ, zero, suc, ◌+◌, ◌<◌, ◌≤◌}
use Prim.Native.String.{String}
use mathlib.Core.Path.{◌≡◌, refl, sym, ◌∙◌, ap, subst}
use mathlib.Core.Logic.{inl, inr}
use mathlib.Core.Bool.{Bool, true, false}
use mathlib.Core.List.{List, [], ◌∷◌, ◌++◌, append_assoc}
use native.Mathlib.Omega.{arith}
use lib.Dec.{eqb}
use lib.ListN.{length, drop, length-append}
use Rattle.text.specs.Token.{Token, the_end, spells, words, text_marks, number_in, is_blank, piece, tokens, tokens_of}
use Rattle.text.specs.Syntax.{Name, Order, first, second, variable, branch, root, Sentence, atom, sub, member, equal, denied, both, either}
use Rattle.text.specs.Syntax.{implies, alike, Scope}
use Rattle.text.specs.Grammar.{Read, got, refused, read_then, peek, rest, accept, or23, used_refusal, new_refusal, has_order, is_in_use, used, left_good}
use Rattle.text.specs.Grammar.{Relation, inclusion, membership, equality, other, relation_of, branch_of, spot_of, related, Reader, atom_of}
use Rattle.text.specs.Grammar.{chain, joined, Start, negation, bracket, atomic, too_deep, quantifier, operand_start, operand_of, implied_by}
use Rattle.text.specs.Grammar.{Part, operand, consequent, formula, operand_at, consequent_at, part_at, reader, names, declarations, text_from}
use Rattle.text.specs.Grammar.{text_of}
use Rattle.logic.specs.Two.{one, two}
use Rattle.text.specs.Faults.{HasEnd, FaultAt, FaultLaw, TextFaultLaw}
use Rattle.text.proofs.Steps.{nothing, Bounded, more-is, joined-within, operand_at-within, consequent_at-within, reader-within}
use Rattle.text.proofs.Steps.{names_is, names_by, declarations_is, declarations_by, token_at}

-- none of the tokens is the end
NoEnd : List Token → Type 0
NoEnd [] = Unit
NoEnd (t ∷ ts) = (t.kind ≡ the_end → ⊥) × NoEnd ts

no_end : (a b : List Token) → NoEnd a → NoEnd b → NoEnd (a ++ b)
unfolding NoEnd
no_end [] b h k = k
no_end (t ∷ a) b h k = (h.0, no_end a b h.1 k)

-- a reading of ts stops at a token of ts, and hangs on nothing behind it but one token; or goes on behind some of ts and, if P, hangs on nothing
-- behind those but one token, and none of those is the end
data Local {A : Type 0} (P : Type 0) (read : List Token → Read A) (ts : List Token) : Type 0 where
  stops : (before after : List Token) (k : ℕ) → ts ≡ before ++ after → NoEnd before
      → ((us : List Token) → peek us ≡ peek after → peek (rest us) ≡ peek (rest after) → read (before ++ us) ≡ refused k (peek after)) → Local P read ts
  goes : (before after : List Token) (a : A) → ts ≡ before ++ after → read ts ≡ got a after → (P → NoEnd before)
      → (P → (us : List Token) → peek us ≡ peek after → read (before ++ us) ≡ got a us) → Local P read ts

-- what follows the tokens `before` matters to its first token only if there are none
next-same : (before us vs : List Token) → peek us ≡ peek vs → peek (before ++ us) ≡ peek (before ++ vs)
next-same [] us vs h = h
next-same (t ∷ before) us vs h = refl

-- two readings that are the same where the next token is that of ts
local_as : {A P : Type 0} {f : List Token → Read A} (g : List Token → Read A) (ts : List Token) → ((us : List Token) → peek us ≡ peek ts → f us ≡ g us)
    → Local P g ts → Local P f ts
local_as g ts e (stops before after k s n h) =
    stops before after k s n (λ us p q. e (before ++ us) (next-same before us after p ∙ ap peek (sym s)) ∙ h us p q)
local_as g ts e (goes before after a s r n h) =
    goes before after a s (e ts refl ∙ r) n (λ x us p. e (before ++ us) (next-same before us after p ∙ ap peek (sym s)) ∙ h x us p)

local_got : {A P : Type 0} (a : A) (ts : List Token) → Local P (λ us. got a us) ts
unfolding NoEnd
local_got a ts = goes [] ts a refl refl (λ x. tt) (λ x us p. refl)

local_refused : {A P : Type 0} (k : ℕ) (ts : List Token) → Local {A = A} P (λ us. refused k (peek us)) ts
unfolding NoEnd
local_refused k ts = stops [] ts k refl tt (λ us p q. ap (refused k) p)

-- the first token is taken
local_take : {A P : Type 0} {f : List Token → Read A} (g : List Token → Read A) (t : Token) (ts : List Token) → (t.kind ≡ the_end → ⊥)
    → ((us : List Token) → peek us ≡ peek ts → f (t ∷ us) ≡ g us) → Local P g ts → Local P f (t ∷ ts)
unfolding NoEnd
local_take g t ts m e (stops before after k s n h) =
    stops (t ∷ before) after k (ap (λ (us : List Token). t ∷ us) s) (m, n)
    (λ us p q. e (before ++ us) (next-same before us after p ∙ ap peek (sym s)) ∙ h us p q)
local_take g t ts m e (goes before after a s r n h) =
    goes (t ∷ before) after a (ap (λ (us : List Token). t ∷ us) s) (e ts refl ∙ r) (λ x. (m, n x))
    (λ x us p. e (before ++ us) (next-same before us after p ∙ ap peek (sym s)) ∙ h x us p)

local_rest : {A P : Type 0} (g : List Token → Read A) (ts : List Token) → ((peek ts).kind ≡ the_end → ⊥)
    → ((us : List Token) → length us < length ts → Local P g us) → Local P (λ us. g (rest us)) ts
local_rest g [] m h = absurd (m refl)
local_rest g (t ∷ ts) m h = local_take g t ts m (λ us p. refl) (h ts (omega arith))

-- one reading after the other
local_then : {A B P : Type 0} (read : List Token → Read A) (go : A → List Token → Read B) (ts : List Token) → Local Unit read ts
    → ((a : A) (us : List Token) → length us ≤ length ts → Local P (go a) us) → Local P (λ us. read_then (read us) go) ts
local_then read go ts (stops before after k s n h) c = stops before after k s n (λ us p q. ap (λ r. read_then r go) (h us p q))
local_then {P = P} read go ts (goes before after a s r n h) c =
    let l = length-append before after in let z = ap length s in second (c a after (omega arith))
  where
    both_read : (b us : List Token) → peek (b ++ us) ≡ peek after → read_then (read ((before ++ b) ++ us)) go ≡ go a (b ++ us)
    both_read b us e = rw append_assoc (ap (λ r. read_then r go) (h tt (b ++ us) e))

    second : Local P (go a) after → Local P (λ us. read_then (read us) go) ts
    second (stops b e k s' n' h') =
        stops (before ++ b) e k (rw append_assoc (s ∙ ap (λ us. before ++ us) s')) (no_end before b (n tt) n')
        (λ us p q. both_read b us (next-same b us e p ∙ ap peek (sym s')) ∙ h' us p q)
    second (goes b e a' s' r' n' h') =
        goes (before ++ b) e a' (rw append_assoc (s ∙ ap (λ us. before ++ us) s')) (ap (λ q. read_then q go) r ∙ r') (λ x. no_end before b (n tt) (n' x))
        (λ x us p. both_read b us (next-same b us e p ∙ ap peek (sym s')) ∙ h' x us p)

-- ---- a test of the next token
true-false : {b : Bool} → b ≡ true → b ≡ false → ⊥
true-false e f = let z : ◌≡◌ {A = ℕ} 0 1 = cc in omega arith

local_test : {A P : Type 0} (test : Token → Bool) (x y : List Token → Read A) (ts : List Token) → (test (peek ts) ≡ true → Local P x ts)
    → (test (peek ts) ≡ false → Local P y ts) → Local {A = A} P (λ us. elim (test (peek us)) as (λ _. Read A) [ true ↦ x us | false ↦ y us ]) ts
local_test {A} {P} test x y ts h k = go (test (peek ts)) refl
  where
    go : (v : Bool) → test (peek ts) ≡ v → Local {A = A} P (λ us. elim (test (peek us)) as (λ _. Read A) [ true ↦ x us | false ↦ y us ]) ts
    go true e = local_as x ts (λ us p. ap (λ (v : Bool). elim v as (λ _. Read A) [ true ↦ x us | false ↦ y us ]) (ap test p ∙ e)) (h e)
    go false e = local_as y ts (λ us p. ap (λ (v : Bool). elim v as (λ _. Read A) [ true ↦ x us | false ↦ y us ]) (ap test p ∙ e)) (k e)

-- the end of a text is refused
abbrev Guards : (Token → ℕ) → Type 0
Guards r = (t : Token) → t.kind ≡ the_end → eqb (r t) 0 ≡ false

local_accept : {A P : Type 0} (r : Token → ℕ) (go : Name → List Token → Read A) (ts : List Token) → Guards r
    → ((us : List Token) → length us < length ts → Local P (go (peek ts).bytes) us) → Local P (λ us. accept (r (peek us)) us go) ts
unfolding accept
local_accept r go ts g h =
    local_test (λ t. eqb (r t) 0) (λ us. go (peek us).bytes (rest us)) (λ us. refused (r (peek us)) (peek us)) ts
    (λ e. local_as (λ us. go (peek ts).bytes (rest us)) ts (λ us p. ap (λ (t : Token). go t.bytes (rest us)) p)
    (local_rest (go (peek ts).bytes) ts (λ z. true-false e (g (peek ts) z)) h))
    (λ e. local_as (λ us. refused (r (peek ts)) (peek us)) ts (λ us p. ap (λ (t : Token). refused (r t) (peek us)) p) (local_refused (r (peek ts)) ts))

-- no word and no mark is the end
spells-end : (w : String) → spells w (peek []) ≡ false → (t : Token) → t.kind ≡ the_end → spells w t ≡ false
unfolding spells
spells-end w e t h = ap (λ (k : ℕ). eqb k (number_in 0 (words ++ text_marks) w)) h ∙ e

word_guards : (w : String) → spells w (peek []) ≡ false → Guards (λ t. or23 (spells w t))
word_guards w e t h = rw (spells-end w e t h) refl

used_guards : (good : Token → Bool) → Guards (λ t. used_refusal (good t) t)
used_guards good t h = rw h refl

new_guards : (twice : Token → Bool) (sc : Scope) → Guards (λ t. new_refusal (twice t) sc t)
new_guards twice sc t h = rw h refl

-- a word or mark is taken where it stands next, and else nothing
module _ (w : String) (e : spells w (peek []) ≡ false) where
  local_word : {A P : Type 0} (x y : List Token → Read A) (ts : List Token) → ((us : List Token) → length us < length ts → Local P x us) → Local P y ts
      → Local {A = A} P (λ us. elim (spells w (peek us)) as (λ _. Read A) [ true ↦ x (rest us) | false ↦ y us ]) ts
  local_word x y ts h k =
      local_test (spells w) (λ us. x (rest us)) y ts (λ t. local_rest x ts (λ z. true-false t (spells-end w e (peek ts) z)) h) (λ f. k)

  local_accept-word : {A P : Type 0} (go : List Token → Read A) (ts : List Token) → ((us : List Token) → length us < length ts → Local P go us)
      → Local P (λ us. accept (or23 (spells w (peek us))) us (λ _ vs. go vs)) ts
  local_accept-word go ts h = local_accept (λ t. or23 (spells w t)) (λ _ vs. go vs) ts (word_guards w e) h

-- ---- atoms
local_used : {A P : Type 0} (o : Order) (sc : Scope) (go : Name → List Token → Read A) (ts : List Token)
    → ((x : Name) (us : List Token) → Local P (go x) us) → Local P (λ us. used o sc us go) ts
unfolding used
local_used o sc go ts h =
    local_accept (λ t. used_refusal (has_order sc o t.bytes) t) go ts (used_guards (λ t. has_order sc o t.bytes)) (λ us l. h (peek ts).bytes us)

branch_local : (y : Name) (ts : List Token) → Local Unit (branch_of y) ts
unfolding branch_of spells number_in words text_marks
branch_local y ts =
    local_word ".0" refl (λ us. got (branch one y) us) _ ts (λ us l. local_got (branch one y) us)
    (local_word ".1" refl (λ us. got (branch two y) us) (λ us. got (variable y) us) ts (λ us l. local_got (branch two y) us) (local_got (variable y) ts))

spot_local : (sc : Scope) (ts : List Token) → Local Unit (spot_of sc) ts
unfolding spot_of spells number_in words text_marks
spot_local sc ts =
    local_word "root" refl (λ us. got root us) (λ us. used first sc us branch_of) ts (λ us l. local_got root us) (local_used first sc branch_of ts branch_local)

relation_end : (t : Token) → t.kind ≡ the_end → relation_of t ≡ other
unfolding relation_of spells number_in words text_marks
relation_end t h = rw h refl

-- the rest of an atom, by its next token
related_next : Scope → Name → List Token → Read Sentence
related_next sc x ts = related (relation_of (peek ts)) sc x ts

related_local : (sc : Scope) (x : Name) (ts : List Token) → Local Unit (related_next sc x) ts
unfolding related_next related
related_local sc x ts =
    local_as (related (relation_of (peek ts)) sc x) ts (λ us p. ap (λ (t : Token). related (relation_of t) sc x us) p) (go (relation_of (peek ts)) refl)
  where
    go : (r : Relation) → relation_of (peek ts) ≡ r → Local Unit (related r sc x) ts
    go inclusion e =
        local_rest (λ us. used second sc us (λ y vs. got (atom (sub x y)) vs)) ts
        (λ z. let q = relation_end (peek ts) z in let y : ◌≡◌ {A = ℕ} 0 1 = cc in omega arith)
        (λ us l. local_used second sc _ us (λ y vs. local_got (atom (sub x y)) vs))
    go membership e =
        local_rest (λ us. used second sc us (λ y vs. got (atom (member x y)) vs)) ts
        (λ z. let q = relation_end (peek ts) z in let y : ◌≡◌ {A = ℕ} 0 1 = cc in omega arith)
        (λ us l. local_used second sc _ us (λ y vs. local_got (atom (member x y)) vs))
    go equality e =
        local_rest (λ us. read_then (spot_of sc us) (λ p vs. got (atom (equal x p)) vs)) ts
        (λ z. let q = relation_end (peek ts) z in let y : ◌≡◌ {A = ℕ} 0 1 = cc in omega arith)
        (λ us l. local_then (spot_of sc) _ us (spot_local sc us) (λ p vs k. local_got (atom (equal x p)) vs))
    go other e = local_refused 23 ts

-- every reader of sentences is so
abbrev LocalReader : Reader → Type 0
LocalReader read = (sc : Scope) (ts : List Token) → Local Unit (read sc) ts

refuses : {A : Type 0} (r : ℕ) (ts : List Token) (go : Name → List Token → Read A) → eqb r 0 ≡ false → accept r ts go ≡ refused r (peek ts)
unfolding accept
refuses r ts go e = rw (accept, e) refl

passes : {A : Type 0} (r : ℕ) (ts : List Token) (go : Name → List Token → Read A) → eqb r 0 ≡ true → accept r ts go ≡ go (peek ts).bytes (rest ts)
unfolding accept
passes r ts go e = rw (accept, e) refl

-- the token behind the name tells its fault, and stays the next when the name is taken
atom_local : LocalReader atom_of
unfolding atom_of NoEnd related_next
atom_local sc ts = go ts (eqb (refusal (peek ts) (peek (rest ts))) 0) refl
  where
    refusal : Token → Token → ℕ
    refusal t u = used_refusal (left_good (relation_of u) sc t.bytes) t

    go : (ts : List Token) (v : Bool) → eqb (refusal (peek ts) (peek (rest ts))) 0 ≡ v → Local Unit (atom_of sc) ts
    go ts false e =
        stops [] ts (refusal (peek ts) (peek (rest ts))) refl tt (λ us p q.
        let s : refusal (peek us) (peek (rest us)) ≡ refusal (peek ts) (peek (rest ts)) = rw (p, q) refl in
        refuses (refusal (peek us) (peek (rest us))) us (λ x vs. related (relation_of (peek (rest us))) sc x vs) (ap (λ (r : ℕ). eqb r 0) s ∙ e)
        ∙ ap (λ (r : ℕ). refused r (peek us)) s ∙ ap (refused (refusal (peek ts) (peek (rest ts)))) p)
    go [] true e = absurd (true-false e refl)
    go (t ∷ ts) true e =
        local_take (related_next sc t.bytes) t ts (λ z. true-false e (used_guards (λ u. left_good (relation_of (peek ts)) sc u.bytes) t z))
        (λ us p. passes (refusal t (peek us)) (t ∷ us) (λ x vs. related (relation_of (peek us)) sc x vs) (ap (λ (u : Token). eqb (refusal t u) 0) p ∙ e))
        (related_local sc t.bytes ts)

-- ---- operators
module _ (w : String) (e : spells w (peek []) ≡ false) (join : Sentence → Sentence → Sentence) (read : Reader) (b : Bounded read) (loc : LocalReader read)
    (sc : Scope) where
  -- d: more than the tokens left
  more_local : (d : ℕ) (f : Sentence) (ts : List Token) → length ts < d → Local Unit (λ us. chain (length us) w join read sc f us) ts
  more_local zero f ts h = absurd (omega arith)
  more_local (suc d) f ts h =
      local_as (λ us. elim (spells w (peek us)) as (λ _. Read Sentence) [ true ↦ further (rest us) | false ↦ got f us ]) ts
      (λ us p. more-is w join read b sc e f us)
      (local_word w e further (λ us. got f us) ts
      (λ us l. local_then (read sc) _ us (loc sc us) (λ g vs k. more_local d (join f g) vs (omega arith))) (local_got f ts))
    where
      further : List Token → Read Sentence
      further us = read_then (read sc us) (λ g vs. chain (length vs) w join read sc (join f g) vs)

  joined_local : (ts : List Token) → Local Unit (joined w join read sc) ts
  unfolding joined
  joined_local ts = local_then (read sc) _ ts (loc sc ts) (λ f us l. more_local (suc (length us)) f us (omega arith))

-- ---- operands and levels
arrow-end : (t : Token) → t.kind ≡ the_end → spells "=>" t ≡ false
unfolding spells number_in words text_marks
arrow-end t h = spells-end "=>" refl t h

start-end : (d : ℕ) (t : Token) → t.kind ≡ the_end → operand_start d t ≡ atomic
unfolding operand_start spells number_in words text_marks
start-end d t h = rw h refl

module _ (d : ℕ) (deeper : Part → Reader) (b : (p : Part) → Bounded (deeper p)) (loc : (p : Part) → LocalReader (deeper p)) where
  operand_of_local : (s : Start) (sc : Scope) (ts : List Token) → operand_start d (peek ts) ≡ s → Local Unit (operand_of deeper s sc) ts
  unfolding operand_of spells number_in words text_marks
  operand_of_local negation sc ts e =
      local_rest (λ us. read_then (deeper operand sc us) (λ f vs. got (denied f) vs)) ts
      (λ z. let q = start-end d (peek ts) z in let y : ◌≡◌ {A = ℕ} 0 1 = cc in omega arith)
      (λ us l. local_then (deeper operand sc) _ us (loc operand sc us) (λ f vs k. local_got (denied f) vs))
  operand_of_local bracket sc ts e =
      local_rest (λ us. read_then (deeper formula sc us) (λ f vs. accept (or23 (spells ")" (peek vs))) vs (λ _ ws. got f ws))) ts
      (λ z. let q = start-end d (peek ts) z in let y : ◌≡◌ {A = ℕ} 0 1 = cc in omega arith)
      (λ us l. local_then (deeper formula sc) _ us (loc formula sc us) (λ f vs k. local_accept-word ")" refl (λ ws. got f ws) vs (λ ws m. local_got f ws)))
  operand_of_local atomic sc ts e = atom_local sc ts
  operand_of_local too_deep sc ts e = local_refused 23 ts
  operand_of_local (quantifier make o) sc ts e =
      local_rest (λ us. accept (new_refusal false sc (peek us)) us bound) ts
      (λ z. let q = start-end d (peek ts) z in let y : ◌≡◌ {A = ℕ} 0 1 = cc in omega arith)
      (λ us l. local_accept (λ t. new_refusal false sc t) bound us (new_guards (λ t. false) sc) (λ vs k.
      local_accept-word ":" refl (body (peek us).bytes) vs (λ ws m.
      local_then (deeper formula (record { name = (peek us).bytes; order = o } ∷ sc)) _ ws (loc formula _ ws)
      (λ f xs n. local_got (make o (peek us).bytes f) xs))))
    where
      body : Name → List Token → Read Sentence
      body x vs = read_then (deeper formula (record { name = x; order = o } ∷ sc) vs) (λ f ws. got (make o x f) ws)

      bound : Name → List Token → Read Sentence
      bound x us = accept (or23 (spells ":" (peek us))) us (λ _ vs. body x vs)

  operand_at_local : LocalReader (operand_at d deeper)
  unfolding operand_at
  operand_at_local sc ts =
      local_as (operand_of deeper (operand_start d (peek ts)) sc) ts (λ us p. ap (λ (t : Token). operand_of deeper (operand_start d t) sc us) p)
      (operand_of_local (operand_start d (peek ts)) sc ts refl)

  implied_local : (sc : Scope) (f : Sentence) (ts : List Token) → Local Unit (implied_by d deeper sc f) ts
  unfolding implied_by
  implied_local sc f ts =
      local_test (spells "=>") level (λ us. got f us) ts (λ t. level_local (eqb d 0) t) (λ _. local_got f ts)
    where
      level : List Token → Read Sentence
      level us = elim (eqb d 0) as (λ _. Read Sentence) [
        | true ↦ refused 23 (peek us)
        | false ↦ read_then (deeper consequent sc (rest us)) (λ g vs. got (implies f g) vs)
      ]

      level_local : (v : Bool) → spells "=>" (peek ts) ≡ true → Local {A = Sentence} Unit (λ us. elim v as (λ _. Read Sentence) [
        | true ↦ refused 23 (peek us)
        | false ↦ read_then (deeper consequent sc (rest us)) (λ g vs. got (implies f g) vs)
      ]) ts
      level_local true t = local_refused 23 ts
      level_local false t =
          local_rest (λ us. read_then (deeper consequent sc us) (λ g vs. got (implies f g) vs)) ts (λ z. true-false t (arrow-end (peek ts) z))
          (λ us l. local_then (deeper consequent sc) _ us (loc consequent sc us) (λ g vs k. local_got (implies f g) vs))

  consequent_at_local : LocalReader (consequent_at d deeper)
  unfolding consequent_at spells number_in words text_marks
  consequent_at_local sc ts =
      local_then (joined "|" either (joined "&" both (operand_at d deeper)) sc) _ ts
      (joined_local "|" refl either (joined "&" both (operand_at d deeper)) (joined-within "&" both (operand_at d deeper) (operand_at-within d deeper b))
      (joined_local "&" refl both (operand_at d deeper) (operand_at-within d deeper b) operand_at_local) sc ts)
      (λ f us l. implied_local sc f us)

  part_at_local : (p : Part) → LocalReader (part_at d deeper p)
  unfolding part_at spells number_in words text_marks
  part_at_local operand sc ts = operand_at_local sc ts
  part_at_local consequent sc ts = consequent_at_local sc ts
  part_at_local formula sc ts = joined_local "<=>" refl alike (consequent_at d deeper) (consequent_at-within d deeper b) consequent_at_local sc ts

reader_local : (d : ℕ) (p : Part) → LocalReader (reader d p)
unfolding reader
reader_local zero p sc ts = part_at_local zero (λ q sd us. refused 23 (peek us)) (λ q sd us. nothing) (λ q sd us. local_refused 23 us) p sc ts
reader_local (suc d) p sc ts =
    part_at_local (suc d) (λ q sd us. reader d q sd us) (λ q sd us. reader-within d q sd us) (λ q sd us. reader_local d q sd us) p sc ts

-- ---- declarations
module _ (o : Order) where
  abbrev names_from : Scope → List Token → Read Scope
  names_from sc us = names (length us) o sc us

  names_local : (d : ℕ) (sc : Scope) (ts : List Token) → length ts < d → Local Unit (names_from sc) ts
  unfolding spells number_in words text_marks
  names_local zero sc ts h = absurd (omega arith)
  names_local (suc d) sc ts h =
      local_as (names_by names_from o sc) ts (λ us p. names_is o sc us)
      (local_accept (λ t. new_refusal (is_in_use sc t.bytes) sc t) go ts (new_guards (λ t. is_in_use sc t.bytes) sc) (λ us l.
      local_word "," refl (names_from (with (peek ts).bytes)) (last (peek ts).bytes) us (λ vs k. names_local d (with (peek ts).bytes) vs (omega arith))
      (local_accept-word ";" refl (λ vs. got (with (peek ts).bytes) vs) us (λ vs k. local_got (with (peek ts).bytes) vs))))
    where
      with : Name → Scope
      with x = record { name = x; order = o } ∷ sc

      last : Name → List Token → Read Scope
      last x us = accept (or23 (spells ";" (peek us))) us (λ _ vs. got (with x) vs)

      go : Name → List Token → Read Scope
      go x us = elim (spells "," (peek us)) as (λ _. Read Scope) [ true ↦ names_from (with x) (rest us) | false ↦ last x us ]

declarations_local : (d : ℕ) (sc : Scope) (ts : List Token) → length ts < d → Local Unit (λ us. declarations (length us) sc us) ts
unfolding spells number_in words text_marks
declarations_local zero sc ts h = absurd (omega arith)
declarations_local (suc d) sc ts h =
    let further : (o : Order) (us : List Token) → length us < length ts
    → Local Unit (λ vs. read_then (names_from o sc vs) (λ sd ws. declarations (length ws) sd ws)) us =
    (λ o us l. local_then (names_from o sc) _ us (names_local o (suc (length us)) sc us (omega arith)) (λ sd vs k. declarations_local d sd vs (omega arith))) in
    local_as (declarations_by (λ o sd us. names (length us) o sd us) (λ sd us. declarations (length us) sd us) sc) ts (λ us p. declarations_is sc us)
    (local_word "var1" refl _ _ ts (further first) (local_word "var2" refl _ (λ us. got sc us) ts (further second) (local_got sc ts)))

-- ---- the text
-- the end itself is taken last, and nothing is read behind it
last_local : {A : Type 0} (a : A) (ts : List Token) → Local ⊥ (λ us. accept (or23 (eqb (peek us).kind the_end)) us (λ _ vs. got a vs)) ts
unfolding accept
last_local a ts =
    local_test (λ t. eqb (or23 (eqb t.kind the_end)) 0) (λ us. got a (rest us)) (λ us. refused (or23 (eqb (peek us).kind the_end)) (peek us)) ts
    (λ e. taken ts)
    (λ e. local_as (λ us. refused (or23 (eqb (peek ts).kind the_end)) (peek us)) ts
    (λ us p. ap (λ (t : Token). refused (or23 (eqb t.kind the_end)) (peek us)) p) (local_refused _ ts))
  where
    taken : (ts : List Token) → Local ⊥ (λ us. got a (rest us)) ts
    taken [] = goes [] [] a refl refl (λ x. absurd x) (λ x. absurd x)
    taken (t ∷ ts) = goes (t ∷ []) ts a refl refl (λ x. absurd x) (λ x. absurd x)

text_local : (ts : List Token) → Local ⊥ text_from ts
unfolding text_from spells number_in words text_marks
text_local ts =
    local_accept-word "ws2s" refl _ ts (λ us l.
    local_accept-word ";" refl _ us (λ vs k.
    local_then (λ ws. declarations (length ws) [] ws) _ vs (declarations_local (suc (length vs)) [] vs (omega arith)) (λ sc ws _.
    local_then (reader 32 formula sc) _ ws (reader_local 32 formula sc ws) (λ f xs _.
    local_accept-word ";" refl _ xs (λ ys _. last_local (record { declared = sc; sentence = f }) ys)))))

-- where the end is among the tokens and not among the first, it is among the others
end-left : (before after : List Token) → NoEnd before → HasEnd (before ++ after) → HasEnd after
unfolding NoEnd HasEnd
end-left [] after n h = h
end-left (t ∷ before) after n (inl e) = absurd (n.0 e)
end-left (t ∷ before) after n (inr h) = end-left before after n.1 h

-- THE LAW, of tokens
pub fault-law : FaultLaw
unfolding HasEnd
fault-law ts k t w e = go (text_local ts)
  where
    found : (before after : List Token) (i : ℕ) → ts ≡ before ++ after → HasEnd after
        → ((us : List Token) → peek us ≡ peek after → peek (rest us) ≡ peek (rest after) → text_from (before ++ us) ≡ refused i (peek after)) → FaultAt ts k t
    found before [] i s x h = absurd x
    found before (u ∷ after) i s x h =
        let r = h (u ∷ after) refl refl in
        let q : text_from ts ≡ refused i u = rw s r in
        let a : i ≡ k = cc in
        let b : u ≡ t = cc in
        record { before = before; after = after; split = rw b at s; alike = λ us p. rw (a, b) at (h (u ∷ us) refl p) }

    go : Local ⊥ text_from ts → FaultAt ts k t
    go (stops before after i s n h) = found before after i s (end-left before after n (subst HasEnd s w)) h
    go (goes before after a s r n h) = let z : ◌≡◌ {A = ℕ} 0 1 = cc in absurd (omega arith)

tokens-ended : (d at : ℕ) (s : List ℕ) → HasEnd (tokens d at s)
unfolding tokens HasEnd
tokens-ended zero at s = inl refl
tokens-ended (suc d) at [] = inl refl
tokens-ended (suc d) at (b ∷ s) = go (is_blank b) (tokens-ended d (suc at) s) (λ i. tokens-ended d (at + i) (drop i (b ∷ s)))
  where
    go : (v : Bool) → HasEnd (tokens d (suc at) s) → ((i : ℕ) → HasEnd (tokens d (at + i) (drop i (b ∷ s)))) → HasEnd (elim v as (λ _. List Token) [
      | true ↦ tokens d (suc at) s
      | false ↦ token_at at b s ∷ tokens d (at + (piece b s).size) (drop (piece b s).size (b ∷ s))
    ])
    go true h k = h
    go false h k = inr (k (piece b s).size)

-- THE LAW, of texts
pub text-fault-law : TextFaultLaw
unfolding tokens_of text_of
text-fault-law s k t e =
    let f = fault-law (tokens_of s) k t (tokens-ended (suc (length s)) 0 s) e in
    record { before = f.before; after = f.after; split = f.split; alike = λ r us d p. ap text_from d ∙ f.alike us p }
