-- Reading tokens: request A2's grammar and refusals 23 to 25, with document 01's binding strengths. Tokens are taken one after the other, and
-- each is judged before the next is taken: so the refusal is "the earliest in the text, and at one token the lowest". Faults.antt states what that
-- means of any text. Assumes nothing.
use Rattle.std.specs.Prelude.{ℕ, zero, suc, Bool, true, false, not, cond, ◌||◌, List, [], ◌∷◌, leb, eqb, length}
use Prim.Native.String.{String}
use Rattle.logic.specs.Two.{one, two}
use Rattle.text.specs.Token.{Token, the_end, spells, is_name, same_bytes, tokens_of}
use Rattle.text.specs.Syntax.{Name, Order, first, second, Spot, variable, branch, root, sub, member, equal, Sentence, atom, denied, both}
use Rattle.text.specs.Syntax.{either, implies, alike, for_some, for_every, Scope, Text}

-- what was read, with the tokens that are left; or a refusal, with the token at which it lies
pub data Read (A : Type 0) : Type 0 where
  got : A → List Token → Read A
  refused : ℕ → Token → Read A

-- one reading after another; the first refusal is the text's
abbrev pub read_then : {A B : Type 0} → Read A → (A → List Token → Read B) → Read B
read_then (got a ts) go = go a ts
read_then (refused r t) go = refused r t

-- the token that stands next. A text's last token is its end, which is taken last or not at all: what [] gives matters to no text
abbrev pub peek : List Token → Token
peek [] = record { kind = the_end; bytes = []; start = 0; stop = 0 }
peek (t ∷ ts) = t

-- the tokens behind the next one
abbrev pub rest : List Token → List Token
rest [] = []
rest (t ∷ ts) = ts

-- the next token is taken, unless the number r refuses it
unfoldable pub accept : {A : Type 0} → ℕ → List Token → (Name → List Token → Read A) → Read A
accept r ts go = elim (eqb r 0) [ true ↦ go (peek ts).bytes (rest ts) | false ↦ refused r (peek ts) ]

-- "23 when it leaves this grammar": the test says that it does not
abbrev pub or23 : Bool → ℕ
or23 b = cond b 0 23

-- the two orders are one
abbrev pub same_order : Order → Order → Bool
same_order first first = true
same_order first second = false
same_order second first = false
same_order second second = true

-- the name is in use and, as the latest of that name, of that order: "an inner one hides an outer"
unfoldable pub has_order : Scope → Order → Name → Bool
has_order [] o x = false
has_order (d ∷ sc) o x = cond (same_bytes x d.name) (same_order o d.order) (has_order sc o x)

-- the name is in use, of either order
unfoldable pub is_in_use : Scope → Name → Bool
is_in_use sc x = has_order sc first x || has_order sc second x

-- a name that is used: 24 when it "is undeclared" or "of the wrong order"; the test says that it is neither
abbrev pub used_refusal : Bool → Token → ℕ
used_refusal good t = cond (not (is_name t)) 23 (cond (not good) 24 0)

-- a name that is declared or bound, where the names sc are in use: 24 when it is "twice in the declarations"; "25 at a name that needs a ninth track"
abbrev pub new_refusal : Bool → Scope → Token → ℕ
new_refusal twice sc t = cond (not (is_name t)) 23 (cond twice 24 (cond (leb 8 (length sc)) 25 0))

-- a name of order o is taken
unfoldable pub used : {A : Type 0} → Order → Scope → List Token → (Name → List Token → Read A) → Read A
used o sc ts go = accept (used_refusal (has_order sc o (peek ts).bytes) (peek ts)) ts go

-- the word or mark between the two sides of an atom: `sub`, `in`, `=`, or none of these
pub data Relation : Type 0 where
  inclusion membership equality other : Relation

-- which of them a token is
unfoldable pub relation_of : Token → Relation
relation_of t = cond (spells "sub" t) inclusion (cond (spells "in" t) membership (cond (spells "=" t) equality other))

-- what it asks of the name before it: the fault lies at that name, though it shows only here. Where none of the three follows, the name need only
-- be in use, and what follows leaves the grammar
unfoldable pub left_good : Relation → Scope → Name → Bool
left_good inclusion sc x = has_order sc second x
left_good membership sc x = has_order sc first x
left_good equality sc x = has_order sc first x
left_good other sc x = is_in_use sc x

-- a place that begins with the name y: "`y`, `y.0`, `y.1`"; "`.0` is branch 1 and `.1` branch 2"
unfoldable pub branch_of : Name → List Token → Read Spot
branch_of y ts = elim (spells ".0" (peek ts)) [
  | true ↦ got (branch one y) (rest ts)
  | false ↦ elim (spells ".1" (peek ts)) [ true ↦ got (branch two y) (rest ts) | false ↦ got (variable y) ts ]
]

-- "the right side is a place that is either a variable, its branch, or the root"
unfoldable pub spot_of : Scope → List Token → Read Spot
spot_of sc ts = elim (spells "root" (peek ts)) [ true ↦ got root (rest ts) | false ↦ used first sc ts branch_of ]

-- the rest of an atom whose left name is x
unfoldable pub related : Relation → Scope → Name → List Token → Read Sentence
related inclusion sc x ts = used second sc (rest ts) (λ y us. got (atom (sub x y)) us)
related membership sc x ts = used second sc (rest ts) (λ y us. got (atom (member x y)) us)
related equality sc x ts = read_then (spot_of sc (rest ts)) (λ p us. got (atom (equal x p)) us)
related other sc x ts = refused 23 (peek ts)

-- what reads a sentence where these names are in use
abbrev pub Reader : Type 0
Reader = Scope → List Token → Read Sentence

-- "the atoms `X sub Y`, `x in X`, `x = place`": the name is judged by the token behind it too
unfoldable pub atom_of : Reader
atom_of sc ts =
    let r = relation_of (peek (rest ts)) in
    accept (used_refusal (left_good r sc (peek ts).bytes) (peek ts)) ts (λ x us. related r sc x us)

-- the operands that an operator joins, after the first, f: "`=>` groups to the right, the others to the left"; d: at least the tokens left
unfoldable pub chain : ℕ → String → (Sentence → Sentence → Sentence) → Reader → Scope → Sentence → List Token → Read Sentence
chain zero w join read sc f ts = got f ts
chain (suc d) w join read sc f ts = elim (spells w (peek ts)) [
  | true ↦ read_then (read sc (rest ts)) (λ g us. chain d w join read sc (join f g) us)
  | false ↦ got f ts
]

-- one or more operands, joined by the operator w
unfoldable pub joined : String → (Sentence → Sentence → Sentence) → Reader → Reader
joined w join read sc ts = read_then (read sc ts) (λ f us. chain (length us) w join read sc f us)

-- how an operand starts; "a level opening at its bracket, `~`, quantifier word", where no more may open, is too deep
pub data Start : Type 0 where
  negation bracket atomic too_deep : Start
  quantifier : (Order → Name → Sentence → Sentence) → Order → Start

-- what opens a level, where d may still open
unfoldable pub opening : ℕ → Start → Start
opening zero s = too_deep
opening (suc d) s = s

-- the start of an operand, where d levels may still open
unfoldable pub operand_start : ℕ → Token → Start
operand_start d t =
    cond (spells "~" t) (opening d negation)
    (cond (spells "(" t) (opening d bracket)
    (cond (spells "ex1" t) (opening d (quantifier for_some first))
    (cond (spells "ex2" t) (opening d (quantifier for_some second))
    (cond (spells "all1" t) (opening d (quantifier for_every first))
    (cond (spells "all2" t) (opening d (quantifier for_every second)) atomic)))))

-- the readers of one level that those above it call: an operand of `~`; the right side of `=>`; a whole formula, in brackets or behind a quantifier
pub data Part : Type 0 where
  operand consequent formula : Part

-- an operand, from the readers a level deeper: "a quantifier binds one name" and "reaches as far right as it can"
unfoldable pub operand_of : (Part → Reader) → Start → Reader
operand_of deeper negation sc ts = read_then (deeper operand sc (rest ts)) (λ f us. got (denied f) us)
operand_of deeper bracket sc ts = read_then (deeper formula sc (rest ts)) (λ f us. accept (or23 (spells ")" (peek us))) us (λ _ vs. got f vs))
operand_of deeper atomic sc ts = atom_of sc ts
operand_of deeper too_deep sc ts = refused 23 (peek ts)
operand_of deeper (quantifier make o) sc ts =
    accept (new_refusal false sc (peek (rest ts))) (rest ts) (λ x us.
    accept (or23 (spells ":" (peek us))) us (λ _ vs.
    read_then (deeper formula (record { name = x; order = o } ∷ sc) vs) (λ f ws. got (make o x f) ws)))

-- "`=>` groups to the right", and its right side is a level of its own; f: its left side
unfoldable pub implied_by : ℕ → (Part → Reader) → Scope → Sentence → List Token → Read Sentence
implied_by d deeper sc f ts = elim (spells "=>" (peek ts)) [
  | true ↦ elim (eqb d 0) [ true ↦ refused 23 (peek ts) | false ↦ read_then (deeper consequent sc (rest ts)) (λ g us. got (implies f g) us) ]
  | false ↦ got f ts
]

-- "Binding strength falls from `~` through `&`, `|`, `=>` to `<=>`": the readers of one level, where d more may open, from those a level deeper
unfoldable pub operand_at : ℕ → (Part → Reader) → Reader
operand_at d deeper sc ts = operand_of deeper (operand_start d (peek ts)) sc ts

-- `&` and `|`, then perhaps `=>`
unfoldable pub consequent_at : ℕ → (Part → Reader) → Reader
consequent_at d deeper sc ts = read_then (joined "|" either (joined "&" both (operand_at d deeper)) sc ts) (λ f us. implied_by d deeper sc f us)

-- a whole formula: operands of `<=>`
unfoldable pub part_at : ℕ → (Part → Reader) → Part → Reader
part_at d deeper operand sc ts = operand_at d deeper sc ts
part_at d deeper consequent sc ts = consequent_at d deeper sc ts
part_at d deeper formula sc ts = joined "<=>" alike (consequent_at d deeper) sc ts

-- the readers where d levels may still open; with none left, nothing calls the readers a level deeper
unfoldable pub reader : ℕ → Part → Reader
reader zero p sc ts = part_at zero (λ q sd us. refused 23 (peek us)) p sc ts
reader (suc d) p sc ts = part_at (suc d) (λ q sd us. reader d q sd us) p sc ts

-- "A declaration lists one or more names with commas and ends with a semicolon": its names of order o join those in use; d: at least the tokens left
unfoldable pub names : ℕ → Order → Scope → List Token → Read Scope
names zero o sc ts = refused 23 (peek ts)
names (suc d) o sc ts = accept (new_refusal (is_in_use sc (peek ts).bytes) sc (peek ts)) ts (λ x us.
    elim (spells "," (peek us)) [
      | true ↦ names d o (record { name = x; order = o } ∷ sc) (rest us)
      | false ↦ accept (or23 (spells ";" (peek us))) us (λ _ vs. got (record { name = x; order = o } ∷ sc) vs)
    ])

-- "any number of `var1` and `var2` declarations"; d: at least the tokens left
unfoldable pub declarations : ℕ → Scope → List Token → Read Scope
declarations zero sc ts = got sc ts
declarations (suc d) sc ts = elim (spells "var1" (peek ts)) [
  | true ↦ read_then (names d first sc (rest ts)) (declarations d)
  | false ↦ elim (spells "var2" (peek ts)) [ true ↦ read_then (names d second sc (rest ts)) (declarations d) | false ↦ got sc ts ]
]

-- "the heading `ws2s;`, any number of `var1` and `var2` declarations, then one formula .., ended by a semicolon"; levels "nest at most 32 deep"
unfoldable pub text_from : List Token → Read Text
text_from ts =
    accept (or23 (spells "ws2s" (peek ts))) ts (λ _ us.
    accept (or23 (spells ";" (peek us))) us (λ _ vs.
    read_then (declarations (length vs) [] vs) (λ sc ws.
    read_then (reader 32 formula sc ws) (λ f xs.
    accept (or23 (spells ";" (peek xs))) xs (λ _ ys.
    accept (or23 (eqb (peek ys).kind the_end)) ys (λ _ zs. got (record { declared = sc; sentence = f }) zs))))))

-- a text of bytes, read
unfoldable pub text_of : List ℕ → Read Text
text_of s = text_from (tokens_of s)
