-- Typed texts, by computation on the definitions: what the claim alone does not pin down of request A2 and of document 01's "How trainers type a
-- rule". Assumes nothing.
use Prim.Native.Nat.{ℕ, zero, suc}
use Prim.Native.String.{String}
use mathlib.Core.Path.{◌≡◌, refl}
use mathlib.Core.Bool.{Bool, true, false}
use mathlib.Core.List.{List, [], ◌∷◌, ◌++◌, map}
use Rattle.bits.specs.Bits.{digits, pack}
use Rattle.logic.specs.Rule.{Record}
use Rattle.rule_strip.specs.RuleWriting.{record_bits, strip_of_rule}
use Rattle.text.specs.Token.{Token, a_name, a_stray, the_end, spell, words, text_marks, number_in, spells, same_bytes, begins_with, alnum_run, word_kind}
use Rattle.text.specs.Token.{mark_piece, piece, tokens, tokens_of}
use Rattle.text.specs.Grammar.{got, accept, has_order, is_in_use, used, relation_of, left_good, branch_of, spot_of, related, atom_of, chain, joined, opening}
use Rattle.text.specs.Grammar.{operand_start, operand_of, implied_by, operand_at, consequent_at, part_at, reader, names, declarations, text_from, text_of}
use Rattle.text.specs.Grammar.{refused as leaves}
use Rattle.text.specs.Records.{track_of, tracks, variables_in, count, free_count, count_in, write_atom, write, write_free, records_in}
use Rattle.text.specs.Import.{Import, written, refused, rule_of, import}

-- each text is answered as the row says
abbrev Each : {A : Type 0} → (List ℕ → A) → List (List ℕ × A) → Type 0
Each f rows = map (λ row. f row.0) rows ≡ map (λ row. row.1) rows

-- s, d times
repeat : ℕ → String → List ℕ
repeat zero s = []
repeat (suc d) s = spell s ++ repeat d s

-- ---- strengths and grouping
-- each text over A, B and C, and the same with brackets
pairs : List (String × String)
pairs =
    ("A sub B => B sub C => C sub A;", "A sub B => (B sub C => C sub A);")
    ∷ ("A sub B <=> B sub C <=> C sub A;", "(A sub B <=> B sub C) <=> C sub A;")
    ∷ ("A sub B & B sub C & C sub A;", "(A sub B & B sub C) & C sub A;")
    ∷ ("A sub B | B sub C | C sub A;", "(A sub B | B sub C) | C sub A;")
    ∷ ("A sub B | B sub C & C sub A;", "A sub B | (B sub C & C sub A);")
    ∷ ("A sub B & B sub C | C sub A;", "(A sub B & B sub C) | C sub A;")
    ∷ ("A sub B => B sub C | C sub A <=> A sub C;", "(A sub B => (B sub C | C sub A)) <=> A sub C;")
    ∷ ("A sub B <=> B sub C => C sub A;", "A sub B <=> (B sub C => C sub A);")
    ∷ ("~A sub B & B sub C;", "(~A sub B) & B sub C;")
    ∷ ("A sub B & ex1 x: x in B | x in C => B sub A;", "A sub B & (ex1 x: ((x in B | x in C) => B sub A));")
    ∷ ("~ex2 X: X sub A <=> B sub X;", "~(ex2 X: (X sub A <=> B sub X));")
    ∷ []

-- both texts of a pair are written alike
abbrev over : String → Import
over s = import (spell "ws2s; var2 A, B, C; " ++ spell s) 290

is_written : Import → Bool
is_written (written n m strip) = true
is_written (refused k) = false

-- "Spaces, tabs, CR and LF separate", also before `.0`; and where tokens are told apart without them, none is needed
spaced : List (List ℕ)
spaced =
    spell "ws2s;var1 x,y;~x=y.0&y=x;"
    ∷ spell "ws2s ; var1 x , y ; ~ x = y .0 & y = x ;"
    ∷ spell "\tws2s;\r\nvar1 x,\ty;\n~x = y\r\n.0 & y = x;\n"
    ∷ []

-- ---- tokens
kinds : List ℕ → List ℕ
kinds s = map (λ (t : Token). t.kind) (tokens_of s)

-- the kind of a word or mark
is : String → ℕ
is w = number_in 0 (words ++ text_marks) w

token_kinds : List (List ℕ × List ℕ)
token_kinds =
    (spell "ex1x ex1 ex", a_name ∷ is "ex1" ∷ a_name ∷ the_end ∷ [])
    ∷ (spell "x=>y", a_name ∷ is "=>" ∷ a_name ∷ the_end ∷ [])
    ∷ (spell "x<=>y", a_name ∷ is "<=>" ∷ a_name ∷ the_end ∷ [])
    ∷ (spell "<==>", a_stray ∷ is "=" ∷ is "=>" ∷ the_end ∷ [])
    ∷ (spell "y.01", a_name ∷ is ".0" ∷ a_stray ∷ the_end ∷ [])
    ∷ (spell "y.1.2", a_name ∷ is ".1" ∷ a_stray ∷ a_stray ∷ the_end ∷ [])
    ∷ (spell "9a9 A9", a_stray ∷ a_name ∷ a_name ∷ the_end ∷ [])
    ∷ (64 ∷ 91 ∷ 96 ∷ 123 ∷ 128 ∷ 255 ∷ [], a_stray ∷ a_stray ∷ a_stray ∷ a_stray ∷ a_stray ∷ a_stray ∷ the_end ∷ [])
    ∷ []

-- ---- refusals: the number, and the places where its token starts and ends
data Seen : Type 0 where
  fine : Seen
  fault : (k start stop : ℕ) → Seen

seen : List ℕ → Seen
seen s = elim (text_of s) [ got t ts ↦ fine | leaves k t ↦ fault k t.start t.stop ]

-- "the heading `ws2s;`"
headings : List (List ℕ × Seen)
headings =
    (spell "", fault 23 0 0)
    ∷ (spell "var1 x; x = root;", fault 23 0 4)
    ∷ (spell "ws2s var1 x; x = root;", fault 23 5 9)
    ∷ (spell "WS2S; var1 x; x = root;", fault 23 0 4)
    ∷ []

-- "A declaration lists one or more names with commas and ends with a semicolon"; 23 before 24 before 25 at one name; a ninth name is 25 where it
-- is declared or bound
declaring : List (List ℕ × Seen)
declaring =
    (spell "ws2s; var1 ; x = root;", fault 23 11 12)
    ∷ (spell "ws2s; var1 root; x = root;", fault 23 11 15)
    ∷ (spell "ws2s; var1 x y; x = root;", fault 23 13 14)
    ∷ (spell "ws2s; var1 x; var2 x; x = root;", fault 24 19 20)
    ∷ (spell "ws2s; var1 a,b,c,d,e,f,g,h,a; a = b;", fault 24 27 28)
    ∷ (spell "ws2s; var1 a,b,c,d,e,f,g,h,i; a = b;", fault 25 27 28)
    ∷ (spell "ws2s; var1 a,b,c,d,e,f,g,h; ex1 a: a = b;", fault 25 32 33)
    ∷ (spell "ws2s; var1 a,b,c,d,e,f,g,h; ex1 root: a = b;", fault 23 32 36)
    ∷ []

-- 24 lies at the name that is undeclared or of the wrong order, also when the word that shows it follows; a declared name followed by none of
-- `sub`, `in`, `=` is 23 at what follows it
naming : List (List ℕ × Seen)
naming =
    (spell "ws2s; var1 x; x sub ;", fault 24 14 15)
    ∷ (spell "ws2s; var2 X; X in ;", fault 24 14 15)
    ∷ (spell "ws2s; var2 X; X = ;", fault 24 14 15)
    ∷ (spell "ws2s; var1 x; var2 X; X sub x;", fault 24 28 29)
    ∷ (spell "ws2s; var1 x; x in x;", fault 24 19 20)
    ∷ (spell "ws2s; var1 x; var2 X; x = X.0;", fault 24 26 27)
    ∷ (spell "ws2s; var1 x; x y;", fault 23 16 17)
    ∷ (spell "ws2s; var1 x; y y;", fault 24 14 15)
    ∷ (spell "ws2s; ex1 x: x = root & y = x;", fault 24 24 25)
    ∷ (spell "ws2s; (ex1 x: x = root) & x = root;", fault 24 26 27)
    ∷ (spell "ws2s; ex2 x: ex1 x: x in x;", fault 24 25 26)
    ∷ []

-- a name where an operator must stand is 23, declared or not
operatorless : List (List ℕ × Seen)
operatorless =
    (spell "ws2s; var1 x; x = x x;", fault 23 20 21)
    ∷ (spell "ws2s; var1 x; x = x y;", fault 23 20 21)
    ∷ []

-- "the longest token is taken"
longest : List (List ℕ × Seen)
longest =
    (spell "ws2s; var1 x; ex1x: x = root;", fault 24 14 18)
    ∷ (spell "ws2s; var1 x; x=>x;", fault 23 15 17)
    ∷ (spell "ws2s; var1 x; x = x.01;", fault 23 21 22)
    ∷ []

-- 23 at a byte that starts no token
strays : List (List ℕ × Seen)
strays =
    (spell "ws2s; var1 x; x = x.2;", fault 23 19 20)
    ∷ (spell "ws2s; var1 x; x <= x;", fault 23 16 17)
    ∷ (spell "ws2s; var1 x_y; x = x;", fault 23 12 13)
    ∷ (spell "ws2s;\0var1 x; x = x;", fault 23 5 6)
    ∷ (spell "ws2s;\u{b}var1 x; x = x;", fault 23 5 6)
    ∷ (spell "ws2s;\u{c}var1 x; x = x;", fault 23 5 6)
    ∷ []

-- the end of the text is its last token, and a token after the final semicolon is 23
endings : List (List ℕ × Seen)
endings =
    (spell "ws2s; var1 x;", fault 23 13 13)
    ∷ (spell "ws2s; var1 x; x = x", fault 23 19 19)
    ∷ (spell "ws2s; var1 x; (x = x;", fault 23 20 21)
    ∷ (spell "ws2s; var1 x; x = x;;", fault 23 20 21)
    ∷ (spell "ws2s; var1 x; x = x; x", fault 23 21 22)
    ∷ []

-- "23 when it leaves this grammar"
leaving : List (List ℕ × Seen)
leaving =
    (spell "ws2s; var1 x; x.0 = x;", fault 23 15 17)
    ∷ (spell "ws2s; var1 x; x = root.0;", fault 23 22 24)
    ∷ (spell "ws2s; var1 x; root = x;", fault 23 14 18)
    ∷ (spell "ws2s; ex1 x, y: x = y;", fault 23 11 12)
    ∷ (spell "ws2s; var1 x; )", fault 23 14 15)
    ∷ []

-- "brackets, `~`, quantifiers and right sides of `=>` together nest at most 32 deep": the 33rd level is 23 at its opening token
abbrev over_a : List ℕ → List ℕ
over_a s = spell "ws2s;var2 A;" ++ s

levels : List (List ℕ × Seen)
levels =
    (over_a (repeat 32 "(" ++ (spell "A sub A" ++ (repeat 32 ")" ++ spell ";"))), fine)
    ∷ (over_a (repeat 33 "(" ++ (spell "A sub A" ++ (repeat 33 ")" ++ spell ";"))), fault 23 44 45)
    ∷ (over_a (repeat 32 "~" ++ spell "A sub A;"), fine)
    ∷ (over_a (repeat 33 "~" ++ spell "A sub A;"), fault 23 44 45)
    ∷ (over_a (repeat 31 "~" ++ spell "all1 x: x in A;"), fine)
    ∷ (over_a (repeat 32 "~" ++ spell "all1 x: x in A;"), fault 23 44 48)
    ∷ (over_a (repeat 32 "A sub A=>" ++ spell "A sub A;"), fine)
    ∷ (over_a (repeat 33 "A sub A=>" ++ spell "A sub A;"), fault 23 307 309)
    ∷ (over_a (repeat 8 "(~(A sub A=>" ++ (spell "A sub A" ++ (repeat 8 "))" ++ spell ";"))), fine)
    ∷ (over_a (repeat 8 "(~(A sub A=>" ++ (spell "~A sub A" ++ (repeat 8 "))" ++ spell ";"))), fault 23 108 109)
    ∷ (over_a (repeat 33 "(A sub A=>A sub A)&" ++ spell "A sub A;"), fine)
    ∷ []

-- ---- n, m and the refusals of the whole text
data Answer : Type 0 where
  ok : (n m : ℕ) → Answer
  no_ : ℕ → Answer

answer : Import → Answer
answer (written n m s) = ok n m
answer (refused k) = no_ k

-- "n is one more than the highest track taken", and the record counts; "last, 26 when the record counts add to more than 128"
counted : List (List ℕ × Answer)
counted =
    (spell "ws2s; var1 x; x = root;", ok 1 3)
    ∷ (spell "ws2s; var2 X; all1 x: x in X => ex1 y: y = x.1 & y in X;", ok 3 14)
    ∷ (spell "ws2s; var1 x, y; var2 Z; x = x;", ok 3 5)
    ∷ (spell "ws2s; ex1 x: ex1 x: x = root;", ok 2 7)
    ∷ (spell "ws2s;var1 x,y;~x=y.0&y=x;", ok 2 8)
    ∷ (over_a (repeat 63 "A sub A&" ++ spell "~A sub A;"), ok 1 128)
    ∷ (over_a (repeat 64 "A sub A&" ++ spell "A sub A;"), no_ 26)
    ∷ (over_a (repeat 64 "A sub A&" ++ spell "A sub B;"), no_ 24)
    ∷ (over_a (repeat 64 "A sub A&" ++ spell "A sub A"), no_ 23)
    ∷ []

-- "27, tested first, when the out buffer is under 290 bytes"
roomy : List (List ℕ × Answer)
roomy = (spell "ws2s; var1 x; x = root;", no_ 27) ∷ (spell "", no_ 27) ∷ (spell "ws2s; y = y;", no_ 27) ∷ []

-- ---- the order of the records
abbrev r : ℕ → ℕ → ℕ → Record
r op a b = record { op = op; first = a; second = b }

-- the records of a formula over x, y, A and B, whose tracks are 0 to 3
formula_records : List ℕ → List Record
formula_records s = elim (text_of (spell "ws2s; var1 x, y; var2 A, B; " ++ s)) [ got t ts ↦ write t.declared t.sentence [] | leaves k t ↦ [] ]

atoms : List (List ℕ × List Record)
atoms =
    (spell "A sub B;", r 0 2 3 ∷ [])
    ∷ (spell "x in A;", r 0 0 2 ∷ [])
    ∷ (spell "x = y;", r 0 0 1 ∷ [])
    ∷ (spell "x = y.0;", r 2 0 1 ∷ [])
    ∷ (spell "x = y.1;", r 3 0 1 ∷ [])
    ∷ (spell "y = root;", r 4 1 0 ∷ [])
    ∷ []

constructs : List (List ℕ × List Record)
constructs =
    (spell "~A sub B;", r 0 2 3 ∷ r 5 0 0 ∷ [])
    ∷ (spell "A sub B & B sub A;", r 0 2 3 ∷ r 0 3 2 ∷ r 7 0 1 ∷ [])
    ∷ (spell "A sub B | B sub A;", r 0 2 3 ∷ r 0 3 2 ∷ r 6 0 1 ∷ [])
    ∷ (spell "A sub B => B sub A;", r 0 2 3 ∷ r 5 0 0 ∷ r 0 3 2 ∷ r 6 1 2 ∷ [])
    ∷ (spell "A sub B <=> B sub A;", r 0 2 3 ∷ r 0 3 2 ∷ r 5 0 0 ∷ r 5 1 0 ∷ r 6 2 1 ∷ r 6 3 0 ∷ r 7 4 5 ∷ [])
    ∷ (spell "ex1 z: z in A;", r 0 4 2 ∷ r 1 4 0 ∷ r 7 1 0 ∷ r 8 4 2 ∷ [])
    ∷ (spell "ex2 Z: Z sub A;", r 0 4 2 ∷ r 8 4 0 ∷ [])
    ∷ (spell "all1 z: z in A;", r 0 4 2 ∷ r 5 0 0 ∷ r 1 4 0 ∷ r 7 2 1 ∷ r 8 4 3 ∷ r 5 4 0 ∷ [])
    ∷ (spell "all2 Z: Z sub A;", r 0 4 2 ∷ r 5 0 0 ∷ r 8 4 1 ∷ r 5 2 0 ∷ [])
    ∷ (spell "(A sub B => B sub A) & ~x in A;", r 0 2 3 ∷ r 5 0 0 ∷ r 0 3 2 ∷ r 6 1 2 ∷ r 0 0 2 ∷ r 5 4 0 ∷ r 7 3 5 ∷ [])
    ∷ []

-- the records of a whole text
records : List ℕ → List Record
records s = elim (text_of s) [ got t ts ↦ records_in t | leaves k t ↦ [] ]

-- "a quantifier binds one name, and an inner one hides an outer", which keeps its track; declared variables keep theirs and, of first order, have
-- their two records, used or not
tracked : List (List ℕ × List Record)
tracked =
    (spell "ws2s; var1 x; var2 A; ex1 x: x in A;", r 0 2 1 ∷ r 1 2 0 ∷ r 7 1 0 ∷ r 8 2 2 ∷ r 1 0 0 ∷ r 7 4 3 ∷ [])
    ∷ (spell "ws2s; var2 A; (ex2 A: A sub A) & A sub A;", r 0 1 1 ∷ r 8 1 0 ∷ r 0 0 0 ∷ r 7 1 2 ∷ [])
    ∷ (spell "ws2s; ex2 A: ex2 A: ex2 B: A sub B;", r 0 1 2 ∷ r 8 2 0 ∷ r 8 1 1 ∷ r 8 0 2 ∷ [])
    ∷ (spell "ws2s; var1 x; var2 A, B; var1 y; A sub B;", r 0 1 2 ∷ r 1 0 0 ∷ r 7 1 0 ∷ r 1 3 0 ∷ r 7 3 2 ∷ [])
    ∷ []

-- "`.0` is branch 1 and `.1` branch 2": two atoms, `&`, and two records each for x and y, as a strip
branches : List ℕ
branches =
    0x12 ∷ 0x07 ∷ 0x20 ∷ 0x00 ∷ 0x4C ∷ 0x08 ∷ 0x07 ∷ 0x00 ∷ 0x04 ∷ 0x40 ∷ 0x00 ∷ 0x70 ∷ 0x60 ∷ 0x84 ∷ 0x08 ∷ 0x07 ∷ 0x0A ∷ 0x10 ∷ []

record Shown : Type 0 where
  grouping : map (λ (p : String × String). over p.0) pairs ≡ map (λ (p : String × String). over p.1) pairs
  grouping-written : map (λ (p : String × String). is_written (over p.0)) pairs ≡ map (λ (p : String × String). true) pairs
  spacing : map (λ s. import s 290) spaced ≡ map (λ s. import (spell "ws2s; var1 x, y; (~x = y.0) & y = x;") 290) spaced
  token-kinds : Each kinds token_kinds
  heading_faults : Each seen headings
  declaring_faults : Each seen declaring
  naming_faults : Each seen naming
  operator_faults : Each seen operatorless
  longest_faults : Each seen longest
  stray_faults : Each seen strays
  ending_faults : Each seen endings
  leaving_faults : Each seen leaving
  level_faults : Each seen levels
  counts : Each (λ s. answer (import s 290)) counted
  room : Each (λ s. answer (import s 289)) roomy
  atom-records : Each formula_records atoms
  construct_records : Each formula_records constructs
  track-records : Each records tracked
  branch-strip : import (spell "ws2s; var1 x, y; x = y.0 & y = x.1;") 290 ≡ written 2 7 branches

-- all of it
shown : Shown
unfolding repeat pairs is_written spaced kinds is token_kinds seen headings declaring naming operatorless longest strays endings leaving levels
    answer counted roomy formula_records records atoms constructs tracked branches digits pack record_bits strip_of_rule
    spell words text_marks number_in spells same_bytes begins_with alnum_run word_kind mark_piece piece tokens tokens_of
    accept has_order is_in_use used relation_of left_good branch_of spot_of related atom_of chain joined opening operand_start operand_of implied_by operand_at consequent_at
    part_at reader names declarations text_from text_of track_of tracks variables_in count free_count count_in write_atom write write_free records_in rule_of import
shown = record {
  grouping = refl;
  grouping-written = refl;
  spacing = refl;
  token-kinds = refl;
  heading_faults = refl;
  declaring_faults = refl;
  naming_faults = refl;
  operator_faults = refl;
  longest_faults = refl;
  stray_faults = refl;
  ending_faults = refl;
  leaving_faults = refl;
  level_faults = refl;
  counts = refl;
  room = refl;
  atom-records = refl;
  construct_records = refl;
  track-records = refl;
  branch-strip = refl;
}
