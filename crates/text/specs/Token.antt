-- The tokens of a text: document 01, "How trainers type a rule". Assumes nothing.
use Rattle.std.specs.Prelude.{ℕ, zero, suc, ◌+◌, Bool, true, false, ◌&&◌, ◌||◌, List, [], ◌∷◌, ◌++◌, eqb, length, take, drop}
use Prim.Native.Char.{code}
use Prim.Native.String as text
use Prim.Native.String.{String}
use lib.Text.{eqt}
use Rattle.bits.specs.Bits.{between}

-- a token: its kind, its bytes, and the byte places where it starts and where the next byte after it stands
pub record Token : Type 0 where
  pub kind : ℕ
  pub bytes : List ℕ
  pub start : ℕ
  pub stop : ℕ

-- the bytes of a quoted ASCII text
unfoldable pub spell : String → List ℕ
spell text.[] = []
spell (text.◌∷◌ c s) = code c ∷ spell s

-- a name "is none of `ws2s`, `var1`, `var2`, `ex1`, `ex2`, `all1`, `all2`, `sub`, `in`, `root`"
unfoldable pub words : List String
words = "ws2s" ∷ "var1" ∷ "var2" ∷ "ex1" ∷ "ex2" ∷ "all1" ∷ "all2" ∷ "sub" ∷ "in" ∷ "root" ∷ []

-- the marks of the grammar; "`.0` and `.1` are single tokens; the longest token is taken": `=>` stands before `=`, which it begins with
unfoldable pub text_marks : List String
text_marks = ";" ∷ "," ∷ ":" ∷ "(" ∷ ")" ∷ "~" ∷ "&" ∷ "|" ∷ "=>" ∷ "<=>" ∷ "=" ∷ ".0" ∷ ".1" ∷ []

-- kinds: 0 to 9 the words, 10 to 22 the marks, each in the order above. Of the words, those that definitions name
abbrev pub ex1_kind : ℕ
ex1_kind = 3

abbrev pub ex2_kind : ℕ
ex2_kind = 4

abbrev pub all1_kind : ℕ
all1_kind = 5

abbrev pub all2_kind : ℕ
all2_kind = 6

abbrev pub sub_kind : ℕ
sub_kind = 7

abbrev pub in_kind : ℕ
in_kind = 8

-- the marks, in that order
abbrev pub semicolon_kind : ℕ
semicolon_kind = 10

abbrev pub comma_kind : ℕ
comma_kind = 11

abbrev pub colon_kind : ℕ
colon_kind = 12

abbrev pub opening_kind : ℕ
opening_kind = 13

abbrev pub closing_kind : ℕ
closing_kind = 14

abbrev pub not_kind : ℕ
not_kind = 15

abbrev pub and_kind : ℕ
and_kind = 16

abbrev pub or_kind : ℕ
or_kind = 17

abbrev pub implies_kind : ℕ
implies_kind = 18

abbrev pub alike_kind : ℕ
alike_kind = 19

abbrev pub equals_kind : ℕ
equals_kind = 20

abbrev pub branch1_kind : ℕ
branch1_kind = 21

abbrev pub branch2_kind : ℕ
branch2_kind = 22

-- then a name, a byte that starts no token, and the end of the text
abbrev pub a_name : ℕ
a_name = 23

abbrev pub a_stray : ℕ
a_stray = 24

abbrev pub the_end : ℕ
the_end = 25

-- the number of a spelling in a list whose first has number i; 26, which no token has, if it is not there
unfoldable pub number_in : ℕ → List String → String → ℕ
number_in i [] w = 26
number_in i (v ∷ vs) w = elim (eqt v w) [ true ↦ i | false ↦ number_in (suc i) vs w ]

-- the token is this word or mark
unfoldable pub spells : String → Token → Bool
spells w t = eqb t.kind (number_in 0 (words ++ text_marks) w)

-- the token is a name, and no word
abbrev pub is_name : Token → Bool
is_name t = eqb t.kind a_name

-- two names, or a word and what was typed, are the same
unfoldable pub same_bytes : List ℕ → List ℕ → Bool
same_bytes [] [] = true
same_bytes [] (c ∷ s) = false
same_bytes (b ∷ w) [] = false
same_bytes (b ∷ w) (c ∷ s) = eqb b c && same_bytes w s

-- the first bytes of the second are the first
unfoldable pub begins_with : List ℕ → List ℕ → Bool
begins_with [] s = true
begins_with (b ∷ w) [] = false
begins_with (b ∷ w) (c ∷ s) = eqb b c && begins_with w s

-- "an ASCII letter"
abbrev pub is_letter : ℕ → Bool
is_letter b = between 65 90 b || between 97 122 b

-- "ASCII letters or digits"
abbrev pub is_alnum : ℕ → Bool
is_alnum b = is_letter b || between 48 57 b

-- "Spaces, tabs, CR and LF separate."
abbrev pub is_blank : ℕ → Bool
is_blank b = eqb b 32 || (eqb b 9 || (eqb b 13 || eqb b 10))

-- how many letters or digits s begins with
unfoldable pub alnum_run : List ℕ → ℕ
alnum_run [] = 0
alnum_run (b ∷ s) = elim (is_alnum b) [ true ↦ suc (alnum_run s) | false ↦ 0 ]

-- the kind of the letters and digits w: the place of w among the words numbered from i, else a name
unfoldable pub word_kind : ℕ → List String → List ℕ → ℕ
word_kind i [] w = a_name
word_kind i (v ∷ vs) w = elim (same_bytes (spell v) w) [ true ↦ i | false ↦ word_kind (suc i) vs w ]

-- the kind and size of a token
pub record Piece : Type 0 where
  pub kind : ℕ
  pub size : ℕ

-- the first of the marks numbered from i that s begins with; where there is none, the first byte of s is a stray
unfoldable pub mark_piece : ℕ → List String → List ℕ → Piece
mark_piece i [] s = record { kind = a_stray; size = 1 }
mark_piece i (m ∷ ms) s = elim (begins_with (spell m) s) [ true ↦ record { kind = i; size = length (spell m) } | false ↦ mark_piece (suc i) ms s ]

-- the token that the bytes b ∷ s begin with: "A name is an ASCII letter followed by any number of ASCII letters or digits"
unfoldable pub piece : ℕ → List ℕ → Piece
piece b s = elim (is_letter b) [
  | true ↦ record { kind = word_kind 0 words (b ∷ take (alnum_run s) s); size = suc (alnum_run s) }
  | false ↦ mark_piece 10 text_marks (b ∷ s)
]

-- the tokens of s, whose first byte has place at; the end of the text, of no bytes, is the last. d: more than the bytes of s, so that it never runs out
unfoldable pub tokens : ℕ → ℕ → List ℕ → List Token
tokens zero at s = record { kind = the_end; bytes = []; start = at; stop = at } ∷ []
tokens (suc d) at [] = record { kind = the_end; bytes = []; start = at; stop = at } ∷ []
tokens (suc d) at (b ∷ s) = elim (is_blank b) [
  | true ↦ tokens d (suc at) s
  | false ↦
      let p = piece b s in
      let w = take p.size (b ∷ s) in
      record { kind = p.kind; bytes = w; start = at; stop = at + p.size } ∷ tokens d (at + p.size) (drop p.size (b ∷ s))
]

-- the tokens of a whole text; its first byte has place 0
unfoldable pub tokens_of : List ℕ → List Token
tokens_of s = tokens (suc (length s)) 0 s
