-- Numbers and bytes as ASCII text: document 01, "The verdict program": "Numbers are decimal; HEX is the tree strip in capitals."
-- Assumes nothing.
use Rattle.std.specs.Prelude.{ℕ, zero, suc, ◌+◌, ◌/◌, ◌%◌, ◌≤◌, ◌≡◌, cond, List, [], ◌∷◌, ◌++◌, ltb, length}
use Rattle.std.proofs.lemmas.List.Edits.{sets}
use Rattle.report.specs.declared.text.Line.{Line}

-- a digit below 16: `0` to `9`, then `A` to `F`
abbrev pub glyph : ℕ → ℕ
glyph d = cond (ltb d 10) (48 + d) (55 + d)

-- the decimal digits of a number of at most d digits, most significant first, without leading zeros
unfoldable pub decimal : ℕ → ℕ → List ℕ
decimal zero n = []
decimal (suc d) n = cond (ltb n 10) (glyph n ∷ []) (decimal d (n / 10) ++ (glyph (n % 10) ∷ []))

-- two digits for each byte
unfoldable pub hex : List ℕ → List ℕ
hex [] = []
hex (x ∷ s) = glyph (x / 16) ∷ glyph (x % 16) ∷ hex s

-- a text written over a line from a place on: the place after it, in the line, and the line then
pub record Put (before : List ℕ) (at : ℕ) (text : List ℕ) (next : ℕ) (after : List ℕ) : Type 0 where
  pub place : next ≡ at + length text
  pub fits : next ≤ length after
  pub line : after ≡ sets before at text

-- a text written on a line whose bytes are lent: they are the same ones, and as many
pub record Wrote (before : Line) (text : List ℕ) (after : Line) : Type 0 where
  pub same : after.bytes.ghost_name ≡ before.bytes.ghost_name
  pub size : length after.bytes.now ≡ length before.bytes.now
  pub put : Put before.bytes.now before.at text after.at after.bytes.now
