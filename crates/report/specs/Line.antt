-- The line of a verdict: document 01, "The verdict program". Assumes nothing.
use Rattle.std.specs.Prelude.{ℕ, List, [], ◌∷◌, ◌++◌, take, Option, Result, Ok, Err}
use Rattle.std.specs.declared.option.Option.TheVariants as option
use Rattle.report.specs.Text.{decimal, hex}
use Rattle.decide.specs.declared.Verdict.{Verdict}
use Rattle.decide.specs.declared.Verdict.TheVariants.{Shown, None, Larger}
use Rattle.refusals.specs.declared.Refusal.{Refusal}
use Rattle.refusals.specs.declared.Refusal.TheVariants.{Placed, Plain, TooManyStates}
use Rattle.refusals.specs.Reason.{number_of}

-- `shown `
abbrev pub shown_word : List ℕ
shown_word = 115 ∷ 104 ∷ 111 ∷ 119 ∷ 110 ∷ 32 ∷ []

-- `none `
abbrev pub none_word : List ℕ
none_word = 110 ∷ 111 ∷ 110 ∷ 101 ∷ 32 ∷ []

-- `larger `
abbrev pub larger_word : List ℕ
larger_word = 108 ∷ 97 ∷ 114 ∷ 103 ∷ 101 ∷ 114 ∷ 32 ∷ []

-- `refused `
abbrev pub refused_word : List ℕ
refused_word = 114 ∷ 101 ∷ 102 ∷ 117 ∷ 115 ∷ 101 ∷ 100 ∷ 32 ∷ []

-- `refused 14 `
abbrev pub refused14_word : List ℕ
refused14_word = 114 ∷ 101 ∷ 102 ∷ 117 ∷ 115 ∷ 101 ∷ 100 ∷ 32 ∷ 49 ∷ 52 ∷ 32 ∷ []

abbrev pub space : List ℕ
space = 32 ∷ []

abbrev pub line_end : List ℕ
line_end = 10 ∷ []

-- a word with a number after it; a number below 2^64 has at most 20 decimal digits
abbrev pub counted : List ℕ → ℕ → List ℕ
counted word n = word ++ decimal 20 n

-- the line of a shown tree, by its strip
abbrev pub shown_line : ℕ → ℕ → List ℕ → List ℕ
shown_line positions states strip = counted shown_word positions ++ (counted space states ++ (space ++ (hex strip ++ line_end)))

-- "`refused number`", and the bit place behind it, if there is one
unfoldable pub numbered_line : ℕ → Option ℕ → List ℕ
numbered_line k option.None = counted refused_word k ++ line_end
numbered_line k (option.Some p) = counted refused_word k ++ (counted space p ++ line_end)

-- "`refused number`, or `refused 14 record`", and of a strip's refusal also the place: "the verdict program prints it last on its line"
unfoldable pub refused_line : Refusal → List ℕ
refused_line (Placed f) = numbered_line (number_of f.reason) (option.Some f.place)
refused_line (Plain k) = numbered_line (number_of k) option.None
refused_line (TooManyStates r) = counted refused14_word r ++ line_end

-- "`shown positions states HEX`, `none states`, `larger states`" or the line of a refusal, and the line's end. out: the buffer whose front
-- holds the tree strip
unfoldable pub line_of : Result Verdict Refusal → List ℕ → List ℕ
line_of (Ok (Shown positions states size)) out = shown_line positions states (take size out)
line_of (Ok (None states)) out = counted none_word states ++ line_end
line_of (Ok (Larger states)) out = counted larger_word states ++ line_end
line_of (Err r) out = refused_line r
