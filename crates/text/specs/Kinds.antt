-- The kinds of tokens by name, and their numbers: Token.antt has them in words. Assumes nothing.
use Rattle.std.specs.Prelude.{ℕ}
use Rattle.text.specs.declared.kinds.Kind.{Kind}
use Rattle.text.specs.declared.kinds.Kind.TheVariants as kind

-- the words, then the marks, then a name, a byte that starts no token, and the end of the text
abbrev pub kind_number : Kind → ℕ
kind_number kind.Ws2s = 0
kind_number kind.Var1 = 1
kind_number kind.Var2 = 2
kind_number kind.Ex1 = 3
kind_number kind.Ex2 = 4
kind_number kind.All1 = 5
kind_number kind.All2 = 6
kind_number kind.Sub = 7
kind_number kind.In = 8
kind_number kind.Root = 9
kind_number kind.Semicolon = 10
kind_number kind.Comma = 11
kind_number kind.Colon = 12
kind_number kind.Opening = 13
kind_number kind.Closing = 14
kind_number kind.Not = 15
kind_number kind.And = 16
kind_number kind.Or = 17
kind_number kind.Implies = 18
kind_number kind.Alike = 19
kind_number kind.Equals = 20
kind_number kind.Branch1 = 21
kind_number kind.Branch2 = 22
kind_number kind.Name = 23
kind_number kind.Stray = 24
kind_number kind.End = 25
