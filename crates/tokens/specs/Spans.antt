-- Parts of a text. Assumes nothing.
use Rattle.std.specs.Prelude.{ℕ, ◌-◌, ◌≤◌, List, length, take, drop}

-- the bytes of s from place a up to place e
abbrev pub part : List ℕ → ℕ → ℕ → List ℕ
part s a e = take (e - a) (drop a s)

-- such places
pub record Span (s : List ℕ) (a e : ℕ) : Type 0 where
  pub ordered : a ≤ e
  pub inside : e ≤ length s
