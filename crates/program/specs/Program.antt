-- The verdict program, from the bytes that it reads to the bytes that it prints: document 01, "The verdict program". Assumes nothing.
use Rattle.std.specs.Prelude.{ℕ, ◌≤◌, ◌≡◌, List, length, take, replicate}
use Rattle.tree_strip.specs.TreeStrip.{tree_bytes}
use Rattle.decide.specs.Decide.{verdict_of, out_of}
use Rattle.report.specs.Line.{line_of}
use Rattle.program.specs.declared.Output.{Output}

-- "of a longer input the first 300 bytes"
abbrev pub rule_in : List ℕ → List ℕ
rule_in input = take 300 input

-- an out buffer with room for 60 places at every n
abbrev pub out_buffer : List ℕ
out_buffer = replicate (tree_bytes 8 60) 0

-- "It reads one rule strip [..], takes c = 16, P = 60 and 32,768 bytes of workspace [..], and prints one line with no heading"
unfoldable pub verdict_line : List ℕ → List ℕ
verdict_line input =
    line_of (verdict_of (rule_in input) 16 60 32768 (length out_buffer)) (out_of (rule_in input) 16 60 32768 out_buffer)

-- what is handed back: the first `count` of 256 bytes are that line
pub record Printed (input : List ℕ) (o : Output) : Type 0 where
  pub line : take o.count o.bytes ≡ verdict_line input
  pub size : length o.bytes ≡ 256
  pub fits : o.count ≤ length o.bytes
