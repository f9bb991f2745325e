-- Lines of the verdict program, byte for byte, by computation on the definitions. Assumes nothing.
use Prim.Native.Nat.{ℕ}
use mathlib.Core.Path.{◌≡◌, refl}
use mathlib.Core.List.{List, [], ◌∷◌, map}
use Rattle.decide.specs.declared.Verdict.{Verdict}
use Rattle.std.specs.Prelude.{Result, Err}
use Rattle.refusals.specs.declared.Reason.TheVariants as reason
use Rattle.refusals.specs.declared.Refusal.{Refusal}
use Rattle.refusals.specs.declared.Refusal.TheVariants.{Placed, Plain}
use Rattle.report.specs.Text.{decimal, hex}
use Rattle.report.specs.Line.{numbered_line, refused_line, line_of}
use Rattle.program.specs.Program.{verdict_line}
use Rattle.examples.proofs.Decided.{answer, shown, none, larger, over}

-- document 01's strip of X0 = X1 1 with n = 2; example c; that strip cut short; no bytes; the one byte 11; that strip with a padding bit
-- set, with variable 2 on the left, on the right and on both sides, and with op 9; a "not" of itself
pub inputs : List (List ℕ)
inputs =
    (0x12 ∷ 0x01 ∷ 0x20 ∷ 0x00 ∷ 0x40 ∷ [])
    ∷ (0x11 ∷ 0x03 ∷ 0x10 ∷ 0x00 ∷ 0x20 ∷ 0x00 ∷ 0x05 ∷ 0x02 ∷ 0x00 ∷ [])
    ∷ (0x12 ∷ 0x01 ∷ 0x20 ∷ 0x00 ∷ [])
    ∷ []
    ∷ (0x11 ∷ [])
    ∷ (0x12 ∷ 0x01 ∷ 0x20 ∷ 0x00 ∷ 0x50 ∷ [])
    ∷ (0x12 ∷ 0x01 ∷ 0x20 ∷ 0x40 ∷ 0x40 ∷ [])
    ∷ (0x12 ∷ 0x01 ∷ 0x20 ∷ 0x00 ∷ 0x80 ∷ [])
    ∷ (0x12 ∷ 0x01 ∷ 0x20 ∷ 0x40 ∷ 0x80 ∷ [])
    ∷ (0x12 ∷ 0x01 ∷ 0x90 ∷ 0x00 ∷ 0x40 ∷ [])
    ∷ (0x12 ∷ 0x01 ∷ 0x50 ∷ 0x00 ∷ 0x00 ∷ [])
    ∷ []

-- `shown 2 4 12B800`, `none 1`, `refused 5 32`, `refused 1 0`, `refused 1 8`, `refused 6 35`,
-- `refused 8 20`, `refused 8 27`, `refused 8 20`, `refused 7 16`, `refused 9 20`
pub outputs : List (List ℕ)
outputs =
    (115 ∷ 104 ∷ 111 ∷ 119 ∷ 110 ∷ 32 ∷ 50 ∷ 32 ∷ 52 ∷ 32 ∷ 49 ∷ 50 ∷ 66 ∷ 56 ∷ 48 ∷ 48 ∷ 10 ∷ [])
    ∷ (110 ∷ 111 ∷ 110 ∷ 101 ∷ 32 ∷ 49 ∷ 10 ∷ [])
    ∷ (114 ∷ 101 ∷ 102 ∷ 117 ∷ 115 ∷ 101 ∷ 100 ∷ 32 ∷ 53 ∷ 32 ∷ 51 ∷ 50 ∷ 10 ∷ [])
    ∷ (114 ∷ 101 ∷ 102 ∷ 117 ∷ 115 ∷ 101 ∷ 100 ∷ 32 ∷ 49 ∷ 32 ∷ 48 ∷ 10 ∷ [])
    ∷ (114 ∷ 101 ∷ 102 ∷ 117 ∷ 115 ∷ 101 ∷ 100 ∷ 32 ∷ 49 ∷ 32 ∷ 56 ∷ 10 ∷ [])
    ∷ (114 ∷ 101 ∷ 102 ∷ 117 ∷ 115 ∷ 101 ∷ 100 ∷ 32 ∷ 54 ∷ 32 ∷ 51 ∷ 53 ∷ 10 ∷ [])
    ∷ (114 ∷ 101 ∷ 102 ∷ 117 ∷ 115 ∷ 101 ∷ 100 ∷ 32 ∷ 56 ∷ 32 ∷ 50 ∷ 48 ∷ 10 ∷ [])
    ∷ (114 ∷ 101 ∷ 102 ∷ 117 ∷ 115 ∷ 101 ∷ 100 ∷ 32 ∷ 56 ∷ 32 ∷ 50 ∷ 55 ∷ 10 ∷ [])
    ∷ (114 ∷ 101 ∷ 102 ∷ 117 ∷ 115 ∷ 101 ∷ 100 ∷ 32 ∷ 56 ∷ 32 ∷ 50 ∷ 48 ∷ 10 ∷ [])
    ∷ (114 ∷ 101 ∷ 102 ∷ 117 ∷ 115 ∷ 101 ∷ 100 ∷ 32 ∷ 55 ∷ 32 ∷ 49 ∷ 54 ∷ 10 ∷ [])
    ∷ (114 ∷ 101 ∷ 102 ∷ 117 ∷ 115 ∷ 101 ∷ 100 ∷ 32 ∷ 57 ∷ 32 ∷ 50 ∷ 48 ∷ 10 ∷ [])
    ∷ []

-- `answer` is named for all that it unfolds
pub outputs-right : map verdict_line inputs ≡ outputs
unfolding answer verdict_line inputs outputs line_of refused_line numbered_line decimal hex
outputs-right = refl

-- one verdict of each kind, over a buffer with a byte after the strip
pub kinds : List (Result Verdict Refusal)
kinds =
    shown 2 4 3 ∷ none 6 ∷ larger 3 ∷ Err (Placed (record { reason = reason.Unused; place = 2313 })) ∷ Err (Plain reason.Workspace) ∷ over 107 ∷ []

-- `shown 2 4 12B800`, `none 6`, `larger 3`, `refused 10 2313`, `refused 12`, `refused 14 107`
pub texts : List (List ℕ)
texts =
    (115 ∷ 104 ∷ 111 ∷ 119 ∷ 110 ∷ 32 ∷ 50 ∷ 32 ∷ 52 ∷ 32 ∷ 49 ∷ 50 ∷ 66 ∷ 56 ∷ 48 ∷ 48 ∷ 10 ∷ [])
    ∷ (110 ∷ 111 ∷ 110 ∷ 101 ∷ 32 ∷ 54 ∷ 10 ∷ [])
    ∷ (108 ∷ 97 ∷ 114 ∷ 103 ∷ 101 ∷ 114 ∷ 32 ∷ 51 ∷ 10 ∷ [])
    ∷ (114 ∷ 101 ∷ 102 ∷ 117 ∷ 115 ∷ 101 ∷ 100 ∷ 32 ∷ 49 ∷ 48 ∷ 32 ∷ 50 ∷ 51 ∷ 49 ∷ 51 ∷ 10 ∷ [])
    ∷ (114 ∷ 101 ∷ 102 ∷ 117 ∷ 115 ∷ 101 ∷ 100 ∷ 32 ∷ 49 ∷ 50 ∷ 10 ∷ [])
    ∷ (114 ∷ 101 ∷ 102 ∷ 117 ∷ 115 ∷ 101 ∷ 100 ∷ 32 ∷ 49 ∷ 52 ∷ 32 ∷ 49 ∷ 48 ∷ 55 ∷ 10 ∷ [])
    ∷ []

pub texts-right : map (λ v. line_of v (0x12 ∷ 0xB8 ∷ 0x00 ∷ 0xFF ∷ [])) kinds ≡ texts
unfolding kinds texts line_of refused_line numbered_line decimal hex
texts-right = refl
