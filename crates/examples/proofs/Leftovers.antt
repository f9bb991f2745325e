-- A5, "Leftover records should not spoil an answer", by computation on the definitions: rules of one variable in which Sing(X0), of three
-- states, goes over a ceiling of two, left over or reached. Assumes nothing.
use Prim.Native.Nat.{ℕ}
use mathlib.Core.Path.{◌≡◌, refl}
use mathlib.Core.List.{List, [], ◌∷◌, map}
use Rattle.decide.specs.declared.Verdict.{Verdict}
use Rattle.refusals.specs.declared.Refusal.{Refusal}
use Rattle.std.specs.Prelude.{Result}
use Rattle.examples.proofs.Decided.{answer, with, shown, over}

-- record 0 is Sing(X0), left over: 1 is X0 ⊆ X0; and the same with 2, exists X0: 1, whose variable has record 0's number.
-- Then Sing(X0) is reached: 0, by 1, not 0; 1, by the second field of 2, 0 or 1; and 1, by 2, not 1, where 0, left over, is Sing(X0) too
pub rules : List (List ℕ)
rules =
    (0x11 ∷ 0x02 ∷ 0x10 ∷ 0x00 ∷ 0x00 ∷ 0x00 ∷ 0x00 ∷ [])
    ∷ (0x11 ∷ 0x03 ∷ 0x10 ∷ 0x00 ∷ 0x00 ∷ 0x00 ∷ 0x08 ∷ 0x00 ∷ 0x04 ∷ [])
    ∷ (0x11 ∷ 0x02 ∷ 0x10 ∷ 0x00 ∷ 0x14 ∷ 0x00 ∷ 0x00 ∷ [])
    ∷ (0x11 ∷ 0x03 ∷ 0x00 ∷ 0x00 ∷ 0x04 ∷ 0x00 ∷ 0x06 ∷ 0x00 ∷ 0x04 ∷ [])
    ∷ (0x11 ∷ 0x03 ∷ 0x10 ∷ 0x00 ∷ 0x04 ∷ 0x00 ∷ 0x05 ∷ 0x02 ∷ 0x00 ∷ [])
    ∷ []

pub verdicts : List (Result Verdict Refusal)
verdicts = shown 0 1 2 ∷ shown 0 1 2 ∷ over 0 ∷ over 1 ∷ over 1 ∷ []

pub leftovers_told : map (λ s. (answer (with 2 255 s)).verdict) rules ≡ verdicts
unfolding answer rules verdicts
leftovers_told = refl
