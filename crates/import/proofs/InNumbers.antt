-- What import claims, in numbers. Assumes nothing.
use Prim.Native.Nat.{ℕ, zero, suc, ◌+◌, ◌-◌, ◌≤◌}
use mathlib.Core.Path.{◌≡◌, refl, subst}
use mathlib.Core.List.{List}
use native.Mathlib.Omega.{arith}
use Rattle.std.specs.Prelude.{Result, Ok, Err}
use Rattle.refusals.specs.Reason.{number_of}
use Rattle.refusals.specs.declared.Reason.{Reason}
use Rattle.text.specs.Token.{Token}
use Rattle.text.specs.Grammar.{text_of}
use Rattle.text.specs.Grammar.{refused as leaves}
use Rattle.text.specs.Import.{import}
use Rattle.text.specs.Import.{refused as turned_down}
use Rattle.text.proofs.Named.{refusal-named, import-named}
use Rattle.phrases.proofs.Taking.{number-pos}
use Rattle.rule_strip.specs.declared.write.Written.{Written}
use Rattle.import.specs.Answers.{reason_of, imported_of, fault_of, Claimed}
use Rattle.import.specs.Numbers.{written_numbers, fault_numbers, ImportedInNumbers}

-- the reason that is told has the number by which the definitions refuse
pub number-kept : (k : ℕ) → 23 ≤ k → k ≤ 27 → number_of (reason_of k) ≡ k
number-kept k l h = subst (λ (n : ℕ). number_of (reason_of n) ≡ n) (omega arith) (from23 (k - 23) (omega arith))
  where
    from23 : (d : ℕ) → d ≤ 4 → number_of (reason_of (23 + d)) ≡ 23 + d
    from23 zero l = refl
    from23 (suc zero) l = refl
    from23 (suc (suc zero)) l = refl
    from23 (suc (suc (suc zero))) l = refl
    from23 (suc (suc (suc (suc zero)))) l = refl
    from23 (suc (suc (suc (suc (suc d))))) l = absurd (omega arith)

-- so C is told the number by which an import, or a text, is refused
pub import-number : (s : List ℕ) (n k : ℕ) → import s n ≡ turned_down k → (written_numbers (imported_of (import s n))).refusal ≡ k
import-number s n k e = let m = import-named s n k e in rw e (number-kept k m.0 m.1)

pub fault-number : (s : List ℕ) (k : ℕ) (t : Token) → text_of s ≡ leaves k t → (fault_numbers (fault_of (text_of s))).refusal ≡ k
fault-number s k t e = let m = refusal-named s k t e in rw e (number-kept k m.0 (omega arith))

-- what is not refused is claimed; no refusal has the number 0
pub written-claimed : (s out : List ℕ) (r : Result Written Reason) → Claimed s r out → ImportedInNumbers s (written_numbers r) out
written-claimed s out (Ok w) claim z = claim w refl
written-claimed s out (Err k) claim z = absurd (number-pos k z)
