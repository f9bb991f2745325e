-- What decide claims, in numbers. Assumes nothing.
use Rattle.words.proofs.Vocabulary.{ℕ, refl, List, arith}
use Rattle.std.specs.Prelude.{Result, Ok, Err}
use Rattle.refusals.specs.declared.Refusal.{Refusal}
use Rattle.decide.specs.Decide.{ShowsShallow}
use Rattle.decide.specs.Numbers.{verdict_numbers, ShallowInNumbers}
use Rattle.decide.specs.declared.Verdict.{Verdict}
use Rattle.decide.specs.declared.Verdict.TheVariants.{Shown, None, Larger}

-- kind 0 is that of shown alone
pub shallow-numbers : (c : ℕ) (v : Result Verdict Refusal) (out : List ℕ) → ShowsShallow c v out → ShallowInNumbers c (verdict_numbers v) out
shallow-numbers c (Ok (Shown places states bytes)) out w e = w places states bytes refl
shallow-numbers c (Ok (None states)) out w e = absurd (omega arith)
shallow-numbers c (Ok (Larger states)) out w e = absurd (omega arith)
shallow-numbers c (Err r) out w e = absurd (omega arith)
