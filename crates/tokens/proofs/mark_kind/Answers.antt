-- `mark_kind` meets its contract, by the byte at the place and those that follow. Assumes nothing.
use mathlib.Core.Path.{refl, ◌∙◌}
use mathlib.Core.Bool.{true, false}
use native.Mathlib.Omega.{arith}
use Rattle.tokens.proofs.Marks.{kind-arrow, kind_iff, kind-branch, kind-single}
use Rattle.tokens.proofs.mark_kind.Goals as goal

pub returns-in-61 : goal.returns-in-61
returns-in-61 c =
    kind-arrow _ _ c.requires true c.in-61.is c.if-starts_with.ensures.value

pub returns-in-61-2 : goal.returns-in-61-2
returns-in-61-2 c =
    kind-arrow _ _ c.requires false c.in-61.is c.if-starts_with.ensures.value

pub returns-in-60 : goal.returns-in-60
returns-in-60 c =
    kind_iff _ _ c.requires true c.in-60.is c.if-starts_with-2.ensures.value

pub returns-in-60-2 : goal.returns-in-60-2
returns-in-60-2 c =
    kind_iff _ _ c.requires false c.in-60.is c.if-starts_with-2.ensures.value

pub returns-in-46 : goal.returns-in-46
returns-in-46 c =
    kind-branch _ _ c.requires true _ c.in-46.is c.if-starts_with-3.ensures.value refl

pub returns-in-46-2 : goal.returns-in-46-2
returns-in-46-2 c =
    kind-branch _ _ c.requires false true c.in-46.is c.if-starts_with-3.ensures.value c.if-starts_with-4.ensures.value

pub returns-in-46-3 : goal.returns-in-46-3
returns-in-46-3 c =
    kind-branch _ _ c.requires false false c.in-46.is c.if-starts_with-3.ensures.value c.if-starts_with-4.ensures.value

pub returns-in_default : goal.returns-in_default
returns-in_default c =
    c.single_kind.ensures ∙ kind-single _ _ c.requires (λ e. omega arith) (λ e. omega arith) (λ e. omega arith)
