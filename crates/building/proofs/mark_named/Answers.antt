-- `mark_named` meets its contract. Each arm is the definition's clause for its kinds; what is left are the atoms, which name no record.
use Rattle.words.proofs.Vocabulary.{ℕ, ◌≡◌, refl, Bool, true, List, set, ◌⊎◌, ⊎_elim}
use Rattle.ops.specs.declared.Op.{Op}
use Rattle.ops.specs.declared.Op.TheVariants.{Not, Or, And, Exists}
use Rattle.building.specs.Named.{named_by, marking}
use Rattle.building.proofs.mark_named.Goals as goal

atom : (k : Op) (a b : ℕ) (ms : List Bool) → (k ≡ Not → ⊥) → (k ≡ Or → ⊥) → (k ≡ And → ⊥) → (k ≡ Exists → ⊥) → ms ≡ marking (named_by k a b) ms
unfolding marking
atom Not a b ms n o d e = absurd (n refl)
atom Or a b ms n o d e = absurd (o refl)
atom And a b ms n o d e = absurd (d refl)
atom Exists a b ms n o d e = absurd (e refl)
atom _ a b ms n o d e = refl

one : (k : Op) (a b : ℕ) (ms : List Bool) → (k ≡ Not) ⊎ (k ≡ Exists) → set ms a true ≡ marking (named_by k a b) ms
unfolding marking
one k a b ms = ⊎_elim (λ e. rw e) (λ e. rw e)

two : (k : Op) (a b : ℕ) (ms : List Bool) → (k ≡ Or) ⊎ (k ≡ And) → set (set ms a true) b true ≡ marking (named_by k a b) ms
unfolding marking
two k a b ms = ⊎_elim (λ e. rw e) (λ e. rw e)

pub returns-in-Not : goal.returns-in-Not
returns-in-Not c = let x = c.args.x in let e = one x.kind x.first x.second c.args.marks.now c.in-Not.is in cc

pub returns-in-Or : goal.returns-in-Or
returns-in-Or c = let x = c.args.x in let e = two x.kind x.first x.second c.args.marks.now c.in-Or.is in cc

pub returns-in_default : goal.returns-in_default
returns-in_default c =
    let d = c.in_default in
    atom _ _ _ _ d.not-Not d.not-Or d.not-And d.not-Exists
