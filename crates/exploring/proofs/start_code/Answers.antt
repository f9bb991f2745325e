-- `start_code` meets its contract. Only "exists" has a start code other than 0.
use Rattle.std.proofs.Common.{◌≢◌}
use Rattle.words.proofs.Vocabulary.{ℕ, ◌≡◌, refl}
use Rattle.ops.specs.declared.Op.{Op}
use Rattle.ops.specs.declared.Op.TheVariants.{Subset, Single, Child1, Child2, Root, Not, Or, And, Exists}
use Rattle.table.specs.Entry.{Step}
use Rattle.table.specs.Succ.{start_code}
use Rattle.exploring.proofs.start_code.Goals as goal

-- any other kind starts at 0
other : (k : Op) (b : ℕ) (f : Step) (w : ℕ) → k ≢ Exists → 0 ≡ start_code k b f w
unfolding start_code
other Subset b f w h = refl
other Single b f w h = refl
other Child1 b f w h = refl
other Child2 b f w h = refl
other Root b f w h = refl
other Not b f w h = refl
other Or b f w h = refl
other And b f w h = refl
other Exists b f w h = absurd (h refl)

pub returns-in-Exists : goal.returns-in-Exists
unfolding start_code
returns-in-Exists c =
    rw c.in-Exists.is c.exists_start.ensures

pub exists_start-requires : goal.exists_start-requires
exists_start-requires c =
    record { ranged = c.requires.ranged; by_index = c.requires.led c.in-Exists.is }

pub returns-in_default : goal.returns-in_default
returns-in_default c =
    let a = c.args in other a.p.kind _ _ a.p.wx c.in_default.not-Exists
