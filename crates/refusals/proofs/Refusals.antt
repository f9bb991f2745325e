-- The first refusal that applies, test by test. Assumes nothing.
use mathlib.Core.Path.{◌≡◌, refl}
use mathlib.Core.Logic.{◌⊎◌, inl, inr}
use Rattle.std.specs.Prelude.{Result, Ok, Err}
use Rattle.refusals.specs.declared.Fault.{Fault}
use Rattle.refusals.specs.declared.Reason.{Reason}
use Rattle.refusals.specs.declared.Refusal.{Refusal}
use Rattle.refusals.specs.declared.Refusal.TheVariants.{Placed}
use Rattle.refusals.specs.Fault.{sound}
use Rattle.refusals.specs.Refusal.{checked, tested}

-- no test applies
abbrev pub free : Result Unit Refusal
free = Ok tt

-- where no refusal applies, each one tested does not
pub checked-free : (f : Result Unit Fault) (later : Result Unit Refusal) → checked f later ≡ free → (f ≡ sound) × (later ≡ free)
checked-free (Ok u) later e = (refl, e)
checked-free (Err f) later e = absurd cc

pub tested-free : (k : Result Unit Reason) (later : Result Unit Refusal) → tested k later ≡ free → (k ≡ Ok tt) × (later ≡ free)
tested-free (Ok u) later e = (refl, e)
tested-free (Err k) later e = absurd cc

-- a refusal with a place is a strip's
module _ {f : Fault} where
  pub tested_unplaced : (k : Result Unit Reason) (later : Result Unit Refusal) → tested k later ≡ Err (Placed f) → later ≡ Err (Placed f)
  tested_unplaced (Ok u) later e = e
  tested_unplaced (Err k) later e = absurd cc

  pub checked-placed : (g : Result Unit Fault) (later : Result Unit Refusal) → checked g later ≡ Err (Placed f) → (g ≡ Err f) ⊎ (later ≡ Err (Placed f))
  checked-placed (Ok u) later e = inr e
  checked-placed (Err g) later e = inl cc
