-- How an operation on a rule strip ends, by the refusals that come before the build: its result, and the workspace, of which the bytes that
-- refusal 12 asks for are cleared. Assumes nothing.
use Rattle.words.proofs.Vocabulary.{ℕ, ◌≡◌, refl, List, drop}
use Rattle.std.specs.Prelude.{Result, Ok, Err}
use Rattle.refusals.specs.Refusal.{unless_refused, answer_unless}
use Rattle.refusals.specs.declared.Fault.{Fault}
use Rattle.refusals.specs.declared.Refusal.{Refusal}
use Rattle.refusals.specs.declared.Refusal.TheVariants.{Placed}
use Rattle.refusals.proofs.Refusals.{free}
use Rattle.rules.specs.Room.{cleared}

module _ {A : Type 0} (early : Result Unit Refusal) (answer : Result A Refusal) where
  -- it is refused
  pub told_early : {r : Refusal} → early ≡ Err r → Err r ≡ answer_unless early answer
  told_early e = rw e refl

  -- it goes on
  pub told_late : early ≡ free → {x : Result A Refusal} → x ≡ answer → x ≡ answer_unless early answer
  told_late e f = rw (e, f) refl

  -- a refusal that names a place is met early, where the answer names none
  pub placed_early : {f : Fault} → (answer ≡ Err (Placed f) → ⊥) → answer_unless early answer ≡ Err (Placed f) → early ≡ Err (Placed f)
  placed_early {f} h e = go early e
    where
      go : (x : Result Unit Refusal) → answer_unless x answer ≡ Err (Placed f) → x ≡ Err (Placed f)
      go (Ok u) p = absurd (h p)
      go (Err r) p = cc

-- the workspace, or out, at the end
module _ (early : Result Unit Refusal) (before : List ℕ) where
  pub kept_early : {r : Refusal} (late : List ℕ) → early ≡ Err r → before ≡ unless_refused early late before
  kept_early late e = rw e refl

  pub changed_late : early ≡ free → {late after : List ℕ} → after ≡ late → after ≡ unless_refused early late before
  changed_late e f = rw (e, f) refl

  -- the build changes nothing past the shares, and they are cleared
  pub cleared_late : early ≡ free → (need : ℕ) (made : List ℕ) {after : List ℕ} → drop need made ≡ drop need before → after ≡ cleared need made
      → after ≡ unless_refused early (cleared need before) before
  cleared_late e need made k f = rw (e, f, k) refl
