-- The room that machines and strips take: the sums fit, and what no refusal for want of it says. Assumes nothing.
use Rattle.words.proofs.Vocabulary.{ℕ, ◌+◌, ◌*◌, ◌≤◌, ◌≡◌, refl, ap, arith}
use native.Mathlib.Nat.{mul-le-mul}
use Rattle.std.specs.Prelude.{Result, Ok, Err}
use Rattle.std.proofs.lemmas.Grind.{common_steps}
use Rattle.layout.specs.Shape.{Shaped, share_at, shape_of}
use Rattle.layout.proofs.Places.{share-two}
use Rattle.refusals.specs.Refusal.{tested, answer_unless}
use Rattle.refusals.specs.declared.Fault.{Fault}
use Rattle.refusals.specs.declared.Reason.{Reason}
use Rattle.refusals.specs.declared.Refusal.{Refusal}
use Rattle.refusals.specs.declared.Refusal.TheVariants.{Placed}
use Rattle.refusals.proofs.Refusals.{free, tested-free, tested_unplaced}
use Rattle.tree_strip.specs.TreeStrip.{tree_bytes}
use Rattle.rules.specs.Room.{room_for, ceiling_refusal, places_refusal, workspace_refusal, out_refusal, work_refusal}

-- "m × 2^n × c × c bytes" are m shares
pub room_shares : (n m c : ℕ) → Shaped (shape_of n c) → share_at (shape_of n c) m ≡ room_for n m c
unfolding share_at
room_shares n m c h = ap (λ (z : ℕ). m * z) (share-two (shape_of n c) h)

pub shaped : {n c : ℕ} → 1 ≤ n → n ≤ 8 → 1 ≤ c → c ≤ 64 → Shaped (shape_of n c)
shaped a b d e = record { some-variable = a; variables = b; some-state = d; ceiling = e; branches = refl }

pub strip_few : (n P : ℕ) → n ≤ 8 → P ≤ 255 → P * (n + 1) ≤ 2295
strip_few n P hn hp = let k : n + 1 ≤ 9 = omega arith in let e = mul-le-mul hp k in omega arith

-- no refusal of this kind is told
abbrev pub untold : Result Unit Reason
untold = Ok tt

-- what no refusal says
pub ceiling_free : (c : ℕ) → ceiling_refusal c ≡ untold → (1 ≤ c) × (c ≤ 64)
unfolding ceiling_refusal
ceiling_free c e = (grind (arith, common_steps), grind (arith, common_steps))

pub places_free : (P : ℕ) → places_refusal P ≡ untold → P ≤ 255
unfolding places_refusal
places_free P e = grind (arith, common_steps)

pub workspace_free : (n m c room : ℕ) → workspace_refusal n m c room ≡ untold → room_for n m c ≤ room
unfolding workspace_refusal
workspace_free n m c room e = grind (arith, common_steps)

pub out_free : (n P room : ℕ) → out_refusal n P room ≡ untold → tree_bytes n P ≤ room
unfolding out_refusal
out_free n P room e = grind (arith, common_steps)

-- 11 for c and 12: where they apply the later refusals are not tested, and what they say where none applies
module _ (n m c room : ℕ) where
  pub work_then : (later : Result Unit Refusal) → work_refusal n m c room later ≡ answer_unless (work_refusal n m c room free) later
  unfolding work_refusal
  work_then later = go (ceiling_refusal c) (workspace_refusal n m c room)
    where
      go : (i j : Result Unit Reason) → tested i (tested j later) ≡ answer_unless (tested i (tested j free)) later
      go (Ok u) (Ok v) = refl
      go (Ok u) (Err k) = refl
      go (Err k) j = refl

  pub work_free : (later : Result Unit Refusal) → work_refusal n m c room later ≡ free
      → (1 ≤ c) × (c ≤ 64) × (room_for n m c ≤ room) × (later ≡ free)
  unfolding work_refusal
  work_free later e =
      let a = tested-free (ceiling_refusal c) _ e in
      let b = tested-free (workspace_refusal n m c room) _ a.1 in
      let w = ceiling_free c a.0 in
      (w.0, w.1, workspace_free n m c room b.0, b.1)

  pub work_unplaced : (later : Result Unit Refusal) {f : Fault} → work_refusal n m c room later ≡ Err (Placed f) → later ≡ Err (Placed f)
  unfolding work_refusal
  work_unplaced later e = tested_unplaced (workspace_refusal n m c room) _ (tested_unplaced (ceiling_refusal c) _ e)
