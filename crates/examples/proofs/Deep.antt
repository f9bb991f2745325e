-- A4, "A bound on depth for the builder": the bound is reached, and one less would be false. Two rules, by computation on the definitions:
-- decide's answer, and a downward path of the tree in out that has one position fewer than there are states. Assumes nothing.
use Prim.Native.Nat.{ℕ, suc}
use mathlib.Core.Path.{◌≡◌, refl}
use mathlib.Core.List.{List, [], ◌∷◌, map}
use lib.ListN.{length}
use Rattle.logic.specs.Meaning.{Place}
use Rattle.logic.specs.Tree.{Tree, node_at}
use Rattle.logic.specs.Claims.{Downward}
use Rattle.bits.specs.Bits.{digits, bits, any_set, first_set, bit_length}
use Rattle.tree_strip.specs.TreeStrip.{parsed, join, and_then, parse, end_fault, ended, read_tree}
use Rattle.decide.specs.declared.Verdict.{Verdict}
use Rattle.refusals.specs.declared.Refusal.{Refusal}
use Rattle.std.specs.Prelude.{Result}
use Rattle.examples.proofs.Decided.{answer, with, shown}

-- the strip has a tree with a downward path of one position fewer than there are states
pub record Reached (strip : List ℕ) (states : ℕ) : Type 0 where
  pub tree : Tree 2
  pub met : ℕ
  pub rest : List ℕ
  pub read : read_tree strip ≡ parsed tree met rest
  pub path : List (Place 2)
  pub downward : Downward tree path
  pub one_fewer : suc (length path) ≡ states

-- n = 1, X0 ⊆ X0, which is example d; n = 2, not X0 ⊆ X1
pub rules : List (List ℕ)
rules = (0x11 ∷ 0x01 ∷ 0x00 ∷ 0x00 ∷ 0x00 ∷ []) ∷ (0x12 ∷ 0x02 ∷ 0x00 ∷ 0x00 ∷ 0x54 ∷ 0x00 ∷ 0x00 ∷ []) ∷ []

pub verdicts : List (Result Verdict Refusal)
verdicts = shown 0 1 2 ∷ shown 1 2 2 ∷ []

pub trees : List (List ℕ)
trees = (0x11 ∷ 0x00 ∷ []) ∷ (0x12 ∷ 0xC0 ∷ []) ∷ []

pub deep_told : (map (λ s. (answer (with 64 255 s)).verdict) rules ≡ verdicts) × (map (λ s. (answer (with 64 255 s)).tree) rules ≡ trees)
unfolding answer rules trees verdicts
deep_told = (refl, refl)

pub deep_reached : Reached (0x11 ∷ 0x00 ∷ []) 1 × Reached (0x12 ∷ 0xC0 ∷ []) 2
unfolding Downward node_at digits bits any_set first_set bit_length join and_then parse end_fault ended read_tree
deep_reached = (
  record { tree = _; met = _; rest = _; read = refl; path = []; downward = tt; one_fewer = refl },
  record { tree = _; met = _; rest = _; read = refl; path = [] ∷ []; downward = tt; one_fewer = refl },
)
