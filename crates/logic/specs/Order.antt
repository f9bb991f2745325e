-- The order of trees: document 01, "Trees for assignments", second paragraph.
-- Assumes nothing.
use Rattle.std.specs.Prelude.{ℕ, ◌<◌, ◌≡◌, ◌⊎◌}
use Rattle.logic.specs.Meaning.{Branch}
use Rattle.logic.specs.Tree.{Tree, empty, node, positions}

infix 50 ◌≺◌
infix 50 ◌⪯◌
-- the first key decides; where it is equal, the rest does
abbrev pub Lex : Type 0 → Type 0 → Type 0 → Type 0
Lex Less Same Rest = Less ⊎ (Same × Rest)

-- "fewer positions first; then the smaller root label; then the earlier first branch; then the earlier second branch, in this same order":
-- the first branch that differs decides
unfoldable pub ◌≺◌ : {k : ℕ} → Tree k → Tree k → Type 0
empty ≺ empty = ⊥
empty ≺ node m g = Unit {0}
node l f ≺ empty = ⊥
◌≺◌ {k} (node l f) (node m g) =
    Lex (positions (node l f) < positions (node m g)) (positions (node l f) ≡ positions (node m g))
    (Lex (l < m) (l ≡ m)
    ((b : Branch k) × ((c : Branch k) → c.number < b.number → f c ≡ g c) × (f b ≺ g b)))

abbrev pub ◌⪯◌ : {k : ℕ} → Tree k → Tree k → Type 0
t ⪯ u = (t ≺ u) ⊎ (t ≡ u)
