-- Shown trees do not change: the search gives the same over all machines that accept the same trees.
-- Assumes nothing.
use Prim.Native.Nat.{ℕ, ◌^◌}
use mathlib.Core.Path.{◌≡◌, refl, sym, ap, ◌∙◌}
use native.Mathlib.Omega.{arith}
use Rattle.logic.specs.Tree.{Tree}
use Rattle.logic.specs.Machine.{Machine}
use Rattle.logic.specs.Alike.{Full}
use Rattle.logic.specs.Table.{Table}
use Rattle.logic.specs.Search.{Sought, tree, large, absent, search}
use Rattle.logic.proofs.Orders.{⪯-antisym}
use Rattle.logic.proofs.Settle.{Accepts, RightForTrees, search-right}
use Rattle.logic.specs.Least.{SameTrees}

-- two machines that accept the same trees: one right answer
module _ {k : ℕ} (n P : ℕ) (M N : Machine k ℕ) (agree : SameTrees n M N) where
  over : (t : Tree k) → Accepts n N t → Accepts n M t
  over t a = (a.0, agree t a.0 ∙ a.1)

  back : (t : Tree k) → Accepts n M t → Accepts n N t
  back t a = (a.0, sym (agree t a.0) ∙ a.1)

  one_answer : (x y : Sought k) → RightForTrees n M P x → RightForTrees n N P y → x ≡ y
  unfolding RightForTrees
  one_answer (tree t) (tree u) r s = ap tree (⪯-antisym t u (r.2 u (over u s.0)) (s.2 t (back t r.0)))
  one_answer (tree t) large r s = absurd (let a = s.1 t (back t r.0) in let b = r.1 in omega arith)
  one_answer (tree t) absent r s = absurd (s t (back t r.0))
  one_answer large (tree u) r s = absurd (let a = r.1 u (over u s.0) in let b = s.1 in omega arith)
  one_answer large large r s = refl
  one_answer large absent r s = absurd (s r.0.0 (back r.0.0 r.0.1))
  one_answer absent (tree u) r s = absurd (r u (over u s.0))
  one_answer absent large r s = absurd (r s.0.0 (over s.0.0 s.0.1))
  one_answer absent absent r s = refl

pub search-same : {k : ℕ} (n P : ℕ) (a b : Table k) → Full n a.count a.machine → Full n b.count b.machine → SameTrees n a.machine b.machine → search (2 ^ n) a P ≡ search (2 ^ n) b P
search-same n P a b A B e = one_answer n P a.machine b.machine e (search (2 ^ n) a P) (search (2 ^ n) b P) (search-right n a A P) (search-right n b B P)
