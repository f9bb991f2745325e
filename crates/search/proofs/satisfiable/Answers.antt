-- `search::satisfiable` meets its contract: a test of each number below `count`, from the first on, is `any_below`, which goes from the last.
use Rattle.words.proofs.Vocabulary.{ℕ, suc, zero, ◌+◌, ◌≡◌, ◌∙◌, refl, ap, ap₂, Bool, true, false, ◌||◌, arith, rules}
use Rattle.std.proofs.Common.{tests}
use Rattle.std.proofs.lemmas.Iterator.{YieldsList-from_range}
use Rattle.std.proofs.lemmas.Iterator.Search.{any_from_yields_List}
use Rattle.std.specs.List.{list_any, range_with_len}
use Rattle.words.specs.Word.{mem}
use Rattle.logic.specs.Search.{any_below}
use Rattle.search.proofs.satisfiable.Goals as goal

swap : (x y z : Bool) → (x || (y || z)) ≡ (y || (x || z))
swap true true z = refl
swap true false z = refl
swap false y z = refl

last_of_range : (f : ℕ → Bool) (a n : ℕ) → list_any f (range_with_len a (suc n)) ≡ (f (a + n) || list_any f (range_with_len a n))
last_of_range f a zero = ap (λ (i : ℕ). f i || false) (omega arith)
last_of_range f a (suc n) =
    ap (λ (b : Bool). f a || b) (last_of_range f (a + 1) n) ∙ swap (f a) (f (a + 1 + n)) (list_any f (range_with_len (a + 1) n))
    ∙ ap (λ (i : ℕ). f i || (f a || list_any f (range_with_len (a + 1) n))) (omega arith)

range-any : (f : ℕ → Bool) (n : ℕ) → list_any f (range_with_len 0 n) ≡ any_below f n
unfolding any_below
range-any f zero = refl
range-any f (suc n) = last_of_range f 0 n ∙ ap₂ ◌||◌ (ap f (omega arith)) (range-any f n)

pub returns : goal.returns
returns c =
    any_from_yields_List (λ q. mem q c.args.accept) _ _ c.any.result c.any.ensures.ran
    (YieldsList-from_range 0 c.args.count c.args.count (cc) (omega arith)) (λ x b q k. search (rules, tests))
    ∙ range-any (λ q. mem q c.args.accept) c.args.count
