-- For figures of two branches: the joined machine of a formula, with each machine on the way written out as a table, so that computing a step
-- reads one number. Its count is that of `joined_table`. Assumes nothing.
use Prim.Native.Nat.{ℕ, zero, suc, ◌+◌, ◌^◌, ◌<◌}
use mathlib.Core.Path.{◌≡◌, refl, sym, ap, subst, ◌∙◌}
use mathlib.Core.Bool.{false, ◌&&◌, ◌||◌}
use mathlib.Core.List.{List, [], ◌∷◌}
use native.Mathlib.Nat.{not-suc-le-zero}
use native.Mathlib.Omega.{arith}
use lib.ListN.{get_or}
use Rattle.logic.specs.Meaning.{Formula, subset, singleton, successor, root, negation, disjunction, conjunction, exists, Valid}
use Rattle.logic.specs.Machine.{Machine, run}
use Rattle.logic.specs.Table.{Table, product_table, projection_table, complement_table}
use Rattle.logic.specs.Two.{one, two, pair_of, branching}
use Rattle.logic.specs.Alike.{Full, Agrees}
use Rattle.logic.proofs.Two.{two-branches}
use Rattle.logic.proofs.Agreement.{run-agrees}
use Rattle.logic.proofs.Builders.{full-agrees}
use Rattle.logic.proofs.Connectives.{decides-disjunction, decides-conjunction}
use Rattle.logic.proofs.Tables.{Right, pair-right, flip-right, projection-right}
use Rattle.logic.specs.Least.{LeastBelow}
use Rattle.logic.specs.Joined.{join, constructed, joined_table}
use Rattle.logic.proofs.Joined.{agree_decides, join-right, constructed-right, any-joined, least-below}

-- f at i, i + 1, .., m of them
unfoldable pub listed : {A : Type 0} → (ℕ → A) → ℕ → ℕ → List A
listed f i zero = []
listed f i (suc m) = f i ∷ listed f (suc i) m

listed_at : {A : Type 0} (f : ℕ → A) (z : A) (i m j : ℕ) → j < m → get_or (listed f i m) j z ≡ f (i + j)
unfolding listed
listed_at f z i zero j h = absurd (not-suc-le-zero h)
listed_at f z i (suc m) zero h = ap f (omega arith)
listed_at f z i (suc m) (suc j) h = listed_at f z (suc i) m j (omega arith) ∙ ap f (omega arith)

listed_is : {A : Type 0} (f : ℕ → A) (z : A) (m j : ℕ) → j < m → get_or (listed f 0 m) j z ≡ f j
listed_is f z m j h = listed_at f z 0 m j h ∙ ap f (omega arith)

-- the machine's steps, by label and states
unfoldable pub grid : ℕ → ℕ → Machine 2 ℕ → List (List (List ℕ))
grid n c M = listed (λ l. listed (λ i. listed (λ j. M.step l (pair_of i j)) 0 c) 0 c) 0 (2 ^ n)

-- three numbers pick an entry
unfoldable pub picked : List (List (List ℕ)) → ℕ → List ℕ → ℕ
picked G l [] = 0
picked G l (i ∷ []) = 0
picked G l (i ∷ (j ∷ is)) = get_or (get_or (get_or G l []) i []) j 0

-- a with its steps and its acceptance written out
unfoldable pub written : ℕ → Table 2 → Table 2
written n a =
    let c = a.count in
    let G = grid n c a.machine in
    let A = listed a.machine.accepting 0 c in
    record { count = c; machine = branching a.machine.start (picked G) (λ q. get_or A q false) }

module _ (n : ℕ) where
  written-agrees : (a : Table 2) → Agrees n a.count a.machine (written n a).machine
  unfolding written picked grid
  written-agrees a = record {
    starts = refl;
    steps = λ l h s u.
        let M = a.machine in
        sym (ap (λ (x : List (List ℕ)). get_or {A = ℕ} (get_or x (s one) []) (s two) 0)
        (listed_is (λ m. listed (λ i. listed (λ j. M.step m (pair_of i j)) 0 a.count) 0 a.count) [] (2 ^ n) l h)
        ∙ ap (λ (x : List ℕ). get_or {A = ℕ} x (s two) 0) (listed_is (λ i. listed (λ j. M.step l (pair_of i j)) 0 a.count) [] a.count (s one) (u one))
        ∙ listed_is (λ j. M.step l (pair_of (s one) j)) 0 a.count (s two) (u two)
        ∙ ap (M.step l) (two-branches s));
    accepts = λ q h. sym (listed_is a.machine.accepting false a.count q h);
  }

  written-right : (f : Formula 2) (a : Table 2) → Right n f a → Right n f (written n a)
  unfolding written
  written-right f a r =
      let N : Machine 2 ℕ = (written n a).machine in
      let g = written-agrees a in
      let F : Full n a.count N = full-agrees n a.count a.machine N r.0 g r.2 in (
        F.0,
        agree_decides n f N a.machine
            (λ t o. let w = run-agrees n a.count a.machine N r.0 g t o in sym (g.accepts (run a.machine t) w.1 ∙ ap N.accepting w.0)) r.1,
        F.1,
      )

  -- a joined, written out before and after
  unfoldable pub short : Table 2 → Table 2
  short a = written n (join n (written n a))

  short-right : (f : Formula 2) (a : Table 2) → Right n f a → Right n f (short a)
  unfolding short
  short-right f a r = written-right f (join n (written n a)) (join-right n f (written n a) (written-right f a r))

  short-count : (f : Formula 2) → Valid n f → (a : Table 2) → Right n f a → (short a).count ≡ (joined_table n f).count
  unfolding short written
  short-count f v a r = any-joined n f v (written n a) (written-right f a r)

  -- the construction over such parts
  unfoldable pub drawn : Formula 2 → Table 2
  drawn (subset x y) = constructed n (subset x y)
  drawn (singleton x) = constructed n (singleton x)
  drawn (successor i x y) = constructed n (successor i x y)
  drawn (root x) = constructed n (root x)
  drawn (negation f) = complement_table (short (drawn f))
  drawn (disjunction f g) = product_table n ◌||◌ (short (drawn f)) (short (drawn g))
  drawn (conjunction f g) = product_table n ◌&&◌ (short (drawn f)) (short (drawn g))
  drawn (exists x f) = projection_table n x (short (drawn f))

  drawn-right : (f : Formula 2) → Valid n f → Right n f (drawn f)
  unfolding drawn Valid
  drawn-right (subset x y) v = constructed-right n (subset x y) v
  drawn-right (singleton x) v = constructed-right n (singleton x) v
  drawn-right (successor i x y) v = constructed-right n (successor i x y) v
  drawn-right (root x) v = constructed-right n (root x) v
  drawn-right (negation f) v = flip-right n f (short (drawn f)) (short-right f (drawn f) (drawn-right f v))
  drawn-right (disjunction f g) v =
      let a = short (drawn f) in let b = short (drawn g) in
      let r = short-right f (drawn f) (drawn-right f v.0) in let q = short-right g (drawn g) (drawn-right g v.1) in
      pair-right n ◌||◌ (disjunction f g) a b r.0 q.0 (decides-disjunction n a.machine f r.1 b.machine g q.1)
  drawn-right (conjunction f g) v =
      let a = short (drawn f) in let b = short (drawn g) in
      let r = short-right f (drawn f) (drawn-right f v.0) in let q = short-right g (drawn g) (drawn-right g v.1) in
      pair-right n ◌&&◌ (conjunction f g) a b r.0 q.0 (decides-conjunction n a.machine f r.1 b.machine g q.1)
  drawn-right (exists x f) v = projection-right n x f (short (drawn f)) v.0 (short-right f (drawn f) (drawn-right f v.1))

  pub short-drawn-right : (f : Formula 2) → Valid n f → Right n f (short (drawn f))
  short-drawn-right f v = short-right f (drawn f) (drawn-right f v)

  -- the least number, computed
  pub drawn-least : (f : Formula 2) → Valid n f → (q : ℕ) → (short (drawn f)).count ≡ q → LeastBelow n f q
  drawn-least f v q e = subst (LeastBelow n f) (sym (short-count f v (drawn f) (drawn-right f v)) ∙ e) (least-below n f v)
