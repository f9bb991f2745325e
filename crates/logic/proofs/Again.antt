-- Joining a machine that has the fewest states changes nothing; so joining again changes nothing.
-- Assumes nothing.
use Prim.Native.Nat.{ℕ, suc, ◌<◌}
use mathlib.Core.Path.{◌≡◌, refl, sym, ap, subst, ◌∙◌, fun_ext}
use mathlib.Core.Bool.{Bool, true, false, cond}
use mathlib.Core.List.{List, [], ◌∷◌}
use native.Mathlib.Omega.{arith}
use lib.Dec.{T, eqb, eqb→eq}
use lib.ListN.{length, get_or}
use Rattle.logic.specs.Meaning.{Branch}
use Rattle.logic.specs.Reach.{elem, select, position, numbered}
use Rattle.logic.specs.Alike.{Full, Agrees}
use Rattle.logic.specs.Table.{Table}
use Rattle.logic.proofs.Reach.{elem-select}
use Rattle.logic.proofs.Counts.{position-get_or, select-length}
use Rattle.logic.specs.Joined.{numbers, merged, classes, join_by, join}
use Rattle.logic.specs.Least.{Least}
use Rattle.logic.proofs.Classes.{elem-numbers, numbers-distinct}
use Rattle.logic.proofs.Joining.{leader, join_is, joined-full, joined-accepts, joined-least, least-count, numbers-length, numbers_at}

-- what loses no member is as it was
select-whole : (g : ℕ → Bool) (L : List ℕ) → length (select g L) ≡ length L → select g L ≡ L
unfolding select
select-whole g [] e = refl
select-whole g (q ∷ L) e = go (g q) (select-whole g L) e
  where
    go : (v : Bool) → (length (select g L) ≡ length L → select g L ≡ L) → length (cond v (q ∷ select g L) (select g L)) ≡ suc (length L) → cond v (q ∷ select g L) (select g L) ≡ q ∷ L
    go true ih f = ap (λ (N : List ℕ). q ∷ N) (ih (omega arith))
    go false ih f = absurd (let h = select-length g L in omega arith)

module _ {k : ℕ} (n : ℕ) (a : Table k) (F : Full n a.count a.machine) (l : Least n a.machine a.count) where
  whole : classes a.count (leader n a) ≡ numbers a.count
  unfolding classes join_by
  whole = select-whole (λ q. eqb (leader n a q) q) (numbers a.count)
      (ap (λ (b : Table k). b.count) (sym (join_is n a)) ∙ least-count n a F l ∙ sym (numbers-length a.count))

  alone : (q : ℕ) → q < a.count → leader n a q ≡ q
  unfolding classes
  alone q h = eqb→eq (leader n a q) q
      ((elem-select q (λ z. eqb (leader n a z) z) (numbers a.count)).0 (subst (λ (N : List ℕ). T (elem q N)) (sym whole) ((elem-numbers q a.count).1 h))).1

  place : (q : ℕ) → q < a.count → position q (classes a.count (leader n a)) ≡ q
  place q h =
      ap (λ (N : List ℕ). position q N) whole ∙ ap (λ (r : ℕ). position r (numbers a.count)) (sym (numbers_at a.count q h))
      ∙ position-get_or (numbers a.count) (numbers-distinct a.count) q (let e = numbers-length a.count in omega arith)

  back : (q : ℕ) → q < a.count → get_or (classes a.count (leader n a)) q 0 ≡ q
  back q h = ap (λ (N : List ℕ). get_or N q 0) whole ∙ numbers_at a.count q h

  own : (q : ℕ) → q < a.count → q ≡ position (leader n a q) (classes a.count (leader n a))
  own q h = sym (ap (λ (r : ℕ). position r (classes a.count (leader n a))) (alone q h) ∙ place q h)

  pub unchanged : ((join n a).count ≡ a.count) × Agrees n a.count a.machine (join n a).machine
  unfolding join_by numbered merged
  unchanged = (
    least-count n a F l,
    subst (λ (b : Table k). Agrees n a.count a.machine b.machine) (sym (join_is n a)) (record {
      starts = own a.machine.start F.0.0;
      steps = λ m h s u.
          own (a.machine.step m s) (F.0.1 m h s u)
          ∙ ap (λ (r : Branch k → ℕ). position (leader n a (a.machine.step m r)) (classes a.count (leader n a))) (fun_ext (λ b. sym (back (s b) (u b))));
      accepts = λ q h. ap a.machine.accepting (sym (back q h));
    }),
  )

-- JOINING AGAIN changes nothing: as many states, and the same at each of them
pub again : {k : ℕ} (n : ℕ) (a : Table k) → Full n a.count a.machine
    → ((join n (join n a)).count ≡ (join n a).count) × Agrees n (join n a).count (join n a).machine (join n (join n a)).machine
again n a F = unchanged n (join n a) (joined-full n a F) (λ Q N agree. joined-least n a F Q N (λ t o. sym (joined-accepts n a F t o) ∙ agree t o))
