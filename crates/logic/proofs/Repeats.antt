-- A label with the steps of an earlier one adds nothing to a round: each of its candidates was considered under the earlier label, and of
-- equals the first one met stays. So a scan may pass it over. Assumes nothing.
use Prim.Native.Nat.{ℕ, zero, suc, ◌<◌}
use mathlib.Core.Path.{◌≡◌, refl, sym, ap, subst, ◌∙◌}
use mathlib.Core.Logic.{◌⊎◌, inl, inr}
use mathlib.Core.Bool.{Bool, true, false, true≢false}
use mathlib.Core.List.{List, [], ◌∷◌}
use native.Mathlib.Omega.{arith}
use borrow.Author.Tests.{ltb-true, ltb-false, le-ltb}
use Rattle.logic.specs.Meaning.{Branch}
use Rattle.logic.specs.Search.{rank, View, Best, nothing, found, target, weight, lighter, choose, consider, loop, tuples}
use Rattle.logic.proofs.Orders.{less, same, more, ℕ-tri}
use Rattle.logic.proofs.Scan.{Tuple}

module _ {k : ℕ} (v : View k) where
  -- what is no lighter than b is no lighter than c
  abbrev Down : Best → Best → Type 0
  Down b c = (is : List ℕ) → lighter v is b ≡ false → lighter v is c ≡ false

  -- what holds of a best candidate holds of every lighter one
  abbrev Stays : (Best → Type 0) → Type 0
  Stays Q = (b c : Best) → Down b c → Q b → Q c

  down-choose : (x y : Bool) (l : ℕ) (is : List ℕ) (b : Best) → lighter v is b ≡ y → Down b (choose x y l is b)
  unfolding choose lighter
  down-choose true y l is b e js h = h
  down-choose false false l is b e js h = h
  down-choose false true l is nothing e js h = absurd (true≢false h)
  down-choose false true l is (found m ks) e js h =
      le-ltb (weight v js) (weight v is) (omega (arith, ltb-true (weight v is) (weight v ks) e, ltb-false (weight v js) (weight v ks) h))

  down-consider : (l : ℕ) (is : List ℕ) (b : Best) → Down b (consider v l is b)
  unfolding consider
  down-consider l is b = down-choose (v.old (target v l is)) (lighter v is b) l is b refl

  down-loop : (g : ℕ → Best → Best) → ((i : ℕ) (b : Best) → Down b (g i b)) → (n : ℕ) (b : Best) → Down b (loop g n b)
  unfolding loop
  down-loop g d zero b is h = h
  down-loop g d (suc n) b is h = d n (loop g n b) is (down-loop g d n b is h)

  down-tuples : (n d : ℕ) (f : List ℕ → Best → Best) → ((is : List ℕ) (b : Best) → Down b (f is b)) → (b : Best) → Down b (tuples n d f b)
  unfolding tuples
  down-tuples n zero f g b = g [] b
  down-tuples n (suc d) f g b = down-loop (λ i. tuples n d (λ is. f (i ∷ is))) (λ i. down-tuples n d (λ is. f (i ∷ is)) (λ is. g (i ∷ is))) n b

  -- what one turn brings about, and no later one undoes, holds at the end
  met-loop : (Q : Best → Type 0) → Stays Q → (g : ℕ → Best → Best) → ((i : ℕ) (b : Best) → Down b (g i b))
      → (m : ℕ) → ((b : Best) → Q (g m b)) → (n : ℕ) → m < n → (b : Best) → Q (loop g n b)
  unfolding loop
  met-loop Q stays g d m q zero h b = absurd (omega arith)
  met-loop Q stays g d m q (suc n) h b = elim (ℕ-tri m n) [
    | less p ↦ stays (loop g n b) (g n (loop g n b)) (d n (loop g n b)) (met-loop Q stays g d m q n p b)
    | same e ↦ subst (λ (i : ℕ). Q (g i (loop g n b))) e (q (loop g n b))
    | more p ↦ absurd (omega arith)
  ]

  met-tuples : (Q : Best → Type 0) → Stays Q → (n d : ℕ) (f : List ℕ → Best → Best) → ((is : List ℕ) (b : Best) → Down b (f is b))
      → (is : List ℕ) → Tuple n d is → ((b : Best) → Q (f is b)) → (b : Best) → Q (tuples n d f b)
  unfolding tuples Tuple
  met-tuples Q stays n zero f g [] t q b = q b
  met-tuples Q stays n zero f g (x ∷ is) t q b = absurd t
  met-tuples Q stays n (suc d) f g [] t q b = absurd t
  met-tuples Q stays n (suc d) f g (x ∷ is) t q b =
      met-loop Q stays (λ i. tuples n d (λ is. f (i ∷ is))) (λ i. down-tuples n d (λ is. f (i ∷ is)) (λ is. g (i ∷ is))) x
      (met-tuples Q stays n d (λ is. f (x ∷ is)) (λ is. g (x ∷ is)) is t.1 q) n t.0 b

  -- turns that change nothing
  idle_loop : (g : ℕ → Best → Best) (n : ℕ) (b : Best) → ((i : ℕ) → i < n → g i b ≡ b) → loop g n b ≡ b
  unfolding loop
  idle_loop g zero b h = refl
  idle_loop g (suc n) b h = ap (g n) (idle_loop g n b (λ i l. h i (omega arith))) ∙ h n (omega arith)

  idle-tuples : (n d : ℕ) (f : List ℕ → Best → Best) (b : Best) → ((is : List ℕ) → Tuple n d is → f is b ≡ b) → tuples n d f b ≡ b
  unfolding tuples Tuple
  idle-tuples n zero f b h = h [] tt
  idle-tuples n (suc d) f b h =
      idle_loop (λ i. tuples n d (λ is. f (i ∷ is))) n b (λ i l. idle-tuples n d (λ is. f (i ∷ is)) b (λ is t. h (i ∷ is) (l, t)))

  -- the candidate was considered: its state is settled, or the best is no heavier
  abbrev Past : ℕ → List ℕ → Best → Type 0
  Past l is b = (v.old (target v l is) ≡ true) ⊎ (lighter v is b ≡ false)

  past_stays : (l : ℕ) (is : List ℕ) → Stays (Past l is)
  past_stays l is b c d (inl e) = inl e
  past_stays l is b c d (inr e) = inr (d is e)

  past_choose : (x y : Bool) (l : ℕ) (is : List ℕ) (b : Best) → v.old (target v l is) ≡ x → lighter v is b ≡ y → Past l is (choose x y l is b)
  unfolding choose lighter
  past_choose true y l is b e f = inl e
  past_choose false true l is b e f = inr (le-ltb (weight v is) (weight v is) (omega arith))
  past_choose false false l is b e f = inr f

  past_consider : (l : ℕ) (is : List ℕ) (b : Best) → Past l is (consider v l is b)
  unfolding consider
  past_consider l is b = past_choose (v.old (target v l is)) (lighter v is b) l is b refl refl

  module _ (many f l : ℕ) (earlier : f < l) (alike : (s : Branch k → ℕ) → v.step f s ≡ v.step l s) where
    idle-choose : (x y : Bool) (is : List ℕ) (b : Best) → (x ≡ true) ⊎ (y ≡ false) → choose x y l is b ≡ b
    unfolding choose
    idle-choose true y is b p = refl
    idle-choose false false is b p = refl
    idle-choose false true is b (inl e) = absurd (true≢false (sym e))
    idle-choose false true is b (inr e) = absurd (true≢false e)

    idle-consider : (is : List ℕ) (b : Best) → Past f is b → consider v l is b ≡ b
    unfolding consider
    idle-consider is b (inl e) =
        idle-choose (v.old (target v l is)) (lighter v is b) is b (inl (ap v.old (sym (alike (λ b. v.state (rank is b)))) ∙ e))
    idle-consider is b (inr e) = idle-choose (v.old (target v l is)) (lighter v is b) is b (inr e)

    pub label_repeats : (b : Best)
        → tuples many k (consider v l) (loop (λ m. tuples many k (consider v m)) l b) ≡ loop (λ m. tuples many k (consider v m)) l b
    label_repeats b =
        idle-tuples many k (consider v l) (loop (λ m. tuples many k (consider v m)) l b) λ is t.
        idle-consider is (loop (λ m. tuples many k (consider v m)) l b)
        (met-loop (Past f is) (past_stays f is) (λ m. tuples many k (consider v m)) (λ m. down-tuples many k (consider v m) (down-consider m)) f
        (met-tuples (Past f is) (past_stays f is) many k (consider v f) (down-consider f) is t (past_consider f is)) l earlier b)
