-- One round's scan finds the earliest candidate.
-- Assumes nothing.
use Prim.Native.Nat.{ℕ, zero, suc, ◌≤◌, ◌<◌}
use mathlib.Core.Path.{◌≡◌, refl, sym, ap, ◌∙◌}
use mathlib.Core.Logic.{◌⊎◌, inl, inr}
use mathlib.Core.Bool.{Bool, true, false, ◌||◌, true≢false, false≢true}
use mathlib.Core.List.{List, [], ◌∷◌}
use native.Mathlib.Omega.{arith}
use borrow.Author.Tests.{ltb-true, ltb-false, eqb-true, eq-eqb}
use lib.Dec.{eqb}
use lib.ListN.{length, get_or}
use Rattle.logic.specs.Meaning.{Branch}
use Rattle.logic.specs.Tree.{Tree, positions}
use Rattle.logic.specs.Order.{Lex, ◌≺◌, ◌⪯◌}
use Rattle.logic.specs.Machine.{Machine, run}
use Rattle.logic.specs.Search.{at, rank, candidate, settled, View, view, Best, nothing, found, weight, lighter, choose, consider, loop, tuples, pick}
use Rattle.logic.proofs.Orders.{less, same, more, ℕ-tri, ⪯-trans}

abbrev pub Found : {k : ℕ} → Machine k ℕ → List (Tree k) → ℕ → Type 0
Found M s q = (i : ℕ) × (i < length s) × (run M (at s i) ≡ q)

pub settled-found : {k : ℕ} (M : Machine k ℕ) (s : List (Tree k)) (q : ℕ) → settled M s q ≡ true → Found M s q
unfolding settled
settled-found M [] q e = absurd (false≢true e)
settled-found M (t ∷ s) q e = here (settled-found M s q) (eqb (run M t) q) refl e
  where
    here : (settled M s q ≡ true → Found M s q) → (x : Bool) → eqb (run M t) q ≡ x → (x || settled M s q) ≡ true → Found M (t ∷ s) q
    here k true h e = (0, omega arith, eqb-true (run M t) q h)
    here k false h e = let f = k e in (suc f.0, omega arith, f.2)

pub unsettled : {k : ℕ} (M : Machine k ℕ) (s : List (Tree k)) (q i : ℕ) → settled M s q ≡ false → i < length s → run M (at s i) ≡ q → ⊥
unfolding settled
unsettled M [] q i e h r = omega arith
unsettled M (t ∷ s) q zero e h r = true≢false (ap (λ (x : Bool). x || settled M s q) (sym (eq-eqb (run M t) q r)) ∙ e)
unsettled M (t ∷ s) q (suc i) e h r = unsettled M s q i (later (eqb (run M t) q) e) (omega arith) r
  where
    later : (x : Bool) → (x || settled M s q) ≡ false → settled M s q ≡ false
    later true e = absurd (true≢false e)
    later false e = e

-- d numbers below n
unfoldable pub Tuple : ℕ → ℕ → List ℕ → Type 0
Tuple n zero [] = Unit {0}
Tuple n zero (x ∷ xs) = ⊥
Tuple n (suc d) [] = ⊥
Tuple n (suc d) (x ∷ xs) = (x < n) × Tuple n d xs

pub tuple-below : (n d : ℕ) (is : List ℕ) → Tuple n d is → (i : ℕ) → i < d → get_or is i 0 < n
unfolding Tuple
tuple-below n zero is t i h = absurd (omega arith)
tuple-below n (suc d) [] t i h = absurd t
tuple-below n (suc d) (x ∷ is) t zero h = t.0
tuple-below n (suc d) (x ∷ is) t (suc i) h = tuple-below n d is t.1 i (omega arith)

-- the order in which the loops meet them
unfoldable pub Less : List ℕ → List ℕ → Type 0
Less [] ys = ⊥
Less (x ∷ xs) [] = ⊥
Less (x ∷ xs) (y ∷ ys) = Lex (x < y) (x ≡ y) (Less xs ys)

-- the first number that differs
pub less-first : (n d : ℕ) (is js : List ℕ) → Tuple n d js → Less is js
    → (i : ℕ) × (i < d) × ((j : ℕ) → j < i → get_or is j 0 ≡ get_or js j 0) × (get_or is i 0 < get_or js i 0)
unfolding Tuple Less
less-first n d [] js t p = absurd p
less-first n d (x ∷ is) [] t p = absurd p
less-first n zero (x ∷ is) (y ∷ js) t p = absurd t
less-first n (suc d) (x ∷ is) (y ∷ js) t (inl p) = (0, omega arith, (λ j h. absurd (omega arith)), p)
less-first n (suc d) (x ∷ is) (y ∷ js) t (inr (e, p)) =
    let w = less-first n d is js t.1 p in (suc w.0, omega arith, shift w.0 w.2, w.3)
  where
    shift : (i : ℕ) → ((j : ℕ) → j < i → get_or is j 0 ≡ get_or js j 0) → (j : ℕ) → j < suc i → get_or (x ∷ is) j 0 ≡ get_or (y ∷ js) j 0
    shift i f zero h = e
    shift i f (suc j) h = f j (omega arith)

-- the numbers of a set W behind a first number that is i; or a first number below i
After : ℕ → (List ℕ → Type 0) → List ℕ → Type 0
After i W [] = ⊥
After i W (x ∷ xs) = Lex (x < i) (x ≡ i) (W xs)

Head : ℕ → List ℕ → Type 0
Head i [] = ⊥
Head i (x ∷ xs) = x < i

pub loop_inv {ℓ} : (P : ℕ → Best → Type ℓ) (f : ℕ → Best → Best) (n : ℕ)
    → ((i : ℕ) (b : Best) → i < n → P i b → P (suc i) (f i b)) → (b : Best) → P 0 b → P n (loop f n b)
unfolding loop
loop_inv P f zero k b p = p
loop_inv P f (suc n) k b p = k n (loop f n b) (omega arith) (loop_inv P f n (λ i b h. k i b (omega arith)) b p)

-- I W b: b is right after the tuples of W.
abbrev pub Same : ℕ → ℕ → ((List ℕ → Type 0) → Best → Type 0) → Type 1
Same n d I = (W Z : List ℕ → Type 0) → ((is : List ℕ) → Tuple n d is → W is → Z is) → ((is : List ℕ) → Tuple n d is → Z is → W is) → (b : Best) → I W b → I Z b

pub tuples_inv : (n d : ℕ) (I : (List ℕ → Type 0) → Best → Type 0) → Same n d I → (f : List ℕ → Best → Best)
    → ((is : List ℕ) (b : Best) → Tuple n d is → I (λ js. Less js is) b → I (λ js. Less js is ⊎ (js ≡ is)) (f is b))
    → (b : Best) → I (λ _. ⊥) b → I (λ _. Unit {0}) (tuples n d f b)
unfolding tuples Tuple Less After Head
tuples_inv n zero I like f k b p = like (λ js. Less js [] ⊎ (js ≡ [])) (λ _. Unit {0}) (λ is h w. tt) from (f [] b)
    (k [] b tt (like (λ _. ⊥) (λ js. Less js []) (λ is h w. absurd w) none b p))
  where
    from : (is : List ℕ) → Tuple n 0 is → Unit {0} → Less is [] ⊎ (is ≡ [])
    from [] h u = inr refl
    from (x ∷ is) h u = absurd h

    none : (is : List ℕ) → Tuple n 0 is → Less is [] → ⊥
    none [] h u = u
    none (x ∷ is) h u = u
tuples_inv n (suc d) I like f k b p =
    like (Head n) (λ _. Unit {0}) (λ is h w. tt) all (loop (λ i. tuples n d (λ is. f (i ∷ is))) n b)
    (loop_inv (λ i. I (Head i)) (λ i. tuples n d (λ is. f (i ∷ is))) n
    (λ i b h q. like (After i (λ _. Unit {0})) (Head (suc i)) (done i) (undone i) (tuples n d (λ is. f (i ∷ is)) b)
    (tuples_inv n d (λ W. I (After i W)) (like-after i) (λ is. f (i ∷ is)) (one i h) b
    (like (Head i) (After i (λ _. ⊥)) (begun i) (unbegun i) b q)))
    b (like (λ _. ⊥) (Head 0) (λ is h w. absurd w) none b p))
  where
    all : (is : List ℕ) → Tuple n (suc d) is → Unit {0} → Head n is
    all [] h u = absurd h
    all (x ∷ is) h u = h.0

    none : (is : List ℕ) → Tuple n (suc d) is → Head 0 is → ⊥
    none [] h u = u
    none (x ∷ is) h u = omega arith

    begun : (i : ℕ) (is : List ℕ) → Tuple n (suc d) is → Head i is → After i (λ _. ⊥) is
    begun i [] h u = u
    begun i (x ∷ is) h u = inl u

    unbegun : (i : ℕ) (is : List ℕ) → Tuple n (suc d) is → After i (λ _. ⊥) is → Head i is
    unbegun i [] h u = u
    unbegun i (x ∷ is) h (inl u) = u
    unbegun i (x ∷ is) h (inr u) = absurd u.1

    done : (i : ℕ) (is : List ℕ) → Tuple n (suc d) is → After i (λ _. Unit {0}) is → Head (suc i) is
    done i [] h u = u
    done i (x ∷ is) h (inl u) = omega arith
    done i (x ∷ is) h (inr u) = omega arith

    undone : (i : ℕ) (is : List ℕ) → Tuple n (suc d) is → Head (suc i) is → After i (λ _. Unit {0}) is
    undone i [] h u = u
    undone i (x ∷ is) h u = elim (ℕ-tri x i) [ less p ↦ inl p | same e ↦ inr (e, tt) | more p ↦ absurd (omega arith) ]

    after_map : (i : ℕ) (W Z : List ℕ → Type 0) → ((is : List ℕ) → Tuple n d is → W is → Z is) → (is : List ℕ) → Tuple n (suc d) is → After i W is
        → After i Z is
    after_map i W Z g [] h u = u
    after_map i W Z g (x ∷ is) h (inl u) = inl u
    after_map i W Z g (x ∷ is) h (inr u) = inr (u.0, g is h.1 u.1)

    like-after : (i : ℕ) → Same n d (λ W. I (After i W))
    like-after i W Z g g' b q = like (After i W) (After i Z) (after_map i W Z g) (after_map i Z W g') b q

    one : (i : ℕ) → i < n → (is : List ℕ) (b : Best) → Tuple n d is → I (After i (λ js. Less js is)) b
        → I (After i (λ js. Less js is ⊎ (js ≡ is))) (f (i ∷ is) b)
    one i h is b t q =
        like (λ js. Less js (i ∷ is) ⊎ (js ≡ i ∷ is)) (After i (λ js. Less js is ⊎ (js ≡ is))) out into (f (i ∷ is) b)
        (k (i ∷ is) b (h, t) (like (After i (λ js. Less js is)) (λ js. Less js (i ∷ is)) to back b q))
      where
        out : (js : List ℕ) → Tuple n (suc d) js → Less js (i ∷ is) ⊎ (js ≡ i ∷ is) → After i (λ js. Less js is ⊎ (js ≡ is)) js
        out [] h u = absurd h
        out (x ∷ js) h (inl (inl p)) = inl p
        out (x ∷ js) h (inl (inr p)) = inr (p.0, inl p.1)
        out (x ∷ js) h (inr e) = inr (cc, inr (cc))

        into : (js : List ℕ) → Tuple n (suc d) js → After i (λ js. Less js is ⊎ (js ≡ is)) js → Less js (i ∷ is) ⊎ (js ≡ i ∷ is)
        into [] h u = absurd h
        into (x ∷ js) h (inl p) = inl (inl p)
        into (x ∷ js) h (inr (e, inl p)) = inl (inr (e, p))
        into (x ∷ js) h (inr (e, inr e')) = inr (cc)

        to : (js : List ℕ) → Tuple n (suc d) js → After i (λ js. Less js is) js → Less js (i ∷ is)
        to [] h u = u
        to (x ∷ js) h u = u

        back : (js : List ℕ) → Tuple n (suc d) js → Less js (i ∷ is) → After i (λ js. Less js is) js
        back [] h u = u
        back (x ∷ js) h u = u

-- The settled trees stand in order.
abbrev pub Sorted : {k : ℕ} → List (Tree k) → Type 0
Sorted s = (i j : ℕ) → i < j → j < length s → at s i ≺ at s j

module _ {k : ℕ} (M : Machine k ℕ) (s : List (Tree k)) where
  abbrev pub New : ℕ → List ℕ → Type 0
  New l is = settled M s (run M (candidate s l is)) ≡ false

  -- What is kept after the candidates of W: none of them makes a new state, or an earliest one of those that do.
  unfoldable pub Kept : (ℕ → List ℕ → Type 0) → Best → Type 0
  Kept W nothing = (l : ℕ) (is : List ℕ) → Tuple (length s) k is → W l is → settled M s (run M (candidate s l is)) ≡ true
  Kept W (found l is) =
      Tuple (length s) k is × W l is × New l is
      × ((m : ℕ) (js : List ℕ) → Tuple (length s) k js → W m js → New m js → candidate s l is ⪯ candidate s m js)

  pub kept_same : (W Z : ℕ → List ℕ → Type 0)
      → ((l : ℕ) (is : List ℕ) → Tuple (length s) k is → W l is → Z l is) → ((l : ℕ) (is : List ℕ) → Tuple (length s) k is → Z l is → W l is)
      → (b : Best) → Kept W b → Kept Z b
  unfolding Kept
  kept_same W Z f g nothing h = λ l is t z. h l is t (g l is t z)
  kept_same W Z f g (found l is) h = (h.0, f l is h.0 h.1, h.2, λ m js t z. h.3 m js t (g m js t z))

  abbrev v : View k
  v = view M s

  weigh : (l : ℕ) (is : List ℕ) → positions (candidate s l is) ≡ suc (weight v is)
  unfolding positions view
  weigh l is = refl

  module _ (sorted : Sorted s) (l : ℕ) (is : List ℕ) (t : Tuple (length s) k is) where
    abbrev Met : ℕ → List ℕ → Type 0
    Met m js = Lex (m < l) (m ≡ l) (Less js is)

    abbrev Met' : ℕ → List ℕ → Type 0
    Met' m js = Lex (m < l) (m ≡ l) (Less js is ⊎ (js ≡ is))

    -- met earlier, and with no more positions: the earlier tree
    met-≺ : (m : ℕ) (js : List ℕ) → Met m js → weight v js ≤ weight v is → candidate s m js ≺ candidate s l is
    unfolding ◌≺◌ positions view
    met-≺ m js h w = elim (ℕ-tri (weight v js) (weight v is)) [
      | less p ↦ inl (omega arith)
      | same e ↦ inr (ap suc e, tied h)
      | more p ↦ absurd (omega arith)
    ]
      where
        tied : Met m js
            → Lex (m < l) (m ≡ l) ((b : Branch k) × ((c : Branch k) → c.number < b.number → at s (rank js c) ≡ at s (rank is c)) ×
            (at s (rank js b) ≺ at s (rank is b)))
        tied (inl p) = inl p
        tied (inr p) =
            let w = less-first (length s) k js is t p.1 in
            inr (
              p.0,
              (
                record { number = w.0; below = w.1 },
                (λ c h. ap (at s) (w.2 c.number h)),
                sorted (get_or js w.0 0) (get_or is w.0 0) w.3 (tuple-below (length s) k is t w.0 w.1),
              ),
            )

    lighter-≺ : (m : ℕ) (js : List ℕ) → weight v is < weight v js → candidate s l is ≺ candidate s m js
    unfolding ◌≺◌ positions view
    lighter-≺ m js h = inl (omega arith)

    still : (m : ℕ) (js : List ℕ) → Met m js → Met' m js
    still m js (inl p) = inl p
    still m js (inr p) = inr (p.0, inl p.1)

    -- what holds of those before, and of (l, is), holds of those up to it
    widen : (Q : ℕ → List ℕ → Type 0) → ((m : ℕ) (js : List ℕ) → Tuple (length s) k js → Met m js → Q m js) → Q l is → (m : ℕ) (js : List ℕ)
        → Tuple (length s) k js → Met' m js → Q m js
    widen Q f q m js h (inl p) = f m js h (inl p)
    widen Q f q m js h (inr (e, inl p)) = f m js h (inr (e, p))
    widen Q f q m js h (inr (e, inr e')) = rw (e, e') q

    kept-choose : (x y : Bool) (b : Best) → settled M s (run M (candidate s l is)) ≡ x → lighter v is b ≡ y → Kept Met b → Kept Met' (choose x y l is b)
    unfolding Kept choose lighter
    kept-choose true y nothing e f h = widen (λ l is. settled M s (run M (candidate s l is)) ≡ true) h e
    kept-choose true y (found a c) e f h = (
      h.0,
      still a c h.1,
      h.2,
      widen (λ m js. New m js → candidate s a c ⪯ candidate s m js) h.3 (λ g. absurd (true≢false (sym e ∙ g))),
    )
    kept-choose false true nothing e f h = (
      t,
      inr (refl, inr refl),
      e,
      widen (λ m js. New m js → candidate s l is ⪯ candidate s m js) (λ m js u w g. absurd (true≢false (sym (h m js u w) ∙ g))) (λ g. inr refl),
    )
    kept-choose false true (found a c) e f h = (
      t,
      inr (refl, inr refl),
      e,
      widen (λ m js. New m js → candidate s l is ⪯ candidate s m js)
          (λ m js u w g. ⪯-trans (candidate s l is) (candidate s a c) (candidate s m js) (inl (lighter-≺ a c (ltb-true (weight v is) (weight v c) f)))
          (h.3 m js u w g)) (λ g. inr refl),
    )
    kept-choose false false nothing e f h = absurd (true≢false f)
    kept-choose false false (found a c) e f h = (
      h.0,
      still a c h.1,
      h.2,
      widen (λ m js. New m js → candidate s a c ⪯ candidate s m js) h.3
          (λ g. inl (met-≺ a c h.1 (ltb-false (weight v is) (weight v c) f))),
    )

    kept-consider : (b : Best) → Kept Met b → Kept Met' (consider v l is b)
    unfolding consider view run
    kept-consider b h = kept-choose (settled M s (run M (candidate s l is))) (lighter v is b) b refl refl h

  module _ (sorted : Sorted s) where
    -- the loop over the labels
    kept_label : (l : ℕ) (b : Best) → Kept (λ m js. m < l) b → Kept (λ m js. m < suc l) (tuples (length s) k (consider v l) b)
    kept_label l b h =
        kept_same (λ m js. Lex (m < l) (m ≡ l) (Unit {0})) (λ m js. m < suc l) up down (tuples (length s) k (consider v l) b)
        (tuples_inv (length s) k (λ W. Kept (λ m js. Lex (m < l) (m ≡ l) (W js))) like (consider v l) (λ is b t. kept-consider sorted l is t b) b
        (kept_same (λ m js. m < l) (λ m js. Lex (m < l) (m ≡ l) ⊥) (λ m js t p. inl p) unbegun b h))
      where
        up : (m : ℕ) (js : List ℕ) → Tuple (length s) k js → Lex (m < l) (m ≡ l) (Unit {0}) → m < suc l
        up m js t (inl p) = omega arith
        up m js t (inr p) = omega arith

        down : (m : ℕ) (js : List ℕ) → Tuple (length s) k js → m < suc l → Lex (m < l) (m ≡ l) (Unit {0})
        down m js t p = elim (ℕ-tri m l) [ less q ↦ inl q | same e ↦ inr (e, tt) | more q ↦ absurd (omega arith) ]

        unbegun : (m : ℕ) (js : List ℕ) → Tuple (length s) k js → Lex (m < l) (m ≡ l) ⊥ → m < l
        unbegun m js t (inl p) = p
        unbegun m js t (inr p) = absurd p.1

        like : Same (length s) k (λ W. Kept (λ m js. Lex (m < l) (m ≡ l) (W js)))
        like W Z f g b h = kept_same (λ m js. Lex (m < l) (m ≡ l) (W js)) (λ m js. Lex (m < l) (m ≡ l) (Z js)) (onto W Z f) (onto Z W g) b h
          where
            onto : (W Z : List ℕ → Type 0) → ((is : List ℕ) → Tuple (length s) k is → W is → Z is) → (m : ℕ) (js : List ℕ) → Tuple (length s) k js
                → Lex (m < l) (m ≡ l) (W js) → Lex (m < l) (m ≡ l) (Z js)
            onto W Z f m js t (inl p) = inl p
            onto W Z f m js t (inr p) = inr (p.0, f js t p.1)

    pub picked : (labels : ℕ) → Kept (λ m js. m < labels) (pick labels (length s) v)
    unfolding pick Kept
    picked labels = loop_inv (λ l. Kept (λ m js. m < l)) (λ l. tuples (length s) k (consider v l)) labels (λ l b h. kept_label l b) nothing
        (λ l is t p. absurd (omega arith))
