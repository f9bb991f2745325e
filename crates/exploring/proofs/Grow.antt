-- Laws of exploration: what is found only grows, and what is visited stays visited. Assumes nothing.
use Rattle.words.proofs.Vocabulary.{ℕ, ◌≤◌, ◌<◌, ◌+◌, ◌-◌, suc, zero, true, false, ◌&&◌, cond, ◌≡◌, ◌∙◌, refl, sym, ap, ap₂, ⊎_elim, List, [], ◌∷◌, ◌++◌}
use Rattle.words.proofs.Vocabulary.{append_assoc, append-nil, some, Option, none, le-ltb, lt-ltb, ltb-true, ltb, length, get_or, dec_lt, add-zero, add-suc}
use Rattle.words.proofs.Vocabulary.{length-append, le_of_suc-le-suc, not-suc-le-zero, eq-or-lt_of_le, and-false, arith}
use Rattle.words.proofs.Any.{and_both}
use Rattle.layout.specs.Shape.{Each, nil, cons}
use Rattle.layout.proofs.Places.{each_head, each_tail, each_append, each_left, each_right, each_imp}
use Rattle.exploring.specs.Explore.{Visit, codes_at, are_below, insert, visit, visits, over, row, ring, rings}
use Rattle.exploring.proofs.Place.{Extends, extends_refl, extends_trans, extends_last, place_le, place_extends, place-last}
use Rattle.table.specs.Entry.{Step}
use Rattle.logic.specs.Reach.{position}

-- the second has the first's codes in front, or there were too many
pub data Grows : Option (List ℕ) → Option (List ℕ) → Type 0 where
  many : {o : Option (List ℕ)} → Grows o none
  longer : {cs ds : List ℕ} → Extends cs ds → Grows (some cs) (some ds)

pub grows_some : {cs ds : List ℕ} → Grows (some cs) (some ds) → Extends cs ds
grows_some (longer g) = g

pub grows_refl : (o : Option (List ℕ)) → Grows o o
grows_refl none = many
grows_refl (some cs) = longer (extends_refl cs)

pub grows_trans : {o p q : Option (List ℕ)} → Grows o p → Grows p q → Grows o q
grows_trans g many = many
grows_trans (longer g) (longer h) = longer (extends_trans g h)

-- ---- the codes of states
-- in two lists that have the same codes at them they are the same
pub codes_same : (n : ℕ) (cs ds : List ℕ) → ((i : ℕ) → i < n → get_or cs i 0 ≡ get_or ds i 0) → {is : List ℕ} → Each (λ (i : ℕ). i < n) is
    → codes_at cs is ≡ codes_at ds is
codes_same n cs ds h nil = refl
codes_same n cs ds h (cons p e) = ap₂ (λ (x : ℕ) (xs : List ℕ). x ∷ xs) (h _ p) (codes_same n cs ds h e)

pub are-below : (n : ℕ) {is : List ℕ} → Each (λ (i : ℕ). i < n) is → are_below n is ≡ true
are-below n nil = refl
are-below n (cons p e) = ap₂ ◌&&◌ (lt-ltb _ n p) (are-below n e)

pub each_below : (n : ℕ) (is : List ℕ) → are_below n is ≡ true → Each (λ (i : ℕ). i < n) is
each_below n [] e = nil
each_below n (i ∷ is) e = let b = and_both (ltb i n) (are_below n is) e in cons (ltb-true i n b.0) (each_below n is b.1)

-- the states are there, or there were too many
abbrev pub Long : List ℕ → Option (List ℕ) → Type 0
Long is none = Unit {0}
Long is (some cs) = Each (λ (i : ℕ). i < length cs) is

pub long-grows : (is : List ℕ) {o p : Option (List ℕ)} → Grows o p → Long is o → Long is p
long-grows is many h = tt
long-grows is (longer g) h = each_imp (λ i l. omega (arith, g.long)) h

-- ---- a code is put in: it is there, it is put last, or there is no room
pub data Inserted (c x : ℕ) (cs : List ℕ) : Option (List ℕ) → Type 0 where
  is-old : position x cs < length cs → Inserted c x cs (some cs)
  is_new : length cs ≤ position x cs → length cs < c → Inserted c x cs (some (cs ++ (x ∷ [])))
  no_room : length cs ≤ position x cs → c ≤ length cs → Inserted c x cs none

pub inserted : (c x : ℕ) (cs : List ℕ) → Inserted c x cs (insert c x cs)
unfolding insert
inserted c x cs = elim (dec_lt (position x cs) (length cs)) [
  | yes h ↦ rw (lt-ltb _ _ h) (is-old h)
  | no h ↦ let far : length cs ≤ position x cs = omega arith in rw (le-ltb _ _ far) (elim (dec_lt (length cs) c) [
    | yes r ↦ rw (lt-ltb _ _ r) (is_new far r)
    | no r ↦ let top : c ≤ length cs = omega arith in rw (le-ltb _ _ top) (no_room far top)
  ])
]

pub insert-grows : {c x : ℕ} {cs : List ℕ} {o : Option (List ℕ)} → Inserted c x cs o → Grows (some cs) o
insert-grows {cs = cs} (is-old h) = grows_refl (some cs)
insert-grows {x = x} {cs = cs} (is_new h r) = longer (extends_last x cs)
insert-grows (no_room h r) = many

-- it stands where it was looked for
pub insert-place : {c x : ℕ} {cs ds : List ℕ} → Inserted c x cs (some ds) → (position x ds ≡ position x cs) × (position x ds < length ds)
insert-place (is-old h) = (refl, h)
insert-place {x = x} {cs = cs} (is_new h r) =
    let e = place-last x cs h in
    (omega (arith, place_le x cs), omega (arith, length-append cs (x ∷ [])))

-- ---- visits
module _ (succ : Step) where
  -- a visit's states and the code that follows them are there, or there were too many
  abbrev pub Has : Visit → Option (List ℕ) → Type 0
  Has v none = Unit {0}
  Has v (some cs) = Each (λ (i : ℕ). i < length cs) v.states × (position (succ v.label (codes_at cs v.states)) cs < length cs)

  -- the code keeps its place
  pub has-place : (v : Visit) {cs ds : List ℕ} → Extends cs ds → Has v (some cs)
      → position (succ v.label (codes_at ds v.states)) ds ≡ position (succ v.label (codes_at cs v.states)) cs
  has-place v {cs} {ds} g h = rw (codes_same (length cs) ds cs g.same h.0) (place_extends _ g h.1)

  pub has-grows : (v : Visit) {o p : Option (List ℕ)} → Grows o p → Has v o → Has v p
  has-grows v many h = tt
  has-grows v (longer g) h = (each_imp (λ i l. omega (arith, g.long)) h.0, omega (arith, has-place v g h, h.1, g.long))

  module _ (c : ℕ) where
    pub visit-grows : (v : Visit) (o : Option (List ℕ)) → Grows o (visit succ c v o)
    unfolding visit
    visit-grows v none = many
    visit-grows v (some cs) =
        let x = succ v.label (codes_at cs v.states) in
        elim (are_below (length cs) v.states) as (λ b. Grows (some cs) (cond b (insert c x cs) (some cs))) [
          | true ↦ insert-grows (inserted c x cs)
          | false ↦ grows_refl (some cs)
        ]

    pub visits-grows : (vs : List Visit) (o : Option (List ℕ)) → Grows o (visits succ c vs o)
    unfolding visits
    visits-grows [] o = grows_refl o
    visits-grows (v ∷ vs) o = grows_trans (visit-grows v o) (visits-grows vs (visit succ c v o))

    pub visits-none : (vs : List Visit) → visits succ c vs none ≡ none
    unfolding visits visit
    visits-none [] = refl
    visits-none (v ∷ vs) = visits-none vs

    pub visits-append : (vs us : List Visit) (o : Option (List ℕ)) → visits succ c (vs ++ us) o ≡ visits succ c us (visits succ c vs o)
    unfolding visits
    visits-append [] us o = refl
    visits-append (v ∷ vs) us o = visits-append vs us (visit succ c v o)

    -- what is visited is there
    pub visit-has : (v : Visit) (o : Option (List ℕ)) → Long v.states o → Has v (visit succ c v o)
    unfolding visit
    visit-has v none h = tt
    visit-has v (some cs) h = rw (are-below (length cs) h) (from (inserted c _ cs) (insert-grows (inserted c _ cs)))
      where
        from : {o : Option (List ℕ)} → Inserted c (succ v.label (codes_at cs v.states)) cs o → Grows (some cs) o → Has v o
        from i many = tt
        from {o = some ds} i (longer g) = (long-grows v.states (longer g) h, rw (codes_same (length cs) ds cs g.same h) (insert-place i).1)

    pub visits-has : (vs : List Visit) (o : Option (List ℕ)) → Each (λ (v : Visit). Long v.states o) vs → Each (λ (v : Visit). Has v (visits succ c vs o)) vs
    unfolding visits
    visits-has [] o e = nil
    visits-has (v ∷ vs) o e =
        cons (has-grows v (visits-grows vs (visit succ c v o)) (visit-has v o (each_head e)))
        (visits-has vs (visit succ c v o) (each_imp (λ u h. long-grows u.states (visit-grows v o) h) (each_tail e)))

    -- ---- visits that find nothing new
    pub visits-idle : (cs : List ℕ) (vs : List Visit) → Each (λ (v : Visit). visit succ c v (some cs) ≡ some cs) vs → visits succ c vs (some cs) ≡ some cs
    unfolding visits
    visits-idle cs [] e = refl
    visits-idle cs (v ∷ vs) e = ap (visits succ c vs) (each_head e) ∙ visits-idle cs vs (each_tail e)

    -- what follows is there
    pub visit-old : (cs : List ℕ) (v : Visit) → Has v (some cs) → visit succ c v (some cs) ≡ some cs
    unfolding visit insert
    visit-old cs v h = rw (are-below (length cs) h.0, lt-ltb _ _ h.1)

    -- a state is not there
    pub visit_missing : (cs : List ℕ) (v : Visit) → are_below (length cs) v.states ≡ false → visit succ c v (some cs) ≡ some cs
    unfolding visit
    visit_missing cs v e = rw e

-- ---- rows and rings
-- two states, both ways
abbrev pub both : ℕ → ℕ → ℕ → List Visit
both l i k = over l i k ∷ over l k i ∷ []

-- a list that is put together index by index
module _ (xs f : ℕ → List Visit) (empty : xs 0 ≡ []) (next : (n : ℕ) → xs (suc n) ≡ xs n ++ f n) where
  pile_all : {P : Visit → Type 0} (n : ℕ) → ((i : ℕ) → i < n → Each P (f i)) → Each P (xs n)
  pile_all zero h = rw empty nil
  pile_all (suc n) h = rw next (each_append (pile_all n (λ i l. h i (omega arith))) (h n (omega arith)))

  pile_each : {P : Visit → Type 0} (n : ℕ) → Each P (xs n) → (i : ℕ) → i < n → Each P (f i)
  pile_each zero e i h = absurd (not-suc-le-zero h)
  pile_each (suc n) e i h =
      let d = rw next at e in
      ⊎_elim (λ (q : i ≡ n). rw q (each_right (xs n) d)) (λ (q : i < n). pile_each n (each_left (xs n) (f n) d) i q) (eq-or-lt_of_le (le_of_suc-le-suc h))

  pub pile_rest : (n d : ℕ) → (us : List Visit) × (xs (n + d) ≡ xs n ++ us)
  pile_rest n zero = ([], rw add-zero (sym (append-nil (xs n))))
  pile_rest n (suc d) = let z = pile_rest n d in (z.0 ++ f (n + d), rw (add-suc, next, z.1) (append_assoc (xs n) z.0 (f (n + d))))

module _ {P : Visit → Type 0} where
  pub row-all : (l k m : ℕ) → ((i : ℕ) → i < m → Each P (both l i k)) → Each P (row l k m)
  unfolding row
  row-all l k m h = pile_all (row l k) (λ i. both l i k) refl (λ n. refl) m h

  pub ring-all : (k m : ℕ) → ((l i : ℕ) → l < m → i ≤ k → Each P (both l i k)) → Each P (ring k m)
  unfolding ring
  ring-all k m h = pile_all (ring k) (λ l. row l k (suc k)) refl (λ n. refl) m (λ l hl. row-all l k (suc k) (λ i hi. h l i hl (omega arith)))

  pub ring-each : (k m : ℕ) → Each P (ring k m) → (l i : ℕ) → l < m → i ≤ k → Each P (both l i k)
  unfolding row ring
  ring-each k m e l i hl hi =
      pile_each (row l k) (λ i. both l i k) refl (λ n. refl) (suc k) (pile_each (ring k) (λ l. row l k (suc k)) refl (λ n. refl) m e l hl) i (omega arith)

  pub rings-all : (labels k : ℕ) → ((l i j : ℕ) → l < labels → P (over l i j)) → Each P (rings labels k)
  unfolding rings
  rings-all labels k h =
      pile_all (rings labels) (λ j. ring j labels) refl (λ n. refl) k (λ j hj. ring-all j labels (λ l i hl hi. cons (h l i j hl) (cons (h l j i hl) nil)))

  pub rings-each : (labels k : ℕ) → Each P (rings labels k) → (l i j : ℕ) → l < labels → i < k → j < k → P (over l i j)
  unfolding rings
  rings-each labels k e l i j hl hi hj =
      let r = pile_each (rings labels) (λ j. ring j labels) refl (λ n. refl) k e in
      elim (dec_lt i j) [
        | yes h ↦ each_head (ring-each j labels (r j hj) l i hl (omega arith))
        | no h ↦ each_head (each_tail (ring-each i labels (r i hi) l j hl (omega arith)))
      ]

-- there are no more than k states, or too many
abbrev pub Done : ℕ → Option (List ℕ) → Type 0
Done k none = Unit {0}
Done k (some cs) = length cs ≤ k

module _ (succ : Step) (c labels : ℕ) where
  -- a state that is not there has no turn
  ring_missing : {k : ℕ} (j : ℕ) (o : Option (List ℕ)) → k ≤ j → Done k o → visits succ c (ring j labels) o ≡ o
  ring_missing j none l h = visits-none succ c (ring j labels)
  ring_missing j (some cs) l h =
      let e = le-ltb j (length cs) (omega arith) in
      visits-idle succ c cs (ring j labels) (ring-all j labels (λ l i hl hi.
      cons (visit_missing succ c cs (over l i j) (rw (e, and-false))) (cons (visit_missing succ c cs (over l j i) (rw e)) nil)))

  -- the turns that are left find no code where all states had theirs, or there are too many
  pub rings-rest : (k d : ℕ) (o : Option (List ℕ)) → Done k (visits succ c (rings labels k) o)
      → visits succ c (rings labels (k + d)) o ≡ visits succ c (rings labels k) o
  unfolding rings
  rings-rest k zero o h = rw add-zero
  rings-rest k (suc d) o h =
      rw (add-suc, visits-append succ c (rings labels (k + d)) (ring (k + d) labels) o, rings-rest k d o h) (ring_missing (k + d) _ (omega arith) h)

  -- state m, if it is there, was paired with those up to it in its turn
  turn-has : (m k : ℕ) (o : Option (List ℕ)) (l n : ℕ) → m < k → l < labels → n ≤ m → Long (m ∷ []) (visits succ c (rings labels k) o)
      → Each (λ (v : Visit). Has succ v (visits succ c (rings labels k) o)) (both l n m)
  unfolding rings
  turn-has m k o l n hk hl hn a = each_imp (λ v h. has-grows succ v grown h) (from (visits succ c (rings labels m) o) refl)
    where
      grown : Grows (visits succ c (ring m labels) (visits succ c (rings labels m) o)) (visits succ c (rings labels k) o)
      grown =
          let s : suc m + (k - suc m) ≡ k = omega arith in
          let z = rw s at (pile_rest (rings labels) (λ j. ring j labels) refl (λ n. refl) (suc m) (k - suc m)) in
          rw (z.1, visits-append succ c (rings labels (suc m)) z.0 o, visits-append succ c (rings labels m) (ring m labels) o)
          (visits-grows succ c z.0 _)

      from : (q : Option (List ℕ)) → visits succ c (rings labels m) o ≡ q → Each (λ (v : Visit). Has succ v (visits succ c (ring m labels) q)) (both l n m)
      from none e = rw (visits-none succ c (ring m labels)) (cons tt (cons tt nil))
      from (some cs) e = elim (dec_lt m (length cs)) [
        | yes h ↦
            ring-each m labels (visits-has succ c (ring m labels) (some cs) (ring-all m labels (λ l i hl hi.
            let low : i < length cs = omega arith in cons (cons low (cons h nil)) (cons (cons h (cons low nil)) nil)))) l n hl hn
        | no h ↦
            let s : m + (k - m) ≡ k = omega arith in
            let z = each_head (rw ((rw s at (rings-rest m (k - m) o (rw e (omega arith)))) ∙ e) at a) in
            absurd (omega arith)
      ]

  -- the states below k that are there are paired with each other
  pub rings-has : (k : ℕ) (o : Option (List ℕ)) (l i j : ℕ) → l < labels → i < k → j < k → Long (i ∷ []) (visits succ c (rings labels k) o)
      → Long (j ∷ []) (visits succ c (rings labels k) o) → Has succ (over l i j) (visits succ c (rings labels k) o)
  rings-has k o l i j hl hi hj a b = elim (dec_lt i j) [
    | yes h ↦ each_head (turn-has j k o l i hj hl (omega arith) b)
    | no h ↦ each_head (each_tail (turn-has i k o l j hi hl (omega arith) a))
  ]
