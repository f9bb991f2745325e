-- The machines of an accepted rule's records: built one after the other, they are those of the records' formulas, and decide them.
-- Assumes nothing.
use Prim.Native.Nat.{ℕ, zero, suc, ◌+◌, ◌≤◌, ◌<◌}
use mathlib.Core.Path.{◌≡◌, refl, ap, ap₂, sym, subst, ◌∙◌}
use mathlib.Core.Logic.{◌↔◌, ⊎_elim}
use mathlib.Core.Bool.{Bool, true, false, ◌&&◌}
use mathlib.Core.List.{List, [], ◌∷◌, ◌++◌}
use native.Mathlib.Decide.{dec_lt}
use native.Mathlib.Nat.{add-zero, add-suc, suc-add, zero-add, not-suc-le-zero}
use native.Mathlib.Omega.{arith}
use borrow.Author.Tests.{ltb-true, ltb-false}
use lib.Dec.{T, eqb, ltb, ltb→lt}
use lib.ListN.{length, get_or, length-append, get_or-append}
use lib.Seq.{get_or-append_seam}
use Rattle.logic.specs.Rule.{Record, no_record, successor_at, formula_of, extend, formula_at, good, good_from, Accepted}
use Rattle.logic.specs.Meaning.{Formula, successor, root, negation, disjunction, conjunction, exists, Valid}
use Rattle.logic.specs.Reach.{elem}
use Rattle.logic.specs.ReachedRecords.{names_of, names_in, ReachedRecord, is_reached}
use Rattle.logic.specs.Table.{Table, table_by, kept_by, table_of, Built, over, built, admit, build_all, kind_of}
use Rattle.logic.proofs.Connectives.{and_iff}
use Rattle.logic.proofs.Orders.{less, same, more, ℕ-tri}
use Rattle.logic.proofs.Reach.{elem-none, elem-one, elem-two}
use Rattle.logic.proofs.ReachedRecords.{Earlier, reached_iff, reached-below}

pub and_both : (a b : Bool) → T (a && b) → T a × T b
and_both a b = (and_iff a b (λ t. t, λ t. t) (λ t. t, λ t. t)).0

-- one element more
pub get_or-snoc : {A : Type 0} (P : ℕ → A → Type 0) (z : A) (xs : List A) (x : A) → ((j : ℕ) → j < length xs → P j (get_or xs j z)) → P (length xs) x
    → (j : ℕ) → j < length (xs ++ (x ∷ [])) → P j (get_or (xs ++ (x ∷ [])) j z)
get_or-snoc P z xs x f p j h = elim (ℕ-tri j (length xs)) [
  | less l ↦ rw (get_or-append xs (x ∷ []) z j l) (f j l)
  | same e ↦ rw (e, get_or-append_seam xs x [] z) p
  | more l ↦ absurd (let a = length-append xs (x ∷ []) in omega arith)
]

pub snoc-length : {A : Type 0} (xs : List A) (x : A) → length (xs ++ (x ∷ [])) ≡ suc (length xs)
snoc-length xs x = length-append xs (x ∷ []) ∙ omega arith

pub extend-length : {k : ℕ} (rs : List Record) (fs : List (Formula k)) → length (extend fs rs) ≡ length fs + length rs
unfolding extend
extend-length [] fs = omega arith
extend-length (r ∷ rs) fs = extend-length rs (fs ++ (formula_of r fs ∷ [])) ∙ (let e = snoc-length fs (formula_of r fs) in omega arith)

-- what an earlier record's formula is does not change as further records follow
pub extend-keeps : {k : ℕ} (rs : List Record) (fs : List (Formula k)) (j : ℕ) → j < length fs → get_or (extend fs rs) j (root 0) ≡ get_or fs j (root 0)
unfolding extend
extend-keeps [] fs j h = refl
extend-keeps (r ∷ rs) fs j h =
    let e = snoc-length fs (formula_of r fs) in
    extend-keeps rs (fs ++ (formula_of r fs ∷ [])) j (omega arith) ∙ get_or-append fs (formula_of r fs ∷ []) (root 0) j h

-- whatever is kept of the machines
module _ (k : ℕ) (keep : Table k → Table k) (n c : ℕ) (used : ℕ → Bool) where
  pub tables_of : List (Formula k) → List (Table k)
  tables_of [] = []
  tables_of (f ∷ fs) = kept_by keep n f ∷ tables_of fs

  pub tables_at : (fs : List (Formula k)) (j : ℕ) → get_or (tables_of fs) j (kept_by keep n (root 0)) ≡ kept_by keep n (get_or fs j (root 0))
  unfolding tables_of
  tables_at [] j = refl
  tables_at (f ∷ fs) zero = refl
  tables_at (f ∷ fs) (suc j) = tables_at fs j

  -- of a formula that there is, whatever stands for the others
  pub tables_in : (fs : List (Formula k)) (j : ℕ) → j < length fs → (z : Table k) → get_or (tables_of fs) j z ≡ kept_by keep n (get_or fs j (root 0))
  unfolding tables_of
  tables_in [] j h z = absurd (not-suc-le-zero h)
  tables_in (f ∷ fs) zero h z = refl
  tables_in (f ∷ fs) (suc j) h z = tables_in fs j (omega arith) z

  tables_snoc : (fs : List (Formula k)) (f : Formula k) → tables_of (fs ++ (f ∷ [])) ≡ tables_of fs ++ (kept_by keep n f ∷ [])
  unfolding tables_of
  tables_snoc [] f = refl
  tables_snoc (g ∷ fs) f = ap (λ (ts : List (Table k)). kept_by keep n g ∷ ts) (tables_snoc fs f)

  tables_length : (fs : List (Formula k)) → length (tables_of fs) ≡ length fs
  unfolding tables_of
  tables_length [] = refl
  tables_length (f ∷ fs) = ap suc (tables_length fs)

  table-of : (fs : List (Formula k)) (op a b : ℕ)
      → table_of keep n (kind_of (record { op = op; first = a; second = b })) (tables_of fs) ≡ table_by keep n (formula_of (record { op = op; first = a; second = b }) fs)
  unfolding table_of kind_of formula_of table_by
  table-of fs zero a b = refl
  table-of fs (suc zero) a b = refl
  table-of fs (suc (suc zero)) a b = refl
  table-of fs (suc (suc (suc zero))) a b = refl
  table-of fs (suc (suc (suc (suc zero)))) a b = refl
  table-of fs (suc (suc (suc (suc (suc zero))))) a b = rw (tables_at fs a) refl
  table-of fs (suc (suc (suc (suc (suc (suc zero)))))) a b = rw (tables_at fs a, tables_at fs b) refl
  table-of fs (suc (suc (suc (suc (suc (suc (suc zero))))))) a b = rw (tables_at fs a, tables_at fs b) refl
  table-of fs (suc (suc (suc (suc (suc (suc (suc (suc zero)))))))) a b = rw (tables_at fs b) refl
  table-of fs (suc (suc (suc (suc (suc (suc (suc (suc (suc zero))))))))) a b = refl
  table-of fs (suc (suc (suc (suc (suc (suc (suc (suc (suc (suc op)))))))))) a b = refl

  abbrev CountAt : List (Formula k) → ℕ → ℕ
  CountAt fs i = (table_by keep n (get_or fs i (root 0))).count

  -- no formula of fs that is used has more than c states
  abbrev pub Roomed : List (Formula k) → Type 0
  Roomed fs = (i : ℕ) → i < length fs → T (used i) → CountAt fs i ≤ c

  -- what building says of the formulas fs
  unfoldable pub Says : List (Formula k) → Built k → Type 0
  Says fs (over r) = T (used r) × (c < CountAt fs r) × ((i : ℕ) → i < r → T (used i) → CountAt fs i ≤ c)
  Says fs (built ts) = (ts ≡ tables_of fs) × Roomed fs

  all-built : (fs : List (Formula k)) → Roomed fs → Says fs (built (tables_of fs))
  unfolding Says
  all-built fs h = (refl, h)

  -- one record more, of formula f and with the machine t
  module _ (rs : List Record) (fs : List (Formula k)) (h : Roomed fs) (f : Formula k) (t : Table k) (e : t ≡ table_by keep n f) where
    abbrev gs : List (Formula k)
    gs = fs ++ (f ∷ [])

    longer : length gs ≡ suc (length fs)
    longer = snoc-length fs f

    old : (i : ℕ) → i < length fs → get_or (extend gs rs) i (root 0) ≡ get_or fs i (root 0)
    old i l = extend-keeps rs gs i (let a = longer in omega arith) ∙ get_or-append fs (f ∷ []) (root 0) i l

    new : get_or (extend gs rs) (length fs) (root 0) ≡ f
    new = extend-keeps rs gs (length fs) (let a = longer in omega arith) ∙ get_or-append_seam fs f [] (root 0)

    admit-says : (i y : ℕ) → i ≡ length fs → (c < y → c < t.count) → (y ≤ c → t.count ≤ c)
        → (Roomed gs → Says (extend gs rs) (build_all keep n c used rs (tables_of gs)))
        → Says (extend gs rs) (admit (used i && ltb c y) (keep t) (build_all keep n c used rs) (tables_of fs))
    unfolding Says admit
    admit-says i y here many few ih = rw here (go (used (length fs)) (ltb c y) refl refl)
      where
        on : (T (used (length fs)) → t.count ≤ c) → Says (extend gs rs) (build_all keep n c used rs (tables_of fs ++ (keep t ∷ [])))
        on room = rw (e, ← tables_snoc fs f)
            (ih (get_or-snoc (λ i g. T (used i) → (table_by keep n g).count ≤ c) (root 0) fs f h (λ w. subst (λ (a : Table k). a.count ≤ c) e (room w))))

        go : (u v : Bool) → used (length fs) ≡ u → ltb c y ≡ v → Says (extend gs rs) (admit (u && v) (keep t) (build_all keep n c used rs) (tables_of fs))
        go true true p q = rw (tables_length fs) (
          rw p tt,
          subst (λ (g : Formula k). c < (table_by keep n g).count) (sym new) (subst (λ (a : Table k). c < a.count) e (many (ltb-true c y q))),
          λ i l w. subst (λ (g : Formula k). (table_by keep n g).count ≤ c) (sym (old i l)) (h i l w),
        )
        go true false p q = on (λ w. few (ltb-false c y q))
        go false v p q = on (λ w. absurd (rw p at w))

  build-says : (rs : List Record) (fs : List (Formula k)) → Roomed fs → Says (extend fs rs) (build_all keep n c used rs (tables_of fs))
  unfolding build_all extend
  build-says [] fs h = all-built fs h
  build-says (r ∷ rs) fs h =
      let f : Formula k = formula_of r fs in
      let t : Table k = table_of keep n (kind_of r) (tables_of fs) in
      admit-says rs fs h f t (table-of fs r.op r.first r.second) _ _
      (let e = tables_length fs in omega arith) (λ l. omega arith) (λ l. omega arith) (build-says rs (fs ++ (f ∷ [])))

  pub built-says : (rs : List Record) → Says (extend [] rs) (build_all keep n c used rs [])
  unfolding tables_of
  built-says rs = build-says rs [] (λ i h. absurd (not-suc-le-zero h))

module _ (k n : ℕ) where
  abbrev AllValid : List (Formula k) → Type 0
  AllValid fs = (j : ℕ) → j < length fs → Valid n (get_or fs j (root 0))

  successor-valid : (i x y : ℕ) → T (ltb i k && (ltb x n && ltb y n)) → Valid n (successor_at {k = k} i x y)
  unfolding successor_at Valid
  successor-valid i x y t =
      let w = and_both (ltb i k) (ltb x n && ltb y n) t in
      let u = and_both (ltb x n) (ltb y n) w.1 in
      elim (dec_lt i k) as (λ d. Valid {k = k} n (elim d as (λ _. Formula k) [ yes h ↦ successor (record { number = i; below = h }) x y | no h ↦ root 0 ]))
      [ yes h ↦ (ltb→lt x n u.0, ltb→lt y n u.1) | no h ↦ absurd (h (ltb→lt i k w.0)) ]

  module _ (fs : List (Formula k)) (valid : AllValid fs) where
    at_valid : (a : ℕ) → T (ltb a (length fs)) → Valid n (get_or fs a (root 0))
    at_valid a t = valid a (ltb→lt a (length fs) t)

    of_good : (op a b : ℕ) → T (good k n (length fs) (record { op = op; first = a; second = b }))
        → Valid n (formula_of (record { op = op; first = a; second = b }) fs)
    unfolding good formula_of Valid
    of_good zero a b t = let w = and_both (ltb a n) (ltb b n) t in (ltb→lt a n w.0, ltb→lt b n w.1)
    of_good (suc zero) a b t = ltb→lt a n (and_both (ltb a n) (eqb b 0) t).0
    of_good (suc (suc zero)) a b t = successor-valid 0 a b t
    of_good (suc (suc (suc zero))) a b t = successor-valid 1 a b t
    of_good (suc (suc (suc (suc zero)))) a b t = ltb→lt a n (and_both (ltb a n) (eqb b 0) t).0
    of_good (suc (suc (suc (suc (suc zero))))) a b t = at_valid a (and_both (ltb a (length fs)) (eqb b 0) t).0
    of_good (suc (suc (suc (suc (suc (suc zero)))))) a b t =
        let w = and_both (ltb a (length fs)) (ltb b (length fs)) t in (at_valid a w.0, at_valid b w.1)
    of_good (suc (suc (suc (suc (suc (suc (suc zero))))))) a b t =
        let w = and_both (ltb a (length fs)) (ltb b (length fs)) t in (at_valid a w.0, at_valid b w.1)
    of_good (suc (suc (suc (suc (suc (suc (suc (suc zero)))))))) a b t =
        let w = and_both (ltb a n) (ltb b (length fs)) t in (ltb→lt a n w.0, at_valid b w.1)
    of_good (suc (suc (suc (suc (suc (suc (suc (suc (suc zero))))))))) a b t = successor-valid 2 a b t
    of_good (suc (suc (suc (suc (suc (suc (suc (suc (suc (suc op)))))))))) a b t = absurd t

  extend-valid : (rs : List Record) (fs : List (Formula k)) → T (good_from k n (length fs) rs) → AllValid fs → AllValid (extend fs rs)
  unfolding good_from extend
  extend-valid [] fs t vs = vs
  extend-valid (r ∷ rs) fs t vs =
      let w = and_both (good k n (length fs) r) (good_from k n (suc (length fs)) rs) t in
      let f : Formula k = formula_of r fs in
      extend-valid rs (fs ++ (f ∷ [])) (rw (snoc-length fs f) w.1)
      (get_or-snoc (λ j x. Valid n x) (root 0) fs f vs (of_good fs vs r.op r.first r.second w.0))

pub record_valid : (k n : ℕ) (rs : List Record) → T (good_from k n 0 rs) → (i : ℕ) → i < length rs → Valid {k = k} n (formula_at rs i)
unfolding formula_at
record_valid k n rs g i h = extend-valid k n rs [] g (λ j l. absurd (not-suc-le-zero l)) i (let e = extend-length {k = k} rs [] in omega arith)

module _ (k n : ℕ) where
  good_at : (es : List Record) (i : ℕ) → T (good_from k n i es) → (j : ℕ) → j < length es → T (good k n (i + j) (get_or es j no_record))
  unfolding good_from
  good_at [] i t j h = absurd (not-suc-le-zero h)
  good_at (e ∷ es) i t zero h = rw add-zero (and_both (good k n i e) (good_from k n (suc i) es) t).0
  good_at (e ∷ es) i t (suc j) h = rw (add-suc, ← suc-add) (good_at es (suc i) (and_both (good k n i e) (good_from k n (suc i) es) t).1 j (omega arith))

  pub good-here : (rs : List Record) (r : ℕ) → T (good_from k n 0 rs) → r < length rs → T (good k n r (get_or rs r no_record))
  good-here rs r t h = rw zero-add at (good_at rs 0 t r h)

  -- a good record names earlier ones only
  names-earlier : (r op a b i : ℕ) → T (good k n r (record { op = op; first = a; second = b }))
      → T (elem i (names_of (record { op = op; first = a; second = b }))) → i < r
  unfolding good names_of
  names-earlier r zero a b i t u = absurd (elem-none i u)
  names-earlier r (suc zero) a b i t u = absurd (elem-none i u)
  names-earlier r (suc (suc zero)) a b i t u = absurd (elem-none i u)
  names-earlier r (suc (suc (suc zero))) a b i t u = absurd (elem-none i u)
  names-earlier r (suc (suc (suc (suc zero)))) a b i t u = absurd (elem-none i u)
  names-earlier r (suc (suc (suc (suc (suc zero))))) a b i t u =
      let h = ltb→lt a r (and_both (ltb a r) (eqb b 0) t).0 in let e = elem-one i _ u in omega arith
  names-earlier r (suc (suc (suc (suc (suc (suc zero)))))) a b i t u =
      let w = and_both (ltb a r) (ltb b r) t in
      let h = ltb→lt a r w.0 in let g = ltb→lt b r w.1 in ⊎_elim (λ e. omega arith) (λ e. omega arith) (elem-two i _ _ u)
  names-earlier r (suc (suc (suc (suc (suc (suc (suc zero))))))) a b i t u =
      let w = and_both (ltb a r) (ltb b r) t in
      let h = ltb→lt a r w.0 in let g = ltb→lt b r w.1 in ⊎_elim (λ e. omega arith) (λ e. omega arith) (elem-two i _ _ u)
  names-earlier r (suc (suc (suc (suc (suc (suc (suc (suc zero)))))))) a b i t u =
      let h = ltb→lt b r (and_both (ltb a n) (ltb b r) t).1 in let e = elem-one i _ u in omega arith
  names-earlier r (suc (suc (suc (suc (suc (suc (suc (suc (suc zero))))))))) a b i t u = absurd (elem-none i u)
  names-earlier r (suc (suc (suc (suc (suc (suc (suc (suc (suc (suc op)))))))))) a b i t u = absurd (elem-none i u)

  pub rule-earlier : (rs : List Record) → T (good_from k n 0 rs) → Earlier (names_in rs) (length rs)
  rule-earlier rs g r h i u = let e : Record = get_or rs r no_record in names-earlier r e.op e.first e.second i (good-here rs r g h) u

  -- so the marks are those of the records that are reached, which are records of the rule
  module _ (rs : List Record) (ok : Accepted k n rs) where
    pub rule-reached : (r : ℕ) → T (is_reached (names_in rs) (length rs) r) ↔ ReachedRecord rs r
    rule-reached = reached_iff (names_in rs) (length rs) (rule-earlier rs ok.1) ok.0

    pub reached-within : (r : ℕ) → ReachedRecord rs r → r < length rs
    reached-within r u = reached-below (names_in rs) (length rs) r ((rule-reached r).1 u)

module _ (k n : ℕ) where
  -- a good record's formula reads only the earlier ones
  module _ (fs gs : List (Formula k)) (same : (j : ℕ) → j < length fs → get_or fs j (root 0) ≡ get_or gs j (root 0)) where
    of_same : (op a b : ℕ) → T (good k n (length fs) (record { op = op; first = a; second = b }))
        → formula_of (record { op = op; first = a; second = b }) fs ≡ formula_of (record { op = op; first = a; second = b }) gs
    unfolding good formula_of
    of_same zero a b t = refl
    of_same (suc zero) a b t = refl
    of_same (suc (suc zero)) a b t = refl
    of_same (suc (suc (suc zero))) a b t = refl
    of_same (suc (suc (suc (suc zero)))) a b t = refl
    of_same (suc (suc (suc (suc (suc zero))))) a b t = ap negation (same a (ltb→lt a (length fs) (and_both (ltb a (length fs)) (eqb b 0) t).0))
    of_same (suc (suc (suc (suc (suc (suc zero)))))) a b t = let w = and_both (ltb a (length fs)) (ltb b (length fs)) t in ap₂ disjunction
        (same a (ltb→lt a (length fs) w.0)) (same b (ltb→lt b (length fs) w.1))
    of_same (suc (suc (suc (suc (suc (suc (suc zero))))))) a b t = let w = and_both (ltb a (length fs)) (ltb b (length fs)) t in ap₂ conjunction
        (same a (ltb→lt a (length fs) w.0)) (same b (ltb→lt b (length fs) w.1))
    of_same (suc (suc (suc (suc (suc (suc (suc (suc zero)))))))) a b t =
        ap (exists a) (same b (ltb→lt b (length fs) (and_both (ltb a n) (ltb b (length fs)) t).1))
    of_same (suc (suc (suc (suc (suc (suc (suc (suc (suc zero))))))))) a b t = refl
    of_same (suc (suc (suc (suc (suc (suc (suc (suc (suc (suc op)))))))))) a b t = absurd t

  extend_at : (rs : List Record) (fs : List (Formula k)) → T (good_from k n (length fs) rs) → (j : ℕ) → j < length rs
      → get_or (extend fs rs) (length fs + j) (root 0) ≡ formula_of (get_or rs j no_record) (extend fs rs)
  unfolding extend good_from
  extend_at [] fs t j h = absurd (not-suc-le-zero h)
  extend_at (r ∷ rs) fs t zero h =
      let w = and_both (good k n (length fs) r) (good_from k n (suc (length fs)) rs) t in
      let f : Formula k = formula_of r fs in
      let l = snoc-length fs f in
      ap (λ (j : ℕ). get_or (extend (fs ++ (f ∷ [])) rs) j (root 0)) (omega arith)
      ∙ extend-keeps rs (fs ++ (f ∷ [])) (length fs) (omega arith) ∙ get_or-append_seam fs f [] (root 0)
      ∙ of_same fs (extend (fs ++ (f ∷ [])) rs)
      (λ j q. sym (extend-keeps rs (fs ++ (f ∷ [])) j (omega arith) ∙ get_or-append fs (f ∷ []) (root 0) j q)) r.op r.first r.second w.0
  extend_at (r ∷ rs) fs t (suc j) h =
      let w = and_both (good k n (length fs) r) (good_from k n (suc (length fs)) rs) t in
      let f : Formula k = formula_of r fs in
      let l = snoc-length fs f in
      ap (λ (i : ℕ). get_or (extend (fs ++ (f ∷ [])) rs) i (root 0)) (omega arith) ∙ extend_at rs (fs ++ (f ∷ [])) (rw l w.1) j (omega arith)

  -- record i of an accepted rule holds as its op says, of the records that it names
  pub record_formula : (rs : List Record) → T (good_from k n 0 rs) → (i : ℕ) → i < length rs
      → formula_at {k = k} rs i ≡ formula_of (get_or rs i no_record) (extend [] rs)
  unfolding formula_at
  record_formula rs g i h = ap (λ (j : ℕ). get_or (extend [] rs) j (root 0)) (omega arith) ∙ extend_at rs [] g i h
