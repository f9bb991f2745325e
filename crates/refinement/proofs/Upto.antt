-- The builder's outcome for all records of a rule: refusal 14, or the machine of the last one. Assumes nothing.
use Rattle.words.proofs.Vocabulary.{ℕ, ◌≤◌, ◌<◌, suc, zero, Bool, true, false, cond, ◌&&◌, ◌≡◌, ◌∙◌, refl, sym, ap, subst, ◌↔◌, List, [], ◌∷◌, ◌++◌}
use Rattle.words.proofs.Vocabulary.{some, Option, none, eqb, ltb, T, ltb→lt, length, get_or, length-append, dec_lt, not-suc-le-zero, arith}
use Rattle.layout.specs.Shape.{Shaped, shape_of}
use Rattle.records.specs.Decode.{bit_weight, decoded_of}
use Rattle.logic.specs.Meaning.{Branch, Formula, successor, root, Valid}
use Rattle.logic.specs.Rule.{no_record, Record, formula_of, formula_at, extend, good, successor_at, Accepted}
use Rattle.logic.specs.Reach.{elem}
use Rattle.logic.specs.ReachedRecords.{named, names_of, names_in, ReachedRecord, is_reached}
use Rattle.logic.specs.Two.{one, two}
use Rattle.logic.specs.Claims.{Roomy, states_at, FirstOver}
use Rattle.logic.proofs.Branches.{branch_same}
use Rattle.logic.proofs.Connectives.{and_iff}
use Rattle.logic.proofs.Reach.{elem-first, elem-second}
use Rattle.logic.proofs.ReachedRecords.{reached_cong}
use Rattle.logic.proofs.Rules.{record_valid, record_formula, good-here, rule-earlier, rule-reached, reached-within, get_or-snoc}
use Rattle.table.specs.Succ.{start_code, kind_code}
use Rattle.records.specs.Rule.{Mach, no_mach, machine_of, no_decoded}
use Rattle.records.specs.declared.Decoded.{Decoded}
use Rattle.joining.specs.Joining.{joined_of}
use Rattle.building.specs.Named.{named_of as decoded_names, named_in as decoded_names_in, used_in}
use Rattle.building.specs.Build.{Progress, built, over, more, after, passed, upto}
use Rattle.refinement.proofs.Atoms.{atom-subset, atom-single, atom-root, atom_first, atom_second}
use Rattle.refinement.proofs.Records.{GoodJoined, Makes, good-few, large-many, explored, complemented, either-pair, both-pair, some-set, joined}

both_of : (a b : Bool) → T (a && b) → T a × T b
both_of a b = (and_iff a b (λ t. t, λ t. t) (λ t. t, λ t. t)).0

-- what `good` tests of a record's fields
pub lt_first : (a m : ℕ) (v : Bool) → T (ltb a m && v) → a < m
lt_first a m v t = ltb→lt a m (both_of (ltb a m) v t).0

pub lt_both : (a b m k : ℕ) → T (ltb a m && ltb b k) → (a < m) × (b < k)
lt_both a b m k t = let w = both_of (ltb a m) (ltb b k) t in (ltb→lt a m w.0, ltb→lt b k w.1)

child_at : (b : Branch 2) (x y : ℕ) → successor_at {k = 2} b.number x y ≡ successor b x y
unfolding successor_at
child_at b x y =
    elim (dec_lt b.number 2)
    as (λ d. elim d as (λ _. Formula 2) [ yes h ↦ successor (record { number = b.number; below = h }) x y | no h ↦ root 0 ] ≡ successor b x y)
    [ yes h ↦ ap (λ (b : Branch 2). successor b x y) (branch_same (record { number = b.number; below = h }) b refl) | no h ↦ absurd (h b.below) ]

-- a record names what its decoded form names
names-decoded : (n op a b : ℕ)
    → let e : Record = record { op = op; first = a; second = b } in decoded_names (decoded_of n e) ≡ names_of e
unfolding decoded_of names_of
names-decoded n zero a b = refl
names-decoded n (suc zero) a b = refl
names-decoded n (suc (suc zero)) a b = refl
names-decoded n (suc (suc (suc zero))) a b = refl
names-decoded n (suc (suc (suc (suc zero)))) a b = refl
names-decoded n (suc (suc (suc (suc (suc zero))))) a b = refl
names-decoded n (suc (suc (suc (suc (suc (suc zero)))))) a b = refl
names-decoded n (suc (suc (suc (suc (suc (suc (suc zero))))))) a b = refl
names-decoded n (suc (suc (suc (suc (suc (suc (suc (suc zero)))))))) a b = refl
names-decoded n (suc (suc (suc (suc (suc (suc (suc (suc (suc op))))))))) a b = refl

-- a rule, and the builder's records of it
module _ (n c : ℕ) (sh : Shaped (shape_of n c)) (rs : List Record) (acc : Accepted 2 n rs) (xs : List Decoded)
    (decoded : (r : ℕ) → r < length rs → get_or xs r no_decoded ≡ decoded_of n (get_or rs r no_record)) where
  abbrev GoodAt : ℕ → Mach → Type 0
  GoodAt j m = GoodJoined n c (formula_at rs j) m

  -- which records are reached, as the builder has it, and as the rule has it
  abbrev used : ℕ → Bool
  used = used_in xs (length rs)

  used-same : (i : ℕ) → used i ≡ is_reached (names_in rs) (length rs) i
  used-same =
      reached_cong (decoded_names_in xs) (names_in rs) (length rs)
      (λ r h. let e : Record = get_or rs r no_record in ap decoded_names (decoded r h) ∙ names-decoded n e.op e.first e.second)

  pub used_iff : (i : ℕ) → T (used i) ↔ ReachedRecord rs i
  used_iff i = subst (λ (v : Bool). T v ↔ ReachedRecord rs i) (sym (used-same i)) (rule-reached 2 n rs acc i)

  -- record r, whose parts' machines are good
  module _ (r : ℕ) (hr : r < length rs) (ns : List Mach) where
    abbrev at : ℕ → Mach
    at j = get_or ns j no_mach

    abbrev MakesAs : Formula 2 → Decoded → Type 0
    MakesAs F x = Makes n c F (machine_of (shape_of n c) x (at x.first) (at x.second))

    abbrev dec : ℕ → ℕ → ℕ → Decoded
    dec op a b = decoded_of n (record { op = op; first = a; second = b })

    valid : (j : ℕ) → j < r → Valid {k = 2} n (formula_at rs j)
    valid j h = record_valid 2 n rs acc.1 j (omega arith)

    by_op : (op a b : ℕ) → T (good 2 n r (record { op = op; first = a; second = b }))
        → ((j : ℕ) → T (elem j (names_of (record { op = op; first = a; second = b }))) → GoodAt j (at j))
        → MakesAs (formula_of (record { op = op; first = a; second = b }) (extend [] rs)) (dec op a b)
    unfolding good formula_of decoded_of formula_at machine_of start_code kind_code names_of
    by_op zero a b t parts = let w = lt_both a b n n t in explored n c sh (dec 0 a b) (at a) (at b) (atom-subset n a b w.0 w.1)
    by_op (suc zero) a b t parts = explored n c sh (dec 1 a b) (at a) (at b) (atom-single n a b (lt_first a n (eqb b 0) t))
    by_op (suc (suc zero)) a b t parts =
        let w = lt_both a b n n t in explored n c sh (dec 2 a b) (at a) (at b) (rw (child_at one a b) (atom_first n a b w.0 w.1))
    by_op (suc (suc (suc zero))) a b t parts =
        let w = lt_both a b n n t in explored n c sh (dec 3 a b) (at a) (at b) (rw (child_at two a b) (atom_second n a b w.0 w.1))
    by_op (suc (suc (suc (suc zero)))) a b t parts = explored n c sh (dec 4 a b) (at a) (at b) (atom-root n a b (lt_first a n (eqb b 0) t))
    by_op (suc (suc (suc (suc (suc zero))))) a b t parts = complemented n c sh (parts a (elem-first a []))
    by_op (suc (suc (suc (suc (suc (suc zero)))))) a b t parts =
        let w = lt_both a b r r t in
        explored n c sh (dec 6 a b) (at a) (at b)
        (either-pair n c sh (parts a (elem-first a (b ∷ []))) (parts b (elem-second a b)) (valid a w.0) (valid b w.1) (bit_weight n a) (bit_weight n b))
    by_op (suc (suc (suc (suc (suc (suc (suc zero))))))) a b t parts =
        let w = lt_both a b r r t in
        explored n c sh (dec 7 a b) (at a) (at b)
        (both-pair n c sh (parts a (elem-first a (b ∷ []))) (parts b (elem-second a b)) (valid a w.0) (valid b w.1) (bit_weight n a) (bit_weight n b))
    by_op (suc (suc (suc (suc (suc (suc (suc (suc zero)))))))) a b t parts =
        let w = lt_both a b n r t in
        explored n c sh (dec 8 a b) (at b) (at b) (some-set n c sh (parts b (elem-first b [])) (valid b w.1) (at b) a (bit_weight n b) w.0)
    by_op (suc (suc (suc (suc (suc (suc (suc (suc (suc zero))))))))) a b t parts = absurd t
    by_op (suc (suc (suc (suc (suc (suc (suc (suc (suc (suc op)))))))))) a b t parts = absurd t

    -- what the builder makes of record r
    makes : ((j : ℕ) → T (elem j (names_in rs r)) → GoodAt j (at j)) → MakesAs (formula_at rs r) (get_or xs r no_decoded)
    makes parts =
        let e : Record = get_or rs r no_record in
        rw (decoded r hr, record_formula 2 n rs acc.1 r hr) (by_op e.op e.first e.second (good-here 2 n rs r acc.1 hr) parts)

  -- record r has room, and its machine is kept joined
  abbrev pub KeptAt : ℕ → Mach → Type 0
  KeptAt r m = GoodAt r m × (states_at 2 n rs r ≤ c)

  -- what the outcome for the first m records says
  unfoldable pub Linked : ℕ → Progress → Type 0
  Linked m (built ms) = (length ms ≡ m) × ((r : ℕ) → r < m → T (used r) → KeptAt r (get_or ms r no_mach))
  Linked m (over k) = FirstOver 2 n rs c k

  few-states : (m : ℕ) (ns : List Mach) → ((r : ℕ) → r < m → T (used r) → KeptAt r (get_or ns r no_mach))
      → (i : ℕ) → i < m → ReachedRecord rs i → states_at 2 n rs i ≤ c
  few-states m ns h i l u = (h i l ((used_iff i).1 u)).1

  module _ (m : ℕ) (hm : suc m ≤ length rs) (ns : List Mach) (h : Linked m (built ns)) where
    -- one record more, with this machine
    longer : (mach : Mach) → (T (used m) → KeptAt m mach) → Linked (suc m) (built (ns ++ (mach ∷ [])))
    unfolding Linked
    longer mach w =
        let e = h.0 in
        let d = length-append ns (mach ∷ []) in (
          d ∙ omega arith,
          λ r l. get_or-snoc (λ (j : ℕ) (x : Mach). T (used j) → KeptAt j x) no_mach ns mach (λ j q. h.1 j (omega arith)) (rw e w) r (omega arith),
        )

    -- a record that is reached
    next-linked : T (used m) → Linked (suc m) (after (shape_of n c) m (get_or xs m no_decoded) (built ns))
    unfolding Linked after
    next-linked here = go (machine_of (shape_of n c) x (get_or ns x.first no_mach) (get_or ns x.second no_mach)) (makes m hm ns parts)
      where
        x : Decoded
        x = get_or xs m no_decoded

        -- what it names is reached, and comes before it
        parts : (j : ℕ) → T (elem j (names_in rs m)) → GoodAt j (get_or ns j no_mach)
        parts j e = (h.1 j (rule-earlier 2 n rs acc.1 m hm j e) ((used_iff j).1 (named m j ((used_iff m).0 here) e))).0

        ok : Valid {k = 2} n (formula_at rs m)
        ok = record_valid 2 n rs acc.1 m hm

        go : (o : Option Mach) → Makes n c (formula_at rs m) o → Linked (suc m) (more (shape_of n c) m ns o)
        go none w = ((used_iff m).0 here, large-many ok w, few-states m ns h.1)
        go (some mach) w = longer (joined_of (shape_of n c) mach) (λ u. (joined n c sh ok w, good-few ok w))

    -- a leftover
    passed-linked : (T (used m) → ⊥) → Linked (suc m) (passed (built ns))
    unfolding passed
    passed-linked bare = longer no_mach (λ u. absurd (bare u))

  -- THE BUILDER: its outcome is the machines of the records that are reached, or the first of them with more than c states
  pub linked : (m : ℕ) → m ≤ length rs → Linked m (upto xs used (shape_of n c) m)
  unfolding Linked upto after passed
  linked zero h = (refl, λ r l u. absurd (not-suc-le-zero l))
  linked (suc m) h = go (upto xs used (shape_of n c) m) (linked m (omega arith)) (used m) refl
    where
      go : (o : Progress) → Linked m o → (v : Bool) → used m ≡ v
          → Linked (suc m) (cond v (after (shape_of n c) m (get_or xs m no_decoded) o) (passed o))
      go (over k) w true e = w
      go (over k) w false e = w
      go (built ns) w true e = next-linked m h ns w (subst T (sym e) tt)
      go (built ns) w false e = passed-linked m h ns w (λ u. subst T e u)

  -- refusal 14 names its first record with too many states
  pub first-over : (r : ℕ) → upto xs used (shape_of n c) (length rs) ≡ over r → FirstOver 2 n rs c r
  unfolding Linked
  first-over r e = subst (Linked (length rs)) e (linked (length rs) (omega arith))

  -- and else every record that is reached has its machine
  module _ (ms : List Mach) (e : upto xs used (shape_of n c) (length rs) ≡ built ms) where
    all-used : (r : ℕ) → r < length rs → T (used r) → KeptAt r (get_or ms r no_mach)
    unfolding Linked
    all-used = (subst (Linked (length rs)) e (linked (length rs) (omega arith))).1

    pub all-good : (r : ℕ) → ReachedRecord rs r → GoodAt r (get_or ms r no_mach)
    all-good r u = (all-used r (reached-within 2 n rs acc r u) ((used_iff r).1 u)).0

    pub roomy : Roomy 2 n rs c
    roomy r u = few-states (length rs) ms all-used r (reached-within 2 n rs acc r u) u
