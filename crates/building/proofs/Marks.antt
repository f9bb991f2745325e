-- Marks, put from the last record down, are those of the records that are reached. Assumes nothing.
use Rattle.words.proofs.Vocabulary.{ℕ, ◌≤◌, ◌<◌, ◌-◌, suc, zero, ◌≡◌, ◌∙◌, refl, sym, ap, subst, Bool, true, false, List, [], ◌∷◌, T, length, get_or, set}
use Rattle.words.proofs.Vocabulary.{length-set, get_or-set_other, get_or-set_same, ⊎_elim, inl, inr, ◌↔◌, ◌⊎◌, eq-or-lt_of_le, add-one, cond, ◌+◌, arith}
use lib.ListN.{replicate}
use Rattle.logic.specs.Reach.{elem}
use Rattle.logic.specs.ReachedRecords.{ReachedFrom, itself, named}
use Rattle.logic.proofs.Orders.{less, same, more, ℕ-tri}
use Rattle.logic.proofs.Reach.{elem-cons, elem-none, elem-one, elem-two, elem-first, elem-second}
use Rattle.logic.proofs.ReachedRecords.{Earlier, reached_iff, reached-below, reached-parts}
use Rattle.ops.specs.declared.Op.{Op}
use Rattle.ops.specs.declared.Op.TheVariants.{Subset, Single, Child1, Child2, Root, Not, Or, And, Exists}
use Rattle.records.specs.Rule.{OfParts, no_decoded}
use Rattle.records.specs.declared.Decoded.{Decoded}
use Rattle.building.specs.Named.{named_by, named_in, used_in, InOrder, marked, Marks, MarksClosed, marking, next_of}

-- ---- the parts that a record names
pub named-all : (k : Op) (a b : ℕ) (P : ℕ → Type 0) → OfParts k (P a) (P b) → (i : ℕ) → T (elem i (named_by k a b)) → P i
named-all Subset a b P h i t = absurd (elem-none i t)
named-all Single a b P h i t = absurd (elem-none i t)
named-all Child1 a b P h i t = absurd (elem-none i t)
named-all Child2 a b P h i t = absurd (elem-none i t)
named-all Root a b P h i t = absurd (elem-none i t)
named-all Not a b P h i t = subst P (sym (elem-one i a t)) h
named-all Or a b P h i t = ⊎_elim (λ e. subst P (sym e) h.0) (λ e. subst P (sym e) h.1) (elem-two i a b t)
named-all And a b P h i t = ⊎_elim (λ e. subst P (sym e) h.0) (λ e. subst P (sym e) h.1) (elem-two i a b t)
named-all Exists a b P h i t = subst P (sym (elem-one i a t)) h

pub all_named : (k : Op) (a b : ℕ) (P : ℕ → Type 0) → ((i : ℕ) → T (elem i (named_by k a b)) → P i) → OfParts k (P a) (P b)
all_named Subset a b P h = tt
all_named Single a b P h = tt
all_named Child1 a b P h = tt
all_named Child2 a b P h = tt
all_named Root a b P h = tt
all_named Not a b P h = h a (elem-first a [])
all_named Or a b P h = (h a (elem-first a (b ∷ [])), h b (elem-second a b))
all_named And a b P h = (h a (elem-first a (b ∷ [])), h b (elem-second a b))
all_named Exists a b P h = h a (elem-first a [])

-- ---- marks
set-marked : (ms : List Bool) (a i : ℕ) → a < length ms → T (marked (set ms a true) i) ↔ ((i ≡ a) ⊎ T (marked ms i))
set-marked ms a i h = elim (ℕ-tri i a) [
  | less l ↦ other (λ e. omega arith)
  | same e ↦ ((λ t. inl e), λ w. rw (e, get_or-set_same ms a true false h) tt)
  | more l ↦ other (λ e. omega arith)
]
  where
    other : (i ≡ a → ⊥) → T (marked (set ms a true) i) ↔ ((i ≡ a) ⊎ T (marked ms i))
    other apart = (
      (λ t. inr (rw (get_or-set_other ms a i true false apart) at t)),
      ⊎_elim (λ e. absurd (apart e)) (λ t. rw (get_or-set_other ms a i true false apart) t),
    )

pub marking-length : (ns : List ℕ) (ms : List Bool) → length (marking ns ms) ≡ length ms
unfolding marking
marking-length [] ms = refl
marking-length (a ∷ ns) ms = marking-length ns (set ms a true) ∙ length-set ms a true

marking_iff : (ns : List ℕ) (ms : List Bool) (i : ℕ) → ((a : ℕ) → T (elem a ns) → a < length ms)
    → T (marked (marking ns ms) i) ↔ (T (elem i ns) ⊎ T (marked ms i))
unfolding marking
marking_iff [] ms i h = (inr, ⊎_elim (λ t. absurd (elem-none i t)) (λ t. t))
marking_iff (a ∷ ns) ms i h =
    let e = length-set ms a true in
    let w = marking_iff ns (set ms a true) i (λ b t. let l = h b ((elem-cons b a ns).1 (inr t)) in omega arith) in
    let v = set-marked ms a i (h a (elem-first a ns)) in
    let u = elem-cons i a ns in (
      (λ t. ⊎_elim (λ p. inl (u.1 (inr p))) (λ p. ⊎_elim (λ q. inl (u.1 (inl q))) inr (v.0 p)) (w.0 t)),
      ⊎_elim (λ p. ⊎_elim (λ q. w.1 (inr (v.1 (inl q)))) (λ q. w.1 (inl q)) (u.0 p)) (λ p. w.1 (inr (v.1 (inr p)))),
    )

-- two truth values that hold of the same
same_truth : (v w : Bool) → (T v → T w) → (T w → T v) → v ≡ w
same_truth true true f g = refl
same_truth true false f g = absurd (f tt)
same_truth false true f g = absurd (g tt)
same_truth false false f g = refl

-- no mark at all
bare_at : (d i : ℕ) → T (marked (replicate d false) i) → ⊥
bare_at zero i t = t
bare_at (suc d) zero t = t
bare_at (suc d) (suc i) t = bare_at d i t

-- ---- the pass
-- the records from number r on have been passed
pub record Pass (xs : List Decoded) (m : ℕ) (ms : List Bool) (r : ℕ) : Type 0 where
  pub within : r ≤ m
  pub long : length ms ≡ 129
  pub sound : (i : ℕ) → T (marked ms i) → ReachedFrom (named_in xs) (m - 1) i
  pub last : T (marked ms (m - 1))
  pub closed : (j i : ℕ) → r ≤ j → j < m → T (marked ms j) → T (elem i (named_in xs j)) → T (marked ms i)

module _ (xs : List Decoded) (m : ℕ) (few : m ≤ 128) (order : (r : ℕ) → r < m → InOrder (get_or xs r no_decoded) r) where
  abbrev names : ℕ → List ℕ
  names = named_in xs

  pub earlier : Earlier names m
  earlier r h i t = let x = get_or xs r no_decoded in named-all x.kind x.first x.second (λ (a : ℕ). a < r) (order r h).before i t

  module _ (ms : List Bool) (r : ℕ) (h : Pass xs m ms (suc r)) where
    abbrev ns : List ℕ
    ns = names r

    small : (a : ℕ) → T (elem a ns) → a < 128
    small a t = omega (arith, earlier r (omega (arith, h.within)) a t, h.within)

    -- a record with a mark: what it names is marked
    pub pass_marked : marked ms r ≡ true → Pass xs m (marking ns ms) r
    pass_marked taken = record {
      within = omega (arith, h.within);
      long = marking-length ns ms ∙ h.long;
      sound = λ i u. ⊎_elim (λ e. named r i (h.sound r (subst T (sym taken) tt)) e) (h.sound i) ((law i).0 u);
      last = (law (m - 1)).1 (inr h.last);
      closed = λ j i l p u e. ⊎_elim
          (λ q. (law i).1 (inl (subst (λ (z : ℕ). T (elem i (names z))) (sym q) e)))
          (λ q. (law i).1 (inr (h.closed j i q p (old j q p u) e)))
          (eq-or-lt_of_le l);
    }
      where
        law : (i : ℕ) → T (marked (marking ns ms) i) ↔ (T (elem i ns) ⊎ T (marked ms i))
        law i = marking_iff ns ms i (λ a u. omega (arith, small a u, h.long))

        old : (j : ℕ) → r < j → j < m → T (marked (marking ns ms) j) → T (marked ms j)
        old j q p u = ⊎_elim (λ e. absurd (omega (arith, earlier r (omega arith) j e))) (λ v. v) ((law j).0 u)

  -- at the start the last one alone has a mark
  pub pass_first : 0 < m → Pass xs m (set (replicate 129 false) (m - 1) true) m
  pass_first some = record {
    within = omega arith;
    long = length-set (replicate 129 false) (m - 1) true;
    sound = λ i t. ⊎_elim (λ e. subst (ReachedFrom names (m - 1)) (sym e) itself) (λ u. absurd (bare_at 129 i u)) ((law i).0 t);
    last = (law (m - 1)).1 (inl refl);
    closed = λ j i l p t e. absurd (omega arith);
  }
    where
      law : (i : ℕ) → T (marked (set (replicate 129 false) (m - 1) true) i) ↔ ((i ≡ m - 1) ⊎ T (marked (replicate 129 false) i))
      law i = set-marked (replicate 129 false) (m - 1) i (omega arith)

  module _ (some : 0 < m) (ms : List Bool) (h : Pass xs m ms 0) where
    all-marked : (i : ℕ) → ReachedFrom names (m - 1) i → T (marked ms i)
    all-marked i itself = h.last
    all-marked i (named r j u e) =
        h.closed r j (omega arith) (reached-below names m r ((reached_iff names m earlier some r).1 u)) (all-marked r u) e

    -- THE PASS: the marks are those of the records that are reached
    pub pass_ends : Marks (used_in xs m) m (set ms m true)
    pass_ends = record {
      below = λ i l.
          let w = reached_iff names m earlier some i in
          get_or-set_other ms m i true false (λ e. omega arith)
          ∙ same_truth (marked ms i) (used_in xs m i) (λ t. w.1 (h.sound i t)) (λ t. all-marked i (w.0 t));
      end = get_or-set_same ms m true false (omega (arith, h.long));
    }

  -- and such marks are closed
  pub used-closed : (ms : List Bool) → Marks (used_in xs m) m ms → MarksClosed xs ms m
  used-closed ms is r h t i e =
      subst T (sym (is.below i (omega (arith, earlier r h i e)))) (reached-parts names m earlier r i (subst T (is.below r h) t) e)

-- ---- the next record that is used
pub next-within : (used : ℕ → Bool) (d r : ℕ) → next_of used r d ≤ r + d
unfolding next_of
next-within used zero r = omega arith
next-within used (suc d) r = go (used r) (next-within used d (suc r))
  where
    go : (v : Bool) → next_of used (suc r) d ≤ suc r + d → cond v r (next_of used (suc r) d) ≤ r + suc d
    go true h = omega arith
    go false h = omega arith

pub next-after : (used : ℕ → Bool) (d r : ℕ) → r ≤ next_of used r d
unfolding next_of
next-after used zero r = omega arith
next-after used (suc d) r = go (used r) (next-after used d (suc r))
  where
    go : (v : Bool) → suc r ≤ next_of used (suc r) d → r ≤ cond v r (next_of used (suc r) d)
    go true h = omega arith
    go false h = omega arith

pub next-used : (used : ℕ → Bool) (d r : ℕ) → next_of used r d < r + d → used (next_of used r d) ≡ true
unfolding next_of
next-used used zero r h = absurd (omega arith)
next-used used (suc d) r h = go (used r) refl (next-used used d (suc r)) h
  where
    go : (v : Bool) → used r ≡ v → (next_of used (suc r) d < suc r + d → used (next_of used (suc r) d) ≡ true)
        → cond v r (next_of used (suc r) d) < r + suc d → used (cond v r (next_of used (suc r) d)) ≡ true
    go true e f l = e
    go false e f l = f (omega arith)

module _ (used : ℕ → Bool) (r m : ℕ) (h : r < m) where
  left : m - r ≡ suc (m - (r + 1))
  left = omega arith

  next_here : used r ≡ true → next_of used r (m - r) ≡ r
  unfolding next_of
  next_here e = ap (next_of used r) left ∙ rw e refl

  pub next-later : used r ≡ false → next_of used r (m - r) ≡ next_of used (r + 1) (m - (r + 1))
  unfolding next_of
  next-later e = ap (next_of used r) left ∙ rw e (ap (λ (z : ℕ). next_of used z (m - (r + 1))) (sym (add-one r)))

next-end : (used : ℕ → Bool) (m : ℕ) → next_of used m (m - m) ≡ m
unfolding next_of
next-end used m = let e : m - m ≡ 0 = omega arith in ap (next_of used m) e

-- where a search stops, and where it goes on
pub next-found : (ms : List Bool) (i m : ℕ) → i ≤ m → marked ms i ≡ true → next_of (marked ms) i (m - i) ≡ i
next-found ms i m h e = ⊎_elim (λ q. rw q (next-end (marked ms) m)) (λ l. next_here (marked ms) i m l e) (eq-or-lt_of_le h)

pub not_end : (ms : List Bool) (i m : ℕ) → i ≤ m → marked ms m ≡ true → marked ms i ≡ false → i < m
not_end ms i m h e f = ⊎_elim (λ q. absurd (subst T (sym e ∙ ap (marked ms) (sym q) ∙ f) tt)) (λ l. l) (eq-or-lt_of_le h)
