-- The marks of the records are right: a record has one exactly if it is reached from the last one. Whoever names a record comes after it.
-- Assumes nothing.
use Prim.Native.Nat.{ℕ, zero, suc, ◌+◌, ◌-◌, ◌<◌}
use mathlib.Core.Path.{◌≡◌, refl, ap, ap₂, sym, subst, ◌∙◌}
use mathlib.Core.Logic.{◌↔◌, ◌⊎◌, inl, inr, ⊎_elim}
use mathlib.Core.Bool.{Bool, false, ◌&&◌, ◌||◌}
use mathlib.Core.List.{List, [], ◌∷◌}
use native.Mathlib.Omega.{arith}
use lib.Dec.{T}
use lib.ListN.{length, get_or}
use Rattle.logic.specs.Reach.{elem}
use Rattle.logic.specs.ReachedRecords.{ReachedFrom, itself, named, named_after, mark, marks, is_reached}
use Rattle.logic.proofs.Connectives.{or_iff, and_iff}

-- a place that holds something true is within
true-within : (ms : List Bool) (i : ℕ) → T (get_or ms i false) → i < length ms
true-within [] i t = absurd t
true-within (m ∷ ms) zero t = omega arith
true-within (m ∷ ms) (suc i) t = let h = true-within ms i t in omega arith

-- records name earlier ones only
abbrev pub Earlier : (ℕ → List ℕ) → ℕ → Type 0
Earlier names m = (r : ℕ) → r < m → (i : ℕ) → T (elem i (names r)) → i < r

module _ (names : ℕ → List ℕ) where
  either : (m : Bool) (i j : ℕ) (ms : List Bool) → T (named_after names i j (m ∷ ms)) ↔ ((T m × T (elem i (names j))) ⊎ T (named_after names i (suc j) ms))
  unfolding named_after
  either m i j ms =
      or_iff (m && elem i (names j)) (named_after names i (suc j) ms)
      (and_iff m (elem i (names j)) (λ t. t, λ t. t) (λ t. t, λ t. t)) (λ t. t, λ t. t)

  moved : {i j r s : ℕ} → i ≡ j → r ≡ s → T (elem i (names r)) → T (elem j (names s))
  moved e f = subst T (ap₂ (λ (x y : ℕ). elem x (names y)) e f)

  after_who : (i j : ℕ) (ms : List Bool) → T (named_after names i j ms) → (d : ℕ) × T (get_or ms d false) × T (elem i (names (j + d)))
  unfolding named_after
  after_who i j [] t = absurd t
  after_who i j (m ∷ ms) t = ⊎_elim
      (λ u. (0, u.0, moved refl (omega arith) u.1))
      (λ u. let w = after_who i (suc j) ms u in (suc w.0, w.1, moved refl (omega arith) w.2))
      ((either m i j ms).0 t)

  who_after : (i j : ℕ) (ms : List Bool) (d : ℕ) → T (get_or ms d false) → T (elem i (names (j + d))) → T (named_after names i j ms)
  who_after i j [] d t u = absurd t
  who_after i j (m ∷ ms) zero t u = (either m i j ms).1 (inl (t, moved refl (omega arith) u))
  who_after i j (m ∷ ms) (suc d) t u =
      (either m i j ms).1 (inr (who_after i (suc j) ms d t (moved refl (omega arith) u)))

  -- a mark is put before the others
  mark_head : (i : ℕ) (ms : List Bool) → T (get_or (mark names i ms) 0 false) ↔ ((length ms ≡ 0) ⊎ T (named_after names i (suc i) ms))
  unfolding mark
  mark_head i [] = ((λ t. inl refl), λ h. tt)
  mark_head i (m ∷ ms) = (inr, ⊎_elim (λ e. absurd (omega arith)) (λ t. t))

  mark_tail : (i : ℕ) (ms : List Bool) (j : ℕ) → get_or (mark names i ms) (suc j) false ≡ get_or ms j false
  unfolding mark
  mark_tail i [] j = refl
  mark_tail i (m ∷ ms) j = refl

  mark-length : (i : ℕ) (ms : List Bool) → length (mark names i ms) ≡ suc (length ms)
  unfolding mark
  mark-length i [] = refl
  mark-length i (m ∷ ms) = refl

  marks-length : (i d : ℕ) → length (marks names i d) ≡ d
  unfolding marks
  marks-length i zero = refl
  marks-length i (suc d) = mark-length i (marks names (suc i) d) ∙ ap suc (marks-length (suc i) d)

  marks-last : (i d : ℕ) → T (get_or (marks names i (suc d)) d false)
  unfolding marks
  marks-last i zero = (mark_head i []).1 (inl refl)
  marks-last i (suc d) = subst T (sym (mark_tail i (marks names (suc i) (suc d)) d)) (marks-last (suc i) d)

  -- what is marked is reached
  sound : (last i d j : ℕ) → i + d ≡ suc last → T (get_or (marks names i d) j false) → ReachedFrom names last (i + j)
  unfolding marks
  sound last i zero j e t = absurd t
  sound last i (suc d) zero e t = ⊎_elim
      (λ z. let l = marks-length (suc i) d in let y : last ≡ i + 0 = omega arith in subst (ReachedFrom names last) y itself)
      (λ u. let w = after_who i (suc i) (marks names (suc i) d) u in
      named (suc i + w.0) (i + 0) (sound last (suc i) d w.0 (omega arith) w.1) (moved (omega arith) refl w.2))
      ((mark_head i (marks names (suc i) d)).0 t)
  sound last i (suc d) (suc j) e t =
      subst (ReachedFrom names last) (omega arith) (sound last (suc i) d j (omega arith) (subst T (mark_tail i (marks names (suc i) d) j) t))

  -- what a later one with a mark names is marked
  pulled : (i d j e : ℕ) → j < e → T (get_or (marks names i d) e false) → T (elem (i + j) (names (i + e))) → T (get_or (marks names i d) j false)
  unfolding marks
  pulled i zero j e h t u = absurd t
  pulled i (suc d) j zero h t u = absurd (omega arith)
  pulled i (suc d) zero (suc e) h t u =
      (mark_head i (marks names (suc i) d)).1 (inr (who_after i (suc i) (marks names (suc i) d) e (subst T (mark_tail i (marks names (suc i) d) e) t)
      (moved (omega arith) (omega arith) u)))
  pulled i (suc d) (suc j) (suc e) h t u =
      subst T (sym (mark_tail i (marks names (suc i) d) j)) (pulled (suc i) d j e (omega arith) (subst T (mark_tail i (marks names (suc i) d) e) t)
      (moved (omega arith) (omega arith) u))

  module _ (m : ℕ) where
    pub reached-below : (i : ℕ) → T (is_reached names m i) → i < m
    unfolding is_reached
    reached-below i t = let h = true-within (marks names 0 m) i t in let l = marks-length 0 m in omega arith

    pub last-reached : 0 < m → T (is_reached names m (m - 1))
    unfolding is_reached
    last-reached h = let e : m ≡ suc (m - 1) = omega arith in
        subst (λ (z : ℕ). T (get_or (marks names 0 z) (m - 1) false)) (sym e) (marks-last 0 (m - 1))

    module _ (earlier : Earlier names m) where
      -- what a reached record names is reached
      pub reached-parts : (r i : ℕ) → T (is_reached names m r) → T (elem i (names r)) → T (is_reached names m i)
      unfolding is_reached
      reached-parts r i t u = pulled 0 m i r (earlier r (reached-below r t) i u) t (moved (omega arith) (omega arith) u)

      complete : 0 < m → (i : ℕ) → ReachedFrom names (m - 1) i → T (is_reached names m i)
      complete h i itself = last-reached h
      complete h i (named r j u e) = reached-parts r j (complete h r u) e

      -- THE MARKS: a record has one exactly if it is reached from the last
      pub reached_iff : 0 < m → (i : ℕ) → T (is_reached names m i) ↔ ReachedFrom names (m - 1) i
      unfolding is_reached
      reached_iff h i = (
        (λ t. subst (ReachedFrom names (m - 1)) (omega arith) (sound (m - 1) 0 m i (omega arith) t)),
        complete h i,
      )

-- they depend on what the records name alone
module _ (f g : ℕ → List ℕ) where
  after_cong : (i j : ℕ) (ms : List Bool) → ((r : ℕ) → r < j + length ms → f r ≡ g r) → named_after f i j ms ≡ named_after g i j ms
  unfolding named_after
  after_cong i j [] h = refl
  after_cong i j (m ∷ ms) h =
      ap₂ ◌||◌ (ap (λ (x : List ℕ). m && elem i x) (h j (omega arith))) (after_cong i (suc j) ms (λ r l. h r (omega arith)))

  mark_cong : (i : ℕ) (ms : List Bool) → ((r : ℕ) → r < suc i + length ms → f r ≡ g r) → mark f i ms ≡ mark g i ms
  unfolding mark
  mark_cong i [] h = refl
  mark_cong i (m ∷ ms) h = ap (λ (v : Bool). v ∷ (m ∷ ms)) (after_cong i (suc i) (m ∷ ms) h)

  marks_cong : (i d : ℕ) → ((r : ℕ) → r < i + d → f r ≡ g r) → marks f i d ≡ marks g i d
  unfolding marks
  marks_cong i zero h = refl
  marks_cong i (suc d) h =
      ap (mark f i) (marks_cong (suc i) d (λ r l. h r (omega arith)))
      ∙ mark_cong i (marks g (suc i) d) (λ r l. h r (let e = marks-length g (suc i) d in omega arith))

  pub reached_cong : (m : ℕ) → ((r : ℕ) → r < m → f r ≡ g r) → (i : ℕ) → is_reached f m i ≡ is_reached g m i
  unfolding is_reached
  reached_cong m h i = ap (λ (ms : List Bool). get_or ms i false) (marks_cong 0 m (λ r l. h r (omega arith)))
