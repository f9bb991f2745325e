-- The parts of a rule: those reached through "and", and the rule holds exactly if all of them do.
-- Assumes nothing.
use Prim.Native.Nat.{ℕ, zero, suc, ◌≤◌, ◌<◌}
use mathlib.Core.Path.{◌≡◌, refl, ap, ap₂, sym, subst, ◌∙◌}
use mathlib.Core.Logic.{◌↔◌, ◌⊎◌, inl, inr, ⊎_elim}
use mathlib.Core.Bool.{Bool, true, false, cond, not}
use mathlib.Core.List.{List, [], ◌∷◌, ◌++◌}
use native.Mathlib.Decide.{dec_lt}
use native.Mathlib.Nat.{le_refl, not-suc-le-zero}
use native.Mathlib.Omega.{arith}
use lib.Dec.{T, eqb→eq, T_not}
use lib.ListN.{length, get_or, get_or-eq_default}
use Rattle.logic.specs.Meaning.{Assignment, Formula, root, conjunction, Holds}
use Rattle.logic.specs.Rule.{Record, no_record, last_of, formula_of, extend, formula_at, Satisfies, good_from, Accepted}
use Rattle.logic.specs.Reach.{elem}
use Rattle.logic.specs.Alike.{Distinct}
use Rattle.logic.specs.ReachedRecords.{names_of, names_in, ReachedFrom, itself, named, ReachedRecord}
use Rattle.logic.proofs.Reach.{elem-none, elem-one, elem-two, elem-first, elem-second, elem-append}
use Rattle.logic.proofs.Places.{T→true, true→T}
use Rattle.logic.proofs.Rounds.{pigeonhole}
use Rattle.logic.proofs.Rules.{rule-earlier, record_formula}
use Rattle.parts.specs.Parts.{first_at, second_at, is_and, and_names, walk, walk_from, fresh, parts_of, IsPart, AllHold}
use Rattle.parts.proofs.Lists.{told, elem-nothing, fresh_iff, fresh-distinct}

names_and : (op a b : ℕ) → op ≡ 7 → names_of (record { op = op; first = a; second = b }) ≡ a ∷ b ∷ []
unfolding names_of
names_and op a b e = rw e refl

of_and : {k : ℕ} (op a b : ℕ) (fs : List (Formula k)) → op ≡ 7
    → formula_of (record { op = op; first = a; second = b }) fs ≡ conjunction (get_or fs a (root 0)) (get_or fs b (root 0))
unfolding formula_of
of_and op a b fs e = rw e refl

-- an "and" names earlier records
abbrev pub AndEarlier : List Record → Type 0
AndEarlier rs = (i : ℕ) → T (is_and rs i) → (first_at rs i < i) × (second_at rs i < i)

module _ (k n : ℕ) (rs : List Record) (g : T (good_from k n 0 rs)) where
  pub and_within : (i : ℕ) → T (is_and rs i) → i < length rs
  unfolding is_and
  and_within i t = elim (dec_lt i (length rs)) [
    | yes h ↦ h
    | no h ↦ absurd (let z : (get_or rs i no_record).op ≡ 0 = ap (λ (r : Record). r.op) (get_or-eq_default rs no_record (omega (arith, h))) in
        let e = eqb→eq (get_or rs i no_record).op 7 t in omega arith)
  ]

  pub and_earlier : AndEarlier rs
  unfolding is_and
  and_earlier i t =
      let r : Record = get_or rs i no_record in
      let e = names_and r.op r.first r.second (eqb→eq r.op 7 t) in
      let E = rule-earlier k n rs g i (and_within i t) in
      (E r.first (rw e (elem-first r.first (r.second ∷ []))), E r.second (rw e (elem-second r.first r.second)))

  -- its formula is the conjunction of those that it names
  pub formula_and : (i : ℕ) → T (is_and rs i) → formula_at {k = k} rs i ≡ conjunction (formula_at rs (first_at rs i)) (formula_at rs (second_at rs i))
  unfolding is_and formula_at
  formula_and i t =
      let r : Record = get_or rs i no_record in
      record_formula k n rs g i (and_within i t) ∙ of_and r.op r.first r.second (extend [] rs) (eqb→eq r.op 7 t)

module _ (rs : List Record) (E : AndEarlier rs) where
  -- how deep to look makes no difference, once it is deep enough
  pub walk-enough : (d e i : ℕ) → i < d → i < e → walk rs d i ≡ walk rs e i
  unfolding walk
  walk-enough zero e i h l = absurd (not-suc-le-zero h)
  walk-enough (suc d) zero i h l = absurd (not-suc-le-zero l)
  walk-enough (suc d) (suc e) i h l = go (is_and rs i) refl (λ j p q. walk-enough d e j p q)
    where
      go : (v : Bool) → is_and rs i ≡ v → ((j : ℕ) → j < d → j < e → walk rs d j ≡ walk rs e j)
          → cond v (walk rs d (first_at rs i) ++ walk rs d (second_at rs i)) (i ∷ []) ≡ cond v (walk rs e (first_at rs i) ++ walk rs e (second_at rs i)) (i ∷ [])
      go true q ih =
          let w = E i (true→T q) in let a = w.0 in let b = w.1 in
          ap₂ (λ (K L : List ℕ). K ++ L) (ih (first_at rs i) (omega arith) (omega arith)) (ih (second_at rs i) (omega arith) (omega arith))
      go false q ih = refl

  -- of an "and": the first field's, then the second's
  pub walk_and : (i : ℕ) → T (is_and rs i) → walk_from rs i ≡ walk_from rs (first_at rs i) ++ walk_from rs (second_at rs i)
  unfolding walk
  walk_and i t =
      let w = E i t in let a = w.0 in let b = w.1 in
      ap (λ (v : Bool). cond v (walk rs i (first_at rs i) ++ walk rs i (second_at rs i)) (i ∷ [])) (T→true (is_and rs i) t)
      ∙ ap₂ (λ (K L : List ℕ). K ++ L) (walk-enough i (suc (first_at rs i)) (first_at rs i) (omega arith) (omega arith))
      (walk-enough i (suc (second_at rs i)) (second_at rs i) (omega arith) (omega arith))

  -- of any other record: itself
  pub walk-other : (i : ℕ) → is_and rs i ≡ false → walk_from rs i ≡ i ∷ []
  unfolding walk
  walk-other i e = ap (λ (v : Bool). cond v (walk rs i (first_at rs i) ++ walk rs i (second_at rs i)) (i ∷ [])) e

  -- what holds of a record other than "and", and of an "and" if of both its fields, holds of every record
  pub and_induction : (P : ℕ → Type 0) → ((i : ℕ) → is_and rs i ≡ false → P i) → ((i : ℕ) → T (is_and rs i) → P (first_at rs i) → P (second_at rs i) → P i)
      → (i : ℕ) → P i
  and_induction P other both i = up_to (suc i) i (le_refl (suc i))
    where
      at : (j : ℕ) → ((l : ℕ) → l < j → P l) → T (is_and rs j) ⊎ (is_and rs j ≡ false) → P j
      at j ih (inl t) = let w = E j t in both j t (ih (first_at rs j) w.0) (ih (second_at rs j) w.1)
      at j ih (inr e) = other j e

      up_to : (d j : ℕ) → j < d → P j
      up_to zero j h = absurd (not-suc-le-zero h)
      up_to (suc d) j h = at j (λ l q. up_to d l (omega arith)) (told (is_and rs j))

  -- none that is met is an "and"
  pub walk-others : (i x : ℕ) → T (elem x (walk_from rs i)) → is_and rs x ≡ false
  walk-others = and_induction (λ i. (x : ℕ) → T (elem x (walk_from rs i)) → is_and rs x ≡ false)
      (λ i e x m. subst (λ (z : ℕ). is_and rs z ≡ false) (sym (elem-one x i (subst (λ (L : List ℕ). T (elem x L)) (walk-other i e) m))) e)
      (λ i t p q x m. ⊎_elim (p x) (q x)
      ((elem-append x (walk_from rs (first_at rs i)) (walk_from rs (second_at rs i))).0 (subst (λ (L : List ℕ). T (elem x L)) (walk_and i t) m)))

  -- and none has a greater number
  pub walk-below : (i x : ℕ) → T (elem x (walk_from rs i)) → x ≤ i
  walk-below = and_induction (λ i. (x : ℕ) → T (elem x (walk_from rs i)) → x ≤ i)
      (λ i e x m. let q = elem-one x i (subst (λ (L : List ℕ). T (elem x L)) (walk-other i e) m) in omega arith)
      (λ i t p q x m. let w = E i t in let a = w.0 in let b = w.1 in ⊎_elim (λ u. let c = p x u in omega arith) (λ u. let c = q x u in omega arith)
      ((elem-append x (walk_from rs (first_at rs i)) (walk_from rs (second_at rs i))).0 (subst (λ (L : List ℕ). T (elem x L)) (walk_and i t) m)))

  -- which records an "and" names
  names-other : (i j : ℕ) → is_and rs i ≡ false → T (elem j (and_names rs i)) → ⊥
  unfolding and_names
  names-other i j e t = elem-none j (subst (λ (v : Bool). T (elem j (cond v (first_at rs i ∷ second_at rs i ∷ []) []))) e t)

  names-both : (i : ℕ) → T (is_and rs i) → and_names rs i ≡ first_at rs i ∷ second_at rs i ∷ []
  unfolding and_names
  names-both i t = ap (λ (v : Bool). cond v (first_at rs i ∷ second_at rs i ∷ []) []) (T→true (is_and rs i) t)

  earlier-reached : (a i x : ℕ) → T (elem a (and_names rs i)) → ReachedFrom (and_names rs) a x → ReachedFrom (and_names rs) i x
  earlier-reached a i x h itself = named i a itself h
  earlier-reached a i x h (named r j u e) = named r j (earlier-reached a i r h u) e

  walk-reached : (i x : ℕ) → T (elem x (walk_from rs i)) → ReachedFrom (and_names rs) i x
  walk-reached = and_induction (λ i. (x : ℕ) → T (elem x (walk_from rs i)) → ReachedFrom (and_names rs) i x)
      (λ i e x m. subst (ReachedFrom (and_names rs) i) (sym (elem-one x i (subst (λ (L : List ℕ). T (elem x L)) (walk-other i e) m))) itself)
      (λ i t p q x m. ⊎_elim
      (λ u. earlier-reached (first_at rs i) i x (rw (names-both i t) (elem-first (first_at rs i) (second_at rs i ∷ []))) (p x u))
      (λ u. earlier-reached (second_at rs i) i x (rw (names-both i t) (elem-second (first_at rs i) (second_at rs i))) (q x u))
      ((elem-append x (walk_from rs (first_at rs i)) (walk_from rs (second_at rs i))).0 (subst (λ (L : List ℕ). T (elem x L)) (walk_and i t) m)))

  reached-walk : (i r : ℕ) → ReachedFrom (and_names rs) i r → (y : ℕ) → T (elem y (walk_from rs r)) → T (elem y (walk_from rs i))
  reached-walk i r itself y m = m
  reached-walk i r (named s j u h) y m = reached-walk i s u y (go (told (is_and rs s)))
    where
      go : T (is_and rs s) ⊎ (is_and rs s ≡ false) → T (elem y (walk_from rs s))
      go (inr e) = absurd (names-other s j e h)
      go (inl t) = subst (λ (L : List ℕ). T (elem y L)) (sym (walk_and s t))
          ((elem-append y (walk_from rs (first_at rs s)) (walk_from rs (second_at rs s))).1 (⊎_elim
          (λ e. inl (subst (λ (z : ℕ). T (elem y (walk_from rs z))) e m)) (λ e. inr (subst (λ (z : ℕ). T (elem y (walk_from rs z))) e m))
          (elem-two j (first_at rs s) (second_at rs s) (subst (λ (L : List ℕ). T (elem j L)) (names-both s t) h))))

  -- the walk meets exactly what is reached through "and" and is none
  pub walk_iff : (i x : ℕ) → T (elem x (walk_from rs i)) ↔ (ReachedFrom (and_names rs) i x × T (not (is_and rs x)))
  walk_iff i x = (
    λ m. (walk-reached i x m, rw (walk-others i x m) tt),
    λ w. reached-walk i x w.0 x (⊎_elim (λ t. absurd (T_not (is_and rs x) w.1 t)) (λ e. rw (walk-other x e) (elem-first x [])) (told (is_and rs x))),
  )

  -- THE PARTS are the records reached from the last through "and" that are none themselves, each once
  pub part_iff : (i : ℕ) → T (elem i (parts_of rs)) ↔ IsPart rs i
  unfolding parts_of
  part_iff i = (
    λ m. (walk_iff (last_of rs) i).0 ((fresh_iff i [] (walk_from rs (last_of rs))).0 m).0,
    λ w. (fresh_iff i [] (walk_from rs (last_of rs))).1 ((walk_iff (last_of rs) i).1 w, elem-nothing i),
  )

  pub parts-distinct : Distinct (parts_of rs)
  unfolding parts_of
  parts-distinct = fresh-distinct [] (walk_from rs (last_of rs))

  -- a rule that is no "and" is its own one part
  pub part-alone : is_and rs (last_of rs) ≡ false → parts_of rs ≡ last_of rs ∷ []
  unfolding parts_of fresh elem
  part-alone e = rw (walk-other (last_of rs) e) refl

module _ (k n : ℕ) (rs : List Record) (ok : Accepted k n rs) where
  pub parts_within : (i : ℕ) → T (elem i (parts_of rs)) → i < length rs
  unfolding parts_of
  parts_within i m =
      let h = walk-below rs (and_earlier k n rs ok.1) (last_of rs) i ((fresh_iff i [] (walk_from rs (last_of rs))).0 m).0 in let l = ok.0 in omega arith

  -- there are no more parts than records
  pub parts-few : length (parts_of rs) ≤ length rs
  parts-few = pigeonhole (length rs) (parts_of rs) (parts-distinct rs (and_earlier k n rs ok.1)) parts_within

  module _ (A : Assignment k) where
    -- a record holds exactly if all that the walk from it meets hold
    pub walk-all : (i : ℕ) → Holds (formula_at rs i) A ↔ AllHold rs (walk_from rs i) A
    unfolding Holds
    walk-all = and_induction rs (and_earlier k n rs ok.1) (λ i. Holds (formula_at rs i) A ↔ AllHold rs (walk_from rs i) A) other both
      where
        other : (i : ℕ) → is_and rs i ≡ false → Holds (formula_at rs i) A ↔ AllHold rs (walk_from rs i) A
        other i e = rw (walk-other rs (and_earlier k n rs ok.1) i e) (
          (λ h j m. subst (λ (z : ℕ). Holds (formula_at rs z) A) (sym (elem-one j i m)) h),
          λ h. h i (elem-first i []),
        )

        both : (i : ℕ) → T (is_and rs i) → Holds (formula_at rs (first_at rs i)) A ↔ AllHold rs (walk_from rs (first_at rs i)) A
            → Holds (formula_at rs (second_at rs i)) A ↔ AllHold rs (walk_from rs (second_at rs i)) A → Holds (formula_at rs i) A ↔ AllHold rs (walk_from rs i) A
        both i t p q = rw (formula_and k n rs ok.1 i t, walk_and rs (and_earlier k n rs ok.1) i t) (
          (λ h j m. ⊎_elim (p.0 h.0 j) (q.0 h.1 j) ((elem-append j (walk_from rs (first_at rs i)) (walk_from rs (second_at rs i))).0 m)),
          λ h. (
            p.1 (λ j m. h j ((elem-append j (walk_from rs (first_at rs i)) (walk_from rs (second_at rs i))).1 (inl m))),
            q.1 (λ j m. h j ((elem-append j (walk_from rs (first_at rs i)) (walk_from rs (second_at rs i))).1 (inr m))),
          ),
        )

    -- THE RULE HOLDS EXACTLY IF ALL ITS PARTS DO
    pub parts_all : Satisfies rs A ↔ AllHold rs (parts_of rs) A
    unfolding parts_of
    parts_all =
        let i = walk-all (last_of rs) in (
          λ h j m. i.0 h j ((fresh_iff j [] (walk_from rs (last_of rs))).0 m).0,
          λ h. i.1 (λ j m. h j ((fresh_iff j [] (walk_from rs (last_of rs))).1 (m, elem-nothing j))),
        )

-- what is reached through "and" alone is reached
pub through_and : (rs : List Record) (last i : ℕ) → ReachedFrom (and_names rs) last i → ReachedFrom (names_in rs) last i
unfolding and_names is_and
through_and rs last i itself = itself
through_and rs last i (named s j u h) = named s j (through_and rs last s u) (go (is_and rs s) refl h)
  where
    go : (v : Bool) → is_and rs s ≡ v → T (elem j (cond v (first_at rs s ∷ second_at rs s ∷ []) [])) → T (elem j (names_in rs s))
    go true e m =
        let t : Record = get_or rs s no_record in
        subst (λ (L : List ℕ). T (elem j L)) (sym (names_and t.op t.first t.second (eqb→eq t.op 7 (true→T e)))) m
    go false e m = absurd (elem-none j m)

-- so a part is a record that refusal 14 looks at
pub part-reached : (k n : ℕ) (rs : List Record) → Accepted k n rs → (i : ℕ) → T (elem i (parts_of rs)) → ReachedRecord rs i
part-reached k n rs ok i m = through_and rs (last_of rs) i ((part_iff rs (and_earlier k n rs ok.1) i).0 m).0
