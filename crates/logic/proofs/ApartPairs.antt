-- The rounds of refinement find exactly the pairs that are apart.
-- Assumes nothing.
use Prim.Native.Nat.{ℕ, zero, suc, ◌+◌, ◌*◌, ◌/◌, ◌%◌, ◌^◌, ◌<◌}
use mathlib.Core.Path.{◌≡◌, refl, sym, ap, ap₂, subst, subst₂, ◌∙◌, fun_ext}
use mathlib.Core.Logic.{◌↔◌, ◌≢◌, inl, ⊎_elim}
use mathlib.Core.Bool.{Bool, true, false, cond, not, ◌&&◌, beq, true≢false}
use mathlib.Core.List.{List, [], ◌∷◌}
use native.Mathlib.Nat.{div-lt_iff_lt-mul, mod-lt}
use native.Mathlib.Omega.{arith}
use lib.Arith.{digits_lt, digits_div, digits_mod}
use lib.Dec.{T, not_T, T_not, eqb, eqb→eq}
use Rattle.logic.specs.Meaning.{Branch, is_same_branch}
use Rattle.logic.specs.Tree.{branches}
use Rattle.logic.specs.Machine.{Machine, Bounded, any_of}
use Rattle.logic.specs.Reach.{elem, below, outcomes}
use Rattle.logic.specs.Alike.{Full, Distinct}
use Rattle.logic.proofs.Places.{true→T, among-all}
use Rattle.logic.proofs.Connectives.{and_iff}
use Rattle.logic.proofs.Branches.{any_iff, eqb_iff}
use Rattle.logic.proofs.Reach.{elem-cons, elem_below, elem-select, outcomes-only, outcomes-all}
use Rattle.logic.proofs.Rounds.{select-distinct, closure-only, closure-keep, closure-ended}
use Rattle.logic.proofs.Projection.{any-elem}
use Rattle.logic.specs.Joined.{beside, BehaveAlike, pairs, seeds, splits_at, splits, spread, apart_pairs, is_apart}
use Rattle.logic.proofs.Apart.{Apart, seen, later, apart-≢, beside_lt, apart-differ, like_behave}

below-distinct : (m : ℕ) → Distinct (below m)
unfolding below Distinct
below-distinct zero = tt
below-distinct (suc m) = ((λ t. let h = (elem_below m m).0 t in omega arith), below-distinct m)

differ : (a b : Bool) → T (not (beq a b)) ↔ (a ≢ b)
differ true true = (λ t. absurd t, λ d. d refl)
differ true false = (λ t e. true≢false e, λ d. tt)
differ false true = (λ t e. true≢false (sym e), λ d. tt)
differ false false = (λ t. absurd t, λ d. d refl)

module _ {k : ℕ} (n c : ℕ) (M : Machine k ℕ) (B : Bounded n c M) where
  pos : 0 < c
  pos = let h = B.0 in omega arith

  -- the pair numbered z is apart
  abbrev Pair : ℕ → Type 0
  Pair z = (z < c * c) × Apart n c M (z / c) (z % c)

  pair_iff : (z : ℕ) → T (elem z (pairs c)) ↔ ((z < c * c) × (z / c ≢ z % c))
  unfolding pairs
  pair_iff z =
      let i = elem-select z (λ y. not (eqb (y / c) (y % c))) (below (c * c)) in
      let j = elem_below z (c * c) in (
        (λ t. (j.0 (i.0 t).0, λ e. T_not (eqb (z / c) (z % c)) (i.0 t).1 ((eqb_iff (z / c) (z % c)).1 e))),
        λ w. i.1 (j.1 w.0, not_T (eqb (z / c) (z % c)) (λ t. w.1 (eqb→eq (z / c) (z % c) t))),
      )

  pairs-distinct : Distinct (pairs c)
  unfolding pairs
  pairs-distinct = select-distinct (λ y. not (eqb (y / c) (y % c))) (below (c * c)) (below-distinct (c * c))

  seed_pair : (z : ℕ) → T (elem z (seeds c M)) → Pair z
  unfolding seeds
  seed_pair z t =
      let w = (elem-select z (λ y. not (beq (M.accepting (y / c)) (M.accepting (y % c)))) (pairs c)).0 t in
      (((pair_iff z).0 w.0).0, seen ((differ (M.accepting (z / c)) (M.accepting (z % c))).0 w.1))

  -- what a split says
  abbrev Split : List ℕ → ℕ → ℕ → Type 0
  Split D p q = (l : ℕ) × (l < 2 ^ n) × (b : Branch k) × (s : Branch k → ℕ) × ((d : Branch k) → s d < c) × T (elem (M.step l (beside b p s) * c + M.step l (beside b q s)) D)

  -- the state at branch b itself does not matter
  over : (b : Branch k) (p : ℕ) (s : Branch k → ℕ) → beside b p (beside b 0 s) ≡ beside b p s
  over b p s = fun_ext (λ d. go d (is_same_branch d b))
    where
      go : (d : Branch k) (v : Bool) → cond v p (cond v 0 (s d)) ≡ cond v p (s d)
      go d true = refl
      go d false = refl

  choice_lt : (b d : Branch k) (v : Bool) (q : ℕ) → T (elem q (cond v (0 ∷ []) (below c))) → q < c
  unfolding elem
  choice_lt b d true q t = ⊎_elim (λ e. let h = pos in omega arith) (λ u. absurd u) ((elem-cons q 0 []).0 t)
  choice_lt b d false q t = (elem_below q c).0 t

  chosen : (d : Branch k) (v : Bool) (q : ℕ) → q < c → T (elem (cond v 0 q) (cond v (0 ∷ []) (below c)))
  chosen d true q h = (elem-cons 0 0 []).1 (inl refl)
  chosen d false q h = (elem_below q c).1 h

  abbrev SplitAt : List ℕ → ℕ → ℕ → ℕ → Branch k → Type 0
  SplitAt D p q l b = (s : Branch k → ℕ) × ((d : Branch k) → s d < c) × T (elem (M.step l (beside b p s) * c + M.step l (beside b q s)) D)

  split_at : (D : List ℕ) (p q l : ℕ) (b : Branch k) → T (splits_at c M D p q l b) ↔ SplitAt D p q l b
  unfolding splits_at elem
  split_at D p q l b = (
    (λ t.
        let w = (any-elem (λ z. elem z D) (outcomes (branches k) L f)).0 t in
        let x = outcomes-only (branches k) L f w.0 w.1 in
        (x.0, (λ d. choice_lt b d (is_same_branch d b) (x.0 d) (x.1 d (true→T (among-all d)))), subst (λ (z : ℕ). T (elem z D)) (sym x.2) w.2)),
    λ y.
        let s = y.0 in
        (any-elem (λ z. elem z D) (outcomes (branches k) L f)).1 (
          f (beside b 0 s),
          outcomes-all (branches k) L f (beside b 0 s) (λ d t. chosen d (is_same_branch d b) (s d) (y.1 d)) (λ d e. absurd (true≢false (sym (among-all d) ∙ e))),
          subst (λ (z : ℕ). T (elem z D)) (ap₂ (λ (u v : Branch k → ℕ). M.step l u * c + M.step l v) (sym (over b p s)) (sym (over b q s))) y.2,
        ),
  )
    where
      L : Branch k → List ℕ
      L d = cond (is_same_branch d b) (0 ∷ []) (below c)

      f : (Branch k → ℕ) → ℕ
      f s = M.step l (beside b p s) * c + M.step l (beside b q s)

  split_iff : (D : List ℕ) (p q : ℕ) → T (splits n c M D p q) ↔ Split D p q
  unfolding splits
  split_iff D p q =
      let i = any-elem (λ l. any_of (splits_at c M D p q l) (branches k)) (below (2 ^ n)) in (
        (λ t.
            let u = i.0 t in
            let v = (any_iff (splits_at c M D p q u.0)).0 u.2 in
            let x = (split_at D p q u.0 v.0).0 v.1 in
            (u.0, (elem_below u.0 (2 ^ n)).0 u.1, v.0, x.0, x.1, x.2)),
        λ y. i.1 (y.0, (elem_below y.0 (2 ^ n)).1 y.1, (any_iff (splits_at c M D p q y.0)).1 (y.2, (split_at D p q y.0 y.2).1 (y.3, y.4, y.5))),
      )

  spread_iff : (D : List ℕ) (z : ℕ) → T (elem z (spread n c M D)) ↔ (T (elem z (pairs c)) × T (not (elem z D)) × T (splits n c M D (z / c) (z % c)))
  unfolding spread
  spread_iff D z =
      let i = elem-select z (λ y. not (elem y D) && splits n c M D (y / c) (y % c)) (pairs c) in
      let j = and_iff (not (elem z D)) (splits n c M D (z / c) (z % c)) (λ t. t, λ t. t) (λ t. t, λ t. t) in
      ((λ t. let w = i.0 t in (w.0, (j.0 w.1).0, (j.0 w.1).1)), λ w. i.1 (w.0, j.1 (w.1, w.2)))

  spread-pair : (D : List ℕ) → ((z : ℕ) → T (elem z D) → Pair z) → (z : ℕ) → T (elem z (spread n c M D)) → Pair z
  spread-pair D h z t =
      let w = (spread_iff D z).0 t in
      let hz = ((pair_iff z).0 w.0).0 in
      let x = (split_iff D (z / c) (z % c)).0 w.2 in
      let l = x.0 in let b = x.2 in let s = x.3 in
      let hp = (div-lt_iff_lt-mul pos).1 hz in
      let hq = mod-lt z pos in
      let hy = B.1 l x.1 (beside b (z % c) s) (beside_lt n c M B b (z % c) s hq x.4) in
      let a = (h (M.step l (beside b (z / c) s) * c + M.step l (beside b (z % c) s)) x.5).1 in
      (hz, later l x.1 b s x.4 (subst₂ (λ (u v : ℕ). Apart n c M u v) (digits_div (M.step l (beside b (z / c) s)) hy) (digits_mod (M.step l (beside b (z / c) s)) hy) a))

  all-pairs : (z : ℕ) → T (elem z (apart_pairs n c M)) → Pair z
  unfolding apart_pairs
  all-pairs z t = closure-only (spread n c M) Pair spread-pair (suc (c * c)) (seeds c M) seed_pair z t

  -- apart states are a pair of different ones
  listed : {p q : ℕ} → Apart n c M p q → p < c → q < c → T (elem (p * c + q) (pairs c))
  listed {p} {q} a hp hq = (pair_iff (p * c + q)).1 (digits_lt hp hq, λ e. apart-≢ n c M B a (sym (digits_div p hq) ∙ e ∙ digits_mod p hq))

  ended : (z : ℕ) → T (elem z (spread n c M (apart_pairs n c M))) → T (elem z (apart_pairs n c M))
  unfolding apart_pairs seeds
  ended = closure-ended (spread n c M) (c * c) (suc (c * c)) (seeds c M)
      (select-distinct (λ z. not (beq (M.accepting (z / c)) (M.accepting (z % c)))) (pairs c) pairs-distinct) (omega arith) (λ z t. (all-pairs z t).0)

  keep_seed : (z : ℕ) → T (elem z (seeds c M)) → T (elem z (apart_pairs n c M))
  unfolding apart_pairs
  keep_seed z t = closure-keep (spread n c M) (suc (c * c)) (seeds c M) z t

  -- a pair that the pairs found split is one of them
  closed : (z : ℕ) → T (elem z (pairs c)) → T (splits n c M (apart_pairs n c M) (z / c) (z % c)) → T (elem z (apart_pairs n c M))
  closed z t u = go (elem z (apart_pairs n c M)) refl
    where
      go : (v : Bool) → elem z (apart_pairs n c M) ≡ v → T (elem z (apart_pairs n c M))
      go true e = true→T e
      go false e = ended z ((spread_iff (apart_pairs n c M) z).1 (t, true→T (ap not e), u))

  found : {p q : ℕ} → Apart n c M p q → p < c → q < c → T (elem (p * c + q) (apart_pairs n c M))
  unfolding seeds
  found {p} {q} (seen d) hp hq =
      keep_seed (p * c + q) ((elem-select (p * c + q) (λ z. not (beq (M.accepting (z / c)) (M.accepting (z % c)))) (pairs c)).1
      (listed (seen d) hp hq, rw (digits_div p hq, digits_mod p hq) ((differ (M.accepting p) (M.accepting q)).1 d)))
  found {p} {q} (later l h b s u a) hp hq =
      let i = found a (B.1 l h (beside b p s) (beside_lt n c M B b p s hp u)) (B.1 l h (beside b q s) (beside_lt n c M B b q s hq u)) in
      closed (p * c + q) (listed (later l h b s u a) hp hq) (rw (digits_div p hq, digits_mod p hq) ((split_iff (apart_pairs n c M) p q).1 (l, h, b, s, u, i)))

  pub apart-tells : (p q : ℕ) → p < c → q < c → T (is_apart n c M p q) ↔ Apart n c M p q
  unfolding is_apart
  apart-tells p q hp hq = (
    (λ t. subst₂ (λ (u v : ℕ). Apart n c M u v) (digits_div p hq) (digits_mod p hq) (all-pairs (p * c + q) t).1),
    λ a. found a hp hq,
  )

-- THE ROUNDS AGREE with the meaning: two states are found apart exactly if some tree around them is accepted with one of them only
pub apart_means : {k : ℕ} (n c : ℕ) (M : Machine k ℕ) → Full n c M → (p q : ℕ) → p < c → q < c → T (is_apart n c M p q) ↔ (¬ BehaveAlike n M p q)
apart_means n c M F p q hp hq =
    let i = apart-tells n c M F.0 p q hp hq in (
      (λ t x. apart-differ n c M F (i.0 t) x),
      λ x. go (is_apart n c M p q) refl (λ t. i.1 t) x,
    )
  where
    go : (v : Bool) → is_apart n c M p q ≡ v → (Apart n c M p q → T (is_apart n c M p q)) → (¬ BehaveAlike n M p q) → T (is_apart n c M p q)
    go true e f x = true→T e
    go false e f x = absurd (x (like_behave n c M F p q (λ a. subst T e (f a))))
