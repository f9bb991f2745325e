-- The machine of state sets projects.
-- Assumes nothing.
use Prim.Native.Nat.{ℕ, ◌^◌, ◌<◌}
use mathlib.Core.Path.{◌≡◌, refl, ap, sym, subst, ◌∙◌}
use mathlib.Core.Logic.{◌↔◌, inl, inr, ⊎_elim}
use mathlib.Core.Bool.{Bool, true, false}
use mathlib.Core.List.{List, [], ◌∷◌}
use lib.Pow.{pow_pos}
use lib.Dec.{T}
use Rattle.logic.specs.Tree.{low}
use Rattle.logic.specs.Machine.{Machine, Blank, none, grown, Projects, with_bit, any_of, Bounded}
use Rattle.logic.specs.Reach.{elem, below, successors, Reached, started, stepped, reach, word_of, members, projection}
use Rattle.logic.proofs.Bits.{low_word, word_lt, put_lt}
use Rattle.logic.proofs.Connectives.{or_iff}
use Rattle.logic.proofs.Reach.{elem-cons, elem_below, elem-select, successors_iff}
use Rattle.logic.proofs.Rounds.{reach-only, reach-all}
use Rattle.logic.proofs.Numbered.{reached-bound}

members_iff : (c w q : ℕ) → T (elem q (members c w)) ↔ ((q < c) × T (low w q))
unfolding members
members_iff c w q =
    let i = elem-select q (low w) (below c) in
    let j = elem_below q c in
    (λ t. (j.0 (i.0 t).0, (i.0 t).1), λ u. i.1 (j.1 u.0, u.1))

pub any-elem : (g : ℕ → Bool) (L : List ℕ) → T (any_of g L) ↔ ((q : ℕ) × T (elem q L) × T (g q))
unfolding any_of elem
any-elem g [] = (λ t. absurd t, λ w. w.1)
any-elem g (r ∷ L) =
    let i = or_iff (g r) (any_of g L) (λ t. t, λ t. t) (any-elem g L) in (
      λ t. ⊎_elim (λ u. (r, (elem-cons r r L).1 (inl refl), u)) (λ w. (w.0, (elem-cons w.0 r L).1 (inr w.1), w.2)) (i.0 t),
      λ w. i.1 (⊎_elim (λ e. inl (subst (λ (z : ℕ). T (g z)) e w.2)) (λ u. inr (w.0, u, w.2)) ((elem-cons w.0 r L).0 w.1)),
    )

-- one of two labels
pub one_of : (n x l l' : ℕ) → T (elem l' (with_bit n x false l ∷ with_bit n x true l ∷ [])) → (v : Bool) × (l' ≡ with_bit n x v l)
unfolding elem
one_of n x l l' t =
    ⊎_elim (λ e. (false, e)) (λ u. ⊎_elim (λ e. (true, e)) (λ z. absurd z) ((elem-cons l' (with_bit n x true l) []).0 u))
    ((elem-cons l' (with_bit n x false l) (with_bit n x true l ∷ [])).0 t)

in_two : (n x l : ℕ) (v : Bool) → T (elem (with_bit n x v l) (with_bit n x false l ∷ with_bit n x true l ∷ []))
in_two n x l true = (elem-cons (with_bit n x true l) (with_bit n x false l) (with_bit n x true l ∷ [])).1
    (inr ((elem-cons (with_bit n x true l) (with_bit n x true l) []).1 (inl refl)))
in_two n x l false = (elem-cons (with_bit n x false l) (with_bit n x false l) (with_bit n x true l ∷ [])).1 (inl refl)

module _ {k : ℕ} (n x c : ℕ) (hx : x < n) (M : Machine k ℕ) (B : Bounded n c M) where
  abbrev blanks : List ℕ
  blanks = with_bit n x false 0 ∷ with_bit n x true 0 ∷ []

  to_blank : (q : ℕ) → Reached M blanks q → Blank n x M q
  to_blank q started = none
  to_blank q (stepped l t s h) =
      let w = one_of n x 0 l t in
      subst (λ (z : ℕ). Blank n x M (M.step z s)) (sym w.1) (grown w.0 s (λ b. to_blank (s b) (h b)))

  pub of_blank : (q : ℕ) → Blank n x M q → Reached M blanks q
  of_blank q none = started
  of_blank q (grown v s h) = stepped (with_bit n x v 0) (in_two n x 0 v) s (λ b. of_blank (s b) (h b))

  pub blank_bound : (q : ℕ) → Reached M blanks q → q < c
  blank_bound q r =
      reached-bound n c M blanks B (λ l t. let w = one_of n x 0 l t in subst (λ (z : ℕ). z < 2 ^ n) (sym w.1) (put_lt n x w.0 0 hx (pow_pos n))) q r

  abbrev pub In : ℕ → ℕ → Type 0
  In w q = (q < c) × T (low w q)

  in_word : (g : ℕ → Bool) (q : ℕ) → In (word_of c g) q ↔ ((q < c) × T (g q))
  in_word g q = (λ u. (u.0, subst T (low_word c g q u.0) u.1), λ u. (u.0, subst T (sym (low_word c g q u.0)) u.1))

  -- the start has every state that M comes to on trees that are blank but for x, not its start alone
  start-all : (q : ℕ) → Blank n x M q → In (projection n x c M).start q
  unfolding projection
  start-all q u = (in_word (λ z. elem z (reach M blanks c)) q).1 (blank_bound q (of_blank q u), reach-all M blanks c blank_bound q (of_blank q u))

  pub projection-bounded : Bounded n (2 ^ c) (projection n x c M)
  unfolding projection
  projection-bounded = (
    word_lt c (λ q. elem q (reach M (with_bit n x false 0 ∷ with_bit n x true 0 ∷ []) c)),
    λ l h s u. word_lt c (λ q. elem q (successors M (with_bit n x false l ∷ with_bit n x true l ∷ []) (λ b. members c (s b)))),
  )

  pub projection-projects : Projects n x M (projection n x c M) (λ w. w < 2 ^ c) In
  unfolding projection
  projection-projects = record {
    start_ok = projection-bounded.0;
    step_ok = λ l h s u. projection-bounded.1 l h s u;
    start-only = λ q u. to_blank q (reach-only M blanks c blank_bound q ((in_word (λ z. elem z (reach M blanks c)) q).0 u).1);
    start-all = start-all;
    step-only = λ l h s u q v.
        let ls = with_bit n x false l ∷ with_bit n x true l ∷ [] in
        let w = (successors_iff M ls (λ b. members c (s b)) q).0 ((in_word (λ z. elem z (successors M ls (λ b. members c (s b)))) q).0 v).1 in
        let y = one_of n x l w.0 w.1 in
        (y.0, w.2, (λ b. (members_iff c (s b) (w.2 b)).0 (w.3 b)), ap (λ (z : ℕ). M.step z w.2) (sym y.1) ∙ w.4);
    step-all = λ l h s u v r m.
        let ls = with_bit n x false l ∷ with_bit n x true l ∷ [] in
        let q = M.step (with_bit n x v l) r in
        (in_word (λ z. elem z (successors M ls (λ b. members c (s b)))) q).1 (
          B.1 (with_bit n x v l) (put_lt n x v l hx h) r (λ b. (m b).0),
          (successors_iff M ls (λ b. members c (s b)) q).1 (with_bit n x v l, in_two n x l v, r, (λ b. (members_iff c (s b) (r b)).1 (m b)), refl),
        );
    accepts-only = λ w u t.
        let y = (any-elem M.accepting (members c w)).0 t in
        (y.0, (members_iff c w y.0).0 y.1, y.2);
    accepts-all = λ w u q m t. (any-elem M.accepting (members c w)).1 (q, (members_iff c w q).1 m, t);
  }
