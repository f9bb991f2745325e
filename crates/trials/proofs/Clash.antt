-- The trials: the list that they keep is unsatisfiable, each of its parts is needed, and no other list is kept.
-- Assumes nothing.
use Prim.Native.Nat.{ℕ, ◌≤◌, ◌<◌}
use mathlib.Core.Path.{◌≡◌, refl, sym, subst, ◌∙◌}
use mathlib.Core.Logic.{◌↔◌, ◌⊎◌, inl, inr, ⊎_elim}
use mathlib.Core.Bool.{Bool, true, false, cond}
use mathlib.Core.List.{List, [], ◌∷◌, ◌++◌, append_assoc, append-nil}
use native.Mathlib.Omega.{arith}
use lib.Dec.{T}
use lib.ListN.{length}
use Rattle.logic.specs.Meaning.{Assignment, Holds}
use Rattle.logic.specs.Rule.{Record, formula_at, Satisfies, Accepted}
use Rattle.logic.specs.Reach.{elem}
use Rattle.logic.specs.Alike.{Distinct}
use Rattle.logic.proofs.Reach.{elem-none, elem-one, elem-cons, elem-append}
use Rattle.parts.specs.Parts.{parts_of}
use Rattle.trials.specs.Clash.{NoneHold, SomeHold, Tells, tried_with, kept_of, TrialsKeep, all-tried, dropped, stays}
use Rattle.trials.specs.Clash.{Sublist, no_more, left_out, taken, Clash}
use Rattle.parts.proofs.Lists.{elem-later}
use Rattle.parts.proofs.PartLaws.{and_earlier, parts_all, parts_within, parts-distinct}

-- a sublist's members are the list's
pub sublist_elem : {K L : List ℕ} → Sublist K L → (x : ℕ) → T (elem x K) → T (elem x L)
sublist_elem no_more x m = m
sublist_elem (left_out {x = y} {L = L} s) x m = elem-later x y L (sublist_elem s x m)
sublist_elem (taken {x = y} {K = K} {L = L} s) x m =
    (elem-cons x y L).1 (⊎_elim inl (λ u. inr (sublist_elem s x u)) ((elem-cons x y K).0 m))

-- it is no longer than the list
pub sublist_length : {K L : List ℕ} → Sublist K L → length K ≤ length L
sublist_length no_more = omega arith
sublist_length (left_out s) = let h = sublist_length s in omega arith
sublist_length (taken s) = let h = sublist_length s in omega arith

-- and repeats nothing that the list does not repeat
pub sublist_distinct : {K L : List ℕ} → Sublist K L → Distinct L → Distinct K
unfolding Distinct
sublist_distinct no_more d = tt
sublist_distinct (left_out s) d = sublist_distinct s d.1
sublist_distinct (taken {x = y} s) d = ((λ m. d.0 (sublist_elem s y m)), sublist_distinct s d.1)

-- those kept and those not yet tried, with one in between
pub between : (x : ℕ) (K L : List ℕ) (p : ℕ) → T (elem x (K ++ (p ∷ L))) ↔ ((x ≡ p) ⊎ T (elem x (K ++ L)))
between x K L p =
    let i = elem-append x K (p ∷ L) in let j = elem-append x K L in let h = elem-cons x p L in (
      λ m. ⊎_elim (λ u. inr (j.1 (inl u))) (λ u. ⊎_elim inl (λ v. inr (j.1 (inr v))) (h.0 u)) (i.0 m),
      λ m. i.1 (⊎_elim (λ e. inr (h.1 (inl e))) (λ u. ⊎_elim inl (λ v. inr (h.1 (inr v))) (j.0 u)) m),
    )

-- one kept more
pub kept_more : (K L : List ℕ) (p : ℕ) → (K ++ (p ∷ [])) ++ L ≡ K ++ (p ∷ L)
kept_more K L p = append_assoc K (p ∷ []) L

module _ (k : ℕ) (rs : List Record) where
  -- what satisfies a list satisfies every list with no further members
  pub some-fewer : (K L : List ℕ) → ((x : ℕ) → T (elem x K) → T (elem x L)) → SomeHold k rs L → SomeHold k rs K
  some-fewer K L h w = (w.0, λ i m. w.1 i (h i m))

  pub none_more : (K L : List ℕ) → ((x : ℕ) → T (elem x K) → T (elem x L)) → NoneHold k rs K → NoneHold k rs L
  none_more K L h z A w = z A (λ i m. w i (h i m))

  -- MONOTONE: a sublist of a satisfiable list is satisfiable
  pub sublist_some : (K L : List ℕ) → Sublist K L → SomeHold k rs L → SomeHold k rs K
  sublist_some K L s = some-fewer K L (sublist_elem s)

  -- the empty list is true of every assignment
  pub some-empty : SomeHold k rs []
  some-empty = ((λ i. []), λ i m. absurd (elem-none i m))

  -- THE TRIALS LEAVE ONE LIST ONLY
  pub keeps-one : {kept ps R S : List ℕ} → TrialsKeep k rs kept ps R → TrialsKeep k rs kept ps S → R ≡ S
  keeps-one all-tried all-tried = refl
  keeps-one (dropped h u) (dropped g v) = keeps-one u v
  keeps-one (dropped h u) (stays w v) = absurd (h w.0 w.1)
  keeps-one (stays w u) (dropped h v) = absurd (h w.0 w.1)
  keeps-one (stays w u) (stays y v) = keeps-one u v

  -- those kept so far stay in front; of the others some are left out
  pub keeps-front : {kept ps R : List ℕ} → TrialsKeep k rs kept ps R → (K : List ℕ) × (R ≡ kept ++ K) × Sublist K ps
  keeps-front (all-tried {kept = kept}) = ([], sym (append-nil kept), no_more)
  keeps-front (dropped h u) = let w = keeps-front u in (w.0, w.1, left_out w.2)
  keeps-front (stays {kept = kept} {p = p} y u) = let w = keeps-front u in (p ∷ w.0, w.1 ∙ kept_more kept w.0 p, taken w.2)

  pub keeps-none : {kept ps R : List ℕ} → TrialsKeep k rs kept ps R → NoneHold k rs (kept ++ ps) → NoneHold k rs R
  keeps-none (all-tried {kept = kept}) z = subst (NoneHold k rs) (append-nil kept) z
  keeps-none (dropped h u) z = keeps-none u h
  keeps-none (stays {kept = kept} {rest = rest} {p = p} y u) z = keeps-none u (subst (NoneHold k rs) (sym (kept_more kept rest p)) z)

  -- some assignment satisfies all of L but p
  abbrev pub Needed : List ℕ → ℕ → Type 0
  Needed L p = (A : Assignment k) × ((q : ℕ) → T (elem q L) → ¬ (q ≡ p) → Holds (formula_at rs q) A)

  needed_fewer : (K L : List ℕ) → ((x : ℕ) → T (elem x K) → T (elem x L)) → (p : ℕ) → Needed L p → Needed K p
  needed_fewer K L h p w = (w.0, λ q m. w.1 q (h q m))

  -- a part that stays is needed from then on
  pub keeps_needed : {kept ps R : List ℕ} → TrialsKeep k rs kept ps R → ((p : ℕ) → T (elem p kept) → Needed (kept ++ ps) p)
      → (p : ℕ) → T (elem p R) → Needed R p
  keeps_needed (all-tried {kept = kept}) f = λ p m. subst (λ (L : List ℕ). Needed L p) (append-nil kept) (f p m)
  keeps_needed (dropped {kept = kept} {rest = rest} {p = q} h u) f =
      keeps_needed u (λ p m. needed_fewer (kept ++ rest) (kept ++ (q ∷ rest)) (λ x e. (between x kept rest q).1 (inr e)) p (f p m))
  keeps_needed (stays {kept = kept} {rest = rest} {p = q} y u) f = keeps_needed u
      (λ p m. subst (λ (L : List ℕ). Needed L p) (sym (kept_more kept rest q)) (⊎_elim (f p)
      (λ e. (y.0, λ x i d. ⊎_elim (λ v. absurd (d (v ∙ sym (elem-one p q e)))) (λ v. y.1 x v) ((between x kept rest q).0 i)))
      ((elem-append p kept (q ∷ [])).0 m)))

  not_nothing : (R : List ℕ) → NoneHold k rs R → 0 < length R
  not_nothing [] z = absurd (let w = some-empty in z w.0 w.1)
  not_nothing (x ∷ R) z = omega arith

  -- WHAT THE TRIALS KEEP IS A CLASH, if all the parts together are unsatisfiable
  pub keeps-clash : (ps R : List ℕ) → NoneHold k rs ps → TrialsKeep k rs [] ps R → Clash k rs ps R
  keeps-clash ps R z u =
      let w = keeps-front u in record {
        unsatisfiable = keeps-none u z;
        satisfiable-without = keeps_needed u (λ p m. absurd (elem-none p m));
        in_order = subst (λ (L : List ℕ). Sublist L ps) (sym w.1) w.2;
        not_empty = not_nothing R (keeps-none u z);
        kept = u;
      }

  -- and there is one only
  pub clash-one : (ps R S : List ℕ) → Clash k rs ps R → Clash k rs ps S → R ≡ S
  clash-one ps R S a b = keeps-one a.kept b.kept

  module _ (none : List ℕ → Bool) (tells : Tells k rs none) where
    -- the trials by a test that tells
    pub tried-keeps : (ps kept : List ℕ) → ((x : ℕ) → T (elem x (kept ++ ps)) → x < length rs) → TrialsKeep k rs kept ps (tried_with none kept ps)
    unfolding tried_with
    tried-keeps [] kept h = all-tried
    tried-keeps (p ∷ ps) kept h = go (none (kept ++ ps)) refl
        (tried-keeps ps kept less) (tried-keeps ps (kept ++ (p ∷ [])) (λ x m. h x (subst (λ (L : List ℕ). T (elem x L)) (kept_more kept ps p) m)))
      where
        less : (x : ℕ) → T (elem x (kept ++ ps)) → x < length rs
        less x m = h x ((between x kept ps p).1 (inr m))

        go : (v : Bool) → none (kept ++ ps) ≡ v → TrialsKeep k rs kept ps (tried_with none kept ps)
            → TrialsKeep k rs (kept ++ (p ∷ [])) ps (tried_with none (kept ++ (p ∷ [])) ps)
            → TrialsKeep k rs kept (p ∷ ps) (tried_with none (cond v kept (kept ++ (p ∷ []))) ps)
        go true e a b = dropped (tells.when_true (kept ++ ps) less e) a
        go false e a b = stays (tells.when_false (kept ++ ps) less e) b

    pub kept-clash : (ps : List ℕ) → ((x : ℕ) → T (elem x ps) → x < length rs) → NoneHold k rs ps → Clash k rs ps (kept_of none ps)
    kept-clash ps h z = keeps-clash ps (kept_of none ps) z (tried-keeps ps [] h)

  module _ (n : ℕ) (ok : Accepted k n rs) where
    -- the parts are satisfiable together exactly if the rule is
    pub parts_none : ((A : Assignment k) → ¬ Satisfies rs A) ↔ NoneHold k rs (parts_of rs)
    parts_none = ((λ z A h. z A ((parts_all k n rs ok A).1 h)), λ z A h. z A ((parts_all k n rs ok A).0 h))

    pub parts-some : ((A : Assignment k) × Satisfies rs A) ↔ SomeHold k rs (parts_of rs)
    parts-some = ((λ w. (w.0, (parts_all k n rs ok w.0).0 w.1)), λ w. (w.0, (parts_all k n rs ok w.0).1 w.1))

    -- the list repeats no record and is no longer than the parts
    pub clash-distinct : (R : List ℕ) → Clash k rs (parts_of rs) R → Distinct R
    clash-distinct R a = sublist_distinct a.in_order (parts-distinct rs (and_earlier k n rs ok.1))

    pub clash-length : (R : List ℕ) → Clash k rs (parts_of rs) R → length R ≤ length (parts_of rs)
    clash-length R a = sublist_length a.in_order

    -- THE CLAIM OF A6, of a rule that no assignment satisfies
    pub rule-clash : (none : List ℕ → Bool) → Tells k rs none → ((A : Assignment k) → ¬ Satisfies rs A) → Clash k rs (parts_of rs) (kept_of none (parts_of rs))
    rule-clash none tells z = kept-clash none tells (parts_of rs) (parts_within k n rs ok) (parts_none.0 z)
