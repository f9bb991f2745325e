-- Exists: the machine of state sets accepts a tree exactly if the part's machine accepts some tree
-- that differs in the bound variable only.
-- Assumes nothing.
use Prim.Native.Nat.{ℕ, zero, suc, ◌<◌}
use mathlib.Core.Path.{◌≡◌, refl, ap, sym, ◌∙◌, fun_ext}
use mathlib.Core.Logic.{◌≢◌}
use mathlib.Core.Bool.{Bool, true, false, cond}
use mathlib.Core.List.{List, [], ◌∷◌}
use native.Mathlib.Nat.{not-suc-le-zero}
use lib.Pow.{pow_pos}
use lib.Dec.{eqb, eqb→eq}
use Rattle.logic.specs.Trim.{under, depth}
use Rattle.logic.specs.Meaning.{Branch, Place, same_place, has, Assignment, Formula, exists, Holds, assign}
use Rattle.logic.specs.Tree.{branches, Tree, empty, node, bit_at, Proper, Represents, bit}
use Rattle.logic.specs.Machine.{Machine, run, Decides, Blank, none, grown, Projects, with_bit}
use Rattle.logic.proofs.Places.{true→T, not_T, neqb, has-under, gather, gather-nil, gather-cons, Short, short-under, short-below, short-depth}
use Rattle.logic.proofs.Bits.{bit-put-same, bit-put-other, bit-zero, put_lt}

-- u has the same bits as t in all variables but x
SameBut : {k : ℕ} → ℕ → ℕ → Tree k → Tree k → Type 0
SameBut {k} n x t u = (i : ℕ) → i < n → i ≢ x → (p : Place k) → bit_at n u i p ≡ bit_at n t i p

-- the set of variable i in a tree
unfoldable pub track : {k : ℕ} → ℕ → ℕ → Tree k → List (Place k)
track n i empty = []
track {k} n i (node l f) = cond (bit n l i) ([] ∷ gather (branches k) (λ b. track n i (f b))) (gather (branches k) (λ b. track n i (f b)))

pub has-track : {k : ℕ} (n i : ℕ) (t : Tree k) (p : Place k) → has (track n i t) p ≡ bit_at n t i p
unfolding has track bit_at same_place
has-track n i empty p = refl
has-track {k} n i (node l f) [] = go (bit n l i)
  where
    R : List (Place k)
    R = gather (branches k) (λ b. track n i (f b))

    go : (v : Bool) → has (cond v ([] ∷ R) R) [] ≡ v
    go true = refl
    go false = gather-nil (branches k) (λ b. track n i (f b))
has-track {k} n i (node l f) (c ∷ p) = go (bit n l i) (has-track n i (f c) p)
  where
    R : List (Place k)
    R = gather (branches k) (λ b. track n i (f b))

    go : (v : Bool) → has (track n i (f c)) p ≡ bit_at n (f c) i p → has (cond v ([] ∷ R) R) (c ∷ p) ≡ bit_at n (f c) i p
    go true ih = gather-cons (λ b. track n i (f b)) c p ∙ ih
    go false ih = gather-cons (λ b. track n i (f b)) c p ∙ ih

-- the tree that has X for variable x and nothing else, to depth d
unfoldable grow : {k : ℕ} → ℕ → ℕ → ℕ → List (Place k) → Tree k
grow n x zero X = empty
grow n x (suc d) X = node (with_bit n x (has X []) 0) (λ c. grow n x d (under c X))

-- t with X for variable x
unfoldable vary : {k : ℕ} → ℕ → ℕ → ℕ → Tree k → List (Place k) → Tree k
vary n x d empty X = grow n x d X
vary n x d (node l f) X = node (with_bit n x (has X []) l) (λ c. vary n x d (f c) (under c X))

module _ {k : ℕ} (n x : ℕ) (below : x < n) where
  grow-same : (d : ℕ) (X : List (Place k)) → Short d X → (p : Place k) → bit_at n (grow n x d X) x p ≡ has X p
  unfolding grow bit_at
  grow-same zero X s p = sym (not_T (has X p) (λ t. not-suc-le-zero (s p t)))
  grow-same (suc d) X s [] = bit-put-same n x (has X []) 0
  grow-same (suc d) X s (c ∷ p) = grow-same d (under c X) (short-under d X c s) p ∙ has-under c X p

  grow-proper : (d : ℕ) (X : List (Place k)) → Proper n (grow n x d X)
  unfolding grow Proper
  grow-proper zero X = tt
  grow-proper (suc d) X = (put_lt n x (has X []) 0 below (pow_pos n), λ c. grow-proper d (under c X))

  vary-proper : (d : ℕ) (t : Tree k) → Proper n t → (X : List (Place k)) → Proper n (vary n x d t X)
  unfolding vary Proper
  vary-proper d empty o X = grow-proper d X
  vary-proper d (node l f) o X = (put_lt n x (has X []) l below o.0, λ c. vary-proper d (f c) (o.1 c) (under c X))

  grow-other : (d : ℕ) (X : List (Place k)) → SameBut n x empty (grow n x d X)
  unfolding grow bit_at SameBut
  grow-other zero X i hi e p = refl
  grow-other (suc d) X i hi e [] = bit-put-other n x (has X []) 0 i below hi e ∙ bit-zero n i
  grow-other (suc d) X i hi e (c ∷ p) = grow-other d (under c X) i hi e p

  vary-same : (d : ℕ) (t : Tree k) (X : List (Place k)) → Short d X → (p : Place k) → bit_at n (vary n x d t X) x p ≡ has X p
  unfolding vary bit_at
  vary-same d empty X s p = grow-same d X s p
  vary-same d (node l f) X s [] = bit-put-same n x (has X []) l
  vary-same d (node l f) X s (c ∷ p) = vary-same d (f c) (under c X) (short-below d X c s) p ∙ has-under c X p

  vary-other : (d : ℕ) (t : Tree k) (X : List (Place k)) → SameBut n x t (vary n x d t X)
  unfolding vary bit_at SameBut
  vary-other d empty X i hi e p = grow-other d X i hi e p
  vary-other d (node l f) X i hi e [] = bit-put-other n x (has X []) l i below hi e
  vary-other d (node l f) X i hi e (c ∷ p) = vary-other d (f c) (under c X) i hi e p

  -- a tree that differs in x only, and has X there, represents the assignment with X for x
  represents : (t u : Tree k) (A : Assignment k) (X : List (Place k)) → Represents n t A → SameBut n x t u → ((p : Place k) → bit_at n u x p ≡ has X p)
      → Represents n u (assign x X A)
  unfolding Represents SameBut
  represents t u A X r other same i hi p = go (eqb i x) refl
    where
      go : (v : Bool) → eqb i x ≡ v → bit_at n u i p ≡ has (cond v X (A i)) p
      go true e = rw (eqb→eq i x (true→T e)) (same p)
      go false e = other i hi (neqb i x e) p ∙ r i hi p

module _ {k : ℕ} {Q S : Type 0} (n x : ℕ) (below : x < n) (M : Machine k Q) (E : Machine k S) (Ok : S → Type 0) (Has : S → Q → Type 0)
    (P : Projects n x M E Ok Has) where
  run_ok : (t : Tree k) → Proper n t → Ok (run E t)
  unfolding run Proper
  run_ok empty o = P.start_ok
  run_ok (node l f) o = P.step_ok l o.0 (λ b. run E (f b)) (λ b. run_ok (f b) (o.1 b))

  -- u is a tree that differs from t in x only, on which M comes to q
  abbrev Variant : Tree k → Q → Tree k → Type 0
  Variant t q u = Proper n u × SameBut n x t u × (run M u ≡ q)

  blank_tree : (q : Q) → Blank n x M q → (u : Tree k) × Variant empty q u
  unfolding run bit_at SameBut Proper
  blank_tree q none = (empty, (tt, (λ i h d p. refl), refl))
  blank_tree q (grown v s h) =
      let us : (b : Branch k) → (u : Tree k) × Variant empty (s b) u = λ b. blank_tree (s b) (h b) in (
        node (with_bit n x v 0) (λ b. (us b).0),
        (
          (put_lt n x v 0 below (pow_pos n), λ b. (us b).1.0),
          (λ i hi d p. elim p as (λ r. bit_at n (node (with_bit n x v 0) (λ b. (us b).0)) i r ≡ bit_at n empty i r) [ [] ↦ bit-put-other n x v 0 i below hi d ∙ bit-zero n i | b ∷ p' ↦ (us b).1.1 i hi d p' ]),
          ap (M.step (with_bit n x v 0)) (fun_ext (λ b. (us b).1.2)),
        ),
      )

  -- each state of the set that E comes to on t is come to by M on a variant of t
  variant : (t : Tree k) → Proper n t → (q : Q) → Has (run E t) q → (u : Tree k) × Variant t q u
  unfolding run bit_at SameBut Proper
  variant empty o q h = blank_tree q (P.start-only q h)
  variant (node l f) o q h =
      let c = P.step-only l o.0 (λ b. run E (f b)) (λ b. run_ok (f b) (o.1 b)) q h in
      let us : (b : Branch k) → (u : Tree k) × Variant (f b) (c.1 b) u = λ b. variant (f b) (o.1 b) (c.1 b) (c.2 b) in (
        node (with_bit n x c.0 l) (λ b. (us b).0),
        (
          (put_lt n x c.0 l below o.0, λ b. (us b).1.0),
          (λ i hi d p. elim p as (λ r. bit_at n (node (with_bit n x c.0 l) (λ b. (us b).0)) i r ≡ bit_at n (node l f) i r) [ [] ↦ bit-put-other n x c.0 l i below hi d | b ∷ p' ↦ (us b).1.1 i hi d p' ]),
          ap (M.step (with_bit n x c.0 l)) (fun_ext (λ b. (us b).1.2)) ∙ c.3,
        ),
      )

  grow_blank : (d : ℕ) (X : List (Place k)) → Blank n x M (run M (grow n x d X))
  unfolding run grow
  grow_blank zero X = none
  grow_blank (suc d) X = grown (has X []) (λ c. run M (grow n x d (under c X))) (λ c. grow_blank d (under c X))

  -- and M comes on each variant of t to a state of that set
  vary_in : (d : ℕ) (t : Tree k) → Proper n t → (X : List (Place k)) → Has (run E t) (run M (vary n x d t X))
  unfolding run vary Proper
  vary_in d empty o X = P.start-all (run M (grow n x d X)) (grow_blank d X)
  vary_in d (node l f) o X =
      P.step-all l o.0 (λ c. run E (f c)) (λ c. run_ok (f c) (o.1 c)) (has X []) (λ c. run M (vary n x d (f c) (under c X)))
      (λ c. vary_in d (f c) (o.1 c) (under c X))

  pub decides-exists : (f : Formula k) → Decides n M f → Decides n E (exists x f)
  unfolding Holds
  decides-exists f D t o A r = (
    λ y.
        let c = P.accepts-only (run E t) (run_ok t o) y in
        let v = variant t o c.0 c.1 in
        let u = v.0 in
        let X = track n x u in
        (X, (D u v.1.0 (assign x X A) (represents n x below t u A X r v.1.1 (λ p. sym (has-track n x u p)))).0 (rw v.1.2 c.2)),
    λ h.
        let X = h.0 in
        let u = vary n x (depth X) t X in
        P.accepts-all (run E t) (run_ok t o) (run M u) (vary_in (depth X) t o X)
        ((D u (vary-proper n x below (depth X) t o X) (assign x X A)
        (represents n x below t u A X r (vary-other n x below (depth X) t X) (vary-same n x below (depth X) t X (short-depth X)))).1 h.1),
  )
