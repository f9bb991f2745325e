-- The joined rule: its records are good, its formulas are those of the two rules, and it is satisfied by what satisfies both; for every k.
-- Assumes nothing.
use Prim.Native.Nat.{ℕ, zero, suc, ◌+◌, ◌≤◌, ◌<◌, max}
use mathlib.Core.Path.{◌≡◌, refl, ap, ap₂, sym, subst, ◌∙◌}
use mathlib.Core.Logic.{◌↔◌}
use mathlib.Core.Bool.{Bool, true, ◌&&◌}
use mathlib.Core.List.{List, [], ◌∷◌, ◌++◌, append_assoc, append-nil}
use native.Mathlib.Nat.{add-suc, zero-add}
use native.Mathlib.Omega.{arith}
use borrow.Author.Tests.{lt-ltb}
use lib.Dec.{T, eqb, ltb, ltb→lt, lt→ltb}
use lib.ListN.{length, get_or, length-append, get_or-append}
use lib.Seq.{get_or-append_seam, get_or-append-add}
use Rattle.logic.specs.Meaning.{Assignment, Formula, root, negation, disjunction, conjunction, exists, Holds}
use Rattle.logic.specs.Tree.{SameSets}
use Rattle.logic.specs.Rule.{Record, last_of, formula_of, extend, formula_at, Satisfies, good, good_from, Accepted}
use Rattle.logic.proofs.Connectives.{and_iff}
use Rattle.logic.proofs.Rules.{and_both, extend-length}
use Rattle.logic.proofs.FirstSets.{satisfies_first}
use Rattle.rule_strip.specs.RuleStrip.{first_use, second_use}
use Rattle.rule_strip.specs.declared.Use.{Use}
use Rattle.rule_strip.specs.declared.Use.TheVariants.{Variable, Earlier, Unused}
use Rattle.join.specs.JoinedRule.{moved_field, moved, moved_all, last_and, joined_records, first_sets, JoinedRule}

-- ---- formulas

module _ {k : ℕ} where
  extend-append : (fs : List (Formula k)) (rs ss : List Record) → extend fs (rs ++ ss) ≡ extend (extend fs rs) ss
  unfolding extend
  extend-append fs [] ss = refl
  extend-append fs (r ∷ rs) ss = extend-append (fs ++ (formula_of r fs ∷ [])) rs ss

  module _ (F : List (Formula k)) where
    up : (fs : List (Formula k)) (a : ℕ) → get_or (F ++ fs) (length F + a) (root 0) ≡ get_or fs a (root 0)
    up fs a = get_or-append-add F fs a (root 0)

    -- a record whose record numbers are moved up by the number of formulas put in front has the formula that it had
    pub of_moved : (fs : List (Formula k)) (op a b : ℕ)
        → formula_of (moved (length F) (record { op = op; first = a; second = b })) (F ++ fs) ≡ formula_of (record { op = op; first = a; second = b }) fs
    unfolding formula_of moved first_use second_use
    of_moved fs zero a b = refl
    of_moved fs (suc zero) a b = refl
    of_moved fs (suc (suc zero)) a b = refl
    of_moved fs (suc (suc (suc zero))) a b = refl
    of_moved fs (suc (suc (suc (suc zero)))) a b = refl
    of_moved fs (suc (suc (suc (suc (suc zero))))) a b = ap negation (up fs a)
    of_moved fs (suc (suc (suc (suc (suc (suc zero)))))) a b = ap₂ disjunction (up fs a) (up fs b)
    of_moved fs (suc (suc (suc (suc (suc (suc (suc zero))))))) a b = ap₂ conjunction (up fs a) (up fs b)
    of_moved fs (suc (suc (suc (suc (suc (suc (suc (suc zero)))))))) a b = ap (exists a) (up fs b)
    of_moved fs (suc (suc (suc (suc (suc (suc (suc (suc (suc zero))))))))) a b = refl
    of_moved fs (suc (suc (suc (suc (suc (suc (suc (suc (suc (suc op)))))))))) a b = refl

    pub extend-moved : (rs : List Record) (fs : List (Formula k)) → extend (F ++ fs) (moved_all (length F) rs) ≡ F ++ extend fs rs
    unfolding extend moved_all
    extend-moved [] fs = refl
    extend-moved (r ∷ rs) fs =
        ap (λ (f : Formula k). extend ((F ++ fs) ++ (f ∷ [])) (moved_all (length F) rs)) (of_moved fs r.op r.first r.second)
        ∙ ap (λ (gs : List (Formula k)). extend gs (moved_all (length F) rs)) (append_assoc F fs (formula_of r fs ∷ []))
        ∙ extend-moved rs (fs ++ (formula_of r fs ∷ []))

module _ (k : ℕ) (rs ss : List Record) where
  abbrev F : List (Formula k)
  F = extend [] rs

  abbrev G : List (Formula k)
  G = extend [] ss

  F-length : length F ≡ length rs
  F-length = extend-length {k = k} rs [] ∙ omega arith

  G-length : length G ≡ length ss
  G-length = extend-length {k = k} ss [] ∙ omega arith

  -- the formulas of the joined rule: those of the first, those of the second, and of the last "and"
  pub joined_formulas : extend {k = k} [] (joined_records rs ss) ≡ F ++ (G ++ (formula_of (last_and rs ss) (F ++ G) ∷ []))
  unfolding joined_records extend
  joined_formulas =
      extend-append [] rs (moved_all (length rs) ss ++ (last_and rs ss ∷ []))
      ∙ extend-append F (moved_all (length rs) ss) (last_and rs ss ∷ [])
      ∙ ap (λ (gs : List (Formula k)). extend gs (last_and rs ss ∷ [])) front
      ∙ append_assoc F G (formula_of (last_and rs ss) (F ++ G) ∷ [])
    where
      front : extend F (moved_all (length rs) ss) ≡ F ++ G
      front =
          ap₂ (λ (gs : List (Formula k)) (m : ℕ). extend gs (moved_all m ss)) (sym (append-nil F)) (sym F-length)
          ∙ extend-moved F ss []

  -- a record of the first rule keeps its formula
  pub first-formula : (i : ℕ) → i < length rs → formula_at {k = k} (joined_records rs ss) i ≡ formula_at rs i
  unfolding formula_at
  first-formula i h = rw joined_formulas (get_or-append F (G ++ (formula_of (last_and rs ss) (F ++ G) ∷ [])) (root 0) i (let e = F-length in omega arith))

  -- A MOVED RECORD has the formula that it had
  pub moved-formula : (i : ℕ) → i < length ss → formula_at {k = k} (joined_records rs ss) (length rs + i) ≡ formula_at ss i
  unfolding formula_at
  moved-formula i h =
      ap₂ (λ (gs : List (Formula k)) (m : ℕ). get_or gs (m + i) (root 0)) joined_formulas (sym F-length)
      ∙ get_or-append-add F (G ++ (formula_of (last_and rs ss) (F ++ G) ∷ [])) i (root 0)
      ∙ get_or-append G (formula_of (last_and rs ss) (F ++ G) ∷ []) (root 0) i (let e = G-length in omega arith)

  -- and the last is the conjunction of both rules
  pub joined-formula : 0 < length rs → 0 < length ss
      → formula_at {k = k} (joined_records rs ss) (length rs + length ss) ≡ conjunction (formula_at rs (last_of rs)) (formula_at ss (last_of ss))
  unfolding formula_at formula_of
  joined-formula h l =
      ap₂ (λ (gs : List (Formula k)) (m : ℕ). get_or gs m (root 0)) joined_formulas (ap₂ (λ (a b : ℕ). a + b) (sym F-length) (sym G-length))
      ∙ get_or-append-add F (G ++ (formula_of (last_and rs ss) (F ++ G) ∷ [])) (length G) (root 0)
      ∙ get_or-append_seam G (formula_of (last_and rs ss) (F ++ G)) [] (root 0)
      ∙ ap₂ conjunction (get_or-append F G (root 0) (last_of rs) (let e = F-length in omega arith))
      (ap (λ (m : ℕ). get_or (F ++ G) (m + last_of ss) (root 0)) (sym F-length) ∙ get_or-append-add F G (last_of ss) (root 0))

-- a record moved by nothing is as it was
unmoved-field : (u : Use) (v : ℕ) → moved_field 0 u v ≡ v
unmoved-field Variable v = refl
unmoved-field Earlier v = zero-add v
unmoved-field Unused v = refl

pub unmoved : (r : Record) → moved 0 r ≡ r
unfolding moved
unmoved r = λ i. record { op = r.op; first = unmoved-field (first_use r.op) r.first i; second = unmoved-field (second_use r.op) r.second i }

unmoved-all : (rs : List Record) → moved_all 0 rs ≡ rs
unfolding moved_all
unmoved-all [] = refl
unmoved-all (r ∷ rs) = ap₂ (λ (q : Record) (qs : List Record). q ∷ qs) (unmoved r) (unmoved-all rs)

pub moved_length : (m : ℕ) (rs : List Record) → length (moved_all m rs) ≡ length rs
unfolding moved_all
moved_length m [] = refl
moved_length m (r ∷ rs) = ap suc (moved_length m rs)

pub joined_length : (rs ss : List Record) → length (joined_records rs ss) ≡ length rs + length ss + 1
unfolding joined_records
joined_length rs ss =
    let a = length-append rs (moved_all (length rs) ss ++ (last_and rs ss ∷ [])) in
    let b = length-append (moved_all (length rs) ss) (last_and rs ss ∷ []) in
    let c = moved_length (length rs) ss in omega arith

-- ---- the records are good

pair : (a b : Bool) → T a → T b → T (a && b)
pair a b t u = (and_iff a b (λ t. t, λ t. t) (λ t. t, λ t. t)).1 (t, u)

-- each of two tests implies another
each : (a b c d : Bool) → (T a → T c) → (T b → T d) → T (a && b) → T (c && d)
each a b c d f g t = let w = and_both a b t in pair c d (f w.0) (g w.1)

wider : (a n p : ℕ) → n ≤ p → T (ltb a n) → T (ltb a p)
wider a n p h t = lt→ltb a p (let l = ltb→lt a n t in omega arith)

higher : (m a i : ℕ) → T (ltb a i) → T (ltb (m + a) (m + i))
higher m a i t = lt→ltb (m + a) (m + i) (let l = ltb→lt a i t in omega arith)

module _ (k n p : ℕ) (h : n ≤ p) where
  -- over more variables, and m places further up
  pub moved-good : (m i op a b : ℕ) → T (good k n i (record { op = op; first = a; second = b }))
      → T (good k p (m + i) (moved m (record { op = op; first = a; second = b })))
  unfolding good moved first_use second_use
  moved-good m i zero a b = each (ltb a n) (ltb b n) (ltb a p) (ltb b p) (wider a n p h) (wider b n p h)
  moved-good m i (suc zero) a b = each (ltb a n) (eqb b 0) (ltb a p) (eqb b 0) (wider a n p h) (λ t. t)
  moved-good m i (suc (suc zero)) a b =
      each (ltb 0 k) (ltb a n && ltb b n) (ltb 0 k) (ltb a p && ltb b p) (λ t. t) (each (ltb a n) (ltb b n) (ltb a p) (ltb b p) (wider a n p h) (wider b n p h))
  moved-good m i (suc (suc (suc zero))) a b =
      each (ltb 1 k) (ltb a n && ltb b n) (ltb 1 k) (ltb a p && ltb b p) (λ t. t) (each (ltb a n) (ltb b n) (ltb a p) (ltb b p) (wider a n p h) (wider b n p h))
  moved-good m i (suc (suc (suc (suc zero)))) a b = each (ltb a n) (eqb b 0) (ltb a p) (eqb b 0) (wider a n p h) (λ t. t)
  moved-good m i (suc (suc (suc (suc (suc zero))))) a b = each (ltb a i) (eqb b 0) (ltb (m + a) (m + i)) (eqb b 0) (higher m a i) (λ t. t)
  moved-good m i (suc (suc (suc (suc (suc (suc zero)))))) a b =
      each (ltb a i) (ltb b i) (ltb (m + a) (m + i)) (ltb (m + b) (m + i)) (higher m a i) (higher m b i)
  moved-good m i (suc (suc (suc (suc (suc (suc (suc zero))))))) a b =
      each (ltb a i) (ltb b i) (ltb (m + a) (m + i)) (ltb (m + b) (m + i)) (higher m a i) (higher m b i)
  moved-good m i (suc (suc (suc (suc (suc (suc (suc (suc zero)))))))) a b =
      each (ltb a n) (ltb b i) (ltb a p) (ltb (m + b) (m + i)) (wider a n p h) (higher m b i)
  moved-good m i (suc (suc (suc (suc (suc (suc (suc (suc (suc zero))))))))) a b =
      each (ltb 2 k) (ltb a n && ltb b n) (ltb 2 k) (ltb a p && ltb b p) (λ t. t) (each (ltb a n) (ltb b n) (ltb a p) (ltb b p) (wider a n p h) (wider b n p h))
  moved-good m i (suc (suc (suc (suc (suc (suc (suc (suc (suc (suc op)))))))))) a b = λ t. absurd t

  all_moved : (m : ℕ) (rs : List Record) (i : ℕ) → T (good_from k n i rs) → T (good_from k p (m + i) (moved_all m rs))
  unfolding good_from moved_all
  all_moved m [] i t = tt
  all_moved m (r ∷ rs) i t =
      each (good k n i r) (good_from k n (suc i) rs) (good k p (m + i) (moved m r)) (good_from k p (suc (m + i)) (moved_all m rs))
      (moved-good m i r.op r.first r.second)
      (λ u. subst (λ (j : ℕ). T (good_from k p j (moved_all m rs))) (add-suc m i) (all_moved m rs (suc i) u)) t

  -- the first rule's are moved by nothing
  all-wider : (rs : List Record) → T (good_from k n 0 rs) → T (good_from k p 0 rs)
  all-wider rs t = subst (λ (qs : List Record). T (good_from k p 0 qs)) (unmoved-all rs) (all_moved 0 rs 0 t)

good-append : (k n : ℕ) (rs ss : List Record) (i : ℕ) → T (good_from k n i rs) → T (good_from k n (i + length rs) ss) → T (good_from k n i (rs ++ ss))
unfolding good_from
good-append k n [] ss i t u = subst (λ (j : ℕ). T (good_from k n j ss)) (omega arith) u
good-append k n (r ∷ rs) ss i t u =
    let w = and_both (good k n i r) (good_from k n (suc i) rs) t in
    pair (good k n i r) (good_from k n (suc i) (rs ++ ss)) w.0
    (good-append k n rs ss (suc i) w.1 (subst (λ (j : ℕ). T (good_from k n j ss)) (omega arith) u))

module _ (k n p : ℕ) (rs ss : List Record) (ok : Accepted k n rs) (ko : Accepted k p ss) where
  -- THE JOINED RULE PASSES THE STRIP CHECK
  pub joined-accepted : Accepted k (max n p) (joined_records rs ss)
  unfolding joined_records good_from good
  joined-accepted =
      let a = ok.0 in let b = ko.0 in let e = joined_length rs ss in
      let m : ℕ = length rs in
      let q : ℕ = max n p in
      let c = moved_length m ss in (
        (omega arith),
        good-append k q rs (moved_all m ss ++ (last_and rs ss ∷ [])) 0 (all-wider k n q (omega arith) rs ok.1)
            (good-append k q (moved_all m ss) (last_and rs ss ∷ []) (0 + m)
            (subst (λ (j : ℕ). T (good_from k q j (moved_all m ss))) (omega arith) (all_moved k p q (omega arith) m ss 0 ko.1))
            (pair (ltb (last_of rs) (0 + m + length (moved_all m ss)) && ltb (m + last_of ss) (0 + m + length (moved_all m ss))) true
            (pair (ltb (last_of rs) (0 + m + length (moved_all m ss))) (ltb (m + last_of ss) (0 + m + length (moved_all m ss)))
            (lt→ltb (last_of rs) (0 + m + length (moved_all m ss)) (omega arith)) (lt→ltb (m + last_of ss) (0 + m + length (moved_all m ss)) (omega arith))) tt)),
      )

  module _ (A : Assignment k) where
    -- it is satisfied exactly by what satisfies both
    pub joined-both : Satisfies (joined_records rs ss) A ↔ (Satisfies rs A × Satisfies ss A)
    unfolding Holds
    joined-both = rw here ((λ h. h), λ h. h)
      where
        here : formula_at {k = k} (joined_records rs ss) (last_of (joined_records rs ss)) ≡ conjunction (formula_at rs (last_of rs)) (formula_at ss (last_of ss))
        here = ap (formula_at (joined_records rs ss)) (let e = joined_length rs ss in omega arith) ∙ joined-formula k rs ss ok.0 ko.0

    -- whichever assignments with A's first sets are asked
    pub joined-any : (B C : Assignment k) → SameSets n A B → SameSets p A C → Satisfies (joined_records rs ss) A ↔ (Satisfies rs B × Satisfies ss C)
    joined-any B C s t =
        let i = satisfies_first n rs ok A B s in let j = satisfies_first p ss ko A C t in (
          λ h. let w = joined-both.0 h in (i.0 w.0, j.0 w.1),
          λ w. joined-both.1 (i.1 w.0, j.1 w.1),
        )

  first-same : (q : ℕ) (A : Assignment k) → SameSets q A (first_sets q A)
  first-same q A i h p = rw (lt-ltb i q h) refl

  -- THE CLAIM OF A7, of records
  pub joined-rule : JoinedRule k n p rs ss (joined_records rs ss)
  joined-rule = record {
    accepted = joined-accepted;
    records = joined_length rs ss;
    satisfied = λ A. joined-any A (first_sets n A) (first_sets p A) (first-same n A) (first-same p A);
  }
