-- THE TOP THEOREMS: the answers of decide and judge are what the papers ask for, and the only such.
-- Assumes nothing.
use Prim.Native.Nat.{ℕ, ◌^◌, ◌≤◌, ◌<◌}
use mathlib.Core.Path.{◌≡◌, refl, sym, ap, ap₂, subst, ◌∙◌}
use mathlib.Core.Logic.{◌↔◌, ◌⊎◌, inl, inr, ⊎_elim}
use mathlib.Core.Bool.{Bool, true, false, cond}
use mathlib.Core.List.{List, []}
use native.Mathlib.Omega.{arith}
use lib.Dec.{T}
use lib.ListN.{length}
use Rattle.logic.specs.Meaning.{Assignment, Formula, root, Valid}
use Rattle.logic.specs.Tree.{Tree, empty, node, positions, Proper, Represents, TreeOf, SameSets}
use Rattle.logic.specs.Order.{◌≺◌, ◌⪯◌}
use Rattle.logic.specs.Rule.{Record, extend, formula_at, last_of, Satisfies, Accepted}
use Rattle.logic.specs.ReachedRecords.{itself, names_in, is_reached}
use Rattle.logic.specs.Machine.{Machine, run, Decides}
use Rattle.logic.specs.Table.{Table, Built, over, built}
use Rattle.logic.specs.Joined.{join, constructed, joined_table}
use Rattle.logic.specs.Trim.{trim, tree_of, bare, Trimmed}
use Rattle.logic.specs.Search.{Sought, tree, large, absent, search}
use Rattle.logic.specs.Claims.{Outcome, refused14, shown, none, larger, Judgement, unbuilt, yes, no, FirstOver, Roomy, Model, Earliest, Answers}
use Rattle.logic.specs.Claims.{Demand2, Demand3, LeastForRule, Judges, Shallow}
use Rattle.logic.specs.Decide.{report, conclude, build_rule, decide_of, say, ruling, judge_of, last_table}
use Rattle.logic.proofs.Places.{T→true, true→T}
use Rattle.logic.proofs.Trees.{trim-bits, trim-trimmed, trim-proper}
use Rattle.logic.proofs.Satisfiable.{sets_of, sets_represented}
use Rattle.logic.proofs.Orders.{less, same, more, ℕ-tri, ⪯-antisym, ⪯-positions, empty-⪯, node-⪯}
use Rattle.logic.proofs.Assignments.{tree-of, tree_of-only, tree_of-trimmed, tree-same, sets_same, own-tree}
use Rattle.logic.proofs.Tables.{Right}
use Rattle.logic.proofs.Rules.{record_valid, rule-reached, reached-within, extend-length, tables_in, Says, built-says}
use Rattle.logic.proofs.Joined.{joined-right, joined-few, least-below, below_unique}
use Rattle.logic.specs.Alike.{Full}
use Rattle.logic.proofs.Settle.{Accepts, RightForTrees, search-right}
use Rattle.logic.proofs.Depth.{earliest-shallow}

-- a tree that is shown is shallow
abbrev pub Bounded : {k : ℕ} → Outcome k → Type 0
Bounded {k} o = (places states : ℕ) (t : Tree k) → o ≡ shown places states t → Shallow states t

-- trimming gives an earlier tree
trim-⪯ : {k : ℕ} (t : Tree k) → trim t ⪯ t
unfolding trim
trim-⪯ empty = inr refl
trim-⪯ {k} (node l f) = go (bare l (λ b. trim (f b))) (node-⪯ l (λ b. trim (f b)) f (λ b. trim-⪯ (f b)))
  where
    go : (v : Bool) → node l (λ b. trim (f b)) ⪯ node l f → cond v empty (node l (λ b. trim (f b))) ⪯ node l f
    go true h = empty-⪯ (node l f)
    go false h = h

module _ {k : ℕ} (n : ℕ) (rs : List Record) (M : Machine k ℕ) (D : Decides n M (formula_at rs (last_of rs))) where
  model-accepted : (A : Assignment k) (t : Tree k) → Model n rs A t → Accepts n M t
  model-accepted A t m = (m.tree.proper, T→true (M.accepting (run M t)) ((D t m.tree.proper A m.tree.bits).1 m.holds))

  accepted-holds : (t : Tree k) → Accepts n M t → Satisfies rs (sets_of n t)
  accepted-holds t a = (D t a.0 (sets_of n t) (sets_represented n t)).0 (true→T a.1)

  -- trimming changes no verdict
  trim-accepted : (t : Tree k) → Accepts n M t → Accepts n M (trim t)
  unfolding Represents
  trim-accepted t a = (
    trim-proper n t a.0,
    T→true (M.accepting (run M (trim t)))
        ((D (trim t) (trim-proper n t a.0) (sets_of n t) (λ i h p. trim-bits n t i p ∙ sets_represented n t i h p)).1 (accepted-holds t a)),
  )

  -- an earliest accepted tree is trimmed, and the tree of an assignment that satisfies the rule
  earliest-model : (t : Tree k) → Accepts n M t → ((u : Tree k) → Accepts n M u → t ⪯ u) → Model n rs (sets_of n t) t
  earliest-model t a e =
      let p : t ≡ trim t = ⪯-antisym t (trim t) (e (trim t) (trim-accepted t a)) (trim-⪯ t) in
      record { holds = accepted-holds t a; tree = own-tree n t (subst (λ (u : Tree k). Trimmed u) (sym p) (trim-trimmed n t)) a.0 }

-- demands 2 and 3, of what a search over any machine that decides the rule gives
module _ {k : ℕ} (n : ℕ) (rs : List Record) (P : ℕ) (M : Machine k ℕ) (D : Decides n M (formula_at rs (last_of rs))) (q : ℕ) where
  abbrev pub Demands : Outcome k → Type 0
  Demands o = Demand2 n rs P q o × Demand3 n rs P q o

  module _ (t : Tree k) (r : RightForTrees n M P (tree t)) where
    earliest-tree : Earliest n rs (positions t) t
    unfolding RightForTrees
    earliest-tree =
        let m : Model n rs (sets_of n t) t = earliest-model n rs M D t r.0 r.2 in
        record {
          sets = sets_of n t;
          model = m;
          counted = refl;
          fewest = λ B u b. ⪯-positions t u (r.2 u (model-accepted n rs M D B u b));
          later = λ B u b. after B u b m (r.2 u (model-accepted n rs M D B u b));
        }
      where
        after : (B : Assignment k) (u : Tree k) → Model n rs B u → Model n rs (sets_of n t) t → t ⪯ u → SameSets n (sets_of n t) B ⊎ (t ≺ u)
        after B u b m (inl p) = inr p
        after B u b m (inr e) = inl (sets_same n (sets_of n t) B t m.tree (subst (TreeOf n B) (sym e) b.tree))

    shown-shallow : Full n q M → Bounded (shown (positions t) q t)
    unfolding RightForTrees
    shown-shallow F places s u e =
        let y : q ≡ s = cc in let z : t ≡ u = cc in
        rw (← y, ← z) (earliest-shallow n q M F t r.0.0 (λ v o d. r.2 v (o, ap M.accepting d ∙ r.0.1)))

    tree-right : Demands (shown (positions t) q t)
    unfolding RightForTrees
    tree-right = (
      record {
        none_is = ((λ e. absurd (let z : ◌≡◌ {A = ℕ} 0 1 = cc in omega arith)), λ f. absurd (f v.sets v.model.holds));
        otherwise = λ A s. inl (t, refl, (v.sets, v.model));
      },
      record {
        shown_is = ((λ w. (v.sets, t, v.model, r.1)), λ w. (t, refl));
        shown-right = λ m s u e. let x : positions t ≡ m = cc in let y : q ≡ s = cc in let z : t ≡ u = cc in rw (← x, ← y, ← z) (refl, v);
        larger_is =
            ((λ e. absurd (let z : ◌≡◌ {A = ℕ} 0 1 = cc in omega arith)), λ f. absurd (let a = f.1 v.sets t v.model in let b = r.1 in omega arith));
      },
    )
      where
        v : Earliest n rs (positions t) t
        v = earliest-tree

  large-right : RightForTrees n M P large → Demands (larger q)
  unfolding RightForTrees
  large-right r = (
    record {
      none_is =
          ((λ e. absurd (let z : ◌≡◌ {A = ℕ} 0 1 = cc in omega arith)), λ f. absurd (f (sets_of n r.0.0) (accepted-holds n rs M D r.0.0 r.0.1)));
      otherwise = λ A s. inr (refl, λ B u m. r.1 u (model-accepted n rs M D B u m));
    },
    record {
      shown_is = (
        (λ w. absurd (let e = w.1 in let z : ◌≡◌ {A = ℕ} 0 1 = cc in omega arith)),
        λ w. absurd
            (let a = r.1 w.1 (model-accepted n rs M D w.0 w.1 w.2) in let b = w.3 in omega arith),
      );
      shown-right = λ m s u e. absurd (let z : ◌≡◌ {A = ℕ} 0 1 = cc in omega arith);
      larger_is = ((λ e. ((sets_of n r.0.0, accepted-holds n rs M D r.0.0 r.0.1), λ A t m. r.1 t (model-accepted n rs M D A t m))), λ f. refl);
    },
  )

  absent-right : RightForTrees n M P absent → Demands (none q)
  unfolding RightForTrees
  absent-right r = (
    record {
      none_is = ((λ e A s. never A s), λ f. refl);
      otherwise = λ A s. absurd (never A s);
    },
    record {
      shown_is = ((λ w. absurd (let e = w.1 in let z : ◌≡◌ {A = ℕ} 0 1 = cc in omega arith)), λ w. absurd (never w.0 w.2.holds));
      shown-right = λ m s u e. absurd (let z : ◌≡◌ {A = ℕ} 0 1 = cc in omega arith);
      larger_is = ((λ e. absurd (let z : ◌≡◌ {A = ℕ} 0 1 = cc in omega arith)), λ f. absurd (never f.0.0 f.0.1));
    },
  )
    where
      never : (A : Assignment k) → Satisfies rs A → ⊥
      never A s = r (tree_of n A) (model-accepted n rs M D A (tree_of n A) (record { holds = s; tree = tree-of n A }))

  pub sought-right : (x : Sought k) → RightForTrees n M P x → Demands (report q x)
  unfolding report
  sought-right (tree t) r = tree-right t r
  sought-right large r = large-right r
  sought-right absent r = absent-right r

  sought-shallow : Full n q M → (x : Sought k) → RightForTrees n M P x → Bounded (report q x)
  unfolding report
  sought-shallow F (tree t) r = shown-shallow t r F
  sought-shallow F large r = λ m s u e. absurd (let z : ◌≡◌ {A = ℕ} 0 1 = cc in omega arith)
  sought-shallow F absent r = λ m s u e. absurd (let z : ◌≡◌ {A = ℕ} 0 1 = cc in omega arith)

  -- there is one such answer only
  sought-only : (o : Outcome k) → Demands o → (x : Sought k) → RightForTrees n M P x → o ≡ report q x
  unfolding report RightForTrees
  sought-only o a absent r = a.0.none_is.1 ((absent-right r).0.none_is.0 refl)
  sought-only o a large r = a.1.larger_is.1 ((large-right r).1.larger_is.0 refl)
  sought-only o a (tree t) r =
      let w = a.1.shown_is.1 ((tree-right t r).1.shown_is.0 (t, refl)) in
      let v : Earliest n rs (positions w.0) w.0 = (a.1.shown-right (positions w.0) q w.0 w.1).1 in
      let e : t ≡ w.0 = ⪯-antisym t w.0 (r.2 w.0 (model-accepted n rs M D v.sets w.0 v.model))
      (no_later v (earliest-tree t r) (v.later (earliest-tree t r).sets t (earliest-tree t r).model)) in
      rw e w.1
    where
      no_later : {u : Tree k} (v : Earliest n rs (positions u) u) (x : Earliest n rs (positions t) t) → SameSets n v.sets x.sets ⊎ (u ≺ t) → u ⪯ t
      no_later {u} v x (inr p) = inl p
      no_later {u} v x (inl e) = inr (tree-same n v.sets x.sets u t e v.model.tree x.model.tree)

built-told : {k : ℕ} (q : ℕ) (x : Sought k) (r : ℕ) → report q x ≡ refused14 r → ⊥
unfolding report
built-told q (tree t) r e = let z : ◌≡◌ {A = ℕ} 0 1 = cc in omega arith
built-told q large r e = let z : ◌≡◌ {A = ℕ} 0 1 = cc in omega arith
built-told q absent r e = let z : ◌≡◌ {A = ℕ} 0 1 = cc in omega arith

module _ (k n : ℕ) (rs : List Record) (c P : ℕ) where
  -- the states that are reported
  abbrev states : ℕ
  states = (joined_table {k = k} n (formula_at rs (last_of rs))).count

  pub one-first : (r s : ℕ) → FirstOver k n rs c r → FirstOver k n rs c s → r ≡ s
  one-first r s p q = elim (ℕ-tri r s) [
    | less h ↦ absurd (let a = q.2 r (omega arith) p.0 in let b = p.1 in omega arith)
    | same h ↦ h
    | more h ↦ absurd (let a = p.2 s (omega arith) q.0 in let b = q.1 in omega arith)
  ]

  pub first_not_roomy : (r : ℕ) → FirstOver k n rs c r → Roomy k n rs c → ⊥
  first_not_roomy r f R = let a = R r f.0 in let b = f.1 in omega arith

  module _ (ok : Accepted k n rs) where
    abbrev F : Formula k
    F = formula_at rs (last_of rs)

    abbrev Last : Table k
    Last = joined_table n F

    in_range : last_of rs < length rs
    in_range = let h = ok.0 in omega arith

    pub last-valid : Valid {k = k} n (formula_at rs (last_of rs))
    last-valid = record_valid k n rs ok.1 (last_of rs) in_range

    last-right : Right n F Last
    last-right = joined-right n F last-valid

    last-full : Full n Last.count Last.machine
    last-full = (last-right.0, last-right.2)

    last-least : LeastForRule k n rs states
    last-least = least-below n F last-valid

    -- which records are reached, by their marks
    abbrev used : ℕ → Bool
    used = is_reached (names_in rs) (length rs)

    long : length (extend {k = k} [] rs) ≡ length rs
    long = extend-length rs [] ∙ omega arith

    -- what building says of all records
    abbrev Told : Built k → Type 0
    Told = Says k (join n) n c used (extend [] rs)

    told : Told (build_rule n c rs)
    told = built-says k (join n) n c used rs

    pub says_first : (r : ℕ) → Told (over r) → FirstOver k n rs c r
    unfolding Says formula_at constructed
    says_first r w = ((rule-reached k n rs ok r).0 w.0, w.1, λ i l u. w.2 i l ((rule-reached k n rs ok i).1 u))

    pub says-roomy : (ts : List (Table k)) → Told (built ts) → Roomy k n rs c
    unfolding Says formula_at constructed
    says-roomy ts w r u = w.1 r (let e = long in let h = reached-within k n rs ok r u in omega arith) ((rule-reached k n rs ok r).1 u)

    says_last : (ts : List (Table k)) → Told (built ts) → last_table n rs ts ≡ Last
    unfolding Says formula_at joined_table constructed
    says_last ts w =
        ap (λ (us : List (Table k)). last_table n rs us) w.0
        ∙ tables_in k (join n) n c used (extend [] rs) (last_of rs) (let e = long in let h = in_range in omega arith) (joined_table n (root 0))

    -- what there is to say where refusal 14 does not apply
    abbrev Found : Sought k
    Found = search (2 ^ n) Last P

    found_right : RightForTrees n Last.machine P Found
    found_right = search-right n Last last-full P

    refused-right : (r : ℕ) → FirstOver k n rs c r → Answers {k = k} n rs c P states (refused14 r)
    refused-right r f = record {
      least = last-least;
      refused_is = λ s. ((λ e. let z : r ≡ s = cc in subst (FirstOver k n rs c) z f), λ g. ap refused14 (one-first r s f g));
      demand2 = λ h. absurd (first_not_roomy r f h);
      demand3 = λ h. absurd (first_not_roomy r f h);
    }

    report-right : Roomy k n rs c → Answers n rs c P states (report states Found)
    report-right R =
        let d = sought-right n rs P Last.machine last-right.1 states Found found_right in
        record {
          least = last-least;
          refused_is = λ r. ((λ e. absurd (built-told states Found r e)), λ f. absurd (first_not_roomy r f R));
          demand2 = λ h. d.0;
          demand3 = λ h. d.1;
        }

    conclude-right : (b : Built k) → Told b → Answers n rs c P states (conclude n rs P b)
    unfolding conclude
    conclude-right (over r) w = refused-right r (says_first r w)
    conclude-right (built ts) w =
        subst (λ (a : Table k). Answers n rs c P states (report a.count (search (2 ^ n) a P))) (sym (says_last ts w)) (report-right (says-roomy ts w))

    conclude-shallow : (b : Built k) → Told b → Bounded (conclude n rs P b)
    unfolding conclude
    conclude-shallow (over r) w = λ m q u e. absurd (let z : ◌≡◌ {A = ℕ} 0 1 = cc in omega arith)
    conclude-shallow (built ts) w =
        subst (λ (a : Table k). Bounded (report a.count (search (2 ^ n) a P))) (sym (says_last ts w))
        (sought-shallow n rs P Last.machine last-right.1 states last-full Found found_right)

    -- A4, a bound on depth, of the tree that is shown; A8: it "now speaks of the smaller number"
    pub decide-shallow : Bounded (decide_of k n rs c P)
    unfolding decide_of
    decide-shallow = conclude-shallow (build_rule n c rs) told

    -- DECIDE: refusal 14, and demands 2 and 3
    pub decide-answers : Answers n rs c P states (decide_of k n rs c P)
    unfolding decide_of
    decide-answers = conclude-right (build_rule n c rs) told

    -- either refusal 14 applies, or every record has room
    pub over_or_roomy : ((r : ℕ) × (decide_of k n rs c P ≡ refused14 r)) ⊎ Roomy k n rs c
    over_or_roomy = go (build_rule n c rs) told
      where
        go : (b : Built k) → Told b → ((r : ℕ) × (decide_of k n rs c P ≡ refused14 r)) ⊎ Roomy k n rs c
        go (over r) w = inl (r, (decide-answers.refused_is r).1 (says_first r w))
        go (built ts) w = inr (says-roomy ts w)

    -- of a tree that is shown
    module _ (places q : ℕ) (t : Tree k) (e : decide_of k n rs c P ≡ shown places q t) where
      shown-roomy : Roomy k n rs c
      shown-roomy = ⊎_elim (λ w. absurd (let f = sym e ∙ w.1 in let z : ◌≡◌ {A = ℕ} 0 1 = cc in omega arith)) (λ R. R) over_or_roomy

      pub shown-earliest : (q ≡ states) × Earliest n rs places t
      shown-earliest = (decide-answers.demand3 shown-roomy).shown-right places q t e

      -- it has as many positions as are reported, and no more than the place ceiling
      pub shown-fits : (places ≡ positions t) × (positions t ≤ P)
      shown-fits =
          let v = shown-earliest in
          let x : places ≡ positions t = v.1.counted in
          let m = (decide-answers.demand3 shown-roomy).shown_is.0 (t, e ∙ ap₂ (λ (i j : ℕ). shown i j t) x v.0) in
          let a = v.1.fewest m.0 m.1 m.2 in
          (x, let b = m.3 in omega arith)

      -- no more states are reported than the state ceiling
      pub shown-states : q ≤ c
      shown-states = let a = shown-roomy (last_of rs) itself in let b = shown-earliest.0 in omega (arith, joined-few n F last-valid)

    conclude-only : (o : Outcome k) → Answers n rs c P states o → (b : Built k) → Told b → o ≡ conclude n rs P b
    unfolding conclude
    conclude-only o a (over r) w = (a.refused_is r).1 (says_first r w)
    conclude-only o a (built ts) w =
        let R = says-roomy ts w in
        subst (λ (x : Table k). o ≡ report x.count (search (2 ^ n) x P)) (sym (says_last ts w))
        (sought-only n rs P Last.machine last-right.1 states o (a.demand2 R, a.demand3 R) Found found_right)

    -- and no other answer meets the demands, whatever number of states it reports
    pub decide-only : (q : ℕ) (o : Outcome k) → Answers n rs c P q o → o ≡ decide_of k n rs c P
    unfolding decide_of
    decide-only q o a =
        conclude-only o (subst (λ (z : ℕ). Answers n rs c P z o) (below_unique n F q states a.least last-least) a) (build_rule n c rs) told

    conclude-roomy : (b : Built k) → Told b → Roomy k n rs c → conclude n rs P b ≡ report states Found
    unfolding conclude
    conclude-roomy (over r) w R = absurd (first_not_roomy r (says_first r w) R)
    conclude-roomy (built ts) w R = ap (λ (a : Table k). report a.count (search (2 ^ n) a P)) (says_last ts w)

    -- where refusal 14 does not apply, the answer is that of the search over the last joined machine
    pub decide-roomy : Roomy k n rs c
        → decide_of k n rs c P ≡ report (joined_table {k = k} n (formula_at rs (last_of rs))).count (search (2 ^ n) (joined_table n (formula_at rs (last_of rs))) P)
    unfolding decide_of
    decide-roomy R = conclude-roomy (build_rule n c rs) told R

    say-yes : (v : Bool) → (say v ≡ yes) ↔ T v
    unfolding say
    say-yes true = ((λ e. tt), λ t. refl)
    say-yes false = ((λ e. absurd (let z : ◌≡◌ {A = ℕ} 0 1 = cc in omega arith)), λ t. absurd t)

    say_no : (v : Bool) → (say v ≡ no) ↔ (¬ T v)
    unfolding say
    say_no true = ((λ e. absurd (let z : ◌≡◌ {A = ℕ} 0 1 = cc in omega arith)), λ f. absurd (f tt))
    say_no false = ((λ e t. t), λ f. refl)

    say-built : (v : Bool) (r : ℕ) → say v ≡ unbuilt r → ⊥
    unfolding say
    say-built true r e = let z : ◌≡◌ {A = ℕ} 0 1 = cc in omega arith
    say-built false r e = let z : ◌≡◌ {A = ℕ} 0 1 = cc in omega arith

    module _ (t : Tree k) where
      ruling-right : (b : Built k) → Told b → Judges n rs c t (ruling n rs t b)
      unfolding ruling
      ruling-right (over r) w = record {
        unbuilt_is = λ s. ((λ e. let z : r ≡ s = cc in subst (FirstOver k n rs c) z (says_first r w)), λ g. ap unbuilt (one-first r s (says_first r w) g));
        yes_is = λ h. absurd (first_not_roomy r (says_first r w) h);
        no_is = λ h. absurd (first_not_roomy r (says_first r w) h);
      }
      ruling-right (built ts) w =
          subst (λ (a : Table k). Judges n rs c t (say (a.machine.accepting (run a.machine t)))) (sym (says_last ts w)) (record {
            unbuilt_is = λ s. ((λ e. absurd (say-built v s e)), λ f. absurd (first_not_roomy s f (says-roomy ts w)));
            yes_is = λ h A o. let i = say-yes v in let j = D A o in ((λ e. j.0 (i.0 e)), λ s. i.1 (j.1 s));
            no_is = λ h A o. let i = say_no v in let j = D A o in ((λ e s. i.0 e (j.1 s)), λ f. i.1 (λ u. f (j.0 u)));
          })
        where
          v : Bool
          v = Last.machine.accepting (run Last.machine t)

          D : (A : Assignment k) → TreeOf n A t → T v ↔ Satisfies rs A
          D A o = last-right.1 t o.proper A o.bits

      -- where refusal 14 does not apply, the last joined machine says it
      pub judge_roomy : Roomy k n rs c
          → let M = (joined_table {k = k} n (formula_at rs (last_of rs))).machine in judge_of n rs c t ≡ say (M.accepting (run M t))
      unfolding judge_of ruling
      judge_roomy R = go (build_rule n c rs) told
        where
          go : (b : Built k) → Told b → ruling n rs t b ≡ say (Last.machine.accepting (run Last.machine t))
          go (over r) w = absurd (first_not_roomy r (says_first r w) R)
          go (built ts) w = ap (λ (a : Table k). say (a.machine.accepting (run a.machine t))) (says_last ts w)

      -- JUDGE says yes to a tree exactly if its assignment satisfies the rule
      pub judge_judges : Judges n rs c t (judge_of n rs c t)
      unfolding judge_of
      judge_judges = ruling-right (build_rule n c rs) told

      -- and no other judgement of the tree of an assignment does
      pub judge_only : (A : Assignment k) → TreeOf n A t → (j : Judgement) → Judges n rs c t j → j ≡ judge_of n rs c t
      unfolding judge_of ruling say
      judge_only A o j g = go (build_rule n c rs) told
        where
          same-said : (v : Bool) → Roomy k n rs c → Judges n rs c t (say v) → j ≡ say v
          same-said true h i = (g.yes_is h A o).1 ((i.yes_is h A o).0 refl)
          same-said false h i = (g.no_is h A o).1 ((i.no_is h A o).0 refl)

          go : (b : Built k) → Told b → j ≡ ruling n rs t b
          go (over r) w = (g.unbuilt_is r).1 (says_first r w)
          go (built ts) w = same-said ((last_table n rs ts).machine.accepting (run (last_table n rs ts).machine t)) (says-roomy ts w) (ruling-right (built ts) w)

-- every assignment has one tree
pub one-tree : {k : ℕ} (n : ℕ) (A : Assignment k) → (t : Tree k) × TreeOf n A t × ((u : Tree k) → TreeOf n A u → u ≡ t)
one-tree n A = (tree_of n A, tree-of n A, tree_of-only n A)

-- and a tree with n-bit labels is that of an assignment exactly if it is trimmed
pub trimmed_iff : {k : ℕ} (n : ℕ) (t : Tree k) → Proper n t → Trimmed t ↔ ((A : Assignment k) × TreeOf n A t)
trimmed_iff n t o = ((λ r. (sets_of n t, own-tree n t r o)), λ w. tree_of-trimmed n w.0 t w.1)
