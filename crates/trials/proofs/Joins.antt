-- The trials by machines: what joining tells, which refusal a trial meets, and that joining the kept parts once changes nothing.
-- Assumes nothing.
use Prim.Native.Nat.{ℕ, ◌^◌, ◌<◌}
use mathlib.Core.Path.{◌≡◌, refl, ap, sym, subst, ◌∙◌}
use mathlib.Core.Logic.{◌↔◌, inr, ⊎_elim}
use mathlib.Core.Bool.{Bool, true, false, cond, not, ◌&&◌, true≢false}
use mathlib.Core.List.{List, [], ◌∷◌, ◌++◌, append-nil}
use native.Mathlib.Omega.{arith}
use borrow.Author.Tests.{ltb-true, lt-ltb}
use lib.Dec.{T, ltb, T_not}
use lib.ListN.{length}
use Rattle.logic.specs.Meaning.{Assignment, Formula, conjunction, Holds, Valid}
use Rattle.logic.specs.Rule.{Record, formula_at, Accepted}
use Rattle.logic.specs.Reach.{elem, below, Reached}
use Rattle.logic.specs.Table.{Table, product_table}
use Rattle.logic.specs.Joined.{join, joined_table}
use Rattle.logic.specs.Search.{any_below}
use Rattle.logic.proofs.Connectives.{decides-conjunction}
use Rattle.logic.proofs.Reach.{elem-none, elem-cons, elem-first, elem_below}
use Rattle.logic.proofs.Places.{T→true, true→T, not_T}
use Rattle.logic.proofs.Numbered.{reached-bound}
use Rattle.logic.proofs.Tables.{Right, pair-right}
use Rattle.logic.proofs.Joined.{join-right, joined-right}
use Rattle.logic.proofs.Unjoined.{plain_table, plain-right}
use Rattle.logic.proofs.Satisfiable.{satisfiable_iff}
use Rattle.logic.proofs.Settle.{some-true, some-false}
use Rattle.logic.proofs.Rules.{snoc-length, record_valid}
use Rattle.parts.specs.Parts.{AllHold}
use Rattle.parts.proofs.Lists.{told, not-false, elem-later}
use Rattle.trials.specs.Clash.{NoneHold, SomeHold, Tells, TrialsKeep, all-tried, dropped, stays, Clash}
use Rattle.trials.specs.Joins.{joined_to, conjunction_of, Joiner, rule_joiner, accepts, none_by, Joint, no_joint, joint_by, joint_over}
use Rattle.trials.specs.Joins.{join_one, join_from, join_all, Trialled, over14, kept_list, trial_says, trials, trials_from}
use Rattle.trials.specs.Joins.{FirstJoinOver, JoinsFit, Stops, goes_over, dropped-then, stays_then}
use Rattle.trials.proofs.Clash.{between, kept_more, some-empty, keeps-clash, clash-one}

-- ---- the conjunction

module _ {k : ℕ} (rs : List Record) (A : Assignment k) where
  joined-holds : (L : List ℕ) (f : Formula k) → Holds (joined_to rs f L) A ↔ (Holds f A × AllHold rs L A)
  unfolding joined_to Holds
  joined-holds [] f = ((λ h. (h, λ i m. absurd (elem-none i m))), λ w. w.0)
  joined-holds (q ∷ L) f =
      let i = joined-holds L (conjunction f (formula_at rs q)) in (
        (λ h. let w = i.0 h in
            (w.0.0, λ j m. ⊎_elim (λ e. subst (λ (z : ℕ). Holds (formula_at rs z) A) (sym e) w.0.1) (w.1 j) ((elem-cons j q L).0 m))),
        λ w. i.1 ((w.0, w.1 q (elem-first q L)), λ j m. w.1 j (elem-later j q L m)),
      )

  -- THE CONJUNCTION of a list holds exactly if all its records do
  pub conjunction-holds : (L : List ℕ) → Holds (conjunction_of rs L) A ↔ AllHold rs L A
  unfolding conjunction_of Holds
  conjunction-holds [] = ((λ h i m. absurd (elem-none i m)), λ h p m. m)
  conjunction-holds (p ∷ L) =
      let i = joined-holds L (formula_at rs p) in (
        (λ h j m. let w = i.0 h in ⊎_elim (λ e. subst (λ (z : ℕ). Holds (formula_at rs z) A) (sym e) w.0) (w.1 j) ((elem-cons j p L).0 m)),
        λ h. i.1 (h p (elem-first p L), λ j m. h j (elem-later j p L m)),
      )

module _ (k : ℕ) (rs : List Record) where
  joined_snoc : (L : List ℕ) (f : Formula k) (q : ℕ) → joined_to rs f (L ++ (q ∷ [])) ≡ conjunction (joined_to rs f L) (formula_at rs q)
  unfolding joined_to
  joined_snoc [] f q = refl
  joined_snoc (p ∷ L) f q = joined_snoc L (conjunction f (formula_at rs p)) q

  -- one more on the right
  pub conjunction-snoc : (L : List ℕ) (q : ℕ) → 0 < length L → conjunction_of {k = k} rs (L ++ (q ∷ [])) ≡ conjunction (conjunction_of rs L) (formula_at rs q)
  unfolding conjunction_of
  conjunction-snoc [] q h = absurd (omega arith)
  conjunction-snoc (p ∷ L) q h = joined_snoc L (formula_at rs p) q

-- ---- which machines accept something

-- A MACHINE THAT IS RIGHT has an accepting state exactly if some assignment satisfies its formula
pub accepts_iff : {k : ℕ} (n : ℕ) (f : Formula k) (a : Table k) → Right n f a → T (accepts a) ↔ ((A : Assignment k) × Holds f A)
unfolding accepts
accepts_iff n f a r =
    let g : ℕ → Bool = a.machine.accepting in
    let j = satisfiable_iff n a.machine f r.1 in (
      (λ t. let w = some-true g a.count (T→true (any_below g a.count) t) in j.1 (w.0, r.2 w.0 w.1, true→T w.2)),
      λ h. let w = j.0 h in ⊎_elim (λ t. t) (λ e. absurd (some-false g a.count w.0 e (bound w.0 w.1) (T→true (g w.0) w.2)))
          (told (any_below g a.count)),
    )
  where
    bound : (q : ℕ) → Reached a.machine (below (2 ^ n)) q → q < a.count
    bound = reached-bound n a.count a.machine (below (2 ^ n)) r.0 (λ l t. (elem_below l (2 ^ n)).0 t)

-- a joiner is sound: the records' machines are right, and joining two right ones gives a right one of the conjunction
pub record Sound {k : ℕ} (n : ℕ) (rs : List Record) (J : Joiner k) : Type 0 where
  pub at_right : (p : ℕ) → p < length rs → Right n (formula_at rs p) (J.at p)
  pub join-right : (f g : Formula k) (a b : Table k) → Right n f a → Right n g b → Right n (conjunction f g) (J.join a b)

-- the pairs of two right machines
pub both_right : {k : ℕ} (n : ℕ) (f g : Formula k) (a b : Table k) → Right n f a → Right n g b → Right n (conjunction f g) (product_table n ◌&&◌ a b)
both_right n f g a b r q = pair-right n ◌&&◌ (conjunction f g) a b r.0 q.0 (decides-conjunction n a.machine f r.1 b.machine g q.1)

pub rule-sound : (k n : ℕ) (rs : List Record) → Accepted k n rs → Sound n rs (rule_joiner k n rs)
rule-sound k n rs ok = record {
  at_right = λ p h. joined-right n (formula_at rs p) (record_valid k n rs ok.1 p h);
  join-right = λ f g a b r q. join-right n (conjunction f g) (product_table n ◌&&◌ a b) (both_right n f g a b r q);
}

module _ (k n : ℕ) (rs : List Record) (ok : Accepted k n rs) where
  joined-valid : (L : List ℕ) (f : Formula k) → Valid n f → ((i : ℕ) → T (elem i L) → i < length rs) → Valid n (joined_to rs f L)
  unfolding joined_to Valid
  joined-valid [] f v h = v
  joined-valid (q ∷ L) f v h =
      joined-valid L (conjunction f (formula_at rs q)) (v, record_valid k n rs ok.1 q (h q (elem-first q L))) (λ i m. h i (elem-later i q L m))

  -- the machine of a conjunction is right
  pub conjunction-right : (p : ℕ) (L : List ℕ) → ((i : ℕ) → T (elem i (p ∷ L)) → i < length rs)
      → Right {k = k} n (conjunction_of rs (p ∷ L)) (joined_table n (conjunction_of rs (p ∷ L)))
  unfolding conjunction_of
  conjunction-right p L h = joined-right n (joined_to rs (formula_at rs p) L)
      (joined-valid L (formula_at rs p) (record_valid k n rs ok.1 p (h p (elem-first p L))) (λ i m. h i (elem-later i p L m)))

  -- THE TEST BY MACHINES TELLS
  pub machines_tell : Tells k rs (none_by k n rs)
  unfolding none_by
  machines_tell = record { when_true = yes-none; when_false = no_none }
    where
      yes-none : (L : List ℕ) → ((i : ℕ) → T (elem i L) → i < length rs) → none_by k n rs L ≡ true → NoneHold k rs L
      yes-none [] h e = absurd (true≢false (sym e))
      yes-none (p ∷ L) h e = λ A w.
          let i = accepts_iff n (conjunction_of rs (p ∷ L)) (joined_table n (conjunction_of rs (p ∷ L))) (conjunction-right p L h) in
          T_not (accepts (joined_table n (conjunction_of rs (p ∷ L)))) (true→T e) (i.1 (A, (conjunction-holds rs A (p ∷ L)).1 w))

      flip : (v : Bool) → not v ≡ false → T v
      flip true e = tt
      flip false e = absurd (true≢false e)

      no_none : (L : List ℕ) → ((i : ℕ) → T (elem i L) → i < length rs) → none_by k n rs L ≡ false → SomeHold k rs L
      no_none [] h e = some-empty k rs
      no_none (p ∷ L) h e =
          let i = accepts_iff n (conjunction_of rs (p ∷ L)) (joined_table n (conjunction_of rs (p ∷ L))) (conjunction-right p L h) in
          let w = i.0 (flip (accepts (joined_table n (conjunction_of rs (p ∷ L)))) e) in (w.0, (conjunction-holds rs w.0 (p ∷ L)).0 w.1)

-- ---- joining left to right

module _ {k : ℕ} (J : Joiner k) (c : ℕ) where
  pub join-append : (K L : List ℕ) (x : Joint k) → join_from J c x (K ++ L) ≡ join_from J c (join_from J c x K) L
  unfolding join_from
  join-append [] L x = refl
  join-append (q ∷ K) L x = join-append K L (join_one J c x q)

  join-snoc : (K : List ℕ) (q : ℕ) (x : Joint k) → join_from J c x (K ++ (q ∷ [])) ≡ join_one J c (join_from J c x K) q
  unfolding join_from
  join-snoc K q x = join-append K (q ∷ []) x

  over-stays : (L : List ℕ) (r : ℕ) → join_from J c (joint_over r) L ≡ joint_over r
  unfolding join_from join_one
  over-stays [] r = refl
  over-stays (q ∷ L) r = over-stays L r

  join-over : (a : Table k) (q : ℕ) → c < J.states a (J.at q) → join_one J c (joint_by a) q ≡ joint_over q
  unfolding join_one
  join-over a q h = ap (λ (v : Bool). cond v (joint_over q) (joint_by (J.join a (J.at q)))) (lt-ltb c (J.states a (J.at q)) h)

  join-made : (a : Table k) (q : ℕ) → ltb c (J.states a (J.at q)) ≡ false → join_one J c (joint_by a) q ≡ joint_by (J.join a (J.at q))
  unfolding join_one
  join-made a q e = ap (λ (v : Bool). cond v (joint_over q) (joint_by (J.join a (J.at q)))) e

  join_first : (q : ℕ) → join_one J c no_joint q ≡ joint_by (J.at q)
  unfolding join_one
  join_first q = refl

  over_on : (a : Table k) (q : ℕ) (M : List ℕ) → c < J.states a (J.at q) → join_from J c (joint_by a) (q ∷ M) ≡ joint_over q
  unfolding join_from
  over_on a q M h = ap (λ (z : Joint k). join_from J c z M) (join-over a q h) ∙ over-stays M q

  -- where joining goes over, from x on
  abbrev Over : Joint k → List ℕ → ℕ → Type 0
  Over x L q = (K M : List ℕ) × (L ≡ K ++ (q ∷ M)) × (a : Table k) × (join_from J c x K ≡ joint_by a) × (c < J.states a (J.at q))

  abbrev Fine : Joint k → Type 0
  Fine x = (r : ℕ) → ¬ (x ≡ joint_over r)

  made-fine : (a : Table k) → Fine (joint_by a)
  made-fine a r e = let z : ◌≡◌ {A = ℕ} 0 1 = cc in omega arith

  over_where : (L : List ℕ) (x : Joint k) → Fine x → (q : ℕ) → join_from J c x L ≡ joint_over q → Over x L q
  unfolding join_from
  over_where [] x f q e = absurd (f q e)
  over_where (p ∷ L) x f q e = go x refl (over_where L)
    where
      further : (y : Joint k) → join_one J c x p ≡ y → Over y L q → Over x (p ∷ L) q
      further y i w = (p ∷ w.0, w.1, ap (λ (M : List ℕ). p ∷ M) w.2, w.3, ap (λ (z : Joint k). join_from J c z w.0) i ∙ w.4, w.5)

      at : (a : Table k) → x ≡ joint_by a → (v : Bool) → ltb c (J.states a (J.at p)) ≡ v
          → ((y : Joint k) → Fine y → (r : ℕ) → join_from J c y L ≡ joint_over r → Over y L r) → Over x (p ∷ L) q
      at a i true t ih =
          let one : join_one J c x p ≡ joint_over p = ap (λ (z : Joint k). join_one J c z p) i ∙ join-over a p (ltb-true c (J.states a (J.at p)) t) in
          let two : ◌≡◌ {A = Joint k} (joint_over p) (joint_over q) = sym (ap (λ (z : Joint k). join_from J c z L) one ∙ over-stays L p) ∙ e in
          let s : p ≡ q = cc in
          ([], L, ap (λ (z : ℕ). z ∷ L) s, a, i, subst (λ (z : ℕ). c < J.states a (J.at z)) s (ltb-true c (J.states a (J.at p)) t))
      at a i false t ih =
          let one : join_one J c x p ≡ joint_by (J.join a (J.at p)) = ap (λ (z : Joint k). join_one J c z p) i ∙ join-made a p t in
          further (joint_by (J.join a (J.at p))) one
          (ih (joint_by (J.join a (J.at p))) (made-fine (J.join a (J.at p))) q (ap (λ (z : Joint k). join_from J c z L) (sym one) ∙ e))

      go : (y : Joint k) → x ≡ y → ((y : Joint k) → Fine y → (r : ℕ) → join_from J c y L ≡ joint_over r → Over y L r) → Over x (p ∷ L) q
      go no_joint i ih =
          let one : join_one J c x p ≡ joint_by (J.at p) = ap (λ (z : Joint k). join_one J c z p) i ∙ join_first p in
          further (joint_by (J.at p)) one (ih (joint_by (J.at p)) (made-fine (J.at p)) q (ap (λ (z : Joint k). join_from J c z L) (sym one) ∙ e))
      go (joint_by a) i ih = at a i (ltb c (J.states a (J.at p))) refl ih
      go (joint_over r) i ih = absurd (f r i)

  nothing-made : (K : List ℕ) (a : Table k) → join_all J c K ≡ joint_by a → 0 < length K
  unfolding join_from
  nothing-made [] a e = absurd (let z : ◌≡◌ {A = ℕ} 0 1 = cc in omega arith)
  nothing-made (q ∷ K) a e = omega arith

  -- JOINING GOES OVER AT q exactly if q is the first whose joining has more than c states
  pub over_iff : (L : List ℕ) (q : ℕ) → (join_all J c L ≡ joint_over q) ↔ FirstJoinOver J c L q
  over_iff L q = ((λ e. to (over_where L no_joint (λ r i. let z : ◌≡◌ {A = ℕ} 0 1 = cc in omega arith) q e)), from)
    where
      to : Over no_joint L q → FirstJoinOver J c L q
      to w = record {
        before = w.0;
        after = w.1;
        split = w.2;
        some = nothing-made w.0 w.3 w.4;
        machine = w.3;
        joined = w.4;
        over_c = w.5;
      }

      from : FirstJoinOver J c L q → join_all J c L ≡ joint_over q
      from w =
          ap (join_from J c no_joint) w.split ∙ join-append w.before (q ∷ w.after) no_joint
          ∙ ap (λ (z : Joint k). join_from J c z (q ∷ w.after)) w.joined ∙ over_on w.machine q w.after w.over_c

  -- two that go on alike come to the same
  says_cong : (x : Joint k) (f g : Bool → Trialled) → ((v : Bool) → f v ≡ g v) → trial_says x f ≡ trial_says x g
  unfolding trial_says
  says_cong no_joint f g h = h false
  says_cong (joint_by a) f g h = h (not (accepts a))
  says_cong (joint_over r) f g h = refl

  -- JOINING THE KEPT PARTS ONCE changes nothing
  pub trials-once : (ps kept : List ℕ) (x : Joint k) → x ≡ join_all J c kept → trials_from J c x kept ps ≡ trials J c kept ps
  unfolding trials trials_from
  trials-once [] kept x e = refl
  trials-once (p ∷ rest) kept x e =
      ap (λ (z : Joint k). trial_says z (λ v. trials_from J c (cond v x (join_one J c x p)) (cond v kept (kept ++ (p ∷ []))) rest)) here
      ∙ says_cong (join_all J c (kept ++ rest)) (λ v. trials_from J c (cond v x (join_one J c x p)) (cond v kept (kept ++ (p ∷ []))) rest)
      (λ v. trials J c (cond v kept (kept ++ (p ∷ []))) rest)
      (λ v. trials-once rest (cond v kept (kept ++ (p ∷ []))) (cond v x (join_one J c x p)) (again v))
    where
      here : join_from J c x rest ≡ join_all J c (kept ++ rest)
      here = ap (λ (z : Joint k). join_from J c z rest) e ∙ sym (join-append kept rest no_joint)

      again : (v : Bool) → cond v x (join_one J c x p) ≡ join_all J c (cond v kept (kept ++ (p ∷ [])))
      again true = e
      again false = ap (λ (z : Joint k). join_one J c z p) e ∙ sym (join-snoc kept p no_joint)

  pub trials_reuse : (ps : List ℕ) → trials_from J c no_joint [] ps ≡ trials J c [] ps
  unfolding join_from
  trials_reuse ps = trials-once ps [] no_joint refl

-- ---- what the trials come to

module _ (k n : ℕ) (rs : List Record) (J : Joiner k) (c : ℕ) (S : Sound n rs J) where
  -- what joining the list L came to
  unfoldable pub Means : Joint k → List ℕ → Type 0
  Means no_joint L = L ≡ []
  Means (joint_by a) L = (0 < length L) × Right n (conjunction_of rs L) a
  Means (joint_over r) L = Unit {0}

  one_means : (x : Joint k) (K : List ℕ) (q : ℕ) → q < length rs → Means x K → Means (join_one J c x q) (K ++ (q ∷ []))
  unfolding Means join_one conjunction_of joined_to
  one_means no_joint K q h e =
      subst (λ (L : List ℕ). (0 < length (L ++ (q ∷ []))) × Right n (conjunction_of rs (L ++ (q ∷ []))) (J.at q)) (sym e) ((omega arith), S.at_right q h)
  one_means (joint_by a) K q h w = go (ltb c (J.states a (J.at q)))
    where
      go : (v : Bool) → Means (cond v (joint_over q) (joint_by (J.join a (J.at q)))) (K ++ (q ∷ []))
      go true = tt
      go false = (
        (let e = snoc-length K q in omega arith),
        subst (λ (f : Formula k). Right n f (J.join a (J.at q))) (sym (conjunction-snoc k rs K q w.0))
            (S.join-right (conjunction_of rs K) (formula_at rs q) a (J.at q) w.1 (S.at_right q h)),
      )
  one_means (joint_over r) K q h w = tt

  from_means : (L K : List ℕ) (x : Joint k) → ((q : ℕ) → T (elem q L) → q < length rs) → Means x K → Means (join_from J c x L) (K ++ L)
  unfolding join_from
  from_means [] K x h w = subst (Means x) (sym (append-nil K)) w
  from_means (q ∷ L) K x h w = subst (Means (join_from J c (join_one J c x q) L)) (kept_more K L q)
      (from_means L (K ++ (q ∷ [])) (join_one J c x q) (λ p m. h p (elem-later p q L m)) (one_means x K q (h q (elem-first q L)) w))

  pub all_means : (L : List ℕ) → ((q : ℕ) → T (elem q L) → q < length rs) → Means (join_all J c L) L
  unfolding Means
  all_means L h = from_means L [] no_joint h refl

  -- the machine of a list tells whether some assignment satisfies all its records
  some_of : (L : List ℕ) (a : Table k) → Right n (conjunction_of rs L) a → T (accepts a) → SomeHold k rs L
  some_of L a r t = let w = (accepts_iff n (conjunction_of rs L) a r).0 t in (w.0, (conjunction-holds rs w.0 L).0 w.1)

  none_of : (L : List ℕ) (a : Table k) → Right n (conjunction_of rs L) a → accepts a ≡ false → NoneHold k rs L
  none_of L a r e A h = not-false e ((accepts_iff n (conjunction_of rs L) a r).1 (A, (conjunction-holds rs A L).1 h))

  -- IF THE TRIALS COME TO A LIST, it is the one that the trials over assignments keep
  pub trials-keep : (ps kept R : List ℕ) → ((x : ℕ) → T (elem x (kept ++ ps)) → x < length rs) → trials J c kept ps ≡ kept_list R → TrialsKeep k rs kept ps R
  unfolding trials trial_says Means
  trials-keep [] kept R h e = let s : kept ≡ R = cc in subst (TrialsKeep k rs kept []) s all-tried
  trials-keep (p ∷ rest) kept R h e =
      go (join_all J c (kept ++ rest)) (all_means (kept ++ rest) less) e (trials-keep rest kept R less)
      (trials-keep rest (kept ++ (p ∷ [])) R (λ x m. h x (subst (λ (L : List ℕ). T (elem x L)) (kept_more kept rest p) m)))
    where
      less : (x : ℕ) → T (elem x (kept ++ rest)) → x < length rs
      less x m = h x ((between x kept rest p).1 (inr m))

      go : (y : Joint k) → Means y (kept ++ rest) → trial_says y (λ v. trials J c (cond v kept (kept ++ (p ∷ []))) rest) ≡ kept_list R
          → (trials J c kept rest ≡ kept_list R → TrialsKeep k rs kept rest R)
          → (trials J c (kept ++ (p ∷ [])) rest ≡ kept_list R → TrialsKeep k rs (kept ++ (p ∷ [])) rest R)
          → TrialsKeep k rs kept (p ∷ rest) R
      go no_joint w i drop stay = stays (subst (SomeHold k rs) (sym w) (some-empty k rs)) (stay i)
      go (joint_by a) w i drop stay = told (accepts a) refl i
        where
          told : (v : Bool) → accepts a ≡ v → trials J c (cond (not v) kept (kept ++ (p ∷ []))) rest ≡ kept_list R → TrialsKeep k rs kept (p ∷ rest) R
          told true t j = stays (some_of (kept ++ rest) a w.1 (true→T t)) (stay j)
          told false t j = dropped (none_of (kept ++ rest) a w.1 t) (drop j)
      go (joint_over r) w i drop stay = absurd (let z : ◌≡◌ {A = ℕ} 0 1 = cc in omega arith)

  -- THE CLAIM on a list that the trials by machines come to
  pub trials-clash : (ps R : List ℕ) → ((x : ℕ) → T (elem x ps) → x < length rs) → NoneHold k rs ps → trials J c [] ps ≡ kept_list R → Clash k rs ps R
  trials-clash ps R h z e = keeps-clash k rs ps R z (trials-keep ps [] R h e)

  fits-nothing : (L : List ℕ) → join_all J c L ≡ no_joint → JoinsFit J c L
  fits-nothing L e r w = let i = (over_iff J c L r).1 w in let z : ◌≡◌ {A = ℕ} 0 1 = cc in omega arith

  fits-made : (L : List ℕ) (a : Table k) → join_all J c L ≡ joint_by a → JoinsFit J c L
  fits-made L a e r w = let i = (over_iff J c L r).1 w in let z : ◌≡◌ {A = ℕ} 0 1 = cc in omega arith

  -- where the joins fit, the trial goes on as the assignments tell
  Told : Bool → List ℕ → Type 0
  Told true L = NoneHold k rs L
  Told false L = SomeHold k rs L

  Untold : Bool → List ℕ → Type 0
  Untold true L = ¬ SomeHold k rs L
  Untold false L = ¬ NoneHold k rs L

  goes_on : (p : ℕ) (kept rest : List ℕ) → ((x : ℕ) → T (elem x (kept ++ (p ∷ rest))) → x < length rs) → (v : Bool) → JoinsFit J c (kept ++ rest)
      → Told v (kept ++ rest) → Untold v (kept ++ rest) → trials J c kept (p ∷ rest) ≡ trials J c (cond v kept (kept ++ (p ∷ []))) rest
  unfolding trials trial_says Means Told Untold
  goes_on p kept rest h v f t u = go v t u (join_all J c (kept ++ rest)) refl (all_means (kept ++ rest) (λ x m. h x ((between x kept rest p).1 (inr m))))
    where
      go : (v : Bool) → Told v (kept ++ rest) → Untold v (kept ++ rest) → (y : Joint k) → join_all J c (kept ++ rest) ≡ y → Means y (kept ++ rest)
          → trial_says y (λ z. trials J c (cond z kept (kept ++ (p ∷ []))) rest) ≡ trials J c (cond v kept (kept ++ (p ∷ []))) rest
      go true t u no_joint e m = absurd (u (subst (SomeHold k rs) (sym m) (some-empty k rs)))
      go false t u no_joint e m = refl
      go true t u (joint_by a) e m = ap (λ (z : Bool). trials J c (cond (not z) kept (kept ++ (p ∷ []))) rest)
          (not_T (accepts a) (λ q. u (some_of (kept ++ rest) a m.1 q)))
      go false t u (joint_by a) e m = told (accepts a) refl
        where
          told : (z : Bool) → accepts a ≡ z → trials J c (cond (not z) kept (kept ++ (p ∷ []))) rest ≡ trials J c (kept ++ (p ∷ [])) rest
          told true q = refl
          told false q = absurd (u (none_of (kept ++ rest) a m.1 q))
      go v t u (joint_over r) e m = absurd (f r ((over_iff J c (kept ++ rest) r).0 e))

  -- IF THEY COME TO 14, it is the first join that goes over, trial by trial and left to right
  pub trials-stop : (ps kept : List ℕ) (q : ℕ) → ((x : ℕ) → T (elem x (kept ++ ps)) → x < length rs) → trials J c kept ps ≡ over14 q → Stops rs J c kept ps q
  unfolding trials trial_says Means
  trials-stop [] kept q h e = absurd (let z : ◌≡◌ {A = ℕ} 0 1 = cc in omega arith)
  trials-stop (p ∷ rest) kept q h e =
      go (join_all J c (kept ++ rest)) refl (all_means (kept ++ rest) less) e (trials-stop rest kept q less)
      (trials-stop rest (kept ++ (p ∷ [])) q (λ x m. h x (subst (λ (L : List ℕ). T (elem x L)) (kept_more kept rest p) m)))
    where
      less : (x : ℕ) → T (elem x (kept ++ rest)) → x < length rs
      less x m = h x ((between x kept rest p).1 (inr m))

      go : (y : Joint k) → join_all J c (kept ++ rest) ≡ y → Means y (kept ++ rest)
          → trial_says y (λ v. trials J c (cond v kept (kept ++ (p ∷ []))) rest) ≡ over14 q
          → (trials J c kept rest ≡ over14 q → Stops rs J c kept rest q)
          → (trials J c (kept ++ (p ∷ [])) rest ≡ over14 q → Stops rs J c (kept ++ (p ∷ [])) rest q)
          → Stops rs J c kept (p ∷ rest) q
      go no_joint f w i drop stay = stays_then (fits-nothing (kept ++ rest) f) (subst (SomeHold k rs) (sym w) (some-empty k rs)) (stay i)
      go (joint_by a) f w i drop stay = told (accepts a) refl i
        where
          told : (v : Bool) → accepts a ≡ v → trials J c (cond (not v) kept (kept ++ (p ∷ []))) rest ≡ over14 q → Stops rs J c kept (p ∷ rest) q
          told true t j = stays_then (fits-made (kept ++ rest) a f) (some_of (kept ++ rest) a w.1 (true→T t)) (stay j)
          told false t j = dropped-then (fits-made (kept ++ rest) a f) (none_of (kept ++ rest) a w.1 t) (drop j)
      go (joint_over r) f w i drop stay = let s : r ≡ q = cc in goes_over ((over_iff J c (kept ++ rest) q).0 (f ∙ ap joint_over s))

  -- and only then
  pub stop-only : {kept ps : List ℕ} {q : ℕ} → ((x : ℕ) → T (elem x (kept ++ ps)) → x < length rs) → Stops rs J c kept ps q → trials J c kept ps ≡ over14 q
  unfolding trials trial_says Told Untold
  stop-only h (goes_over {kept = kept} {rest = rest} {p = p} {q = q} w) =
      ap (λ (y : Joint k). trial_says y (λ v. trials J c (cond v kept (kept ++ (p ∷ []))) rest)) ((over_iff J c (kept ++ rest) q).1 w)
  stop-only h (dropped-then {kept = kept} {rest = rest} {p = p} f z u) =
      goes_on p kept rest h true f z (λ w. z w.0 w.1) ∙ stop-only (λ x m. h x ((between x kept rest p).1 (inr m))) u
  stop-only h (stays_then {kept = kept} {rest = rest} {p = p} f w u) =
      goes_on p kept rest h false f w (λ z. z w.0 w.1) ∙ stop-only (λ x m. h x (subst (λ (L : List ℕ). T (elem x L)) (kept_more kept rest p) m)) u

-- WHATEVER MACHINES ARE JOINED, and with whatever ceilings: where no trial is refused, the same list is kept. So A8 left the lists as they were
pub same-list : (k n : ℕ) (rs : List Record) (I J : Joiner k) (b c : ℕ) → Sound n rs I → Sound n rs J → (ps K L : List ℕ)
    → ((x : ℕ) → T (elem x ps) → x < length rs) → NoneHold k rs ps → trials I b [] ps ≡ kept_list K → trials J c [] ps ≡ kept_list L → K ≡ L
same-list k n rs I J b c S R ps K L h z e f =
    clash-one k rs ps K L (trials-clash k n rs I b S ps K h z e) (trials-clash k n rs J c R ps L h z f)

-- such were the machines before A8: pairs, none of whose states were joined
pub unjoined_sound : (k n : ℕ) (rs : List Record) → Accepted k n rs → Sound n rs (record {
  at = λ p. plain_table {k = k} n (formula_at rs p);
  states = λ a b. (product_table n ◌&&◌ a b).count;
  join = λ a b. product_table n ◌&&◌ a b;
})
unjoined_sound k n rs ok = record {
  at_right = λ p h. plain-right n (formula_at rs p) (record_valid k n rs ok.1 p h);
  join-right = λ f g a b. both_right n f g a b;
}
