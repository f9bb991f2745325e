-- The trials over what is joined are those of the definition. Assumes nothing.
use Rattle.words.proofs.Vocabulary.{ℕ, ◌≤◌, ◌<◌, ◌+◌, ◌-◌, Bool, true, false, cond, not, T, ◌≡◌, refl, sym, ap, subst, ◌∙◌, ◌↔◌, List, [], ◌∷◌, ◌++◌}
use Rattle.words.proofs.Vocabulary.{length, get_or, take, drop, length-set, length-append, take-suc-set, drop-set-lt, add-one, arith}
use lib.ListN.{drop_of_length-le}
use Rattle.logic.specs.Meaning.{Assignment, Formula, Valid, Holds}
use Rattle.logic.specs.Joined.{joined_table}
use Rattle.logic.proofs.Places.{T-ext}
use Rattle.logic.proofs.Joined.{joined-right}
use Rattle.records.specs.declared.Summary.{Summary}
use Rattle.records.proofs.Shares.{drop-later}
use Rattle.reading.specs.Reading.{mach_table, Satisfiable}
use Rattle.rule_strip.specs.RuleStrip.{variables_of, count_of, records_of}
use Rattle.rule_strip.proofs.RuleLaws.{rule-accepted}
use Rattle.rules.specs.Building.{MachineFor, ReachedBuilt}
use Rattle.parts.specs.Parts.{parts_of}
use Rattle.parts.specs.Listed.{Listed}
use Rattle.trials.specs.Joins.{Joint as Conjunct, no_joint, accepts, join_one, join_from, trial_says, trials_from}
use Rattle.trials.proofs.Joins.{accepts_iff, trials_reuse}
use Rattle.std.specs.Prelude.{Option, None, Some, Result, Ok, Err, replicate}
use Rattle.refusals.specs.declared.OverCeiling.{OverCeiling}
use Rattle.trying.specs.Trying.{Triable, joiner_of, JointMade, JointOf, JoiningOf, SomeJoint, JoinsPart, JoinsRest, Confined}
use Rattle.trying.specs.Trials.{went_on, TrialTells, JoinsKept, listed_too, tried_of, TriedAll}
use Rattle.trying.specs.declared.joint.Made.{Made}
use Rattle.trying.specs.declared.KeptParts.{KeptParts}
use Rattle.trying.proofs.Joints.{confined-none, confined-more, reached-below, reached_stay, joint-stays, over-stays, part_at, parts_from}

-- SOME STATE ACCEPTS exactly if some assignment satisfies the formula
pub satisfiable-built : {rule : List ℕ} {c : ℕ} {ws : List ℕ} {r : ℕ} {k : Summary} {F : Formula 2} → MachineFor rule c ws r k F → {b : Bool} → Satisfiable k b
    → T b ↔ ((A : Assignment 2) × Holds F A)
unfolding accepts
satisfiable-built {rule} {F = F} u {b} s =
    let h = u.readable in
    subst (λ (v : Bool). T v ↔ ((A : Assignment 2) × Holds F A)) (sym (s _ _ h.machine _ h.stored))
    (accepts_iff (variables_of rule) F (mach_table h.machine) (u.full.0, u.decides.decides, u.full.1))

-- so it is with the definition's machine
pub satisfiable-same : {rule : List ℕ} {c : ℕ} {ws : List ℕ} {r : ℕ} {k : Summary} {F : Formula 2} → Valid (variables_of rule) F → MachineFor rule c ws r k F
    → {b : Bool} → Satisfiable k b → b ≡ accepts (joined_table (variables_of rule) F)
satisfiable-same {rule} {F = F} v u {b} s =
    let n = variables_of rule in
    let i = satisfiable-built u s in
    let j = accepts_iff n F (joined_table n F) (joined-right n F v) in
    T-ext b (accepts (joined_table n F)) (λ t. j.1 (i.0 t)) (λ t. i.1 (j.0 t))

-- what is joined before one share is joined before a later one
joint-later : (rule : List ℕ) (c : ℕ) (ws : List ℕ) (end later : ℕ) → end ≤ later → (j : Option Made) (x : Conjunct 2) → JointOf rule c ws end j x
    → JointOf rule c ws later j x
joint-later rule c ws end later h = joint-stays {rule = rule} {c = c} {r = end} {ws = ws} {ws' = ws} refl confined-none end later (omega arith) h

-- ---- one trial
module _ (rule : List ℕ) (c : ℕ) (ws : List ℕ) (i : ℕ) (j : Option Made) where
  -- those not yet tried are joined behind those kept
  pub rest-joint : {later : ℕ} → count_of rule + i - 1 ≤ later → SomeJoint rule c ws (count_of rule + i - 1) (Ok j) → SomeJoint rule c ws later (Ok j)
  rest-joint {later} h s = (s.0, joint-later rule c ws (count_of rule + i - 1) later h j s.0 s.1)

  abbrev end : ℕ
  end = count_of rule + length (parts_of (records_of rule)) - 1

  module _ (ws' : List ℕ) (k : Result (Option Made) OverCeiling) (z : JoinsRest rule c ws (i + 1) (Ok j) ws' k) where
    -- k is what joining the rest comes to
    rest-is : (x : Conjunct 2) → JointOf rule c ws (count_of rule + i - 1) j x
        → JoiningOf rule c ws' end k (join_from (joiner_of rule) c x (drop (i + 1) (parts_of (records_of rule))))
    rest-is x u = z x (joint-later rule c ws (count_of rule + i - 1) (count_of rule + (i + 1) - 1) (omega arith) j x u)

  module _ (ws' : List ℕ) where
    pub tells-over : (o : OverCeiling) → JoinsRest rule c ws (i + 1) (Ok j) ws' (Err o) → TrialTells rule c ws i j (Err o)
    unfolding trial_says
    tells-over o z x u go = rw (rest-is ws' (Err o) z x u) refl

    pub tells-alone : {k : Option Made} → k ≡ None → JoinsRest rule c ws (i + 1) (Ok j) ws' (Ok k) → TrialTells rule c ws i j (Ok false)
    unfolding trial_says
    tells-alone {k} e z x u go = rw (rest-is ws' (Ok None) (rw e at z) x u) refl

    module _ {k : Option Made} (m : Made) (e : k ≡ Some m) (z : JoinsRest rule c ws (i + 1) (Ok j) ws' (Ok k)) where
      joint-is : (x : Conjunct 2) → JointOf rule c ws (count_of rule + i - 1) j x
          → JointMade rule c ws' end m (join_from (joiner_of rule) c x (drop (i + 1) (parts_of (records_of rule))))
      joint-is = rest-is ws' (Ok (Some m)) (rw e at z)

      -- the conjunction's machine can be asked
      pub rest-few : {room : ℕ} → Triable rule c room → SomeJoint rule c ws (count_of rule + i - 1) (Ok j) → m.machine.count ≤ 64
      rest-few t s = let h = (joint-is s.0 s.1).machine.readable.stored in omega (arith, h.count, h.few, t.work.few-states)

      -- whether it accepts
      pub tells-made : {b : Bool} → Satisfiable m.machine b → TrialTells rule c ws i j (Ok (not b))
      unfolding trial_says
      tells-made s x u go = let h = joint-is x u in rw (h.joined, satisfiable-same h.valid h.machine s) refl

-- ---- those kept
module _ {rule : List ℕ} {c room : ℕ} (t : Triable rule c room) {count : ℕ} {xs : List ℕ} (l : Listed (parts_of (records_of rule)) count xs)
    (ws : List ℕ) (i : ℕ) (j : Option Made) where
  pub kept-last : count ≤ i + 1 → JoinsKept rule c ws i j ws (Ok j)
  kept-last h x u less = absurd (omega (arith, l.counted))

  pub kept-joined : (ws' : List ℕ) (k : Made) → i < count → JoinsPart rule c ws (count_of rule + i - 1) (Ok j) (get_or xs i 0) ws' (Ok k)
      → JoinsKept rule c ws i j ws' (Ok (Some k))
  kept-joined ws' k h z x u less =
      let one : count_of rule + i - 1 + 1 ≡ count_of rule + i = omega (arith, (rule-accepted rule t.work.sound).some_record) in
      rw (← part_at t l i h) (subst (λ (at : ℕ). JointOf rule c ws' at (Some k) (join_one (joiner_of rule) c x (get_or xs i 0))) one (z x u))

  pub kept-over : (ws' : List ℕ) (o : OverCeiling) → i + 1 < count → JoinsPart rule c ws (count_of rule + i - 1) (Ok j) (get_or xs i 0) ws' (Err o)
      → JoinsKept rule c ws i j ws' (Err o)
  kept-over ws' o h z x u = (omega (arith, l.counted), rw (← part_at t l i (omega arith)) (z x u))

-- ---- the trials
-- before the trial of part i: some of those before it are kept, and stand in the list
pub record Tries (rule : List ℕ) (c : ℕ) (ws₀ ws : List ℕ) (i : ℕ) (kept : KeptParts) (j : Option Made) : Type 0 where
  pub long : length ws ≡ length ws₀
  pub confined : Confined rule c 0 ws₀ ws
  pub sixteen : length kept.parts ≡ 16
  pub few : kept.count ≤ i
  pub x : Conjunct 2
  pub K : List ℕ
  pub counted : kept.count ≡ length K
  pub front : take kept.count kept.parts ≡ K
  pub rest : drop kept.count kept.parts ≡ drop kept.count (replicate 16 0)
  pub joint : i < length (parts_of (records_of rule)) → JointOf rule c ws (count_of rule + i - 1) j x
  pub goes : trials_from (joiner_of rule) c x K (drop i (parts_of (records_of rule))) ≡ tried_of rule c

pub tries_first : {rule : List ℕ} {c : ℕ} {ws : List ℕ} → Tries rule c ws ws 0 (record { count = 0; parts = replicate 16 0 }) None
tries_first {rule} {c} = record {
  long = refl;
  confined = confined-none;
  sixteen = refl;
  few = omega arith;
  x = no_joint;
  K = [];
  counted = refl;
  front = refl;
  rest = refl;
  joint = λ h. refl;
  goes = trials_reuse (joiner_of rule) c (parts_of (records_of rule));
}

module _ {rule : List ℕ} {c room : ℕ} (t : Triable rule c room) {count : ℕ} {xs : List ℕ} (l : Listed (parts_of (records_of rule)) count xs)
    {ws₀ ws : List ℕ} {i : ℕ} {kept : KeptParts} {j : Option Made} (s : Tries rule c ws₀ ws i kept j) where
  pub tries_done : count ≤ i → TriedAll rule c (Ok kept)
  unfolding trials_from
  tries_done h =
      let ps = parts_of (records_of rule) in
      let none : drop i ps ≡ [] = drop_of_length-le ps {i = i} (omega (arith, l.counted)) in
      (s.K, sym (rw none at s.goes), s.counted, s.front, s.rest)

  module _ (h : i < count) where
    joint-here : JointOf rule c ws (count_of rule + i - 1) j s.x
    joint-here = s.joint (omega (arith, l.counted))

    -- what a trial asks
    pub tries_asks : length ws₀ ≡ room → {es : ℕ → Summary} → ReachedBuilt rule c es ws₀
        → Triable rule c (length ws) × (ReachedBuilt rule c es ws × SomeJoint rule c ws (count_of rule + i - 1) (Ok j))
    tries_asks e b = (
      subst (Triable rule c) (sym (s.long ∙ e)) t,
      (reached_stay s.long s.confined (λ r u. (reached-below t r u).0) b, (s.x, joint-here)),
    )

    module _ {ws' : List ℕ} (f : Confined rule c (count_of rule + i) ws ws') where
      pub confined-then : Confined rule c 0 ws₀ ws'
      confined-then = confined-more (omega arith) s.confined f

      module _ (o : Result Bool OverCeiling) (z : TrialTells rule c ws i j o) where
        -- what comes of the trial
        went : let J = joiner_of rule in
            let rest = drop (i + 1) (parts_of (records_of rule)) in
            went_on o (λ (none : Bool). trials_from J c (cond none s.x (join_one J c s.x (get_or xs i 0))) (cond none s.K (s.K ++ (get_or xs i 0 ∷ []))) rest)
            ≡ tried_of rule c
        unfolding trials_from
        went = sym (z s.x joint-here _) ∙ (rw (parts_from t l i h) at s.goes)

      -- it goes over
      pub tries_over : (o : OverCeiling) → TrialTells rule c ws i j (Err o) → TriedAll rule c (Err o)
      tries_over o z = sym (went (Err o) z)

      module _ (same : length ws' ≡ length ws) (dropped : Bool) (z : TrialTells rule c ws i j (Ok dropped)) where
        -- the part is dropped
        pub tries_dropped : dropped ≡ true → Tries rule c ws₀ ws' (i + 1) kept j
        tries_dropped e = record {
          long = same ∙ s.long;
          confined = confined-then;
          sixteen = s.sixteen;
          few = omega (arith, s.few);
          x = s.x;
          K = s.K;
          counted = s.counted;
          front = s.front;
          rest = s.rest;
          joint = λ more. joint-stays same f (count_of rule + i - 1) (count_of rule + (i + 1) - 1) (omega arith) (omega arith) j s.x joint-here;
          goes = rw e at (went (Ok dropped) z);
        }

        -- it stays
        module _ (e : dropped ≡ false) where
          joint-still : JointOf rule c ws' (count_of rule + i - 1) j s.x
          joint-still = joint-stays same f (count_of rule + i - 1) (count_of rule + i - 1) (omega arith) (omega arith) j s.x joint-here

          pub kept_asks : length ws₀ ≡ room → {es : ℕ → Summary} → ReachedBuilt rule c es ws₀
              → Triable rule c (length ws') × (ReachedBuilt rule c es ws' × SomeJoint rule c ws' (count_of rule + i - 1) (Ok j))
          kept_asks g b = (
            subst (Triable rule c) (sym (same ∙ s.long ∙ g)) t,
            (reached_stay (same ∙ s.long) confined-then (λ r u. (reached-below t r u).0) b, (s.x, joint-still)),
          )

          pub kept-confined : {ws'' : List ℕ} → Confined rule c (count_of rule + i - 1) ws' ws'' → Confined rule c 0 ws₀ ws''
          kept-confined f' = confined-more (omega arith) confined-then f'

          -- the next trial would tell of it
          pub tries-kept-over : (ws'' : List ℕ) (o : OverCeiling) → JoinsKept rule c ws' i j ws'' (Err o) → TriedAll rule c (Err o)
          unfolding trials_from trial_says
          tries-kept-over ws'' o z' =
              let J = joiner_of rule in
              let ps = parts_of (records_of rule) in
              let w = z' s.x joint-still in
              let more : i + 1 < count = omega (arith, l.counted) in
              sym (rw (e, part_at t l i h, w.1, parts_from t l (i + 1) more, over-stays rule c (drop (i + 1 + 1) ps) o.at) at (went (Ok dropped) z))

          pub tries_kept : i < 16 → {ws'' : List ℕ} {k : Option Made} → length ws'' ≡ length ws' → Confined rule c (count_of rule + i - 1) ws' ws''
              → JoinsKept rule c ws' i j ws'' (Ok k) → Tries rule c ws₀ ws'' (i + 1) (listed_too kept (get_or xs i 0)) k
          tries_kept few {ws''} {k} same' f' z' = record {
            long = same' ∙ same ∙ s.long;
            confined = kept-confined f';
            sixteen = length-set kept.parts kept.count (get_or xs i 0) ∙ s.sixteen;
            few = omega (arith, s.few);
            x = join_one (joiner_of rule) c s.x (get_or xs i 0);
            K = s.K ++ (get_or xs i 0 ∷ []);
            counted = omega (arith, s.counted, length-append s.K (get_or xs i 0 ∷ []));
            front = rw (add-one kept.count) (take-suc-set kept.parts kept.count (get_or xs i 0) (omega (arith, s.few, s.sixteen)))
                ∙ ap (λ (L : List ℕ). L ++ (get_or xs i 0 ∷ [])) s.front;
            rest = drop-set-lt (kept.count + 1) kept.parts kept.count (get_or xs i 0) (omega arith)
                ∙ drop-later kept.count (kept.count + 1) kept.parts (replicate 16 0) (omega arith) s.rest;
            joint = λ more.
                let e' : count_of rule + i ≡ count_of rule + (i + 1) - 1 = omega arith in
                rw (part_at t l i h)
                (subst (λ (at : ℕ). JointOf rule c ws'' at k (join_one (joiner_of rule) c s.x (get_or (parts_of (records_of rule)) i 0))) e' (z' s.x joint-still more));
            goes = rw e at (went (Ok dropped) z);
          }
