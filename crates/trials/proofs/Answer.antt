-- The whole answer is as A6 asks, and no other is.
-- Assumes nothing.
use Prim.Native.Nat.{ℕ}
use mathlib.Core.Path.{◌≡◌, refl, ap, ap₂, sym, subst, ◌∙◌, fun_ext}
use mathlib.Core.Logic.{◌↔◌, ◌⊎◌, inl, inr}
use mathlib.Core.Bool.{Bool, true, false, cond}
use mathlib.Core.List.{List, []}
use native.Mathlib.Omega.{arith}
use lib.Dec.{T}
use lib.ListN.{length, get_or}
use Rattle.logic.specs.Meaning.{Assignment, root}
use Rattle.logic.specs.Rule.{Record, last_of, extend, formula_at, Satisfies, Accepted}
use Rattle.logic.specs.ReachedRecords.{names_in, is_reached}
use Rattle.logic.specs.Table.{Table, Built, over, built}
use Rattle.logic.specs.Joined.{join, constructed, joined_table}
use Rattle.logic.specs.Decide.{build_rule}
use Rattle.logic.specs.Claims.{FirstOver, Roomy}
use Rattle.logic.proofs.Places.{true→T}
use Rattle.logic.proofs.Rules.{record_valid, tables_at, Says, built-says}
use Rattle.logic.proofs.Joined.{joined-right}
use Rattle.logic.proofs.Answers.{one-first, first_not_roomy, says_first, says-roomy}
use Rattle.parts.specs.Parts.{parts_of}
use Rattle.parts.proofs.Lists.{not-false}
use Rattle.parts.proofs.PartLaws.{parts_within}
use Rattle.trials.specs.Clash.{Clash}
use Rattle.trials.specs.Joins.{pair_joiner, rule_joiner, accepts, Trialled, over14, kept_list, trials, Stops}
use Rattle.trials.specs.Answer.{ClashAnswer, refused_for, satisfiable, clashing, trials_answer, after_built, clash_of, ClashAnswers}
use Rattle.trials.proofs.Clash.{parts_none, clash-one}
use Rattle.trials.proofs.Joins.{accepts_iff, Sound, rule-sound, trials-clash, trials-stop, stop-only}

module _ (k n : ℕ) (rs : List Record) (ok : Accepted k n rs) (c : ℕ) where
  abbrev ps : List ℕ
  ps = parts_of rs

  abbrev Last : Table k
  Last = joined_table n (formula_at rs (last_of rs))

  sound : Sound n rs (rule_joiner k n rs)
  sound = rule-sound k n rs ok

  abbrev used : ℕ → Bool
  used = is_reached (names_in rs) (length rs)

  -- what building says of all records
  abbrev Told : Built k → Type 0
  Told = Says k (join n) n c used (extend [] rs)

  says_at : (ts : List (Table k)) → Told (built ts) → (p : ℕ) → get_or ts p (joined_table n (root 0)) ≡ joined_table n (formula_at rs p)
  unfolding Says formula_at joined_table constructed
  says_at ts w p = ap (λ (us : List (Table k)). get_or us p (joined_table n (root 0))) w.0 ∙ tables_at k (join n) n c used (extend [] rs) p

  last_iff : T (accepts Last) ↔ ((A : Assignment k) × Satisfies rs A)
  last_iff = accepts_iff n (formula_at rs (last_of rs)) Last (joined-right n (formula_at rs (last_of rs)) (record_valid k n rs ok.1 (last_of rs) (let h = ok.0 in omega arith)))

  -- the list, or the 14 of a trial
  abbrev Otherwise : ClashAnswer → Type 0
  Otherwise o =
      ((R : List ℕ) × (o ≡ clashing R) × Clash k rs (parts_of rs) R × ((q : ℕ) → ¬ Stops rs (rule_joiner k n rs) c [] (parts_of rs) q))
      ⊎ ((q : ℕ) × (o ≡ refused_for q) × Stops rs (rule_joiner k n rs) c [] (parts_of rs) q)

  tried-right : (y : Trialled) → trials (rule_joiner k n rs) c [] ps ≡ y → ((A : Assignment k) → ¬ Satisfies rs A) → Otherwise (trials_answer y)
  unfolding trials_answer
  tried-right (over14 q) e z = inr (q, refl, trials-stop k n rs (rule_joiner k n rs) c sound ps [] q (parts_within k n rs ok) e)
  tried-right (kept_list R) e z = inl (
    R,
    refl,
    trials-clash k n rs (rule_joiner k n rs) c sound ps R (parts_within k n rs ok) ((parts_none k rs n ok).0 z) e,
    λ q s. let i = stop-only k n rs (rule_joiner k n rs) c sound (parts_within k n rs ok) s in let j : ◌≡◌ {A = ℕ} 0 1 = cc in omega arith,
  )

  tried_not : (y : Trialled) → ¬ (trials_answer y ≡ satisfiable)
  unfolding trials_answer
  tried_not (over14 q) e = let j : ◌≡◌ {A = ℕ} 0 1 = cc in omega arith
  tried_not (kept_list R) e = let j : ◌≡◌ {A = ℕ} 0 1 = cc in omega arith

  -- what comes after the rule's machines are built and have room
  abbrev after : Bool → ClashAnswer
  after v = cond v satisfiable (trials_answer (trials (rule_joiner k n rs) c [] (parts_of rs)))

  roomy-right : Roomy k n rs c → (v : Bool) → accepts Last ≡ v → ClashAnswers k n rs c (after v)
  roomy-right R true e = record {
    refused-rule = λ r a. absurd (first_not_roomy k n rs c 0 r a R);
    satisfiable_is = λ _. ((λ i. last_iff.0 (true→T e)), λ w. refl);
    otherwise = λ _ z. absurd (let w = last_iff.0 (true→T e) in z w.0 w.1);
  }
  roomy-right R false e = record {
    refused-rule = λ r a. absurd (first_not_roomy k n rs c 0 r a R);
    satisfiable_is =
        λ _. ((λ i. absurd (tried_not (trials (rule_joiner k n rs) c [] ps) i)), λ w. absurd (not-false e (last_iff.1 w)));
    otherwise = λ _ z. tried-right (trials (rule_joiner k n rs) c [] ps) refl z;
  }

  built-right : (b : Built k) → Told b → ClashAnswers k n rs c (after_built n rs c b)
  unfolding after_built
  built-right (over r) w =
      let a : FirstOver k n rs c r = says_first k n rs c 0 ok r w in record {
        refused-rule = λ q b. ap refused_for (one-first k n rs c 0 r q a b);
        satisfiable_is = λ R. absurd (first_not_roomy k n rs c 0 r a R);
        otherwise = λ R z. absurd (first_not_roomy k n rs c 0 r a R);
      }
  built-right (built ts) w = subst (ClashAnswers k n rs c) (sym
      (ap₂ (λ (a : Table k) (at : ℕ → Table k). cond (accepts a) satisfiable (trials_answer (trials (pair_joiner n at) c [] (parts_of rs))))
      (says_at ts w (last_of rs)) (fun_ext (says_at ts w)))) (roomy-right (says-roomy k n rs c 0 ok ts w) (accepts Last) refl)

  -- A6: the answer is as asked
  pub clash-answers : ClashAnswers k n rs c (clash_of k n rs c)
  unfolding clash_of
  clash-answers = built-right (build_rule n c rs) (built-says k (join n) n c used rs)

  -- the first join that goes over is one
  pub stops-one : (q r : ℕ) → Stops rs (rule_joiner k n rs) c [] (parts_of rs) q → Stops rs (rule_joiner k n rs) c [] (parts_of rs) r → q ≡ r
  stops-one q r a b =
      let i = stop-only k n rs (rule_joiner k n rs) c sound (parts_within k n rs ok) a in
      let j = stop-only k n rs (rule_joiner k n rs) c sound (parts_within k n rs ok) b in
      let e : over14 q ≡ over14 r = sym i ∙ j in cc

  otherwise-one : (o p : ClashAnswer) → Otherwise o → Otherwise p → o ≡ p
  otherwise-one o p (inl x) (inl y) = x.1 ∙ ap clashing (clash-one k rs (parts_of rs) x.0 y.0 x.2 y.2) ∙ sym y.1
  otherwise-one o p (inl x) (inr y) = absurd (x.3 y.0 y.2)
  otherwise-one o p (inr x) (inl y) = absurd (y.3 x.0 x.2)
  otherwise-one o p (inr x) (inr y) = x.1 ∙ ap refused_for (stops-one x.0 y.0 x.2 y.2) ∙ sym y.1

  -- NO OTHER ANSWER IS
  pub clash-only : (o : ClashAnswer) → ClashAnswers k n rs c o → o ≡ clash_of k n rs c
  clash-only o a = go (build_rule n c rs) (built-says k (join n) n c used rs)
    where
      b : ClashAnswers k n rs c (clash_of k n rs c)
      b = clash-answers

      at : Roomy k n rs c → (v : Bool) → accepts Last ≡ v → o ≡ clash_of k n rs c
      at R true e = let w = last_iff.0 (true→T e) in (a.satisfiable_is R).1 w ∙ sym ((b.satisfiable_is R).1 w)
      at R false e =
          let z : (A : Assignment k) → ¬ Satisfies rs A = λ A s. not-false e (last_iff.1 (A, s)) in
          otherwise-one o (clash_of k n rs c) (a.otherwise R z) (b.otherwise R z)

      go : (d : Built k) → Told d → o ≡ clash_of k n rs c
      go (over r) w = let f = says_first k n rs c 0 ok r w in a.refused-rule r f ∙ sym (b.refused-rule r f)
      go (built ts) w = at (says-roomy k n rs c 0 ok ts w) (accepts Last) refl

  -- where the rule has room: 29, or what the trials come to
  pub roomy-answer : Roomy k n rs c → (v : Bool) → accepts (joined_table {k = k} n (formula_at rs (last_of rs))) ≡ v
      → clash_of k n rs c ≡ cond v satisfiable (trials_answer (trials (rule_joiner k n rs) c [] (parts_of rs)))
  roomy-answer R v e = sym (clash-only (after v) (roomy-right R v e))
