-- What request A5 took away, and from which rules: the claims as they stood before it spoke of all records. Of a rule without leftovers the
-- two say the same; of any accepted rule the old demands 2 and 3 follow from the new ones. Assumes nothing.
use Prim.Native.Nat.{ℕ, ◌≤◌, ◌<◌}
use mathlib.Core.Path.{◌≡◌}
use mathlib.Core.Logic.{◌↔◌}
use mathlib.Core.List.{List}
use native.Mathlib.Omega.{arith}
use lib.ListN.{length}
use Rattle.logic.specs.Meaning.{Assignment}
use Rattle.logic.specs.Tree.{Tree, TreeOf}
use Rattle.logic.specs.Rule.{Record, Satisfies, Accepted}
use Rattle.logic.specs.ReachedRecords.{ReachedRecord}
use Rattle.logic.specs.Claims.{Outcome, refused14, Judgement, unbuilt, yes, no, states_at, FirstOver, Roomy, Demand2, Demand3, LeastForRule, Answers}
use Rattle.logic.specs.Claims.{Judges}
use Rattle.logic.proofs.Rules.{reached-within}

-- the first of all records with more than c states
abbrev pub FirstOfAll : (k n : ℕ) → List Record → ℕ → ℕ → Type 0
FirstOfAll k n rs c r = (r < length rs) × (c < states_at k n rs r) × ((i : ℕ) → i < r → states_at k n rs i ≤ c)

-- no record at all has more than c states
abbrev pub AllRoomy : (k n : ℕ) → List Record → ℕ → Type 0
AllRoomy k n rs c = (r : ℕ) → r < length rs → states_at k n rs r ≤ c

-- the claim on decide's answer as it would be without A5
pub record AnswersAll {k : ℕ} (n : ℕ) (rs : List Record) (c P q : ℕ) (o : Outcome k) : Type 0 where
  pub least : LeastForRule k n rs q
  pub refused_is : (r : ℕ) → (o ≡ refused14 r) ↔ FirstOfAll k n rs c r
  pub demand2 : AllRoomy k n rs c → Demand2 n rs P q o
  pub demand3 : AllRoomy k n rs c → Demand3 n rs P q o

-- and on judge's
pub record JudgesAll {k : ℕ} (n : ℕ) (rs : List Record) (c : ℕ) (t : Tree k) (j : Judgement) : Type 0 where
  pub unbuilt_is : (r : ℕ) → (j ≡ unbuilt r) ↔ FirstOfAll k n rs c r
  pub yes_is : AllRoomy k n rs c → (A : Assignment k) → TreeOf n A t → (j ≡ yes) ↔ Satisfies rs A
  pub no_is : AllRoomy k n rs c → (A : Assignment k) → TreeOf n A t → (j ≡ no) ↔ (¬ Satisfies rs A)

module _ (k n : ℕ) (rs : List Record) (ok : Accepted k n rs) (c : ℕ) where
  -- of any rule: where every record has room, those that are reached have
  pub all-roomy : AllRoomy k n rs c → Roomy k n rs c
  all-roomy h r u = h r (reached-within k n rs ok r u)

  pub demands_all : (P q : ℕ) (o : Outcome k) → Answers n rs c P q o → AllRoomy k n rs c → Demand2 n rs P q o × Demand3 n rs P q o
  demands_all P q o a h = (a.demand2 (all-roomy h), a.demand3 (all-roomy h))

  -- of a rule without leftovers
  module _ (lean : (r : ℕ) → r < length rs → ReachedRecord rs r) where
    roomy-all : Roomy k n rs c → AllRoomy k n rs c
    roomy-all h r l = h r (lean r l)

    first_iff : (r : ℕ) → FirstOver k n rs c r ↔ FirstOfAll k n rs c r
    first_iff r = (
      (λ f. let h = reached-within k n rs ok r f.0 in (h, f.1, λ i l. f.2 i l (lean i (omega arith)))),
      λ f. (lean r f.0, f.1, λ i l u. f.2 i l),
    )

    both : {A : Type 0} {r : ℕ} → A ↔ FirstOver k n rs c r → A ↔ FirstOfAll k n rs c r
    both {A} {r} i = ((λ a. (first_iff r).0 (i.0 a)), λ f. i.1 ((first_iff r).1 f))

    back : {A : Type 0} {r : ℕ} → A ↔ FirstOfAll k n rs c r → A ↔ FirstOver k n rs c r
    back {A} {r} i = ((λ a. (first_iff r).1 (i.0 a)), λ f. i.1 ((first_iff r).0 f))

    -- DECIDE'S CLAIM IS THE OLD ONE
    pub lean_answers : (P q : ℕ) (o : Outcome k) → Answers n rs c P q o ↔ AnswersAll n rs c P q o
    lean_answers P q o = (
      (λ a. record { least = a.least; refused_is = λ r. both (a.refused_is r); demand2 = λ h. a.demand2 (all-roomy h); demand3 = λ h. a.demand3 (all-roomy h) }),
      λ a. record { least = a.least; refused_is = λ r. back (a.refused_is r); demand2 = λ h. a.demand2 (roomy-all h); demand3 = λ h. a.demand3 (roomy-all h) },
    )

    -- AND SO IS JUDGE'S
    pub lean_judges : (t : Tree k) (j : Judgement) → Judges n rs c t j ↔ JudgesAll n rs c t j
    lean_judges t j = (
      (λ g. record { unbuilt_is = λ r. both (g.unbuilt_is r); yes_is = λ h. g.yes_is (all-roomy h); no_is = λ h. g.no_is (all-roomy h) }),
      λ g. record { unbuilt_is = λ r. back (g.unbuilt_is r); yes_is = λ h. g.yes_is (roomy-all h); no_is = λ h. g.no_is (roomy-all h) },
    )
