-- From an accepted rule strip to clash's answer, and its claim. Assumes nothing.
use Rattle.words.proofs.Vocabulary.{ℕ, zero, suc, ◌+◌, ◌-◌, ◌*◌, ◌^◌, ◌≤◌, ◌<◌, ◌≡◌, refl, sym, ap, ap₂, ◌∙◌, ⊎_elim, Bool, true, false, cond}
use Rattle.words.proofs.Vocabulary.{List, ◌++◌, length, drop, replicate, mul-le-mul_right, arith}
use lib.ListN.{take-append-drop}
use lib.Seq.{drop-nil}
use Rattle.std.specs.Prelude.{Result, Ok, Err}
use Rattle.std.proofs.lemmas.Grind.{common_steps}
use Rattle.logic.specs.Rule.{last_of}
use Rattle.logic.specs.Claims.{FirstOver}
use Rattle.logic.proofs.Rules.{record_valid}
use Rattle.rule_strip.specs.RuleStrip.{variables_of, count_of, records_of, rule_fault}
use Rattle.rule_strip.proofs.RuleLaws.{rule-accepted}
use Rattle.rule_strip.proofs.RulePlaces.{place-told}
use Rattle.refusals.specs.declared.Fault.{Fault}
use Rattle.refusals.specs.declared.Reason.TheVariants as reason
use Rattle.refusals.specs.declared.Refusal.{Refusal}
use Rattle.refusals.specs.declared.Refusal.TheVariants.{Placed, Plain, TooManyStates}
use Rattle.refusals.proofs.Refusals.{free, checked-free, tested-free, checked-placed, tested_unplaced}
use Rattle.records.specs.declared.Summary.{Summary}
use Rattle.records.proofs.Shares.{drop-later}
use Rattle.layout.specs.Shape.{share_at}
use Rattle.reading.specs.Reading.{Satisfiable}
use Rattle.rules.specs.Room.{room_of, cleared}
use Rattle.rules.specs.Building.{rule_shape, Decider}
use Rattle.rules.proofs.Ends.{placed_early, told_early, told_late, kept_early, cleared_late}
use Rattle.rules.proofs.Rooms.{untold, work_free, work_unplaced, room_shares}
use Rattle.rules.proofs.Rules.{rule-shaped}
use Rattle.parts.specs.Parts.{parts_of}
use Rattle.trials.specs.Joins.{over14}
use Rattle.trials.specs.Answer.{ClashAnswer, refused_for, satisfiable, clashing, trials_answer}
use Rattle.trials.proofs.Answer.{clash-answers, roomy-answer}
use Rattle.trying.specs.Trying.{Triable, Confined}
use Rattle.trying.specs.Trials.{tried_of, TriedAll}
use Rattle.trying.specs.declared.KeptParts.{KeptParts}
use Rattle.trying.proofs.Tries.{satisfiable-same}
use Rattle.clash.specs.Clashes.{trial_room, parts_refusal, clash_refusal, clashing_list, clashed_of, clash_list_of, clash_workspace, ClashClaim}

-- ---- the room
-- what m + 15 records take is no less than what m take
pub room-more : (rule : List ℕ) (c : ℕ) → room_of rule c ≤ trial_room rule c
room-more rule c = mul-le-mul_right (2 ^ variables_of rule * c * c) (omega arith)

module _ {rule : List ℕ} {c room : ℕ} (t : Triable rule c room) where
  pub trial_shares : share_at (rule_shape rule c) (count_of rule + 15) ≡ trial_room rule c
  trial_shares = room_shares (variables_of rule) (count_of rule + 15) c (rule-shaped t.work)

  -- the trials change nothing past the shares
  pub trials-beyond : {r : ℕ} {ws ws' : List ℕ} → Confined rule c r ws ws' → drop (trial_room rule c) ws' ≡ drop (trial_room rule c) ws
  trials-beyond f = rw trial_shares at f.beyond

-- nor does building
pub built-beyond : (rule : List ℕ) (c : ℕ) (ws ws' : List ℕ) → drop (room_of rule c) ws' ≡ drop (room_of rule c) ws
    → drop (trial_room rule c) ws' ≡ drop (trial_room rule c) ws
built-beyond rule c ws ws' = drop-later (room_of rule c) (trial_room rule c) ws' ws (room-more rule c)

-- ---- the list
zeros-left : (n k m : ℕ) → n - k ≡ m → drop {A = ℕ} k (replicate n 0) ≡ replicate m 0
zeros-left zero k m e = let z : 0 ≡ m = omega arith in drop-nil k ∙ ap (λ (i : ℕ). replicate {A = ℕ} i 0) z
zeros-left (suc n) zero m e = let z : suc n ≡ m = omega arith in ap (λ (i : ℕ). replicate {A = ℕ} i 0) z
zeros-left (suc n) (suc k) m e = zeros-left n k m (omega arith)

-- those kept at the front, and zeros behind them
pub kept-listed : (rule : List ℕ) (c : ℕ) (k : KeptParts) → TriedAll rule c (Ok k) → Ok k ≡ clashing_list (trials_answer (tried_of rule c))
unfolding trials_answer clashing_list
kept-listed rule c k w =
    let K = w.0 in
    let e : k.parts ≡ K ++ replicate (16 - length K) 0 =
    sym (take-append-drop k.count k.parts) ∙ ap₂ (λ (a b : List ℕ). a ++ b) w.3 (w.4 ∙ zeros-left 16 k.count (16 - length K) (omega (arith, w.2))) in
    rw w.1 (ap₂ (λ (i : ℕ) (L : List ℕ). Ok (record { count = i; parts = L })) w.2 e)

pub over-listed : (rule : List ℕ) (c q : ℕ) → tried_of rule c ≡ over14 q → Err (TooManyStates q) ≡ clashing_list (trials_answer (tried_of rule c))
unfolding trials_answer clashing_list
over-listed rule c q e = rw e refl

-- ---- the answer
module _ {rule : List ℕ} {c room : ℕ} (t : Triable rule c room) where
  -- 14 of the rule itself
  pub own-over : (r : ℕ) → FirstOver 2 (variables_of rule) (records_of rule) c r → Err (TooManyStates r) ≡ clashing_list (clashed_of rule c)
  unfolding clashing_list
  own-over r h =
      rw ((clash-answers 2 (variables_of rule) (records_of rule) (rule-accepted rule t.work.sound).records-accepted c).refused-rule r h) refl

  module _ {k : Summary} {ws : List ℕ} (d : Decider rule c k ws) {b : Bool} (s : Satisfiable k b) where
    abbrev n : ℕ
    n = variables_of rule

    answered : (v : Bool) → b ≡ v → clashed_of rule c ≡ cond v satisfiable (trials_answer (tried_of rule c))
    answered v e =
        let ok = (rule-accepted rule t.work.sound).records-accepted in
        let last : last_of (records_of rule) < length (records_of rule) = omega (arith, ok.0) in
        let same = satisfiable-same (record_valid 2 n (records_of rule) ok.1 (last_of (records_of rule)) last) d.last s in
        roomy-answer 2 n (records_of rule) ok c d.roomy v (sym same ∙ e)

    -- 29
    pub own-satisfiable : b ≡ true → Err (Plain reason.Satisfiable) ≡ clashing_list (clashed_of rule c)
    unfolding clashing_list
    own-satisfiable e = rw (answered true e) refl

    -- the trials
    pub own-tried : b ≡ false → clashing_list (trials_answer (tried_of rule c)) ≡ clashing_list (clashed_of rule c)
    own-tried e = ap clashing_list (sym (answered false e))

-- ---- the end, by the refusals
pub parts_free : (count : ℕ) → parts_refusal count ≡ untold → count ≤ 16
unfolding parts_refusal
parts_free count e = grind (arith, common_steps)

answer_unplaced : (o : ClashAnswer) {f : Fault} → clashing_list o ≡ Err (Placed f) → ⊥
unfolding clashing_list
answer_unplaced (refused_for r) e = cc
answer_unplaced satisfiable e = cc
answer_unplaced (clashing R) e = cc

module _ (rule : List ℕ) (c : ℕ) (ws : List ℕ) where
  abbrev pub Ends : Result KeptParts Refusal → List ℕ → Type 0
  Ends a ws' = (a ≡ clash_list_of rule c (length ws)) × (ws' ≡ clash_workspace rule c ws)

  abbrev pub early : Result Unit Refusal
  early = clash_refusal rule c (length ws)

  -- it is refused
  pub ends-refused : {r : Refusal} → early ≡ Err r → Ends (Err r) ws
  unfolding clash_list_of clash_workspace
  ends-refused e = (told_early early _ e, kept_early early ws _ e)

  -- it goes on
  module _ (e : early ≡ free) where
    pub early-free : Triable rule c (length ws) × (length (parts_of (records_of rule)) ≤ 16)
    unfolding clash_refusal
    early-free =
        let s = checked-free (rule_fault rule) _ e in
        let w = work_free (variables_of rule) (count_of rule + 15) c (length ws) _ s.1 in
        let many = length (parts_of (records_of rule)) in (
          record {
            work = record { sound = s.0; some-state = w.0; few-states = w.1; long = omega (arith, room-more rule c, w.2) };
            long = w.2;
          },
          parts_free many (tested-free (parts_refusal many) _ w.3).0,
        )

    pub ends-told : {a : Result KeptParts Refusal} → a ≡ clashing_list (clashed_of rule c)
        → (made : List ℕ) → drop (trial_room rule c) made ≡ drop (trial_room rule c) ws → {ws' : List ℕ} → ws' ≡ cleared (trial_room rule c) made
        → Ends a ws'
    unfolding clash_list_of clash_workspace
    ends-told ea made same ew = (told_late early _ e ea, cleared_late early ws e (trial_room rule c) made same ew)

  -- a refusal that names a place is the strip's
  placed_is : {f : Fault} → clash_list_of rule c (length ws) ≡ Err (Placed f) → rule_fault rule ≡ Err f
  unfolding clash_list_of clash_refusal
  placed_is {f} e =
      ⊎_elim (λ g. g)
      (λ g.
      let z : free ≡ Err (Placed f) =
      tested_unplaced (parts_refusal (length (parts_of (records_of rule)))) _
      (work_unplaced (variables_of rule) (count_of rule + 15) c (length ws) _ g) in
      absurd cc)
      (checked-placed (rule_fault rule) _ (placed_early early _ (answer_unplaced (clashed_of rule c)) e))

  -- A6'S CLAIM, and a place that is named is where the strip offends
  pub claim : {a : Result KeptParts Refusal} → a ≡ clash_list_of rule c (length ws) → ClashClaim rule c (length ws) a
  unfolding clash_list_of
  claim ea = record {
    clashed = λ e.
        let w = early-free e in
        record {
          answer = clashed_of rule c;
          answers = clash-answers 2 (variables_of rule) (records_of rule) (rule-accepted rule w.0.work.sound).records-accepted c;
          told = ea ∙ rw e;
        };
    names = λ f e. place-told rule (placed_is (sym ea ∙ e));
  }

  -- all that clash promises follows from how it ends
  pub promised : {a : Result KeptParts Refusal} {ws' : List ℕ} → Ends a ws' → record {
    value : a ≡ clash_list_of rule c (length ws);
    ws_after : ws' ≡ clash_workspace rule c ws;
    clash_claim : ClashClaim rule c (length ws) a;
  }
  promised e = record { value = e.0; ws_after = e.1; clash_claim = claim e.0 }
