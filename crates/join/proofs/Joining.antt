-- Join's refusals, its end and its claim. Assumes nothing.
use Prim.Native.Nat.{ℕ, ◌+◌, ◌≤◌, max}
use mathlib.Core.Path.{◌≡◌, refl, sym, ap, ◌∙◌}
use mathlib.Core.Bool.{Bool, true, false, cond}
use mathlib.Core.List.{List}
use native.Mathlib.Omega.{arith}
use borrow.Author.Tests.{ltb-false}
use lib.Dec.{ltb}
use lib.ListN.{length, take, drop}
use lib.Seq.{sets, sets-eq, take_at}
use Rattle.logic.specs.Rule.{Record}
use Rattle.std.specs.Prelude.{Result, Ok, Err}
use Rattle.rule_strip.specs.RuleStrip.{variables_of, count_of, records_of, rule_bytes, rule_fault}
use Rattle.rule_strip.specs.RuleAnswers.{checked_rule}
use Rattle.rule_strip.specs.RuleWriting.{strip_of_rule, records_of_words}
use Rattle.rule_strip.proofs.RuleLaws.{rule-accepted}
use Rattle.rule_strip.proofs.RulePlaces.{place-told}
use Rattle.rule_strip.proofs.RuleWriting.{AllSmall, Passes, good-small, strip-passes}
use Rattle.rule_strip.proofs.Words.{words_are}
use Rattle.rule_strip.specs.declared.write.Written.{Written}
use Rattle.refusals.specs.Fault.{sound}
use Rattle.refusals.specs.Reason.{number_of}
use Rattle.refusals.specs.Refusal.{checked}
use Rattle.refusals.specs.declared.Fault.{Fault}
use Rattle.refusals.specs.declared.Reason.{Reason}
use Rattle.refusals.specs.declared.Refusal.{Refusal}
use Rattle.refusals.specs.declared.Refusal.TheVariants.{Placed}
use Rattle.refusals.proofs.Refusals.{free, checked-free, tested-free, tested_unplaced}
use Rattle.join.specs.JoinedRule.{joined_records, JoinedRule}
use Rattle.join.specs.Joining.{records_refusal, rule_out_refusal, size_refusal, join_refusal, faulty_strip, or_fault, counted, early_of}
use Rattle.join.specs.Joining.{joined_variables, joined_strip, written_of, join_of}
use Rattle.join.specs.Joining.{out_after_join, JoinedStrips, FaultTold, of_first, of_second, JoinClaim, Joinable}
use Rattle.join.specs.declared.JoinFault.{JoinFault}
use Rattle.join.proofs.JoinedRule.{joined-rule}
use Rattle.join.proofs.Words.{MovesBoth, array_joined}

-- ---- the refusals, one after the other

-- a fault of a strip, or of neither
abbrev fault_in : Refusal → ℕ → JoinFault
fault_in r strip = record { refusal = r; strip = strip }

-- a strip's records are counted, or its fault is told
count_told : (s : List ℕ) (strip : ℕ) {m : ℕ} → Ok m ≡ counted s strip → (rule_fault s ≡ sound) × (m ≡ count_of s)
count_told s strip {m} = go (rule_fault s)
  where
    go : (f : Result Unit Fault) → Ok m ≡ or_fault (checked f free) strip (count_of s) → (f ≡ sound) × (m ≡ count_of s)
    go (Ok u) e = (refl, cc)
    go (Err f) e = absurd cc

fault_counted : (s : List ℕ) (strip : ℕ) {f : JoinFault} → Err f ≡ counted s strip → (g : Fault) × (rule_fault s ≡ Err g) × (f ≡ fault_in (Placed g) strip)
fault_counted s strip {f} = go (rule_fault s)
  where
    go : (g : Result Unit Fault) → Err f ≡ or_fault (checked g free) strip (count_of s) → (h : Fault) × (g ≡ Err h) × (f ≡ fault_in (Placed h) strip)
    go (Ok u) e = absurd cc
    go (Err g) e = (g, refl, cc)

module _ (a b : List ℕ) (room : ℕ) where
  pub early-first : {f : JoinFault} → Err f ≡ counted a 1 → Err f ≡ early_of a b room
  unfolding early_of join_refusal
  early-first e = let w = fault_counted a 1 e in rw w.1 (ap (λ (g : JoinFault). Err g) w.2)

  module _ {m : ℕ} (first : Ok m ≡ counted a 1) where
    pub early-second : {f : JoinFault} → Err f ≡ counted b 2 → Err f ≡ early_of a b room
    unfolding early_of join_refusal
    early-second e = let h = count_told a 1 first in let w = fault_counted b 2 e in rw (h.0, w.1) (ap (λ (g : JoinFault). Err g) w.2)

    module _ {p : ℕ} (second : Ok p ≡ counted b 2) where
      pub early-size : {r : Result Unit Refusal} → r ≡ size_refusal m p room → or_fault r 0 tt ≡ early_of a b room
      unfolding early_of join_refusal
      early-size e = let h = count_told a 1 first in let k = count_told b 2 second in rw (e, h.0, k.0, h.1, k.1) refl

      pub few-records : (m ≤ 128) × (p ≤ 128)
      few-records =
          let h = count_told a 1 first in
          let k = count_told b 2 second in
          let f = rule-accepted a h.0 in
          let g = rule-accepted b k.0 in
          (omega arith, omega arith)

  -- where nothing refuses, the strips can be joined
  early-none : {u : Unit {0}} → Ok u ≡ early_of a b room → join_refusal a b room ≡ free
  unfolding early_of
  early-none e = go (join_refusal a b room) e
    where
      go : (r : Result Unit Refusal) → {u : Unit {0}} → Ok u ≡ or_fault r (faulty_strip (rule_fault a) (rule_fault b)) tt → r ≡ free
      go (Ok u) e = refl
      go (Err r) e = absurd cc

  pub early-free : {u : Unit {0}} → Ok u ≡ early_of a b room → Joinable a b × (290 ≤ room)
  unfolding join_refusal records_refusal rule_out_refusal
  early-free e =
      let f = checked-free (rule_fault a) _ (early-none e) in
      let g = checked-free (rule_fault b) _ f.1 in
      let s = tested-free (records_refusal (count_of a) (count_of b)) _ g.1 in
      let t = tested-free (rule_out_refusal room) free s.1 in
      (record { first-sound = f.0; second-sound = g.0; few = untold _ s.0 }, untold _ t.0)
    where
      untold : (k : Reason) {x y : ℕ} → ◌≡◌ {A = Result Unit Reason} (cond (ltb x y) (Err k) (Ok tt)) (Ok tt) → y ≤ x
      untold k {x} {y} e = go (ltb x y) refl e
        where
          go : (v : Bool) → ltb x y ≡ v → ◌≡◌ {A = Result Unit Reason} (cond v (Err k) (Ok tt)) (Ok tt) → y ≤ x
          go true q z = absurd cc
          go false q z = ltb-false x y q

-- ---- the joined strip

module _ {a b : List ℕ} (j : Joinable a b) where
  abbrev js : List Record
  js = joined_records (records_of a) (records_of b)

  joins : JoinedRule 2 (variables_of a) (variables_of b) (records_of a) (records_of b) js
  joins =
      joined-rule 2 (variables_of a) (variables_of b) (records_of a) (records_of b) (rule-accepted a j.first-sound).records-accepted
      (rule-accepted b j.second-sound).records-accepted

  joined-count : length js ≡ count_of a + count_of b + 1
  joined-count =
      let f = (rule-accepted a j.first-sound).records-count in
      let g = (rule-accepted b j.second-sound).records-count in
      let h = joins.records in
      omega arith

  -- the words are the joined rule's records, where each has its record's
  pub words_joined : {ws : List ℕ} {m n : ℕ} → m ≡ count_of a → n ≡ count_of b → MovesBoth a b m n ws → records_of_words (length ws) ws ≡ js
  words_joined {ws} e q h =
      let c = joined-count in
      let F = rule-accepted a j.first-sound in
      let G = rule-accepted b j.second-sound in
      let small : AllSmall js = good-small (joined_variables a b) 0 js (omega arith) (omega arith) joins.accepted.1 in
      let h' : MovesBoth a b (count_of a) (count_of b) ws = rw (e, q) at h in
      let l : length ws ≡ length js = omega (arith, h'.count) in
      rw l (words_are ws js (λ i k. array_joined a b j.first-sound j.second-sound h' i (omega arith)) small)

  -- it passes the check, and these records are read from it
  passes : Passes (joined_variables a b) js (joined_strip a b)
  unfolding joined_strip
  passes =
      let c = joined-count in
      let F = rule-accepted a j.first-sound in
      let G = rule-accepted b j.second-sound in
      strip-passes (joined_variables a b) js (omega arith) (omega arith) (omega arith) (omega arith) joins.accepted.1

  size : length (joined_strip a b) ≡ rule_bytes (count_of a + count_of b + 1)
  size = passes.size ∙ ap rule_bytes joined-count

  pub strip-told : {n m : ℕ} → n ≡ max (variables_of a) (variables_of b) → m ≡ count_of a + count_of b + 1
      → record { variables = n; records = m; length = rule_bytes m } ≡ written_of a b
  unfolding written_of
  strip-told e q = rw (e, q, size) refl

  pub strip-put : {n : ℕ} (m : ℕ) (ws out : List ℕ) {out' : List ℕ} → n ≡ max (variables_of a) (variables_of b) → records_of_words m ws ≡ js
      → out' ≡ sets out 0 (strip_of_rule n (records_of_words m ws)) → out' ≡ sets out 0 (joined_strip a b)
  unfolding joined_strip
  strip-put m ws out e q r = r ∙ rw (e, q) refl

  -- THE CLAIM
  joined_strips : JoinedStrips a b (joined_variables a b) (count_of a + count_of b + 1) (joined_strip a b)
  unfolding checked_rule
  joined_strips = record {
    variables_are = refl;
    records_are = refl;
    passes = rw (passes.unrefused, passes.variables_are, passes.count_is, joined-count) refl;
    size = size;
    meaning = λ A. rw passes.records_are_they (joins.satisfied A);
  }

  -- of the front of out
  claim-written : (out : List ℕ) → 290 ≤ length out → JoinedStrips a b (joined_variables a b) (count_of a + count_of b + 1)
      (take (length (joined_strip a b)) (sets out 0 (joined_strip a b)))
  claim-written out room =
      let s = joined_strip a b in
      let l = size in
      let f : take (length s) (sets out 0 s) ≡ s = ap (take (length s)) (sets-eq s out 0 (omega arith)) ∙ take_at s (drop (0 + length s) out) (length s) refl in
      rw f joined_strips

-- ---- the end, by the refusals

module _ (a b out : List ℕ) where
  abbrev pub Ends : Result Written JoinFault → List ℕ → Type 0
  Ends r out' = (r ≡ join_of a b (length out)) × ((out' ≡ out_after_join a b out) × JoinClaim a b r out')

  -- a place that is told is one where that strip offends
  fault-told : (f g : Result Unit Fault) (later : Result Unit Refusal) (h : Fault) → rule_fault a ≡ f → rule_fault b ≡ g → (later ≡ Err (Placed h) → ⊥)
      → checked f (checked g later) ≡ Err (Placed h) → FaultTold a b (faulty_strip f g) (number_of h.reason) h.place
  fault-told (Err f) g later h e q n r = let z : f ≡ h = cc in of_first _ _ (place-told a (rw z at e))
  fault-told (Ok u) (Err g) later h e q n r = let z : g ≡ h = cc in of_second _ _ e (place-told b (rw z at q))
  fault-told (Ok u) (Ok v) later h e q n r = absurd (n r)

  size_unplaced : (m p room : ℕ) {h : Fault} → size_refusal m p room ≡ Err (Placed h) → ⊥
  size_unplaced m p room e =
      let z = tested_unplaced (rule_out_refusal room) free (tested_unplaced (records_refusal m p) _ e) in cc

  placed_told : (h : Fault) → join_refusal a b (length out) ≡ Err (Placed h)
      → FaultTold a b (faulty_strip (rule_fault a) (rule_fault b)) (number_of h.reason) h.place
  unfolding join_refusal
  placed_told h q = fault-told (rule_fault a) (rule_fault b) _ h refl refl (size_unplaced (count_of a) (count_of b) (length out)) q

  pub ends-refused : {f : JoinFault} → Err f ≡ early_of a b (length out) → Ends (Err f) out
  unfolding early_of join_of out_after_join
  ends-refused {f} e = go (join_refusal a b (length out)) refl e
    where
      told : ℕ
      told = faulty_strip (rule_fault a) (rule_fault b)

      go : (r : Result Unit Refusal) → join_refusal a b (length out) ≡ r → Err f ≡ or_fault {A = Unit {0}} r told tt → Ends (Err f) out
      go (Ok u) q z = absurd cc
      go (Err r) q z =
          let x : f ≡ fault_in r told = cc in (
            rw (q, x) refl,
            (
              rw q refl,
              record {
                written = λ w t. absurd cc;
                names = λ h s t.
                    let y : f ≡ fault_in (Placed h) s = cc in
                    let v : r ≡ Placed h = ap (λ (g : JoinFault). g.refusal) (sym x ∙ y) in
                    let w : told ≡ s = ap (λ (g : JoinFault). g.strip) (sym x ∙ y) in
                    rw w at (placed_told h (q ∙ ap (λ (k : Refusal). Err k) v));
              },
            ),
          )

  pub ends-written : {u : Unit {0}} → Ok u ≡ early_of a b (length out) → {w : Written} {out' : List ℕ} → w ≡ written_of a b
      → out' ≡ sets out 0 (joined_strip a b) → Ends (Ok w) out'
  unfolding join_of out_after_join written_of
  ends-written e q p =
      let j = early-free a b (length out) e in
      let n = early-none a b (length out) e in
      rw (q, p) (
        rw n refl,
        (
          rw n refl,
          record {
            written = λ w t. let z : written_of a b ≡ w = cc in rw (← z) (claim-written j.0 out j.1);
            names = λ h s t. absurd cc;
          },
        ),
      )
