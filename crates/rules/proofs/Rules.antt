-- The records of an accepted rule strip can be built; what building them says of the rule; and the workspace is cleared behind them.
-- Assumes nothing.
use Rattle.words.proofs.Vocabulary.{ℕ, ◌+◌, ◌-◌, ◌*◌, ◌≤◌, ◌<◌, ◌≡◌, refl, sym, ap, ◌∙◌, subst, Bool, T, List, arith, length, get_or}
use Rattle.logic.specs.Rule.{Record, no_record, last_of, formula_at, Accepted}
use Rattle.logic.specs.Claims.{FirstOver, Roomy}
use Rattle.logic.specs.ReachedRecords.{itself}
use Rattle.logic.proofs.Rules.{reached-within}
use Rattle.layout.specs.Shape.{Shaped}
use Rattle.layout.specs.declared.Shape.{Shape}
use Rattle.layout.proofs.Places.{share-next}
use Rattle.records.specs.Rule.{Mach, no_mach, no_decoded}
use Rattle.records.specs.Decode.{decoded_of}
use Rattle.records.specs.declared.Decoded.{Decoded}
use Rattle.building.specs.Named.{used_in}
use Rattle.building.specs.Build.{Progress, built, over, entry_of, Made, MadeBy, upto}
use Rattle.building.specs.OneRecord.{Buildable}
use Rattle.building.specs.declared.Machines.{Machines}
use Rattle.std.specs.Prelude.{Result, Ok, Err}
use Rattle.refusals.specs.declared.OverCeiling.{OverCeiling}
use Rattle.refinement.proofs.Ready.{ready}
use Rattle.refinement.proofs.Upto.{used_iff, first-over, all-good, roomy}
use Rattle.refusals.specs.Fault.{sound}
use Rattle.rule_strip.specs.RuleStrip.{rule_fault, variables_of, count_of, record_at, records_of}
use Rattle.rule_strip.proofs.RuleLaws.{rule-accepted, records_at, widths_at}
use Rattle.rules.specs.Building.{rule_shape, MachineFor, ReachedBuilt, BuiltRecords, Decider}
use Rattle.rules.specs.Decoding.{DecodesTo}
use Rattle.rules.specs.Room.{Workable}
use Rattle.rules.proofs.Rooms.{room_shares, shaped}

-- what the builder's outcome says where no record has too many states, and where one has
no_over : (used : ℕ → Bool) (o : Progress) (s : Shape) (m : ℕ) (t : Machines) (ws : List ℕ) → Made used o s m (Ok t) ws
    → (ms : List Mach) × (o ≡ built ms) × Made used (built ms) s m (Ok t) ws
no_over used (over k) s m t ws h = absurd h
no_over used (built ms) s m t ws h = (ms, refl, h)

is_over : (used : ℕ → Bool) (o : Progress) (s : Shape) (m : ℕ) (e : OverCeiling) (ws : List ℕ) → Made used o s m (Err e) ws → o ≡ over e.at
is_over used (over k) s m e ws h = ap over (sym h)
is_over used (built ms) s m e ws h = absurd h

-- an accepted strip has a head
pub rule_long : (rule : List ℕ) → rule_fault rule ≡ sound → 2 ≤ length rule
rule_long rule h = let e = (rule-accepted rule h).size in omega arith

module _ {rule : List ℕ} {c room : ℕ} (w : Workable rule c room) where
  abbrev n : ℕ
  n = variables_of rule

  abbrev m : ℕ
  m = count_of rule

  abbrev rs : List Record
  rs = records_of rule

  -- what the accepted strip says of its numbers
  pub rule-sizes : (2 ≤ length rule) × (1 ≤ n) × (n ≤ 8) × (0 < m) × (m ≤ 128)
  rule-sizes = let f = rule-accepted rule w.sound in (let e = f.size in omega arith, f.some-variable, f.few-variables, f.some_record, f.few-records)

  pub rule-shaped : Shaped (rule_shape rule c)
  rule-shaped = let s = rule-sizes in shaped s.1 s.2 w.some-state w.few-states

  long : length rs ≡ m
  long = (rule-accepted rule w.sound).records-count

  good : Accepted 2 n rs
  good = (rule-accepted rule w.sound).records-accepted

  module _ (xs : List Decoded) (dec : DecodesTo rule m xs) where
    decoded : (r : ℕ) → r < length rs → get_or xs r no_decoded ≡ decoded_of n (get_or rs r no_record)
    decoded r h = dec r (let l = long in omega arith)

    all_buildable : ((0 < m) × (m ≤ 128)) × ((r : ℕ) → r < m → Buildable (get_or xs r no_decoded) r (rule_shape rule c) room)
    all_buildable =
        let z = rule-sizes in
        let l = long in (
          (z.3, z.4),
          λ r hr.
              let wide = widths_at rule (16 + 18 * r) in
              let e : get_or rs r no_record ≡ record_at rule (16 + 18 * r) = records_at rule r (omega arith) in
              rw (decoded r (omega arith)) (ready n c rule-shaped rs good r m room (omega arith) hr z.4
              (omega (arith, room_shares n m c rule-shaped, w.long))
              (subst (λ (x : Record). x.first < 128) (sym e) wide.1) (subst (λ (x : Record). x.second < 128) (sym e) wide.2)),
        )

    -- the builder may be called on the strip's records, so many as they are
    pub rule_buildable : {k : ℕ} → k ≡ m → ((0 < k) × (k ≤ 128)) × ((r : ℕ) → r < k → Buildable (get_or xs r no_decoded) r (rule_shape rule c) room)
    rule_buildable e = rw e all_buildable

    outcome_is : upto xs (used_in xs (length rs)) (rule_shape rule c) (length rs) ≡ upto xs (used_in xs m) (rule_shape rule c) m
    outcome_is = ap (λ (j : ℕ). upto xs (used_in xs j) (rule_shape rule c) j) long

    module _ (ws : List ℕ) where
      -- too many states
      pub rule-over : (e : OverCeiling) → MadeBy (used_in xs m) xs (rule_shape rule c) m (Err e) ws → FirstOver 2 n rs c e.at
      rule-over e made =
          first-over n c rule-shaped rs good xs decoded e.at (outcome_is ∙ is_over (used_in xs m) _ (rule_shape rule c) m e ws made)

      -- none has: the machines of the records that are reached
      pub rule-ready : (t : Machines) → MadeBy (used_in xs m) xs (rule_shape rule c) m (Ok t) ws → length ws ≡ room
          → Roomy 2 n rs c × ReachedBuilt rule c (entry_of t) ws
      rule-ready t made same =
          let l = long in
          let z = rule-sizes in
          let o = no_over (used_in xs m) _ (rule_shape rule c) m t ws made in
          let ended = outcome_is ∙ o.1 in (
            roomy n c rule-shaped rs good xs decoded o.0 ended,
            λ r u.
                let h = reached-within 2 n rs good r u in
                let g = all-good n c rule-shaped rs good xs decoded o.0 ended r u in
                record {
                  readable = record {
                    shape = rule-shaped;
                    number = omega arith;
                    share = omega (arith, share-next (rule_shape rule c) r m (omega arith), room_shares n m c rule-shaped, w.long);
                    machine = get_or o.0 r no_mach;
                    stored = o.2.1 r (omega arith) (subst (λ (j : ℕ). T (used_in xs j r)) l ((used_iff n c rule-shaped rs good xs decoded r).1 u));
                  };
                  decides = g.machine;
                  full = g.full;
                },
          )

    -- so building ends
    pub rule-built : (r : Result Machines OverCeiling) (ws : List ℕ) → MadeBy (used_in xs m) xs (rule_shape rule c) m r ws → length ws ≡ room
        → BuiltRecords rule c r ws
    rule-built (Err e) ws made same = rule-over ws e made
    rule-built (Ok t) ws made same = rule-ready ws t made same

  -- the last one's machine decides the rule
  pub rule-decided : (t : Machines) (ws : List ℕ) → BuiltRecords rule c (Ok t) ws → Decider rule c (entry_of t (m - 1)) ws
  rule-decided t ws b =
      let last : last_of rs ≡ m - 1 = ap (λ (j : ℕ). j - 1) long in
      record {
        roomy = b.0;
        last = subst (λ (j : ℕ). MachineFor rule c ws j (entry_of t j) (formula_at rs (last_of rs))) last (b.1 (last_of rs) itself);
      }
