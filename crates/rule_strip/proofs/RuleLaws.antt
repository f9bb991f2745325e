-- What an accepted rule strip gives: its head and its records. Assumes nothing.
use mathlib.Core.Path.{◌≡◌, refl, sym, ap, ◌∙◌}
use mathlib.Core.Logic.{◌↔◌}
use mathlib.Core.Bool.{Bool, true, false, ◌&&◌}
use Rattle.std.specs.Prelude.{Result, Ok, Err}
use mathlib.Core.List.{List, [], ◌∷◌}
use Prim.Native.Nat.{ℕ, zero, suc, ◌+◌, ◌*◌, ◌≤◌, ◌<◌}
use native.Mathlib.Nat.{not-suc-le-zero, le_of_suc-le-suc}
use native.Mathlib.Omega.{arith}
use lib.Dec.{T, ltb, leb, eqb, lt→ltb, ltb→lt, eqb→eq}
use lib.ListN.{length, get_or}
use borrow.Author.Tests.{lt-leb, leb-false, le-ltb}
use Rattle.logic.specs.Rule.{Record, no_record, good, good_from, Accepted}
use Rattle.bits.specs.Bits.{any_set, first_set}
use Rattle.refusals.specs.Fault.{sound, or_else}
use Rattle.refusals.specs.declared.Fault.{Fault}
use Rattle.refusals.specs.declared.Reason.TheVariants as reason
use Rattle.rule_strip.specs.RuleStrip.{variables_of, count_of, record_at, records_from, records_of, rule_bytes, first_use, second_use, record_fault}
use Rattle.rule_strip.specs.RuleStrip.{records_fault, records_end, rule_padding, head_fault, rule_fault, AcceptedRule}
use Rattle.rule_strip.specs.RuleAnswers.{use_reason, limit_of, field_fault, rule_answer, checked_rule}
use Rattle.rule_strip.specs.RulePlaces.{Keeps}
use Rattle.rule_strip.specs.declared.Use.{Use}
use Rattle.rule_strip.specs.declared.Use.TheVariants.{Variable, Earlier, Unused}
use Rattle.rule_strip.specs.declared.RuleSize.{RuleSize}
use Rattle.bits.proofs.Packing.{field_below}
use Rattle.rule_strip.proofs.RuleChecks.{record_split, test-passed, head_facts}

-- ---- one record

pub or_passed : (f g : Result Unit Fault) → or_else f g ≡ sound → (f ≡ sound) × (g ≡ sound)
or_passed (Ok u) g e = (refl, e)
or_passed (Err f) g e = absurd cc

pub field-passed : (n i at : ℕ) (u : Use) (v : ℕ) → field_fault n i at u v ≡ sound → v < limit_of n i u
field-passed n i at u v e = leb-false (limit_of n i u) v (test-passed (leb (limit_of n i u) v) (use_reason u) at sound e).0

field-good : (n i at : ℕ) (u : Use) (v : ℕ) → v < limit_of n i u → field_fault n i at u v ≡ sound
field-good n i at u v h = rw (lt-leb _ v h) refl

pub record_kept : (n i at : ℕ) (r : Record) → record_fault n i at r ≡ sound → Keeps n i r
record_kept n i at r e =
    let w = test-passed (leb 9 r.op) reason.Op at _ (sym (record_split n i at r.op r.first r.second) ∙ e) in
    let f = or_passed (field_fault n i (at + 4) (first_use r.op) r.first) (field_fault n i (at + 11) (second_use r.op) r.second) w.1 in
    record {
      known = leb-false 9 r.op w.0;
      first_below = field-passed n i (at + 4) (first_use r.op) r.first f.0;
      second_below = field-passed n i (at + 11) (second_use r.op) r.second f.1;
    }

pub record_unrefused : (n i at : ℕ) (r : Record) → Keeps n i r → record_fault n i at r ≡ sound
record_unrefused n i at r w =
    record_split n i at r.op r.first r.second
    ∙ rw (lt-leb 9 r.op w.known, field-good n i (at + 4) (first_use r.op) r.first w.first_below)
    (field-good n i (at + 11) (second_use r.op) r.second w.second_below)

-- logic's test of a field
abbrev fits : ℕ → ℕ → Use → ℕ → Bool
fits n i Variable v = ltb v n
fits n i Earlier v = ltb v i
fits n i Unused v = eqb v 0

fits_below : (n i : ℕ) (u : Use) (v : ℕ) → T (fits n i u v) → v < limit_of n i u
fits_below n i Variable v t = ltb→lt v n t
fits_below n i Earlier v t = ltb→lt v i t
fits_below n i Unused v t = let e = eqb→eq v 0 t in omega arith

below-fits : (n i : ℕ) (u : Use) (v : ℕ) → v < limit_of n i u → T (fits n i u v)
below-fits n i Variable v h = lt→ltb v n h
below-fits n i Earlier v h = lt→ltb v i h
below-fits n i Unused v h = let e : v ≡ 0 = omega arith in rw e tt

pub both_of : (a b : Bool) → T (a && b) → T a × T b
both_of true b t = (tt, t)
both_of false b t = absurd t

of_both : (a b : Bool) → T a → T b → T (a && b)
of_both true b p q = q
of_both false b p q = absurd p

-- `good` asks for an op up to 8, and both fields to fit their uses
good_is : (n i op a b : ℕ)
    → good 2 n i (record { op = op; first = a; second = b }) ≡ (ltb op 9 && (fits n i (first_use op) a && fits n i (second_use op) b))
unfolding good first_use second_use
good_is n i zero a b = refl
good_is n i (suc zero) a b = refl
good_is n i (suc (suc zero)) a b = refl
good_is n i (suc (suc (suc zero))) a b = refl
good_is n i (suc (suc (suc (suc zero)))) a b = refl
good_is n i (suc (suc (suc (suc (suc zero))))) a b = refl
good_is n i (suc (suc (suc (suc (suc (suc zero)))))) a b = refl
good_is n i (suc (suc (suc (suc (suc (suc (suc zero))))))) a b = refl
good_is n i (suc (suc (suc (suc (suc (suc (suc (suc zero)))))))) a b = refl
good_is n i (suc (suc (suc (suc (suc (suc (suc (suc (suc zero))))))))) a b = refl
good_is n i (suc (suc (suc (suc (suc (suc (suc (suc (suc (suc op)))))))))) a b =
    rw (le-ltb (suc (suc (suc (suc (suc (suc (suc (suc (suc (suc op)))))))))) 9 (omega arith)) refl

abbrev first_good : ℕ → ℕ → Record → Bool
first_good n i r = fits n i (first_use r.op) r.first

abbrev second_good : ℕ → ℕ → Record → Bool
second_good n i r = fits n i (second_use r.op) r.second

-- the refusals 7 to 10 are what `good` asks
pub good_iff : (n i at : ℕ) (r : Record) → (record_fault n i at r ≡ sound) ↔ T (good 2 n i r)
good_iff n i at r = (forth, back)
  where
    forth : record_fault n i at r ≡ sound → T (good 2 n i r)
    forth e =
        let w = record_kept n i at r e in
        let f = of_both (first_good n i r) (second_good n i r) (below-fits n i (first_use r.op) r.first w.first_below)
        (below-fits n i (second_use r.op) r.second w.second_below) in
        rw (good_is n i r.op r.first r.second) (of_both (ltb r.op 9) (first_good n i r && second_good n i r) (lt→ltb r.op 9 w.known) f)

    back : T (good 2 n i r) → record_fault n i at r ≡ sound
    back t =
        let w = both_of (ltb r.op 9) (first_good n i r && second_good n i r) (rw (good_is n i r.op r.first r.second) at t) in
        let v = both_of (first_good n i r) (second_good n i r) w.1 in
        record_unrefused n i at r
        (record {
          known = ltb→lt r.op 9 w.0;
          first_below = fits_below n i (first_use r.op) r.first v.0;
          second_below = fits_below n i (second_use r.op) r.second v.1;
        })

-- ---- all records

records-good : (n i at : ℕ) (rs : List Record) → records_fault n i at rs ≡ sound → T (good_from 2 n i rs)
unfolding records_fault good_from
records-good n i at [] e = tt
records-good n i at (r ∷ rs) e =
    let w = or_passed (record_fault n i at r) (records_fault n (suc i) (at + 18) rs) e in
    of_both (good 2 n i r) _ ((good_iff n i at r).0 w.0) (records-good n (suc i) (at + 18) rs w.1)

records-length : (s : List ℕ) (at m : ℕ) → length (records_from s at m) ≡ m
unfolding records_from
records-length s at zero = refl
records-length s at (suc m) = ap suc (records-length s (at + 18) m)

from_at : (s : List ℕ) (at m i : ℕ) → i < m → get_or (records_from s at m) i no_record ≡ record_at s (at + 18 * i)
unfolding records_from
from_at s at zero i h = absurd (not-suc-le-zero h)
from_at s at (suc m) zero h = let e : at + 18 * 0 ≡ at = omega arith in rw e refl
from_at s at (suc m) (suc i) h =
    let e : at + 18 * suc i ≡ at + 18 + 18 * i = omega arith in
    rw e (from_at s (at + 18) m i (le_of_suc-le-suc h))

-- record i stands at bit place 16 + 18i
pub records_at : (s : List ℕ) (i : ℕ) → i < count_of s → get_or (records_of s) i no_record ≡ record_at s (16 + 18 * i)
unfolding records_of
records_at s i h = from_at s 16 (count_of s) i h

-- ---- an accepted strip

pub record RuleFacts (s : List ℕ) : Type 0 where
  pub some-variable : 1 ≤ variables_of s
  pub few-variables : variables_of s ≤ 8
  pub some_record : 1 ≤ count_of s
  pub few-records : count_of s ≤ 128
  pub size : length s ≡ rule_bytes (count_of s)
  pub records-accepted : Accepted 2 (variables_of s) (records_of s)
  pub records-count : length (records_of s) ≡ count_of s

-- the widths of an op and of the fields
pub widths_at : (s : List ℕ) (at : ℕ) → ((record_at s at).op < 16) × ((record_at s at).first < 128) × ((record_at s at).second < 128)
unfolding record_at
widths_at s at = (field_below s at 4, field_below s (at + 4) 7, field_below s (at + 11) 7)

module _ (s : List ℕ) (e : rule_fault s ≡ sound) where
  parts : (head_fault s ≡ sound) × (records_fault (variables_of s) 0 16 (records_of s) ≡ sound)
  unfolding rule_fault
  parts =
      let w = or_passed (head_fault s) _ e in
      (w.0, (test-passed (any_set (rule_padding s)) reason.RulePadding (records_end s + first_set (rule_padding s)) _ w.1).1)

  records-count : length (records_of s) ≡ count_of s
  unfolding records_of
  records-count = records-length s 16 (count_of s)

  pub rule-accepted : RuleFacts s
  rule-accepted =
      let h = head_facts s parts.0 in
      let l = records-count in
      record {
        some-variable = h.some;
        few-variables = h.few;
        some_record = h.records;
        few-records = h.bound;
        size = h.size;
        records-accepted = (omega arith, records-good (variables_of s) 0 16 (records_of s) parts.1);
        records-count = l;
      }

-- ---- what the check's answer says
module _ (s : List ℕ) where
  pub checked-accepted : (size : RuleSize) → checked_rule s ≡ Ok size → AcceptedRule s size.variables size.records
  unfolding checked_rule
  checked-accepted size e = go (rule_fault s) refl e
    where
      go : (f : Result Unit Fault) → rule_fault s ≡ f → rule_answer s f ≡ Ok size → AcceptedRule s size.variables size.records
      go (Ok u) p q =
          let z : record { variables = variables_of s; records = count_of s } ≡ size = cc in
          record { unrefused = p; variables = sym (ap (λ (x : RuleSize). x.variables) z); count = sym (ap (λ (x : RuleSize). x.records) z) }
      go (Err f) p q = absurd cc

  pub checked_refused : (f : Fault) → checked_rule s ≡ Err f → rule_fault s ≡ Err f
  unfolding checked_rule
  checked_refused f e = go (rule_fault s) refl e
    where
      go : (g : Result Unit Fault) → rule_fault s ≡ g → rule_answer s g ≡ Err f → rule_fault s ≡ Err f
      go (Ok u) p q = absurd cc
      go (Err g) p q = let z : g ≡ f = cc in rw z at p
