-- Laws by which the functions on rule strips meet their contracts: a record's fault field by field, its fields, one turn of the loop over
-- the records, the head before the rest. Assumes nothing.
use mathlib.Core.Path.{◌≡◌, refl, sym, ap, ◌∙◌}
use mathlib.Core.Bool.{Bool, true, false, not, ◌&&◌, true≢false, cond}
use Rattle.std.specs.Prelude.{Result, Ok, Err}
use mathlib.Core.List.{List, [], ◌∷◌}
use Prim.Native.Nat.{ℕ, zero, suc, ◌+◌, ◌-◌, ◌*◌, ◌/◌, ◌%◌, ◌^◌, ◌≤◌, ◌<◌}
use native.Mathlib.Nat.{not-suc-le-zero, le_of_suc-le-suc, div-one}
use native.Mathlib.Numerals.{add-one}
use native.Mathlib.Omega.{arith}
use lib.Dec.{ltb, leb, eqb, lit≤, leb-zero, leb-suc-suc, eqb-suc-zero}
use lib.ListN.{length, get_or, length-drop}
use lib.Pow.{shr-shr}
use lib.Seq.{slice, take_all}
use borrow.Author.Tests.{lt-leb, leb-true, eqb-true, lt-ltb, le-ltb, not-false}
use Rattle.logic.specs.Rule.{Record}
use Rattle.bits.specs.Bits.{bits, field, between, any_set, first_set, bit_length}
use Rattle.bits.proofs.Fields.{length-bits}
use Rattle.bits.proofs.Packing.{field-within}
use Rattle.bits.proofs.Places.{any-first}
use Rattle.refusals.specs.Fault.{sound, fault, or_else}
use Rattle.refusals.specs.declared.Fault.{Fault}
use Rattle.refusals.specs.declared.Reason.{Reason}
use Rattle.refusals.specs.declared.Reason.TheVariants as reason
use Rattle.rule_strip.specs.RuleStrip.{version_of, variables_of, count_of, record_at, records_from, records_of, rule_bytes, first_use, second_use}
use Rattle.rule_strip.specs.RuleStrip.{bad_variable, bad_earlier, bad_unused, record_fault, records_fault, records_end, rule_padding, head_fault, rule_fault}
use Rattle.rule_strip.specs.RuleAnswers.{use_refusal, field_fault, fields_of, record_or, read_record, read_records, GoodHead, checked_rule}
use Rattle.rule_strip.specs.declared.Fields.{Fields}
use Rattle.rule_strip.specs.declared.Read.{Read}
use Rattle.rule_strip.specs.declared.Use.{Use}
use Rattle.rule_strip.specs.declared.Use.TheVariants.{Variable, Earlier, Unused}

-- ---- one record

-- an entry that there is does not depend on the default
pub entry-there : (us : List Use) (op : ℕ) (d e : Use) → op < length us → get_or us op d ≡ get_or us op e
entry-there [] op d e h = absurd (not-suc-le-zero h)
entry-there (u ∷ us) zero d e h = refl
entry-there (u ∷ us) (suc op) d e h = entry-there us op d e (le_of_suc-le-suc h)

above_zero : (v : ℕ) → not (eqb v 0) ≡ leb 1 v
above_zero zero = refl
above_zero (suc v) = rw (eqb-suc-zero, leb-suc-suc, leb-zero) refl

-- a test that finds a fault, and what stands after it
test-first : (t : Bool) (k : Reason) (p : ℕ) (later : Result Unit Fault) → cond t (fault k p) later ≡ or_else (cond t (fault k p) sound) later
test-first true k p later = refl
test-first false k p later = refl

or_sound : (f : Result Unit Fault) → or_else f sound ≡ f
or_sound (Ok u) = refl
or_sound (Err f) = refl

module _ (n i at a b : ℕ) where
  -- the tests of `record_fault`
  abbrev both : Use → Use → Result Unit Fault
  both u w =
      cond (bad_variable n u a) (fault reason.Variable (at + 4))
      (cond (bad_variable n w b) (fault reason.Variable (at + 11))
      (cond (bad_earlier i u a) (fault reason.Record (at + 4))
      (cond (bad_earlier i w b) (fault reason.Record (at + 11))
      (cond (bad_unused u a) (fault reason.Unused (at + 4))
      (cond (bad_unused w b) (fault reason.Unused (at + 11)) sound)))))

  -- where the first field's use has no later number, its fault comes first
  two_fields : (u w : Use) → use_refusal u ≤ use_refusal w → both u w ≡ or_else (field_fault n i (at + 4) u a) (field_fault n i (at + 11) w b)
  two_fields Variable Variable h = test-first (leb n a) reason.Variable (at + 4) _
  two_fields Variable Earlier h = test-first (leb n a) reason.Variable (at + 4) _
  two_fields Variable Unused h = rw (above_zero b) (test-first (leb n a) reason.Variable (at + 4) _)
  two_fields Earlier Variable h = absurd (omega arith)
  two_fields Earlier Earlier h = test-first (leb i a) reason.Record (at + 4) _
  two_fields Earlier Unused h = rw (above_zero b) (test-first (leb i a) reason.Record (at + 4) _)
  two_fields Unused Variable h = absurd (omega arith)
  two_fields Unused Earlier h = absurd (omega arith)
  two_fields Unused Unused h = rw (above_zero a, above_zero b) (test-first (leb 1 a) reason.Unused (at + 4) _)

-- so it is of each op
ordered : (op : ℕ) → use_refusal (first_use op) ≤ use_refusal (second_use op)
unfolding first_use second_use
ordered zero = lit≤ tt
ordered (suc zero) = lit≤ tt
ordered (suc (suc zero)) = lit≤ tt
ordered (suc (suc (suc zero))) = lit≤ tt
ordered (suc (suc (suc (suc zero)))) = lit≤ tt
ordered (suc (suc (suc (suc (suc zero))))) = lit≤ tt
ordered (suc (suc (suc (suc (suc (suc zero)))))) = lit≤ tt
ordered (suc (suc (suc (suc (suc (suc (suc zero))))))) = lit≤ tt
ordered (suc (suc (suc (suc (suc (suc (suc (suc zero)))))))) = lit≤ tt
ordered (suc (suc (suc (suc (suc (suc (suc (suc (suc op))))))))) = lit≤ tt

-- a record's fault is that of its op, else that of its first field, else that of its second
pub record_split : (n i at op a b : ℕ)
    → record_fault n i at (record { op = op; first = a; second = b })
    ≡ cond (leb 9 op) (fault reason.Op at) (or_else (field_fault n i (at + 4) (first_use op) a) (field_fault n i (at + 11) (second_use op) b))
unfolding record_fault
record_split n i at op a b = ap (cond (leb 9 op) (fault reason.Op at)) (two_fields n i at a b (first_use op) (second_use op) (ordered op))

module _ (n i at op a b : ℕ) (h : op < 9) {use₁ : Use} (u : use₁ ≡ first_use op) {f : Result Unit Fault} (q : f ≡ field_fault n i (at + 4) use₁ a) where
  pub record_first : {g : Fault} → f ≡ Err g → record_fault n i at (record { op = op; first = a; second = b }) ≡ Err g
  record_first e = record_split n i at op a b ∙ rw (lt-leb 9 op h, ← u, ← q, e) refl

  pub record_second : {v : Unit} → f ≡ Ok v → {use₂ : Use} → use₂ ≡ second_use op
      → record_fault n i at (record { op = op; first = a; second = b }) ≡ field_fault n i (at + 11) use₂ b
  record_second e w = record_split n i at op a b ∙ rw (lt-leb 9 op h, ← u, ← q, ← w, e) refl

-- ---- its fields, out of three bytes, if it starts at an even place

module _ (s : List ℕ) (at : ℕ) (even : at % 2 ≡ 0) (room : at + 18 ≤ 8 * length s) where
  -- the three bytes, from the bit on that ends the record
  abbrev window : ℕ
  window = field s (8 * (at / 8)) 24 / 2 ^ (6 - at % 8)

  -- b bits, from k bits on
  part_is : (p k b : ℕ) → p ≡ at + k → k + b ≤ 18 → window / 2 ^ (18 - k - b) % 2 ^ b ≡ field s p b
  part_is p k b q h =
      let e : p ≡ 8 * (at / 8) + (at % 8 + k) = omega arith in
      let f : 6 - at % 8 + (18 - k - b) ≡ 24 - (at % 8 + k) - b = omega arith in
      let v = field s (8 * (at / 8)) 24 in
      ap (λ (x : ℕ). x % 2 ^ b) (shr-shr v (6 - at % 8) (18 - k - b) ∙ ap (λ (x : ℕ). v / 2 ^ x) f)
      ∙ sym (rw e (field-within s (8 * (at / 8)) 24 (at % 8 + k) b (omega arith) (omega arith)))

  pub fields_are : ◌≡◌ {A = Fields} (record { op = window / 16384 % 16; first = window / 128 % 128; second = window % 128 }) (fields_of (record_at s at))
  unfolding record_at
  fields_are =
      let a = part_is at 0 4 (omega arith) (omega arith) in
      let b = part_is (at + 4) 4 7 refl (omega arith) in
      let c = ap (λ (x : ℕ). x % 128) (sym (div-one window)) ∙ part_is (at + 11) 11 7 refl (omega arith) in
      λ i. record { op = a i; first = b i; second = c i }

-- ---- one turn of the loop

-- the reader's answer is the record, or a fault
or_record : (f : Result Unit Fault) (r : Record) (next : ℕ) {read : Read} → record_or f r next ≡ Ok read → (f ≡ sound) × (read.next ≡ next)
or_record (Ok u) r next {read} e = (refl, let z : record { fields = fields_of r; next = next } ≡ read = cc in sym (ap (λ (x : Read). x.next) z))
or_record (Err f) r next e = absurd cc

or_refused : (f : Result Unit Fault) (r : Record) (next : ℕ) {g : Fault} → record_or f r next ≡ Err g → f ≡ Err g
or_refused (Ok u) r next e = absurd cc
or_refused (Err f) r next e = cc

-- the records from number i of m on
abbrev pub rest_fault : List ℕ → ℕ → ℕ → ℕ → ℕ → Result Unit Fault
rest_fault s n m i at = records_fault n i at (records_from s at (m - i))

module _ (s : List ℕ) (n m i at : ℕ) (h : i < m) where
  rest-step : rest_fault s n m i at ≡ or_else (record_fault n i at (record_at s at)) (rest_fault s n m (i + 1) (at + 18))
  unfolding records_fault records_from
  rest-step = let e : m - i ≡ suc (m - (i + 1)) = omega arith in rw (e, add-one i) refl

  -- after the last record there is none
  rest-last : m ≤ i + 1 → record_fault n i at (record_at s at) ≡ rest_fault s n m i at
  unfolding records_fault records_from
  rest-last l =
      sym (rest-step ∙ ap (or_else (record_fault n i at (record_at s at))) none ∙ or_sound _)
    where
      none : rest_fault s n m (i + 1) (at + 18) ≡ sound
      none = let e : m - (i + 1) ≡ 0 = omega arith in rw e refl

-- the loop over the records: number i is read, at its place, and no fault was met before it
pub record Reached (s : List ℕ) (n m i : ℕ) (r : Result Read Fault) : Type 0 where
  pub below : i < m
  pub here : r ≡ read_record s n i (16 + 18 * i)
  pub same : records_fault n 0 16 (records_from s 16 m) ≡ rest_fault s n m i (16 + 18 * i)

module _ {s : List ℕ} {n m i : ℕ} {r : Result Read Fault} (w : Reached s n m i r) where
  -- it is read, and the next one stands behind it
  pub reach-next : {read : Read} → r ≡ Ok read → read.next ≡ 16 + 18 * (i + 1)
  unfolding read_record
  reach-next e =
      let f = or_record (record_fault n i (16 + 18 * i) (record_at s (16 + 18 * i))) (record_at s (16 + 18 * i)) (16 + 18 * i + 18) (sym w.here ∙ e) in
      omega (arith, f.1)

  pub reach-more : {j : ℕ} {read : Read} → r ≡ Ok read → j ≡ i + 1 → j < m → {q : Result Read Fault} → q ≡ read_record s n j read.next → Reached s n m j q
  unfolding read_record
  reach-more e k h g =
      let at = 16 + 18 * i in
      let f = or_record (record_fault n i at (record_at s at)) (record_at s at) (at + 18) (sym w.here ∙ e) in
      let p : 16 + 18 * (i + 1) ≡ at + 18 = omega arith in
      rw k (record {
        below = rw k at h;
        here = rw k at g ∙ ap (read_record s n (i + 1)) (reach-next e);
        same = w.same ∙ rest-step s n m i at w.below ∙ rw (f.0, p) refl;
      })

  pub reach-refused : {g : Fault} → r ≡ Err g → r ≡ read_records s n m
  unfolding read_record read_records
  reach-refused e =
      let at = 16 + 18 * i in
      let f = or_refused (record_fault n i at (record_at s at)) (record_at s at) (at + 18) (sym w.here ∙ e) in
      e ∙ sym (rw (w.same, rest-step s n m i at w.below, f) refl)

  pub reach-last : m ≤ i + 1 → r ≡ read_records s n m
  unfolding read_record read_records
  reach-last h =
      let at = 16 + 18 * i in
      let f = sym (w.same ∙ sym (rest-last s n m i at w.below h)) in
      let b : at ≡ 16 + 18 * (m - 1) = let l = w.below in omega arith in
      let c : at + 18 ≡ 16 + 18 * m = let l = w.below in omega arith in
      w.here ∙ rw (f, c, b) refl

-- ---- the whole check

-- what the head's tests leave
pub record Head (s : List ℕ) : Type 0 where
  pub version : version_of s ≡ 1
  pub some : 1 ≤ variables_of s
  pub few : variables_of s ≤ 8
  pub records : 1 ≤ count_of s
  pub bound : count_of s ≤ 128
  pub size : length s ≡ rule_bytes (count_of s)

pub in_range : (low high v : ℕ) → not (between low high v) ≡ false → (low ≤ v) × (v ≤ high)
in_range low high v e = go (leb low v) (leb v high) refl refl e
  where
    go : (p q : Bool) → leb low v ≡ p → leb v high ≡ q → not (p && q) ≡ false → (low ≤ v) × (v ≤ high)
    go true true f g e = (leb-true _ _ f, leb-true _ _ g)
    go true false f g e = absurd (true≢false e)
    go false q f g e = absurd (true≢false e)

-- a test that finds a fault found none
pub test-passed : (t : Bool) (k : Reason) (p : ℕ) (later : Result Unit Fault) → cond t (fault k p) later ≡ sound → (t ≡ false) × (later ≡ sound)
test-passed true k p later e = absurd cc
test-passed false k p later e = (refl, e)

module _ (s : List ℕ) where
  pub head_facts : head_fault s ≡ sound → Head s
  unfolding head_fault
  head_facts e =
      let a = test-passed (ltb (length s) 2) reason.RuleShort (bit_length s) _ e in
      let b = test-passed (not (eqb (version_of s) 1)) reason.RuleVersion 0 _ a.1 in
      let c = test-passed (not (between 1 8 (variables_of s))) reason.RuleVariables 4 _ b.1 in
      let d = test-passed (not (between 1 128 (count_of s))) reason.RuleRecords 8 _ c.1 in
      let l = test-passed (not (eqb (length s) (rule_bytes (count_of s)))) reason.RuleLength (bit_length s) _ d.1 in
      let n = in_range 1 8 (variables_of s) c.0 in
      let m = in_range 1 128 (count_of s) d.0 in
      record {
        version = eqb-true _ _ (not-false _ b.0);
        some = n.0;
        few = n.1;
        records = m.0;
        bound = m.1;
        size = eqb-true _ _ (not-false _ l.0);
      }

  pub check_head : {g : Fault} (f : Result Unit Fault) → f ≡ head_fault s → f ≡ Err g → Err g ≡ checked_rule s
  unfolding checked_rule rule_fault
  check_head f e g = rw (← e, g) refl

  -- the head is good
  module _ {n m : ℕ} (h : GoodHead s n m) where
    -- the padding's first set bit, or the strip's end, is found
    module _ (set : ℕ) (e : set ≡ 16 + 18 * m + first_set (slice (16 + 18 * m) (8 * length s) (bits s))) where
      found : set ≡ records_end s + first_set (rule_padding s)
      found = let l = length-bits s in e ∙ rw (take_all (8 * length s) (bits s) (omega arith), h.count) refl

      any_is : any_set (rule_padding s) ≡ ltb (first_set (rule_padding s)) (length (rule_padding s))
      any_is = any-first (rule_padding s)

      pub check_padding : set < 8 * length s → Err (record { reason = reason.RulePadding; place = set }) ≡ checked_rule s
      unfolding checked_rule rule_fault
      check_padding k =
          let f = found in
          let l = length-drop (records_end s) (bits s) in
          let b = length-bits s in
          rw (h.good, any_is, lt-ltb (first_set (rule_padding s)) (length (rule_padding s)) (omega arith), ← f) refl

      module _ (k : 8 * length s ≤ set) (r : Result Read Fault) (g : r ≡ read_records s n m) where
        body : rule_fault s ≡ records_fault n 0 16 (records_from s 16 m)
        unfolding rule_fault records_of
        body =
            let f = found in
            let l = length-drop (records_end s) (bits s) in
            let b = length-bits s in
            rw (h.good, any_is, le-ltb (first_set (rule_padding s)) (length (rule_padding s)) (omega arith), h.variables, h.count) refl

        pub check_records : {f : Fault} → r ≡ Err f → Err f ≡ checked_rule s
        unfolding read_records checked_rule
        check_records d = rw (body ∙ or_refused (records_fault n 0 16 (records_from s 16 m)) _ _ (sym g ∙ d)) refl

        pub check_accepted : {read : Read} → r ≡ Ok read → Ok (record { variables = n; records = m }) ≡ checked_rule s
        unfolding read_records checked_rule
        check_accepted d =
            let w = or_record (records_fault n 0 16 (records_from s 16 m)) _ _ (sym g ∙ d) in
            rw (body ∙ w.0, h.variables, h.count) refl
