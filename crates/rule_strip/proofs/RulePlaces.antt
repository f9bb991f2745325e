-- A REFUSAL OF A RULE STRIP NAMES THE PLACE THAT IT SPEAKS OF. Assumes nothing.
use mathlib.Core.Path.{◌≡◌, refl, sym, subst, ◌∙◌}
use mathlib.Core.Logic.{◌⊎◌, inl, inr, ⊎_elim}
use mathlib.Core.Bool.{Bool, true, false, not, cond}
use Rattle.std.specs.Prelude.{Result, Ok, Err}
use mathlib.Core.List.{List}
use Prim.Native.Nat.{ℕ, zero, suc, ◌+◌, ◌-◌, ◌*◌, ◌≤◌, ◌<◌}
use native.Mathlib.Omega.{arith}
use borrow.Author.Tests.{leb-true, leb-false, ltb-true, eqb-false, not-true}
use lib.Dec.{ltb, leb, eqb}
use lib.ListN.{length, get_or, length-drop}
use lib.Seq.{get_or-drop}
use Rattle.bits.specs.Bits.{bits, between, any_set, first_set, bit_length}
use Rattle.refusals.specs.Fault.{sound, fault, or_else}
use Rattle.refusals.specs.Reason.{number_of}
use Rattle.refusals.specs.declared.Fault.{Fault}
use Rattle.refusals.specs.declared.Reason.{Reason}
use Rattle.refusals.specs.declared.Reason.TheVariants as reason
use Rattle.bits.proofs.Fields.{length-bits}
use Rattle.bits.proofs.Packing.{bits-bits}
use Rattle.bits.proofs.Places.{any-first, first-set, first-before}
use Rattle.rule_strip.specs.RuleStrip.{version_of, variables_of, count_of, rule_bytes, record_at, records_from, records_of, first_use, second_use}
use Rattle.rule_strip.specs.RuleStrip.{record_fault, records_fault, records_end, rule_padding, head_fault, rule_fault}
use Rattle.rule_strip.specs.RuleAnswers.{use_reason, use_refusal, limit_of, field_fault}
use Rattle.rule_strip.specs.RulePlaces.{start, op_of, first_of, second_of, Breaks, RuleOffends}
use Rattle.rule_strip.specs.RulePlaces.{in_op, in_first, in_second}
use Rattle.rule_strip.specs.RulePlaces.{too_short, other_length, other_version, bad_variables, bad_count, bit-set, bad_record}
use Rattle.rule_strip.specs.declared.Use.{Use}
use Rattle.rule_strip.proofs.RuleChecks.{record_split}
use Rattle.rule_strip.proofs.RuleLaws.{field-passed, record_kept}

-- a fault of two tests is the first one's, or else the second's
or_told : (f g : Result Unit Fault) {h : Fault} → or_else f g ≡ Err h → (f ≡ Err h) ⊎ ((f ≡ sound) × (g ≡ Err h))
or_told (Ok u) g e = inr (refl, e)
or_told (Err f) g e = inl e

-- what holds of a fault, by its number and its place
abbrev Of : (ℕ → ℕ → Type 0) → Fault → Type 0
Of P f = P (number_of f.reason) f.place

-- a fault after a test is the test's, or else a later one
module _ (P : ℕ → ℕ → Type 0) {f : Fault} where
  test-told : (t : Bool) (k : Reason) (p : ℕ) (later : Result Unit Fault) → (t ≡ true → P (number_of k) p) → (t ≡ false → later ≡ Err f → Of P f)
      → cond t (fault k p) later ≡ Err f → Of P f
  test-told true k p later here after e = let z : record { reason = k; place = p } ≡ f = cc in subst (λ (g : Fault). Of P g) z (here refl)
  test-told false k p later here after e = after refl e

-- ---- one record

-- a field's fault is its use's, at its place
field_told : (P : ℕ → ℕ → Type 0) (n i at : ℕ) (u : Use) (v : ℕ) {f : Fault} → (limit_of n i u ≤ v → P (use_refusal u) at)
    → field_fault n i at u v ≡ Err f → Of P f
field_told P n i at u v h e = test-told P (leb (limit_of n i u) v) (use_reason u) at sound (λ t. h (leb-true _ _ t)) (λ t g. absurd cc) e

module _ (s : List ℕ) (n i : ℕ) where
  pub record_told : {f : Fault} → record_fault n i (start i) (record_at s (start i)) ≡ Err f → Of (Breaks s n i) f
  unfolding record_at
  record_told e =
      test-told (Breaks s n i) (leb 9 (op_of s i)) reason.Op (start i) _ (λ t. in_op (leb-true _ _ t))
      (λ t g. fields (leb-false _ _ t) (or_told _ _ g))
      (sym (record_split n i (start i) (op_of s i) (first_of s i) (second_of s i)) ∙ e)
    where
      fields : {f : Fault} → op_of s i < 9
          → (field_fault n i (start i + 4) (first_use (op_of s i)) (first_of s i) ≡ Err f)
          ⊎ ((field_fault n i (start i + 4) (first_use (op_of s i)) (first_of s i) ≡ sound)
          × (field_fault n i (start i + 11) (second_use (op_of s i)) (second_of s i) ≡ Err f))
          → Of (Breaks s n i) f
      fields h (inl e) = field_told (Breaks s n i) n i (start i + 4) (first_use (op_of s i)) (first_of s i) (in_first h) e
      fields h (inr w) =
          field_told (Breaks s n i) n i (start i + 11) (second_use (op_of s i)) (second_of s i)
          (in_second h (field-passed n i (start i + 4) (first_use (op_of s i)) (first_of s i) w.0)) w.1

-- ---- all records

-- of the records from number i on, at bit place at, number i + j has the fault, and none before it has one
record Met (s : List ℕ) (n i at m : ℕ) (f : Fault) : Type 0 where
  j : ℕ
  below : j < m
  earlier : (l : ℕ) → l < j → record_fault n (i + l) (at + 18 * l) (record_at s (at + 18 * l)) ≡ sound
  here : record_fault n (i + j) (at + 18 * j) (record_at s (at + 18 * j)) ≡ Err f

records-met : (s : List ℕ) (n i at m : ℕ) {f : Fault} → records_fault n i at (records_from s at m) ≡ Err f → Met s n i at m f
unfolding records_fault records_from
records-met s n i at zero e = absurd cc
records-met s n i at (suc m) {f} e = ⊎_elim now (λ w. later (records-met s n (suc i) (at + 18) m w.1) w.0) (or_told _ _ e)
  where
    same : (x y : ℕ) (z w : ℕ) → x ≡ y → z ≡ w → record_fault n x z (record_at s z) ≡ record_fault n y w (record_at s w)
    same x y z w a b = rw (a, b) refl

    now : record_fault n i at (record_at s at) ≡ Err f → Met s n i at (suc m) f
    now e = record {
      j = 0;
      below = omega arith;
      earlier = λ l h. absurd (omega arith);
      here = same (i + 0) i (at + 18 * 0) at (omega arith) (omega arith) ∙ e;
    }

    before : (r : Met s n (suc i) (at + 18) m f) → record_fault n i at (record_at s at) ≡ sound → (l : ℕ) → l < suc r.j
        → record_fault n (i + l) (at + 18 * l) (record_at s (at + 18 * l)) ≡ sound
    before r e zero h = same (i + 0) i (at + 18 * 0) at (omega arith) (omega arith) ∙ e
    before r e (suc l) h =
        same (i + suc l) (suc i + l) (at + 18 * suc l) (at + 18 + 18 * l) (omega arith) (omega arith) ∙ r.earlier l (omega arith)

    later : Met s n (suc i) (at + 18) m f → record_fault n i at (record_at s at) ≡ sound → Met s n i at (suc m) f
    later r e = record {
      j = suc r.j;
      below = let h = r.below in omega arith;
      earlier = before r e;
      here = same (i + suc r.j) (suc i + r.j) (at + 18 * suc r.j) (at + 18 + 18 * r.j) (omega arith) (omega arith) ∙ r.here;
    }

-- ---- the whole strip
module _ (s : List ℕ) where
  padding-told : any_set (rule_padding s) ≡ true → RuleOffends s 6 (records_end s + first_set (rule_padding s))
  padding-told e =
      let h = ltb-true (first_set (rule_padding s)) (length (rule_padding s)) (sym (any-first (rule_padding s)) ∙ e) in
      let l = length-drop (records_end s) (bits s) in
      let b = length-bits s in
      let z : get_or (bits s) (records_end s + first_set (rule_padding s)) 0 ≡ 0 → ⊥ =
      λ f. first-set (rule_padding s) h (get_or-drop (records_end s) (bits s) (first_set (rule_padding s)) 0 ∙ f) in
      bit-set (records_end s + first_set (rule_padding s)) (omega arith) (omega arith)
      (let c = bits-bits s (records_end s + first_set (rule_padding s)) in one _ c z)
      (λ q i j. clean q i j)
    where
      one : (b : ℕ) → b < 2 → (b ≡ 0 → ⊥) → b ≡ 1
      one zero h z = absurd (z refl)
      one (suc b) h z = omega arith

      clean : (q : ℕ) → records_end s ≤ q → q < records_end s + first_set (rule_padding s) → get_or (bits s) q 0 ≡ 0
      clean q i j =
          let e : records_end s + (q - records_end s) ≡ q = omega arith in
          rw (← e, ← (get_or-drop (records_end s) (bits s) (q - records_end s) 0)) (first-before (rule_padding s) (q - records_end s) (omega arith))

  records-told : {f : Fault} → records_fault (variables_of s) 0 16 (records_of s) ≡ Err f → Of (RuleOffends s) f
  unfolding records_of
  records-told {f} e =
      let w = records-met s (variables_of s) 0 16 (count_of s) e in
      bad_record w.j (number_of f.reason) f.place w.below (λ j h. record_kept (variables_of s) j (start j) (record_at s (start j)) (named j (w.earlier j h)))
      (record_told s (variables_of s) w.j (named w.j w.here))
    where
      named : (j : ℕ) {g : Result Unit Fault} → record_fault (variables_of s) (0 + j) (16 + 18 * j) (record_at s (16 + 18 * j)) ≡ g
          → record_fault (variables_of s) j (start j) (record_at s (start j)) ≡ g
      named j e = let z : 0 + j ≡ j = omega arith in rw z at e

  head_told : {f : Fault} → head_fault s ≡ Err f → Of (RuleOffends s) f
  unfolding head_fault
  head_told e =
      test-told (RuleOffends s) (ltb (length s) 2) reason.RuleShort (bit_length s) _ (λ t. too_short (ltb-true _ _ t))
      (λ a. test-told (RuleOffends s) (not (eqb (version_of s) 1)) reason.RuleVersion 0 _ (λ t. other_version (eqb-false _ _ (not-true _ t)))
      (λ b. test-told (RuleOffends s) (not (between 1 8 (variables_of s))) reason.RuleVariables 4 _ (λ t. bad_variables (not-true _ t))
      (λ c. test-told (RuleOffends s) (not (between 1 128 (count_of s))) reason.RuleRecords 8 _ (λ t. bad_count (not-true _ t))
      (λ d. test-told (RuleOffends s) (not (eqb (length s) (rule_bytes (count_of s)))) reason.RuleLength (bit_length s) sound
      (λ t. other_length (eqb-false _ _ (not-true _ t))) (λ t f. absurd cc))))) e

  -- THE PLACE IS THE ONE THAT IS MEANT
  pub place-told : {f : Fault} → rule_fault s ≡ Err f → Of (RuleOffends s) f
  unfolding rule_fault
  place-told e =
      ⊎_elim head_told
      (λ w. test-told (RuleOffends s) (any_set (rule_padding s)) reason.RulePadding (records_end s + first_set (rule_padding s)) _ padding-told (λ t f. records-told f) w.1)
      (or_told (head_fault s) _ e)
