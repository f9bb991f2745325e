-- The walk as the code keeps it: a stack, the parts in an array of 128, a mark for each record. Each branch of the loop is a case of `turn`.
-- Assumes nothing.
use Prim.Native.Nat.{ℕ, zero, suc, ◌+◌, ◌-◌, ◌*◌, ◌≤◌, ◌<◌}
use mathlib.Core.Path.{◌≡◌, refl, ap, ap₂, sym, subst, ◌∙◌}
use mathlib.Core.Bool.{Bool, true, false, cond}
use mathlib.Core.List.{List, [], ◌∷◌, ◌++◌, append-nil}
use native.Mathlib.Decide.{dec_lt, ℕ_discrete}
use native.Mathlib.Numerals.{add-one}
use native.Mathlib.Omega.{arith}
use borrow.Author.Tests.{eq-eqb, ne_eqb}
use lib.ListN.{length, get_or, set, take, replicate, length-set, length-append, length-replicate, get_or-replicate, get_or-eq_default}
use lib.Seq.{get_or-set_same, get_or-set_other, length-take-le, take-suc-set}
use Rattle.logic.specs.Rule.{Record, no_record, Accepted}
use Rattle.logic.specs.Reach.{elem, flat}
use Rattle.logic.proofs.Reach.{elem-first}
use Rattle.logic.proofs.Places.{true→T}
use Rattle.refusals.specs.Fault.{sound}
use Rattle.rule_strip.specs.RuleStrip.{variables_of, count_of, record_at, records_of, rule_fault}
use Rattle.rule_strip.specs.RuleAnswers.{fields_of}
use Rattle.rule_strip.specs.declared.Fields.{Fields}
use Rattle.rule_strip.proofs.RuleLaws.{rule-accepted, records_at, widths_at}
use Rattle.parts.specs.Parts.{first_at, second_at, is_and, walk_from, fresh, parts_of}
use Rattle.parts.specs.Taking.{Taking, unmarked}
use Rattle.parts.specs.Listed.{Listed}
use Rattle.parts.proofs.Lists.{elem-later, elem-nothing}
use Rattle.parts.proofs.PartLaws.{AndEarlier, and_earlier, parts-few}
use Rattle.parts.proofs.Taking.{unmarked-less, Going, passed, listed, opened, begun-going}

-- ---- marks in an array

-- how many of the first m have no mark
pub bare_below : ℕ → List Bool → ℕ
bare_below zero ms = 0
bare_below (suc m) ms = cond (get_or ms m false) 0 1 + bare_below m ms

-- the array has a mark for each record of the list
abbrev pub MarksOf : List Bool → List ℕ → Type 0
MarksOf ms L = (i : ℕ) → get_or ms i false ≡ elem i L

bare_is : (m : ℕ) (ms : List Bool) (L : List ℕ) → MarksOf ms L → bare_below m ms ≡ unmarked m L
unfolding bare_below unmarked
bare_is zero ms L h = refl
bare_is (suc m) ms L h = rw (h m, bare_is m ms L h) refl

mark-more : (ms : List Bool) (L : List ℕ) (i : ℕ) → i < length ms → MarksOf ms L → MarksOf (set ms i true) (i ∷ L)
unfolding elem
mark-more ms L i h f j = elim (ℕ_discrete j i) [
  | yes p ↦ rw (p, get_or-set_same ms i true false h, eq-eqb i i refl) refl
  | no p ↦ rw (get_or-set_other ms i j true false p, ne_eqb j i p) (f j)
]

no_marks : (d : ℕ) → MarksOf (replicate d false) []
no_marks d i = elim (dec_lt i d) [
  | yes h ↦ get_or-replicate d i false false h ∙ sym (elem-nothing i)
  | no h ↦ get_or-eq_default (replicate d false) false (let e = length-replicate d false in omega (arith, h)) ∙ sym (elem-nothing i)
]

-- a record's fields fit in a byte
pub fields-byte : (s : List ℕ) (at : ℕ) (f : Fields) → f ≡ fields_of (record_at s at) → (f.first < 128) × (f.second < 128)
fields-byte s at f q = let w = widths_at s at in rw q (w.1, w.2)

-- ---- the loop

-- what the stack and the arrays say
abbrev pub shown : List ℕ → List ℕ → List ℕ → ℕ → Taking
shown marked stack parts count = record { marked = marked; stack = stack; found = take count parts }

-- the loop's invariant, of the strip s
pub record Walking (s parts : List ℕ) (marks : List Bool) (stack : List ℕ) (count : ℕ) : Type 0 where
  pub accepted : rule_fault s ≡ sound
  pub marked : List ℕ
  pub same : MarksOf marks marked
  pub going : Going (records_of s) (shown marked stack parts count)
  pub count_fits : count ≤ 128
  pub parts-long : length parts ≡ 128
  pub marks-long : length marks ≡ 128
  pub few : count_of s ≤ 128
  pub short : length s ≤ 4096
  pub whole : 16 + 18 * count_of s ≤ 8 * length s

-- the loop's measure
abbrev pub still_left : List ℕ → List Bool → List ℕ → ℕ
still_left s marks stack = 2 * bare_below (count_of s) marks + length stack

module _ (s : List ℕ) (ok : rule_fault s ≡ sound) where
  good : Accepted 2 (variables_of s) (records_of s)
  good = (rule-accepted s ok).records-accepted

  earlier : AndEarlier (records_of s)
  earlier = and_earlier 2 (variables_of s) (records_of s) good.1

  few-parts : length (parts_of (records_of s)) ≤ count_of s
  few-parts = let h = parts-few 2 (variables_of s) (records_of s) good in let e = (rule-accepted s ok).records-count in omega arith

  pub head_long : 2 ≤ length s
  head_long = let f = rule-accepted s ok in let e = f.size in let h = f.some_record in omega arith

  pub some-records : (1 ≤ count_of s) × (count_of s ≤ 128)
  some-records = let f = rule-accepted s ok in (f.some_record, f.few-records)

  -- before the first turn the last record alone is on the stack
  pub walking_first : (m : ℕ) (stack : List ℕ) → m ≡ count_of s → stack ≡ (m - 1) ∷ [] → Walking s (replicate 128 0) (replicate 128 false) stack 0
  walking_first m stack e t =
      let f = rule-accepted s ok in
      let size = f.size in
      let few = f.few-records in
      record {
        accepted = ok;
        marked = [];
        same = no_marks 128;
        going = rw (t, e, ← f.records-count) (begun-going (records_of s) earlier good.0);
        count_fits = omega arith;
        parts-long = refl;
        marks-long = refl;
        few = few;
        short = omega arith;
        whole = omega arith;
      }

module _ {s parts : List ℕ} {marks : List Bool} {stack : List ℕ} {count : ℕ} (w : Walking s parts marks stack count) where
  abbrev rs : List Record
  rs = records_of s

  abbrev found : List ℕ
  found = take count parts

  found-length : length found ≡ count
  found-length = length-take-le count parts (omega (arith, w.count_fits, w.parts-long))

  as_many : length rs ≡ count_of s
  as_many = (rule-accepted s w.accepted).records-count

  -- when the stack is empty the parts are listed
  pub walking_last : stack ≡ [] → Listed (parts_of (records_of s)) count parts
  unfolding fresh flat
  walking_last e =
      let f : found ≡ parts_of rs = sym (append-nil found) ∙ (subst (λ (S : List ℕ). Going rs (shown w.marked S parts count)) e w.going).parts in
      record { counted = sym found-length ∙ ap length f; front = f; long = w.parts-long }

  -- i is on top
  module _ {i : ℕ} {rest : List ℕ} (h : stack ≡ i ∷ rest) where
    here : Going rs (record { marked = w.marked; stack = i ∷ rest; found = found })
    here = subst (λ (S : List ℕ). Going rs (shown w.marked S parts count)) h w.going

    pub top_within : i < count_of s
    top_within = let a = here.within i (elem-first i rest) in let e = as_many in omega arith

    -- it has a mark
    pub walking_passed : get_or marks i false ≡ true → Walking s parts marks rest count
    walking_passed e = record {
      accepted = w.accepted;
      marked = w.marked;
      same = w.same;
      going = passed rs (earlier s w.accepted) i rest w.marked found here (true→T (sym (w.same i) ∙ e));
      count_fits = w.count_fits;
      parts-long = w.parts-long;
      marks-long = w.marks-long;
      few = w.few;
      short = w.short;
      whole = w.whole;
    }

    module _ (e : get_or marks i false ≡ false) where
      bare : elem i w.marked ≡ false
      bare = sym (w.same i) ∙ e

      more-marks : MarksOf (set marks i true) (i ∷ w.marked)
      more-marks = mark-more marks w.marked i (let a = top_within in let b = w.few in let c = w.marks-long in omega arith) w.same

      -- one more has a mark
      marked-less : bare_below (count_of s) (set marks i true) < bare_below (count_of s) marks
      marked-less = rw (bare_is (count_of s) (set marks i true) (i ∷ w.marked) more-marks, bare_is (count_of s) marks w.marked w.same)
          (unmarked-less (count_of s) w.marked (i ∷ w.marked) (λ x m. elem-later x i w.marked m) i top_within bare (elem-first i w.marked))

      pub listed-less : still_left s (set marks i true) rest < still_left s marks stack
      listed-less = let m = marked-less in let l = ap length h in omega arith

      pub opened-less : {a b : ℕ} {S : List ℕ} → S ≡ a ∷ (b ∷ rest) → still_left s (set marks i true) S < still_left s marks stack
      opened-less t = let m = marked-less in let l = ap length h in let k = ap length t in omega arith

      module _ {f : Fields} (q : f ≡ fields_of (record_at s (16 + 18 * i))) where
        at_top : get_or rs i no_record ≡ record_at s (16 + 18 * i)
        at_top = records_at s i top_within

        -- an "and"
        module _ (o : f.op ≡ 7) where
          is-and : is_and rs i ≡ true
          unfolding is_and
          is-and = rw at_top (eq-eqb (record_at s (16 + 18 * i)).op 7 (sym (ap (λ (g : Fields). g.op) q) ∙ o))

          both-going : Going rs (record { marked = i ∷ w.marked; stack = first_at rs i ∷ (second_at rs i ∷ rest); found = found })
          both-going = opened rs (earlier s w.accepted) i rest w.marked found here bare (true→T is-and)

          -- both its fields have room on the stack
          pub push-fits : length rest + 1 < 128
          push-fits = let d = both-going.depth in let m = as_many in let n = w.few in omega arith

          both : f.first ∷ (f.second ∷ rest) ≡ first_at rs i ∷ (second_at rs i ∷ rest)
          both =
              ap₂ (λ (a b : ℕ). a ∷ (b ∷ rest)) (ap (λ (g : Fields). g.first) q ∙ ap (λ (r : Record). r.first) (sym at_top))
              (ap (λ (g : Fields). g.second) q ∙ ap (λ (r : Record). r.second) (sym at_top))

          pub walking_opened : {S : List ℕ} → S ≡ f.first ∷ (f.second ∷ rest) → Walking s parts (set marks i true) S count
          walking_opened t = record {
            accepted = w.accepted;
            marked = i ∷ w.marked;
            same = more-marks;
            going = subst (λ (S : List ℕ). Going rs (record { marked = i ∷ w.marked; stack = S; found = found })) (sym (t ∙ both)) both-going;
            count_fits = w.count_fits;
            parts-long = w.parts-long;
            marks-long = length-set marks i true ∙ w.marks-long;
            few = w.few;
            short = w.short;
            whole = w.whole;
          }

        -- any other record
        module _ (o : f.op ≡ 7 → ⊥) where
          is_other : is_and rs i ≡ false
          unfolding is_and
          is_other = rw at_top (ne_eqb (record_at s (16 + 18 * i)).op 7 (λ p. o (ap (λ (g : Fields). g.op) q ∙ p)))

          one-going : Going rs (record { marked = i ∷ w.marked; stack = rest; found = found ++ (i ∷ []) })
          one-going = listed rs (earlier s w.accepted) i rest w.marked found here bare is_other

          -- it has room among the parts
          pub list-fits : count < 128
          list-fits =
              let a = ap length one-going.parts in
              let b = length-append (found ++ (i ∷ [])) (fresh (i ∷ w.marked) (flat (λ j. walk_from rs j) rest)) in
              let c = length-append found (i ∷ []) in
              let d = found-length in let m = few-parts s w.accepted in let n = w.few in omega arith

          added : take (count + 1) (set parts count i) ≡ found ++ (i ∷ [])
          added =
              ap (λ (z : ℕ). take z (set parts count i)) (add-one count)
              ∙ take-suc-set parts count i (let d = list-fits in let l = w.parts-long in omega arith)

          pub walking_listed : Walking s (set parts count i) (set marks i true) rest (count + 1)
          walking_listed = record {
            accepted = w.accepted;
            marked = i ∷ w.marked;
            same = more-marks;
            going = subst (λ (L : List ℕ). Going rs (record { marked = i ∷ w.marked; stack = rest; found = L })) (sym added) one-going;
            count_fits = let d = list-fits in omega arith;
            parts-long = length-set parts count i ∙ w.parts-long;
            marks-long = length-set marks i true ∙ w.marks-long;
            few = w.few;
            short = w.short;
            whole = w.whole;
          }
