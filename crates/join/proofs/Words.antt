-- The records of both strips in one array, the second's moved up. Assumes nothing.
use Prim.Native.Nat.{ℕ, zero, suc, ◌+◌, ◌-◌, ◌*◌, ◌≤◌, ◌<◌}
use mathlib.Core.Path.{◌≡◌, refl, sym, ap, subst, ◌∙◌}
use mathlib.Core.Bool.{Bool, true, false}
use mathlib.Core.List.{List, [], ◌∷◌}
use native.Mathlib.Nat.{not-suc-le-zero}
use native.Mathlib.Omega.{arith}
use Rattle.std.proofs.Common.{rules}
use borrow.Author.Count.{below_more}
use borrow.Author.Tests.{ltb-true, ltb-false}
use lib.Dec.{T, ltb}
use borrow.Rule.Slice.PartMut.{put_mid}
use Rattle.std.proofs.lemmas.List.{places}
use lib.ListN.{length, get_or, take, set, length-set, get_or-append}
use lib.Seq.{get_or-append-add, get_or-append_seam, get_or-take, length-take-le, get_or-set_same, get_or-set_other}
use Rattle.logic.specs.Rule.{Record, no_record, good}
use Rattle.logic.proofs.Rules.{good-here}
use Rattle.refusals.specs.Fault.{sound}
use Rattle.rule_strip.specs.RuleStrip.{variables_of, count_of, record_at, records_of, first_use, second_use, rule_fault}
use Rattle.rule_strip.specs.RuleAnswers.{limit_of, fields_of}
use Rattle.rule_strip.specs.RulePlaces.{Keeps}
use Rattle.rule_strip.specs.RuleWriting.{record_word}
use Rattle.rule_strip.specs.declared.Fields.{Fields}
use Rattle.rule_strip.specs.declared.Use.{Use}
use Rattle.rule_strip.specs.declared.Use.TheVariants.{Variable, Earlier, Unused}
use Rattle.rule_strip.proofs.RuleLaws.{record_kept, good_iff, records_at, rule-accepted}
use Rattle.join.specs.JoinedRule.{moved_field, moved, moved_all, last_and, joined_records}
use Rattle.join.specs.Joining.{MovedWords}
use Rattle.join.proofs.JoinedRule.{moved_length, unmoved}

-- an accepted strip has its first two bytes, and a record
pub has_bytes : (s : List ℕ) → rule_fault s ≡ sound → 2 ≤ length s
has_bytes s e = let f = rule-accepted s e in omega arith

pub has_records : (s : List ℕ) → rule_fault s ≡ sound → 1 ≤ count_of s
has_records s e = (rule-accepted s e).some_record

-- ---- one record

-- a record of an accepted strip keeps all rules
keeps_at : (s : List ℕ) → rule_fault s ≡ sound → (i : ℕ) → i < count_of s → Keeps (variables_of s) i (record_at s (16 + 18 * i))
keeps_at s e i h =
    let f = rule-accepted s e in
    let n = variables_of s in
    let r = record_at s (16 + 18 * i) in
    let g = good-here 2 n (records_of s) i f.records-accepted.1 (let l = f.records-count in omega arith) in
    record_kept n i 0 r ((good_iff n i 0 r).1 (subst (λ (x : Record). T (good 2 n i x)) (records_at s i h) g))

-- a field that keeps its rule has room in its bits, moved up or not
field-small : (n i up : ℕ) (u : Use) (v : ℕ) → n ≤ 8 → up + i < 128 → v < limit_of n i u → (v < 128) × (moved_field up u v < 128)
field-small n i up Variable v a b h = (omega arith, omega arith)
field-small n i up Earlier v a b h = (omega arith, omega arith)
field-small n i up Unused v a b h = (omega arith, omega arith)

-- so has each of a record's, as they are read
pub record Movable (up : ℕ) (f : Fields) : Type 0 where
  pub known : f.op < 9
  pub first_small : (f.first < 128) × (moved_field up (first_use f.op) f.first < 128)
  pub second-small : (f.second < 128) × (moved_field up (second_use f.op) f.second < 128)

pub movable : (s : List ℕ) (i up : ℕ) (f : Fields) → rule_fault s ≡ sound → i < count_of s → up + count_of s ≤ 128 → f ≡ fields_of (record_at s (16 + 18 * i))
    → Movable up f
movable s i up f e h l q =
    let n = variables_of s in
    let few = (rule-accepted s e).few-variables in
    let k : Keeps n i (record { op = f.op; first = f.first; second = f.second }) = rw q (keeps_at s e i h) in
    record {
      known = k.known;
      first_small = field-small n i up (first_use f.op) f.first few (omega arith) k.first_below;
      second-small = field-small n i up (second_use f.op) f.second few (omega arith) k.second_below;
    }

-- a record, moved field by field
pub word_moved : (up : ℕ) (q : Record) (f : Fields) (u w : Use) (x y : ℕ) → f ≡ fields_of q → u ≡ first_use f.op → w ≡ second_use f.op
    → x ≡ moved_field up u f.first → y ≡ moved_field up w f.second
    → record_word (record { op = f.op; first = x; second = y }) ≡ record_word (moved up q)
unfolding moved
word_moved up q f u w x y e a b c d = rw (c, d, a, b, e) refl

-- ---- the words at the end

-- of the words the first are those of one strip's m records, unmoved, then come those of the other's n, moved up, and then that of the last "and"
pub record MovesBoth (a b : List ℕ) (m n : ℕ) (ws : List ℕ) : Type 0 where
  pub count : length ws ≡ m + n + 1
  pub firsts : (i : ℕ) → i < m → get_or ws i 0 ≡ record_word (moved 0 (record_at a (16 + 18 * i)))
  pub seconds : (i : ℕ) → i < n → get_or ws (m + i) 0 ≡ record_word (moved m (record_at b (16 + 18 * i)))
  pub last : get_or ws (m + n) 0 ≡ record_word (record { op = 7; first = m - 1; second = m + n - 1 })

-- one part of the words is written, and then the next, of k words
pub both_put : {a b : List ℕ} (m n k : ℕ) (xs ys ws : List ℕ) {u : ℕ} → length xs ≡ m → length ys ≡ n → k ≡ n → MovedWords a 0 xs → MovedWords b m ys
    → u ≡ record_word (record { op = 7; first = m - 1; second = m + n - 1 }) → m + n < length ws
    → MovesBoth a b m n (take (m + n + 1) (set (put_mid m k (put_mid 0 m ws xs) ys) (m + n) u))
both_put m n k xs ys ws {u} l q z f g e h =
    let vs : List ℕ = put_mid m k (put_mid 0 m ws xs) ys in
    let long : length vs ≡ length ws = search (rules, places) in
    record {
      count = length-take-le (m + n + 1) (set vs (m + n) u) (simp length-set (omega arith));
      firsts = λ i w.
          get_or-take (m + n + 1) (set vs (m + n) u) i 0 (omega arith) ∙ get_or-set_other vs (m + n) i u 0 (λ y. omega arith)
          ∙ (let o : get_or vs i 0 ≡ get_or xs i 0 = search (rules, places) in o) ∙ f i (omega arith);
      seconds = λ i w.
          get_or-take (m + n + 1) (set vs (m + n) u) (m + i) 0 (omega arith) ∙ get_or-set_other vs (m + n) (m + i) u 0 (λ y. omega arith)
          ∙ (let o : get_or vs (m + i) 0 ≡ get_or ys i 0 = search (rules, places) in o) ∙ g i (omega arith);
      last = get_or-take (m + n + 1) (set vs (m + n) u) (m + n) 0 (omega arith) ∙ get_or-set_same vs (m + n) u 0 (omega arith) ∙ e;
    }

-- what holds of each index below m, and of each of the p from there on
below_both : (P : ℕ → Type 0) (m p : ℕ) → ((i : ℕ) → i < m → P i) → ((i : ℕ) → i < p → P (m + i)) → (i : ℕ) → i < m + p → P i
below_both P m p f g i h = go (ltb i m) refl
  where
    go : (v : Bool) → ltb i m ≡ v → P i
    go true e = f i (ltb-true i m e)
    go false e = let l = ltb-false i m e in subst P (omega arith) (g (i - m) (omega arith))

moved_at : (m : ℕ) (rs : List Record) (i : ℕ) → i < length rs → get_or (moved_all m rs) i no_record ≡ moved m (get_or rs i no_record)
unfolding moved_all
moved_at m [] i h = absurd (not-suc-le-zero h)
moved_at m (r ∷ rs) zero h = refl
moved_at m (r ∷ rs) (suc i) h = moved_at m rs i (omega arith)

module _ (a b : List ℕ) (first-sound : rule_fault a ≡ sound) (second-sound : rule_fault b ≡ sound) where
  abbrev m : ℕ
  m = count_of a

  abbrev p : ℕ
  p = count_of b

  abbrev rs : List Record
  rs = records_of a

  abbrev ss : List Record
  ss = records_of b

  abbrev js : List Record
  js = joined_records rs ss

  -- record i of the joined rule: one of the first's, one of the second's, or the last
  first-at : (i : ℕ) → i < m → get_or js i no_record ≡ moved 0 (record_at a (16 + 18 * i))
  unfolding joined_records
  first-at i h =
      get_or-append rs _ no_record i (let l = (rule-accepted a first-sound).records-count in omega arith) ∙ records_at a i h ∙ sym (unmoved _)

  second_at : (i : ℕ) → i < p → get_or js (m + i) no_record ≡ moved m (record_at b (16 + 18 * i))
  unfolding joined_records
  second_at i h =
      let l = (rule-accepted a first-sound).records-count in
      let k = (rule-accepted b second-sound).records-count in
      let z = moved_length (length rs) ss in
      ap (λ (x : ℕ). get_or js (x + i) no_record) (sym l)
      ∙ get_or-append-add rs _ i no_record
      ∙ get_or-append (moved_all (length rs) ss) _ no_record i (omega arith)
      ∙ moved_at (length rs) ss i (omega arith)
      ∙ ap (λ (x : ℕ). moved x (get_or ss i no_record)) l
      ∙ ap (moved m) (records_at b i h)

  last_at : get_or js (m + p) no_record ≡ record { op = 7; first = m - 1; second = m + p - 1 }
  unfolding joined_records
  last_at =
      let f = rule-accepted a first-sound in
      let g = rule-accepted b second-sound in
      let l = f.records-count in
      let k = g.records-count in
      let z = moved_length (length rs) ss in
      let e : m + p ≡ length rs + length (moved_all (length rs) ss) = omega arith in
      let x : length rs - 1 ≡ m - 1 = omega arith in
      let y : length rs + (length ss - 1) ≡ m + p - 1 = omega arith in
      ap (λ (i : ℕ). get_or js i no_record) e
      ∙ get_or-append-add rs _ (length (moved_all (length rs) ss)) no_record
      ∙ get_or-append_seam (moved_all (length rs) ss) (last_and rs ss) [] no_record
      ∙ rw (x, y) refl

  -- so the words have that of each
  pub array_joined : {ws : List ℕ} → MovesBoth a b m p ws → (i : ℕ) → i < m + p + 1 → get_or ws i 0 ≡ record_word (get_or js i no_record)
  array_joined {ws} h =
      let P : ℕ → Type 0 = λ i. get_or ws i 0 ≡ record_word (get_or js i no_record) in
      below_more P (m + p)
      (below_both P m p (λ i l. h.firsts i l ∙ ap record_word (sym (first-at i l))) (λ i l. h.seconds i l ∙ ap record_word (sym (second_at i l))))
      (h.last ∙ ap record_word (sym last_at))
