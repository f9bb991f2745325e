-- THE STRIP OF GOOD RECORDS PASSES THE STRIP CHECK, AND HOLDS THESE RECORDS; and records as numbers of 18 bits. Assumes nothing.
use Prim.Native.Nat.{ℕ, zero, suc, ◌+◌, ◌*◌, ◌/◌, ◌%◌, ◌≤◌, ◌<◌}
use mathlib.Core.Path.{◌≡◌, refl, sym, ◌∙◌, ap, ap₂}
use mathlib.Core.Bool.{false}
use Rattle.std.specs.Prelude.{Ok}
use mathlib.Core.List.{List, [], ◌∷◌, ◌++◌, append_assoc, append-nil}
use native.Mathlib.Omega.{arith}
use borrow.Author.Tests.{eq-eqb, le-ltb, le-leb}
use lib.Dec.{T, lit<}
use lib.ListN.{length, drop, replicate, length-append, length-replicate}
use lib.Seq.{drop_at}
use Rattle.logic.specs.Rule.{Record, good, good_from}
use Rattle.bits.specs.Bits.{digits, bits, any_set, pack}
use Rattle.bits.proofs.Fields.{length_digits, length-bits, digits_low, digits-split}
use Rattle.bits.proofs.Packing.{AreBits, bits-append, digits-bits, field_is, behind, pack-bits}
use Rattle.bits.proofs.Places.{zeros_unset}
use Rattle.refusals.specs.Fault.{sound}
use Rattle.rule_strip.specs.RuleStrip.{version_of, variables_of, count_of, record_at, records_from, records_of, rule_bytes, first_use, second_use}
use Rattle.rule_strip.specs.RuleStrip.{records_fault, head_fault, rule_fault}
use Rattle.rule_strip.specs.RuleAnswers.{limit_of, checked_rule}
use Rattle.rule_strip.specs.RuleWriting.{record_bits, strip_of_rule, record_word, record_of_word, records_of_words}
use Rattle.rule_strip.specs.declared.Use.{Use}
use Rattle.rule_strip.specs.declared.Use.TheVariants.{Variable, Earlier, Unused}
use Rattle.rule_strip.proofs.RuleLaws.{both_of, record_kept, good_iff}

-- ---- good records are small

-- the op and the fields have room in their bits
pub record Small (r : Record) : Type 0 where
  pub op_small : r.op < 16
  pub first_small : r.first < 128
  pub second-small : r.second < 128

-- so has each of some records
unfoldable pub AllSmall : List Record → Type 0
AllSmall [] = Unit
AllSmall (r ∷ rs) = Small r × AllSmall rs

limit_small : (n i : ℕ) (u : Use) → n ≤ 128 → i ≤ 128 → limit_of n i u ≤ 128
limit_small n i Variable h k = h
limit_small n i Earlier h k = k
limit_small n i Unused h k = omega arith

pub good-small : (n i : ℕ) (rs : List Record) → n ≤ 8 → i + length rs ≤ 128 → T (good_from 2 n i rs) → AllSmall rs
unfolding good_from AllSmall
good-small n i [] h k t = tt
good-small n i (r ∷ rs) h k t =
    let w = both_of (good 2 n i r) (good_from 2 n (suc i) rs) t in
    let f = record_kept n i 0 r ((good_iff n i 0 r).1 w.0) in
    let p = limit_small n i (first_use r.op) (omega arith) (omega arith) in
    let q = limit_small n i (second_use r.op) (omega arith) (omega arith) in
    (record { op_small = omega arith; first_small = omega arith; second-small = omega arith }, good-small n (suc i) rs h (omega arith) w.1)

good-unrefused : (n i at : ℕ) (rs : List Record) → T (good_from 2 n i rs) → records_fault n i at rs ≡ sound
unfolding good_from records_fault
good-unrefused n i at [] t = refl
good-unrefused n i at (r ∷ rs) t =
    let w = both_of (good 2 n i r) (good_from 2 n (suc i) rs) t in
    rw ((good_iff n i at r).1 w.0) (good-unrefused n (suc i) (at + 18) rs w.1)

-- ---- the records' bits

pub record_bits-length : (rs : List Record) → length (record_bits rs) ≡ 18 * length rs
unfolding record_bits
record_bits-length [] = refl
record_bits-length (r ∷ rs) =
    let A = digits 4 r.op in
    let B = digits 7 r.first in
    let C = digits 7 r.second in
    let D = record_bits rs in
    let a = length-append A (B ++ (C ++ D)) in
    let b = length-append B (C ++ D) in
    let c = length-append C D in
    let d = record_bits-length rs in
    omega (arith, length_digits 4 r.op, length_digits 7 r.first, length_digits 7 r.second)

record_bits-bits : (rs : List Record) → AreBits (record_bits rs)
unfolding record_bits
record_bits-bits [] = λ k. lit< tt
record_bits-bits (r ∷ rs) =
    bits-append (digits 4 r.op) _ (digits-bits 4 r.op) (bits-append (digits 7 r.first) _ (digits-bits 7 r.first)
    (bits-append (digits 7 r.second) (record_bits rs) (digits-bits 7 r.second) (record_bits-bits rs)))

record_path : (r : Record) (a b c : ℕ) → a ≡ r.op → b ≡ r.first → c ≡ r.second → ◌≡◌ {A = Record} (record { op = a; first = b; second = c }) r
record_path r a b c e f g = λ i. record { op = e i; first = f i; second = g i }

-- where the bits of some records stand, the records are read
module _ (s post : List ℕ) where
  record_is : (r : Record) (rs : List Record) (pre : List ℕ) (at : ℕ) → bits s ≡ pre ++ (record_bits (r ∷ rs) ++ post) → length pre ≡ at → Small r
      → (record_at s at ≡ r) × (pre' : List ℕ) × (bits s ≡ pre' ++ (record_bits rs ++ post)) × (length pre' ≡ at + 18)
  unfolding record_bits record_at
  record_is r rs pre at e l m =
      let A = digits 4 r.op in
      let B = digits 7 r.first in
      let C = digits 7 r.second in
      let D = record_bits rs in
      let e₀ : bits s ≡ pre ++ (A ++ (B ++ (C ++ (D ++ post)))) = e ∙ ap (λ (x : List ℕ). pre ++ x) (simp append_assoc) in
      let b₁ = behind s pre (B ++ (C ++ (D ++ post))) at 4 r.op e₀ l in
      let b₂ = behind s (pre ++ A) (C ++ (D ++ post)) (at + 4) 7 r.first b₁.0 b₁.1 in
      let l₂ : length ((pre ++ A) ++ B) ≡ at + 11 = b₂.1 ∙ omega arith in
      let b₃ = behind s ((pre ++ A) ++ B) (D ++ post) (at + 11) 7 r.second b₂.0 l₂ in (
        record_path r _ _ _ (field_is s pre (B ++ (C ++ (D ++ post))) at 4 r.op e₀ l m.op_small)
            (field_is s (pre ++ A) (C ++ (D ++ post)) (at + 4) 7 r.first b₁.0 b₁.1 m.first_small)
            (field_is s ((pre ++ A) ++ B) (D ++ post) (at + 11) 7 r.second b₂.0 l₂ m.second-small),
        ((pre ++ A) ++ B) ++ C,
        b₃.0,
        b₃.1 ∙ omega arith,
      )

  records_are : (rs : List Record) (pre : List ℕ) (at : ℕ) → bits s ≡ pre ++ (record_bits rs ++ post) → length pre ≡ at → AllSmall rs
      → records_from s at (length rs) ≡ rs
  unfolding records_from AllSmall
  records_are [] pre at e l m = refl
  records_are (r ∷ rs) pre at e l m =
      let w = record_is r rs pre at e l m.0 in
      ap₂ (λ (x : Record) (y : List Record). x ∷ y) w.0 (records_are rs w.1 (at + 18) w.2 w.3 m.1)

-- ---- the whole strip

-- what stands before the padding
abbrev pub strip_bits : ℕ → List Record → List ℕ
strip_bits n rs = digits 4 1 ++ (digits 4 n ++ (digits 8 (length rs) ++ record_bits rs))

pub strip_bits-length : (n : ℕ) (rs : List Record) → length (strip_bits n rs) ≡ 16 + 18 * length rs
strip_bits-length n rs =
    let a = length-append (digits 4 1) (digits 4 n ++ (digits 8 (length rs) ++ record_bits rs)) in
    let b = length-append (digits 4 n) (digits 8 (length rs) ++ record_bits rs) in
    let c = length-append (digits 8 (length rs)) (record_bits rs) in
    let d = record_bits-length rs in
    omega (arith, length_digits 4 1, length_digits 4 n, length_digits 8 (length rs))

strip_bits-bits : (n : ℕ) (rs : List Record) → AreBits (strip_bits n rs)
strip_bits-bits n rs =
    bits-append (digits 4 1) _ (digits-bits 4 1) (bits-append (digits 4 n) _ (digits-bits 4 n)
    (bits-append (digits 8 (length rs)) (record_bits rs) (digits-bits 8 (length rs)) (record_bits-bits rs)))

-- what the check finds in a strip of the records rs over n variables
pub record Passes (n : ℕ) (rs : List Record) (s : List ℕ) : Type 0 where
  pub unrefused : rule_fault s ≡ sound
  pub variables_are : variables_of s ≡ n
  pub count_is : count_of s ≡ length rs
  pub records_are_they : records_of s ≡ rs
  pub size : length s ≡ rule_bytes (length rs)

module _ (n : ℕ) (rs : List Record) (some : 1 ≤ n) (few : n ≤ 8) (any : 1 ≤ length rs) (many : length rs ≤ 128) (g : T (good_from 2 n 0 rs)) where
  passes-from : (s : List ℕ) (z : ℕ) → z < 8 → bits s ≡ strip_bits n rs ++ replicate z 0 → Passes n rs s
  unfolding records_of head_fault rule_fault
  passes-from s z hz e =
      let H = digits 4 1 in
      let N = digits 4 n in
      let M = digits 8 (length rs) in
      let R = record_bits rs in
      let Z = replicate {A = ℕ} z 0 in
      let e₀ : bits s ≡ [] ++ (H ++ (N ++ (M ++ (R ++ Z)))) = e ∙ simp append_assoc in
      let b₁ = behind s [] (N ++ (M ++ (R ++ Z))) 0 4 1 e₀ refl in
      let l₁ : length ([] ++ H) ≡ 4 = b₁.1 ∙ omega arith in
      let b₂ = behind s ([] ++ H) (M ++ (R ++ Z)) 4 4 n b₁.0 l₁ in
      let l₂ : length (([] ++ H) ++ N) ≡ 8 = b₂.1 ∙ omega arith in
      let b₃ = behind s (([] ++ H) ++ N) (R ++ Z) 8 8 (length rs) b₂.0 l₂ in
      let l₃ : length ((([] ++ H) ++ N) ++ M) ≡ 16 = b₃.1 ∙ omega arith in
      let fv : version_of s ≡ 1 = field_is s [] (N ++ (M ++ (R ++ Z))) 0 4 1 e₀ refl (lit< tt) in
      let fn : variables_of s ≡ n = field_is s ([] ++ H) (M ++ (R ++ Z)) 4 4 n b₁.0 l₁ (omega arith) in
      let fm : count_of s ≡ length rs = field_is s (([] ++ H) ++ N) (R ++ Z) 8 8 (length rs) b₂.0 l₂ (omega arith) in
      let fr : records_from s 16 (length rs) ≡ rs =
      records_are s Z rs ((([] ++ H) ++ N) ++ M) 16 b₃.0 l₃ (good-small n 0 rs few (omega arith) g) in
      let bl = length-bits s in
      let el = ap length e ∙ length-append (strip_bits n rs) Z in
      let zl = length-replicate {A = ℕ} z 0 in
      let q = strip_bits-length n rs in
      let len : length s ≡ rule_bytes (length rs) = omega arith in
      let pad : any_set (drop (16 + 18 * length rs) (bits s)) ≡ false =
      ap (λ (x : List ℕ). any_set (drop (16 + 18 * length rs) x)) e ∙ ap any_set (drop_at (strip_bits n rs) Z (16 + 18 * length rs) q) ∙ zeros_unset z in
      record {
        unrefused =
            rw (
              le-ltb (length s) 2 (omega arith),
              fv,
              fn,
              fm,
              le-leb 1 n some,
              le-leb n 8 few,
              le-leb 1 (length rs) any,
              le-leb (length rs) 128 many,
              eq-eqb (length s) (rule_bytes (length rs)) len,
              pad,
              fr,
            ) (good-unrefused n 0 16 rs g);
        variables_are = fn;
        count_is = fm;
        records_are_they = ap (records_from s 16) fm ∙ fr;
        size = len;
      }

  pub strip-passes : Passes n rs (strip_of_rule n rs)
  unfolding strip_of_rule
  strip-passes =
      let l = strip_bits-length n rs in
      let p = pack-bits (strip_bits n rs) (omega arith) (strip_bits-bits n rs) in
      passes-from (pack 0 8 (strip_bits n rs)) p.0 p.1 p.2

  pub strip-checked : checked_rule (strip_of_rule n rs) ≡ Ok (record { variables = n; records = length rs })
  unfolding checked_rule
  strip-checked = let p = strip-passes in rw (p.unrefused, p.variables_are, p.count_is) refl

-- ---- records as numbers

pub word_back : (r : Record) → Small r → record_of_word (record_word r) ≡ r
unfolding record_word record_of_word
word_back r h = record_path r _ _ _ (omega arith) (omega arith) (omega arith)

-- the record's bits are the number's
pub word-bits : (w : ℕ) → record_bits (record_of_word w ∷ []) ≡ digits 18 w
unfolding record_bits record_of_word
word-bits w =
    sym (digits-split 4 14 w
    ∙ ap₂ (λ (x y : List ℕ). x ++ y) (sym (digits_low 4 0 (w / 16384)))
    (digits-split 7 7 w ∙ ap₂ (λ (x y : List ℕ). x ++ y) (sym (digits_low 7 0 (w / 128))) (sym (digits_low 7 0 w) ∙ sym (append-nil (digits 7 (w % 128))))))

pub words-length : (m : ℕ) (ws : List ℕ) → length (records_of_words m ws) ≡ m
unfolding records_of_words
words-length zero ws = refl
words-length (suc m) ws = length-append (records_of_words m ws) _ ∙ omega (arith, words-length m ws)

pub bits-more : (rs : List Record) (r : Record) → record_bits (rs ++ (r ∷ [])) ≡ record_bits rs ++ record_bits (r ∷ [])
unfolding record_bits
bits-more [] r = refl
bits-more (s ∷ rs) r = rw (bits-more rs r) (sym (simp append_assoc))
