-- What import answers and leaves in out, by what was read; and that the claim follows. Assumes nothing.
use Prim.Native.Nat.{ℕ, ◌+◌, ◌≤◌, ◌<◌}
use mathlib.Core.Path.{◌≡◌, refl, sym, ◌∙◌, ap, subst}
use mathlib.Core.Bool.{Bool, true, false}
use mathlib.Core.List.{List}
use native.Mathlib.Omega.{arith}
use borrow.Author.Tests.{le-leb, lt-leb, le-ltb, lt-ltb, leb-true, leb-false, ltb-false}
use lib.Dec.{leb, ltb}
use lib.ListN.{length, take, drop}
use lib.Seq.{sets, sets-eq, take_at}
use Rattle.std.specs.Prelude.{Result, Ok, Err}
use Rattle.std.proofs.lemmas.List.{get_or-take, length-take-le}
use Rattle.logic.specs.Rule.{Record}
use Rattle.refusals.specs.Reason.{number_of}
use Rattle.refusals.specs.declared.Reason.{Reason}
use Rattle.refusals.specs.declared.Reason.TheVariants as reason
use Rattle.rule_strip.specs.RuleStrip.{rule_bytes}
use Rattle.rule_strip.specs.RuleWriting.{strip_of_rule, records_of_words}
use Rattle.rule_strip.specs.declared.write.Written.{Written}
use Rattle.rule_strip.proofs.RuleWriting.{AllSmall, good-small}
use Rattle.rule_strip.proofs.Words.{words_are}
use Rattle.text.specs.Token.{Token}
use Rattle.text.specs.Syntax.{Text}
use Rattle.text.specs.Grammar.{Read, got, text_of}
use Rattle.text.specs.Grammar.{refused as leaves}
use Rattle.text.specs.Records.{variables_in, count_in, records_in}
use Rattle.text.specs.Import.{written, rule_of, import, out_after_import}
use Rattle.text.specs.Import.{Import as Answer, refused as turned_down}
use Rattle.text.proofs.Texts.{text-right}
use Rattle.text.proofs.Named.{refusal-named}
use Rattle.text.proofs.Readers.{read-good}
use Rattle.text.proofs.Claimed.{claimed}
use Rattle.tokens.specs.declared.TokenFault.{TokenFault}
use Rattle.drafting.specs.Draft.{Drafted}
use Rattle.drafting.specs.declared.Draft.{Draft}
use Rattle.drafting.proofs.Kept.{drafted_count}
use Rattle.phrases.specs.Told.{RefusedAt}
use Rattle.formulas.specs.declared.Reader.{Reader as Held}
use Rattle.import.specs.Answers.{reason_of, imported_of, fault_at, fault_of, Claimed, TextTold, text-got, text-refused}
use Rattle.import.specs.declared.TextFault.{TextFault}

-- ---- the reason of a refusal, by its number
reason_is : (r : Reason) → 23 ≤ number_of r → number_of r ≤ 25 → reason_of (number_of r) ≡ r
reason_is reason.RuleShort l h = absurd (omega arith)
reason_is reason.RuleVersion l h = absurd (omega arith)
reason_is reason.RuleVariables l h = absurd (omega arith)
reason_is reason.RuleRecords l h = absurd (omega arith)
reason_is reason.RuleLength l h = absurd (omega arith)
reason_is reason.RulePadding l h = absurd (omega arith)
reason_is reason.Op l h = absurd (omega arith)
reason_is reason.Variable l h = absurd (omega arith)
reason_is reason.Record l h = absurd (omega arith)
reason_is reason.Unused l h = absurd (omega arith)
reason_is reason.Ceiling l h = absurd (omega arith)
reason_is reason.Workspace l h = absurd (omega arith)
reason_is reason.Out l h = absurd (omega arith)
reason_is reason.States l h = absurd (omega arith)
reason_is reason.TreeShort l h = absurd (omega arith)
reason_is reason.TreeVersion l h = absurd (omega arith)
reason_is reason.TreeVariables l h = absurd (omega arith)
reason_is reason.TreeCut l h = absurd (omega arith)
reason_is reason.TreeBare l h = absurd (omega arith)
reason_is reason.TreePositions l h = absurd (omega arith)
reason_is reason.TreeLeftOver l h = absurd (omega arith)
reason_is reason.TreeOther l h = absurd (omega arith)
reason_is reason.TextGrammar l h = refl
reason_is reason.TextName l h = refl
reason_is reason.TextVariables l h = refl
reason_is reason.TextRecords l h = absurd (omega arith)
reason_is reason.RuleOut l h = absurd (omega arith)
reason_is reason.Parts l h = absurd (omega arith)
reason_is reason.Satisfiable l h = absurd (omega arith)
reason_is reason.JoinedRecords l h = absurd (omega arith)

text_reason : (s : List ℕ) {x : TokenFault} → RefusedAt (text_of s) x → reason_of (number_of x.reason) ≡ x.reason
text_reason s {x} w = let n = refusal-named s (number_of x.reason) w.token w.refuses in reason_is x.reason n.0 n.1

-- ---- an accepted text

-- its records are as many as counted, and each has room in its bits
pub record Sound (t : Text) : Type 0 where
  pub counted : length (records_in t) ≡ count_in t
  pub small : count_in t ≤ 128 → AllSmall (records_in t)

text-sound : (s : List ℕ) (t : Text) (ts : List Token) → text_of s ≡ got t ts → Sound t
unfolding variables_in
text-sound s t ts e =
    let g = read-good s t ts e in
    let r = text-right t g.names_are g.once in
    let c = r.records in
    record { counted = c; small = λ l. good-small (variables_in t) 0 (records_in t) g.few (omega arith) r.accepted.1 }

-- ---- the answer

import-roomy : (s : List ℕ) (n : ℕ) → 290 ≤ n → import s n ≡ rule_of (text_of s)
unfolding import
import-roomy s n h = rw (le-ltb n 290 h, import) refl

rule-refused : (k : ℕ) (t : Token) → rule_of (leaves k t) ≡ turned_down k
unfolding rule_of
rule-refused k t = refl

rule-many : (t : Text) (ts : List Token) → 128 < count_in t → rule_of (got t ts) ≡ turned_down 26
unfolding rule_of
rule-many t ts h = rw (lt-leb (count_in t) 128 h, rule_of) refl

rule-written : (t : Text) (ts : List Token) → count_in t ≤ 128
    → rule_of (got t ts) ≡ written (variables_in t) (count_in t) (strip_of_rule (variables_in t) (records_in t))
unfolding rule_of
rule-written t ts h = rw (le-leb (count_in t) 128 h, rule_of) refl

import-small : (s : List ℕ) (n : ℕ) → n < 290 → import s n ≡ turned_down 27
unfolding import
import-small s n h = rw (lt-ltb n 290 h, import) refl

-- ---- the claim

-- bytes that were set at the front are there
front-set : (out l : List ℕ) → length l ≤ length out → take (length l) (sets out 0 l) ≡ l
front-set out l h = ap (take (length l)) (sets-eq l out 0 (omega arith)) ∙ take_at l (drop (0 + length l) out) (length l) refl

-- a written strip is as long as document 01 says
strip-size : (s : List ℕ) (t : Text) (ts : List Token) → text_of s ≡ got t ts → count_in t ≤ 128
    → length (strip_of_rule (variables_in t) (records_in t)) ≡ rule_bytes (count_in t)
strip-size s t ts e l = (claimed s 290 (variables_in t) (count_in t) _ (import-roomy s 290 (omega arith) ∙ ap rule_of e ∙ rule-written t ts l)).size

-- what is written, if anything, has at most that many bytes
abbrev WrittenFits : ℕ → Answer → Type 0
WrittenFits size (written n m strip) = length strip ≤ size
WrittenFits size (turned_down k) = Unit

written-room : (s : List ℕ) (size n m : ℕ) (strip : List ℕ) → import s size ≡ written n m strip → length strip ≤ size
unfolding import
written-room s size n m strip e = subst (WrittenFits size) e (go (ltb size 290) refl)
  where
    of_count : (t : Text) (ts : List Token) → text_of s ≡ got t ts → 290 ≤ size → (b : Bool) → leb (count_in t) 128 ≡ b → WrittenFits size (rule_of (got t ts))
    of_count t ts q h true l =
        let c = leb-true (count_in t) 128 l in
        subst (WrittenFits size) (sym (rule-written t ts c)) (let z = strip-size s t ts q c in omega arith)
    of_count t ts q h false l = subst (WrittenFits size) (sym (rule-many t ts (leb-false (count_in t) 128 l))) tt

    of_read : 290 ≤ size → (r : Read Text) → text_of s ≡ r → WrittenFits size (rule_of r)
    of_read h (leaves k t) q = subst (WrittenFits size) (sym (rule-refused k t)) tt
    of_read h (got t ts) q = of_count t ts q h (leb (count_in t) 128) refl

    go : (b : Bool) → ltb size 290 ≡ b → WrittenFits size (elim b as (λ _. Answer) [ true ↦ turned_down 27 | false ↦ rule_of (text_of s) ])
    go true l = tt
    go false l = of_read (ltb-false size 290 l) (text_of s) refl

-- the first words, as many as there are records, are the records
module _ {d : Draft} {rs : List Record} (D : Drafted d rs) (h : d.count ≤ 128) where
  kept : List ℕ
  kept = take d.count d.words

  kept-length : length kept ≡ length rs
  unfolding kept
  kept-length = let c = drafted_count D h in let r = D.room in length-take-le d.count d.words (omega arith) ∙ c

  kept-records : AllSmall rs → records_of_words (length kept) kept ≡ rs
  unfolding kept
  kept-records s =
      let c = drafted_count D h in
      rw kept-length (words_are kept rs (λ i l. get_or-take d.count d.words i 0 (omega arith) ∙ D.each i l (omega arith)) s)

abbrev pub ImportOutcome : List ℕ → List ℕ → Result Written Reason → List ℕ → Type 0
ImportOutcome s out r out' = (r ≡ imported_of (import s (length out))) × ((out' ≡ out_after_import (import s (length out)) out) × Claimed s r out')

claim_follows : (s out : List ℕ) (a : Answer) → import s (length out) ≡ a → Claimed s (imported_of a) (out_after_import a out)
unfolding out_after_import
claim_follows s out (written n m strip) e w q =
    let x : record { variables = n; records = m; length = length strip } ≡ w = cc in
    let f = front-set out strip (written-room s (length out) n m strip e) in
    rw (← x, f) (claimed s (length out) n m strip e)
claim_follows s out (turned_down k) e w q = absurd cc

outcome : (s out : List ℕ) (a : Answer) (r : Result Written Reason) (out' : List ℕ) → import s (length out) ≡ a → r ≡ imported_of a
    → out' ≡ out_after_import a out → ImportOutcome s out r out'
outcome s out a r out' e q p =
    (q ∙ ap imported_of (sym e), (p ∙ ap (λ (b : Answer). out_after_import b out) (sym e), rw (q, p) (claim_follows s out a e)))

front-put : (out : List ℕ) (n m : ℕ) (strip : List ℕ) → sets out 0 strip ≡ out_after_import (written n m strip) out
unfolding out_after_import
front-put out n m strip = refl

unchanged : (out : List ℕ) (k : ℕ) → out ≡ out_after_import (turned_down k) out
unfolding out_after_import
unchanged out k = refl

module _ (s out : List ℕ) where
  pub outcome-small : length out < 290 → ImportOutcome s out (Err reason.RuleOut) out
  outcome-small h = outcome s out (turned_down 27) (Err reason.RuleOut) out (import-small s (length out) h) refl (unchanged out 27)

  module _ {h : Held} (roomy : 290 ≤ length out) where
    pub outcome-refused : {x : TokenFault} → TextTold h (text_of s) (Err x) → ImportOutcome s out (Err x.reason) out
    outcome-refused (text-got t us e q m D) = absurd cc
    outcome-refused {x} (text-refused y w q) =
        let z : y ≡ x = cc in
        let k = number_of y.reason in
        outcome s out (turned_down k) (Err x.reason) out (import-roomy s (length out) roomy ∙ ap rule_of w.refuses ∙ rule-refused k w.token)
        (ap Err (ap (λ (x : TokenFault). x.reason) (sym z) ∙ sym (text_reason s w))) (unchanged out k)

    pub outcome-many : TextTold h (text_of s) (Ok tt) → 128 < h.draft.count → ImportOutcome s out (Err reason.TextRecords) out
    outcome-many (text-got t us e q m D) l =
        let c = (text-sound s t us e).counted in
        let d = D.size in
        outcome s out (turned_down 26) (Err reason.TextRecords) out (import-roomy s (length out) roomy ∙ ap rule_of e ∙ rule-many t us (omega arith)) refl
        (unchanged out 26)
    outcome-many (text-refused x w q) l = absurd cc

    pub outcome-written : TextTold h (text_of s) (Ok tt) → h.draft.count ≤ 128 → {ws out' : List ℕ} {w : Written} → ws ≡ take h.draft.count h.draft.words
        → out' ≡ sets out 0 (strip_of_rule h.tracks (records_of_words (length ws) ws))
        → w ≡ record { variables = h.tracks; records = length ws; length = rule_bytes (length ws) } → ImportOutcome s out (Ok w) out'
    unfolding kept
    outcome-written (text-got t us e q m D) l {ws} {out'} {w} f p g =
        let S = text-sound s t us e in
        let k : length ws ≡ count_in t = ap length f ∙ kept-length D l ∙ S.counted in
        let c = drafted_count D l in
        let few : count_in t ≤ 128 = let n = S.counted in omega arith in
        let words : records_of_words (length ws) ws ≡ records_in t = rw f (kept-records D l (S.small few)) in
        let z = strip-size s t us e few in
        outcome s out (written (variables_in t) (count_in t) (strip_of_rule (variables_in t) (records_in t))) (Ok w) out'
        (import-roomy s (length out) roomy ∙ ap rule_of e ∙ rule-written t us few) (ap Ok (g ∙ rw (m, k, z) refl))
        (p ∙ rw (m, words) (front-put out (variables_in t) (count_in t) (strip_of_rule (variables_in t) (records_in t))))
    outcome-written (text-refused x w q) l f p g = absurd cc

-- ---- the fault

module _ (s : List ℕ) {h : Held} where
  pub fault-many : TextTold h (text_of s) (Ok tt) → 128 < h.draft.count
      → ◌≡◌ {A = Result Unit TextFault} (Err (record { reason = reason.TextRecords; start = 0; length = 0 })) (fault_of (text_of s))
  fault-many (text-got t us e q m D) l =
      let c = (text-sound s t us e).counted in
      let d = D.size in
      rw (e, lt-leb (count_in t) 128 (omega arith)) refl
  fault-many (text-refused x w q) l = absurd cc

  pub fault-none : TextTold h (text_of s) (Ok tt) → h.draft.count ≤ 128 → ◌≡◌ {A = Result Unit TextFault} (Ok tt) (fault_of (text_of s))
  fault-none (text-got t us e q m D) l =
      let c = (text-sound s t us e).counted in
      let d = D.size in
      rw (e, le-leb (count_in t) 128 (omega arith)) refl
  fault-none (text-refused x w q) l = absurd cc

  pub fault-token : {x : TokenFault} → TextTold h (text_of s) (Err x) → ◌≡◌ {A = Result Unit TextFault} (Err (fault_at x)) (fault_of (text_of s))
  fault-token (text-got t us e q m D) = absurd cc
  fault-token {x} (text-refused y w q) =
      let z : y ≡ x = cc in
      rw (← z, w.refuses, text_reason s w, w.start_is, w.stop_is) refl
