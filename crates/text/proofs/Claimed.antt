-- THE CLAIM of request A2, proved of the definitions. Assumes nothing.
use Prim.Native.Nat.{ℕ, ◌≤◌}
use mathlib.Core.Path.{◌≡◌, refl, subst}
use mathlib.Core.Bool.{Bool, true, false}
use mathlib.Core.List.{List}
use native.Mathlib.Omega.{arith}
use borrow.Author.Tests.{leb-true}
use lib.Dec.{ltb, leb}
use Rattle.rule_strip.specs.RuleAnswers.{checked_rule}
use Rattle.text.specs.Token.{Token}
use Rattle.text.specs.Syntax.{Text}
use Rattle.text.specs.Grammar.{Read, got, text_of}
use Rattle.text.specs.Grammar.{refused as leaves}
use Rattle.text.specs.Records.{variables_in, records_in, count_in}
use Rattle.rule_strip.specs.RuleWriting.{strip_of_rule}
use Rattle.text.specs.Import.{Import, written, refused, rule_of, import}
use Rattle.text.specs.Claims.{Imported, ImportClaim}
use Rattle.text.proofs.Texts.{text-right}
use Rattle.text.proofs.Readers.{read-good, tracks-pos}
use Rattle.rule_strip.proofs.RuleWriting.{strip-passes}

-- a text of few enough records
fits-strip : (s : List ℕ) (t : Text) (ts : List Token) → text_of s ≡ got t ts → count_in t ≤ 128
    → Imported s (variables_in t) (count_in t) (strip_of_rule (variables_in t) (records_in t))
unfolding variables_in checked_rule
fits-strip s t ts e h =
    let g = read-good s t ts e in
    let r = text-right t g.names_are g.once in
    let c = r.records in
    let a0 = r.accepted.0 in
    let p = strip-passes (variables_in t) (records_in t) (tracks-pos t.sentence t.declared g.names_are) g.few (omega arith) (omega arith)
    r.accepted.1 in
    record {
      text = t;
      left = ts;
      is_read = e;
      variables_are = refl;
      records_are = refl;
      passes = rw (p.unrefused, p.variables_are, p.count_is, c) refl;
      size = rw (← c) p.size;
      meaning = rw p.records_are_they r.meaning;
    }

-- whatever is written is as claimed
module _ (s : List ℕ) where
  abbrev AsClaimed : Import → Type 0
  AsClaimed (written n m strip) = Imported s n m strip
  AsClaimed (refused r) = Unit

  of_count : (t : Text) (ts : List Token) → text_of s ≡ got t ts → (b : Bool) → leb (count_in t) 128 ≡ b
      → AsClaimed (elim b as (λ _. Import) [ true ↦ written (variables_in t) (count_in t) (strip_of_rule (variables_in t) (records_in t)) | false ↦ refused 26 ])
  of_count t ts e true l = fits-strip s t ts e (leb-true (count_in t) 128 l)
  of_count t ts e false l = tt

  of_read : (r : Read Text) → text_of s ≡ r → AsClaimed (rule_of r)
  unfolding rule_of
  of_read (leaves k t) e = tt
  of_read (got t ts) e = of_count t ts e (leb (count_in t) 128) refl

  of_room : (b : Bool) → AsClaimed (elim b as (λ _. Import) [ true ↦ refused 27 | false ↦ rule_of (text_of s) ])
  of_room true = tt
  of_room false = of_read (text_of s) refl

pub claimed : ImportClaim
unfolding import
claimed s room n m strip e = subst (AsClaimed s) e (of_room s (ltb room 290))
