-- Records kept as numbers in an array: what the writer of rule strips takes. Assumes nothing.
use Prim.Native.Nat.{ℕ, zero, suc, ◌<◌, ◌≤◌}
use mathlib.Core.Path.{◌≡◌, refl, sym, ◌∙◌, ap}
use mathlib.Core.List.{List, [], ◌∷◌}
use native.Mathlib.Nat.{not-suc-le-zero}
use native.Mathlib.Omega.{arith}
use lib.ListN.{length, get_or, take}
use lib.Seq.{take-suc, take-length}
use Rattle.logic.specs.Rule.{Record, no_record}
use Rattle.rule_strip.specs.RuleWriting.{record_word, record_of_word, records_of_words}
use Rattle.rule_strip.proofs.RuleWriting.{Small, AllSmall, word_back}

small_at : (rs : List Record) (i : ℕ) → i < length rs → AllSmall rs → Small (get_or rs i no_record)
unfolding AllSmall
small_at [] i h s = absurd (not-suc-le-zero h)
small_at (r ∷ rs) zero h s = s.0
small_at (r ∷ rs) (suc i) h s = small_at rs i (omega arith) s.1

-- where the word of each record stands at its number, the words are these records
module _ (ws : List ℕ) (rs : List Record) (each : (i : ℕ) → i < length rs → get_or ws i 0 ≡ record_word (get_or rs i no_record)) (s : AllSmall rs) where
  first-words : (m : ℕ) → m ≤ length rs → records_of_words m ws ≡ take m rs
  unfolding records_of_words
  first-words zero l = refl
  first-words (suc m) l =
      let w : record_of_word (get_or ws m 0) ≡ get_or rs m no_record =
      (ap record_of_word (each m (omega arith)) ∙ word_back (get_or rs m no_record) (small_at rs m (omega arith) s)) in
      rw (first-words m (omega arith), w) (sym (take-suc rs m no_record (omega arith)))

  pub words_are : records_of_words (length rs) ws ≡ rs
  words_are = first-words (length rs) (omega arith) ∙ take-length rs
