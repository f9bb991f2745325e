-- The start of "exists": its set grows until it is closed. Assumes nothing.
use Rattle.words.proofs.Vocabulary.{ℕ, ◌≤◌, ◌<◌, ◌+◌, ◌-◌, suc, ◌%◌, zero, ◌^◌, Bool, ◌||◌, ◌≡◌, ◌∙◌, refl, sym, ap, List, [], ◌∷◌, bit_or, eqb, add-zero}
use Rattle.words.proofs.Vocabulary.{add-suc, add-one, bit_and, arith}
use Rattle.layout.specs.Shape.{Shaped, labels_in, place_in}
use Rattle.words.specs.Word.{Below, mem, any}
use Rattle.table.specs.Rows.{Inside}
use Rattle.table.specs.Entry.{entry, through, seen}
use Rattle.table.specs.Succ.{hit, hit_set, choice, exists_code, closing, exists_start, first_step}
use Rattle.table.specs.declared.plan.Plan.{Plan}
use Rattle.table.proofs.Labels.{off_zero, on_zero}
use Rattle.table.proofs.Masks.{mem_ext, seen_le}
use Rattle.words.proofs.WordLaws.{mem_or, word_ext}
use Rattle.table.proofs.Sets.{closing_same}

-- the set, grown d times
abbrev pub grown : List ℕ → Plan → ℕ → ℕ
grown low p d = closing p.shape.branches (first_step low p) p.wx d 1

module _ (low : List ℕ) (p : Plan) (d : ℕ) where
  -- a closed set stays as it is
  still : grown low p (suc d) ≡ grown low p d → (j : ℕ) → grown low p (d + j) ≡ grown low p d
  unfolding closing
  still e zero = rw add-zero
  still e (suc j) = rw (add-suc, still e j) e

  pub closed-early : d ≤ 64 → grown low p (d + 1) ≡ grown low p d → grown low p d ≡ exists_start p.shape.branches (first_step low p) p.wx
  unfolding exists_start
  closed-early h e = let z : d + (64 - d) ≡ 64 = omega arith in rw z at (sym (still (rw add-one at e) (64 - d)))

  -- what follows two members under label 0, from the table's entries, is added
  pub grows : Shaped p.shape → {s r t : ℕ} → s ≡ grown low p d → r < 2 ^ 64
      → ((q : ℕ) → mem q r ≡ any (hit_set (entry p.shape low p.table1) 0 (bit_and p.wx p.look1) s s q) 64)
      → ((q : ℕ) → mem q t ≡ (mem q s || mem q r)) → t ≡ grown low p (d + 1)
  unfolding closing exists_code choice through hit seen entry place_in
  grows sh {s} {r} {t} is h follows all =
      let e = entry p.shape low p.table1 in
      let z : seen p.look1 0 ≡ 0 = omega (arith, seen_le p.look1 0) in
      let f : ℕ → ℕ → Bool = λ q m. choice (λ (is : List ℕ). eqb (e m is % 64) q || eqb (e (bit_and p.wx p.look1) is % 64) q) (s ∷ s ∷ []) in
      rw (add-one, ← is, sh.branches, off_zero p.wx, on_zero p.wx) (mem_ext t (bit_or s r) (λ q. all q ∙ sym (mem_or q s r)) ∙ ap (bit_or s)
      (word_ext 64 r (λ (q : ℕ). f q (seen p.look1 0)) h (λ q l. follows q ∙ ap (f q) (sym z))))

-- the set holds states of the part only
pub closing-below : (low : List ℕ) (p : Plan) (n : ℕ) → Shaped p.shape → Inside low p n → (d : ℕ)
    → Below n (closing p.shape.branches (first_step low p) p.wx d 1)
unfolding through
closing-below low p n h i d =
    let f = first_step low p in
    (closing_same (labels_in p.shape) n p.shape.branches f f (omega arith) (λ l is hl t. (refl, i.stays l is hl t)) p.wx i.bit i.some-state d).1
