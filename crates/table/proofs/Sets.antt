-- The sets of "exists" from two steps that agree on the states below n: they are the same, and hold such states only. Assumes nothing.
use Rattle.words.proofs.Vocabulary.{ℕ, ◌≤◌, ◌<◌, suc, ◌%◌, zero, Bool, true, ◌||◌, ◌&&◌, ◌≡◌, ◌∙◌, refl, sym, ap, ap₂, ⊎_elim, eqb-true, bit_or, eqb}
use Rattle.words.proofs.Vocabulary.{List, [], ◌∷◌, length, replicate, arith}
use lib.ListN.{length-replicate}
use Rattle.layout.specs.Shape.{Each, Tuple}
use Rattle.layout.proofs.Places.{each_head, each_tail, each-replicate}
use Rattle.words.specs.Word.{Below, mem}
use Rattle.words.proofs.Any.{or_cases, and_both, and_cong, any_cong, any_in, any-true}
use Rattle.words.proofs.WordLaws.{word-mem, mem-one, mem_or, word_cong}
use Rattle.table.specs.Entry.{Step, off, on, Bit}
use Rattle.table.specs.Succ.{hit, choice, exists_code, closer, closing}

-- the list has one member of each set
pub data Picks : List ℕ → List ℕ → Type 0 where
  nil : Picks [] []
  cons : {i x : ℕ} {is xs : List ℕ} → i < 64 → mem i x ≡ true → Picks is xs → Picks (i ∷ is) (x ∷ xs)

pub choice-true : (test : List ℕ → Bool) (xs : List ℕ) → choice test xs ≡ true → (is : List ℕ) × Picks is xs × (test is ≡ true)
unfolding choice
choice-true test [] e = ([], nil, e)
choice-true test (x ∷ xs) e =
    let i = any-true (λ (i : ℕ). mem i x && choice (λ (is : List ℕ). test (i ∷ is)) xs) 64 e in
    let b = and_both (mem i.0 x) (choice (λ (is : List ℕ). test (i.0 ∷ is)) xs) i.2 in
    let r = choice-true (λ (is : List ℕ). test (i.0 ∷ is)) xs b.1 in
    (i.0 ∷ r.0, cons i.1 b.0 r.1, r.2)

pub choice_in : (test : List ℕ → Bool) {is xs : List ℕ} → Picks is xs → test is ≡ true → choice test xs ≡ true
unfolding choice
choice_in test nil t = t
choice_in test (cons {i} {x} {is} {xs} h m p) t =
    any_in (λ (i : ℕ). mem i x && choice (λ (is : List ℕ). test (i ∷ is)) xs) 64 i h (rw m (choice_in (λ (is : List ℕ). test (i ∷ is)) p t))

choice_cong : (f g : List ℕ → Bool) (xs : List ℕ) → ((is : List ℕ) → Picks is xs → f is ≡ g is) → choice f xs ≡ choice g xs
unfolding choice
choice_cong f g [] h = h [] nil
choice_cong f g (x ∷ xs) h =
    any_cong (λ (i : ℕ). mem i x && choice (λ (is : List ℕ). f (i ∷ is)) xs) (λ (i : ℕ). mem i x && choice (λ (is : List ℕ). g (i ∷ is)) xs) 64 λ i l.
    and_cong (mem i x) _ _ λ m. choice_cong (λ (is : List ℕ). f (i ∷ is)) (λ (is : List ℕ). g (i ∷ is)) xs (λ is p. h (i ∷ is) (cons l m p))

pub picks_below : {is xs : List ℕ} (n : ℕ) → Picks is xs → Each (Below n) xs → Tuple (length xs) n is
picks_below n nil e = record { long = refl; below = Each.nil }
picks_below n (cons {i} h m p) e =
    let t = picks_below n p (each_tail e) in
    record { long = ap suc t.long; below = Each.cons (each_head e i h m) t.below }

-- e and f agree on the states below n
module _ (labels n k : ℕ) (e f : Step) (few : n ≤ 64) (same : (l : ℕ) (is : List ℕ) → l < labels → Tuple k n is → (e l is ≡ f l is) × (f l is < n)) where
  module _ (w : ℕ) (bit : Bit w labels) (l : ℕ) (xs : List ℕ) (hl : l < labels) (long : length xs ≡ k) (below : Each (Below n) xs) where
    agree : (is : List ℕ) → Picks is xs
        → ((e (off w l) is ≡ f (off w l) is) × (f (off w l) is < n)) × ((e (on w l) is ≡ f (on w l) is) × (f (on w l) is < n))
    agree is p =
        let t = rw long at (picks_below n p below) in
        (same (off w l) is (bit.off-label l hl) t, same (on w l) is (bit.on_label l hl) t)

    pub exists_cong : exists_code e w l xs ≡ exists_code f w l xs
    unfolding exists_code hit
    exists_cong =
        word_cong (λ (q : ℕ). choice (hit e (off w l) (on w l) q) xs) (λ (q : ℕ). choice (hit f (off w l) (on w l) q) xs) 64 λ q.
        choice_cong (hit e (off w l) (on w l) q) (hit f (off w l) (on w l) q) xs λ is p.
        ap₂ (λ (a b : ℕ). eqb (a % 64) q || eqb (b % 64) q) (agree is p).0.0 (agree is p).1.0

    pub exists_below : Below n (exists_code f w l xs)
    unfolding exists_code hit
    exists_below q hq t =
        let r = choice-true (hit f (off w l) (on w l) q) xs (sym (word-mem 64 q (λ (q : ℕ). choice (hit f (off w l) (on w l) q) xs) hq) ∙ t) in
        let s = agree r.0 r.1 in
        ⊎_elim
        (λ (a : eqb (f (off w l) r.0 % 64) q ≡ true). omega (arith, eqb-true (f (off w l) r.0 % 64) q a))
        (λ (b : eqb (f (on w l) r.0 % 64) q ≡ true). omega (arith, eqb-true (f (on w l) r.0 % 64) q b))
        (or_cases (eqb (f (off w l) r.0 % 64) q) (eqb (f (on w l) r.0 % 64) q) r.2)

  -- the start of "exists" is the same, and holds states only
  pub closing_same : (w : ℕ) → Bit w labels → 0 < n → (d : ℕ) → (closing k e w d 1 ≡ closing k f w d 1) × Below n (closing k f w d 1)
  unfolding closing
  closing_same w bit h zero = (refl, λ q hq m. omega (arith, eqb-true 0 q (sym (mem-one q 0) ∙ m)))
  closing_same w bit h (suc d) =
      let ih = closing_same w bit h d in
      let s = closing k f w d 1 in
      let xs = replicate k s in
      let hl : 0 < labels = omega arith in
      let long = length-replicate k s in
      let below : Each (Below n) xs = each-replicate k s ih.1 in (
        ap (closer k e w) ih.0 ∙ ap (bit_or s) (exists_cong w bit 0 xs hl long below),
        λ q hq m. ⊎_elim (λ (h : mem q s ≡ true). ih.1 q hq h) (λ (h : mem q (exists_code f w 0 xs) ≡ true). exists_below w bit 0 xs hl long below q hq h)
            (or_cases (mem q s) (mem q (exists_code f w 0 xs)) (sym (mem_or q s (exists_code f w 0 xs)) ∙ m)),
      )
