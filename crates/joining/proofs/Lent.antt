-- A part of a list, lent and put back. Assumes nothing.
use Rattle.words.proofs.Vocabulary.{ℕ, ◌≤◌, ◌<◌, ◌+◌, ◌-◌, ◌≡◌, ◌∙◌, sym, ap, List, ◌++◌, length, get_or, take, drop, replicate, dec_lt, arith}
use Rattle.words.proofs.Vocabulary.{length-take-le, List·getD-append, get_or-take, get_or-drop, length-drop, length-append}
use lib.ListN.{get_or-replicate, length-replicate}
use lib.Seq.{get_or-append-add}
use Rattle.joining.specs.Rewriting.{RowWritten}

module _ (a k : ℕ) (xs ys : List ℕ) (h : a + k ≤ length xs) where
  pub mid_at : (q : ℕ) → q < k → get_or (take k (drop a xs)) q 0 ≡ get_or xs (a + q) 0
  mid_at q b = get_or-take k (drop a xs) q 0 b ∙ get_or-drop a xs q 0

  pub put_low : (q : ℕ) → q < a → get_or (take a xs ++ (ys ++ drop k (drop a xs))) q 0 ≡ get_or xs q 0
  put_low q b = List·getD-append (take a xs) (ys ++ drop k (drop a xs)) 0 q (omega (arith, length-take-le a xs (omega arith))) ∙ get_or-take a xs q 0 b

  pub put_mid : length ys ≡ k → (q : ℕ) → q < k → get_or (take a xs ++ (ys ++ drop k (drop a xs))) (a + q) 0 ≡ get_or ys q 0
  put_mid e q b =
      ap (λ (z : ℕ). get_or (take a xs ++ (ys ++ drop k (drop a xs))) (z + q) 0) (sym (length-take-le a xs (omega arith)))
      ∙ get_or-append-add (take a xs) (ys ++ drop k (drop a xs)) q 0 ∙ List·getD-append ys (drop k (drop a xs)) 0 q (omega arith)

  pub put_high : length ys ≡ k → (q : ℕ) → a + k ≤ q → get_or (take a xs ++ (ys ++ drop k (drop a xs))) q 0 ≡ get_or xs q 0
  put_high e q b =
      let r : ℕ = q - (a + k) in
      let z : q ≡ length (take a xs) + (length ys + r) = omega (arith, length-take-le a xs (omega arith)) in
      let y : a + (k + r) ≡ q = omega arith in
      ap (λ (z : ℕ). get_or (take a xs ++ (ys ++ drop k (drop a xs))) z 0) z
      ∙ get_or-append-add (take a xs) (ys ++ drop k (drop a xs)) (length ys + r) 0 ∙ get_or-append-add ys (drop k (drop a xs)) r 0
      ∙ get_or-drop k (drop a xs) r 0 ∙ get_or-drop a xs (k + r) 0 ∙ ap (λ (z : ℕ). get_or xs z 0) y

  put-long : length ys ≡ k → length (take a xs ++ (ys ++ drop k (drop a xs))) ≡ length xs
  put-long e =
      omega (
        arith,
        length-append (take a xs) (ys ++ drop k (drop a xs)),
        length-append ys (drop k (drop a xs)),
        length-take-le a xs (omega arith),
        length-drop k (drop a xs),
        length-drop a xs,
      )

  -- the part, of n bytes, filled with zeros
  pub put_zeros : (n : ℕ) → k ≡ n → ys ≡ replicate (length (take k (drop a xs))) 0 → RowWritten (λ d. 0) a n xs (take a xs ++ (ys ++ drop k (drop a xs)))
  put_zeros n same z =
      let l : length (take k (drop a xs)) ≡ n = length-take-le k (drop a xs) (omega (arith, length-drop a xs)) ∙ same in
      let y : ys ≡ replicate n 0 = z ∙ ap (λ (m : ℕ). replicate {A = ℕ} m 0) l in
      let e : length ys ≡ k = ap length y ∙ length-replicate n 0 ∙ sym same in
      record {
        long = put-long e;
        entries = λ d b. put_mid e d (omega arith) ∙ ap (λ (l : List ℕ). get_or l d 0) y ∙ get_or-replicate n d 0 0 b;
        rest = λ q o. elim (dec_lt q a) [
          | yes l ↦ put_low q l
          | no l ↦ elim (dec_lt q (a + k)) [ yes b ↦ absurd (o (omega arith) (omega arith)) | no b ↦ put_high e q (omega arith) ]
        ];
      }
