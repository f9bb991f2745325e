-- The builder's machine of "exists", over sets as words, runs the sets of its part's states. Assumes nothing.
use Rattle.words.proofs.Vocabulary.{ℕ, ◌≤◌, ◌<◌, ◌+◌, ◌-◌, suc, ◌%◌, zero, ◌^◌, Bool, true, false, ◌||◌, ◌&&◌, cond, or-true, ◌≡◌, ◌∙◌, refl, sym, ap}
use Rattle.words.proofs.Vocabulary.{subst, ap₂, ⊎_elim, ◌↔◌, List, [], ◌∷◌, eq-eqb, eqb-true, or_lt, eqb, T, length, add-suc, suc-add, zero-add, arith}
use Rattle.layout.specs.Shape.{Each, Tuple}
use Rattle.layout.proofs.Places.{two_of, pair-of}
use Rattle.logic.specs.Meaning.{Branch, Formula, exists, Valid}
use Rattle.logic.specs.Machine.{Machine, with_bit, Blank, none, grown, Projects, Bounded}
use Rattle.logic.specs.Reach.{elem, successors, add, closure, reach}
use Rattle.logic.specs.Alike.{ConstructedOf, JoinedOf}
use Rattle.logic.specs.Two.{one, two, pair_of, branching}
use Rattle.logic.proofs.Bits.{put_lt}
use Rattle.logic.proofs.Places.{T→true, true→T}
use Rattle.logic.proofs.Reach.{elem-cons, successors_iff}
use Rattle.logic.proofs.Rounds.{elem-add, reach-all}
use Rattle.logic.proofs.Projection.{one_of, of_blank, blank_bound}
use Rattle.logic.proofs.Two.{each}
use Rattle.logic.proofs.Builders.{of_exists}
use Rattle.table.specs.Entry.{Bit, Step, off, on}
use Rattle.words.specs.Word.{Below, mem, any}
use Rattle.table.specs.Succ.{hit, choice, exists_code, closing, exists_start}
use Rattle.words.proofs.Any.{or_cases, and_both, bool_ext, any-true, any_in}
use Rattle.table.proofs.Sets.{Picks, nil, cons, choice-true, choice_in, exists_below, closing_same}
use Rattle.table.proofs.Labels.{bit_of}
use Rattle.words.proofs.WordLaws.{mem-one, mem_or, word-mem, word_lt, word_ext}
use Rattle.records.specs.Decode.{bit_weight}
use Rattle.refinement.proofs.Weights.{put-off, put_on}

-- over the part's machine, of m states
module _ (n x m : ℕ) (hx : x < n) (f : Step) (a : ℕ) (top : m ≤ 64) (B : Bounded n m (branching 0 f (λ q. mem q a))) where
  abbrev M : Machine 2 ℕ
  M = branching 0 f (λ q. mem q a)

  abbrev w : ℕ
  w = bit_weight n x

  abbrev E : Machine 2 ℕ
  E = branching (exists_start 2 f w) (exists_code f w) (λ s. any (λ (q : ℕ). mem q s && mem q a) 64)

  -- a state of E is a word whose members are M's states
  pub record Ok (s : ℕ) : Type 0 where
    pub word : s < 2 ^ 64
    pub below : Below m s

  abbrev Has : ℕ → ℕ → Type 0
  Has s q = (q < m) × (mem q s ≡ true)

  bit : Bit w (2 ^ n)
  bit = bit_of n (n - suc x) (omega arith)

  stays : (l : ℕ) (is : List ℕ) → l < 2 ^ n → Tuple 2 m is → f l is < m
  stays l is hl = pair-of (λ (is : List ℕ). f l is < m) (λ i j hi hj. B.1 l hl (pair_of i j) (each (λ b. pair_of i j b < m) hi hj)) is

  same : (l : ℕ) (is : List ℕ) → l < 2 ^ n → Tuple 2 m is → (f l is ≡ f l is) × (f l is < m)
  same l is h t = (refl, stays l is h t)

  -- ---- a node: what follows members, with the bound bit cleared or set
  abbrev meets : ℕ → ℕ → List ℕ → Bool
  meets l q is = hit f (off w l) (on w l) q is

  code-mem : (l q : ℕ) (xs : List ℕ) → q < m → mem q (exists_code f w l xs) ≡ choice (meets l q) xs
  unfolding exists_code
  code-mem l q xs h = word-mem 64 q (λ (q : ℕ). choice (meets l q) xs) (omega arith)

  code-word : (l : ℕ) (xs : List ℕ) → exists_code f w l xs < 2 ^ 64
  unfolding exists_code
  code-word l xs = word_lt 64 (λ (q : ℕ). choice (meets l q) xs)

  module _ (l : ℕ) (hl : l < 2 ^ n) where
    meets-only : (q : ℕ) (is : List ℕ) → Tuple 2 m is → meets l q is ≡ true → (v : Bool) × (f (with_bit n x v l) is ≡ q)
    unfolding hit
    meets-only q is t e =
        ⊎_elim
        (λ (p : eqb (f (off w l) is % 64) q ≡ true).
        (false, rw (put-off n x l) (omega (arith, stays (off w l) is (bit.off-label l hl) t, eqb-true (f (off w l) is % 64) q p))))
        (λ (p : eqb (f (on w l) is % 64) q ≡ true).
        (true, rw (put_on n x l) (omega (arith, stays (on w l) is (bit.on_label l hl) t, eqb-true (f (on w l) is % 64) q p))))
        (or_cases (eqb (f (off w l) is % 64) q) (eqb (f (on w l) is % 64) q) e)

    meets-all : (v : Bool) (is : List ℕ) → Tuple 2 m is → meets l (f (with_bit n x v l) is) is ≡ true
    unfolding hit
    meets-all false is t =
        let e : f (off w l) is % 64 ≡ f (off w l) is = omega (arith, stays (off w l) is (bit.off-label l hl) t) in
        rw (put-off n x l, e, eq-eqb (f (off w l) is) (f (off w l) is) refl)
    meets-all true is t =
        let e : f (on w l) is % 64 ≡ f (on w l) is = omega (arith, stays (on w l) is (bit.on_label l hl) t) in
        rw (put_on n x l, e, eq-eqb (f (on w l) is) (f (on w l) is) refl, or-true)

    module _ (s : Branch 2 → ℕ) (u : (b : Branch 2) → Ok (s b)) where
      step-only : (q : ℕ) → Has (E.step l s) q
          → (v : Bool) × (r : Branch 2 → ℕ) × ((b : Branch 2) → Has (s b) (r b)) × (M.step (with_bit n x v l) r ≡ q)
      step-only q h =
          let z = choice-true (meets l q) (s one ∷ s two ∷ []) (sym (code-mem l q (s one ∷ s two ∷ []) h.0) ∙ h.1) in
          go z.0 z.1 z.2
        where
          go : (is : List ℕ) → Picks is (s one ∷ s two ∷ []) → meets l q is ≡ true
              → (v : Bool) × (r : Branch 2 → ℕ) × ((b : Branch 2) → Has (s b) (r b)) × (M.step (with_bit n x v l) r ≡ q)
          go is (cons {i} hi mi (cons {i = j} hj mj nil)) e =
              let a = (u one).below i hi mi in
              let b = (u two).below j hj mj in
              let v = meets-only q (i ∷ j ∷ []) (two_of a b) e in
              (v.0, pair_of i j, each (λ c. Has (s c) (pair_of i j c)) (a, mi) (b, mj), v.1)

      step-all : (v : Bool) (r : Branch 2 → ℕ) → ((b : Branch 2) → Has (s b) (r b)) → Has (E.step l s) (M.step (with_bit n x v l) r)
      step-all v r e =
          let is = r one ∷ r two ∷ [] in
          let t : Tuple 2 m is = two_of (e one).0 (e two).0 in
          let h = stays (with_bit n x v l) is (put_lt n x v l hx hl) t in (
            h,
            code-mem l (f (with_bit n x v l) is) (s one ∷ s two ∷ []) h
                ∙ choice_in (meets l (f (with_bit n x v l) is)) (cons (omega (arith, (e one).0)) (e one).1 (cons (omega (arith, (e two).0)) (e two).1 nil))
                (meets-all v is t),
          )

  -- ---- the start
  abbrev grows : ℕ → ℕ
  grows d = closing 2 f w d 1

  some-label : 0 < 2 ^ n
  some-label = omega (arith, bit.is_label)

  grows-word : (d : ℕ) → grows d < 2 ^ 64
  unfolding closing
  grows-word zero = omega arith
  grows-word (suc d) = or_lt 64 (grows d) (exists_code f w 0 (grows d ∷ grows d ∷ [])) (grows-word d) (code-word 0 (grows d ∷ grows d ∷ []))

  grows_ok : (d : ℕ) → Ok (grows d)
  grows_ok d = record { word = grows-word d; below = (closing_same (2 ^ n) m 2 f f top same w bit B.0 d).1 }

  grows_blank : (d q : ℕ) → Has (grows d) q → Blank n x M q
  unfolding closing
  grows_blank zero q h = subst (Blank n x M) (eqb-true 0 q (sym (mem-one q 0) ∙ h.1)) none
  grows_blank (suc d) q h =
      let s : ℕ = closing 2 f w d 1 in
      let t : ℕ = exists_code f w 0 (s ∷ s ∷ []) in
      ⊎_elim
      (λ (e : mem q s ≡ true). grows_blank d q (h.0, e))
      (λ (e : mem q t ≡ true).
      let z = step-only 0 some-label (λ b. s) (λ b. grows_ok d) q (h.0, e) in
      subst (Blank n x M) z.3 (grown z.0 z.1 (λ b. grows_blank d (z.1 b) (z.2 b))))
      (or_cases (mem q s) (mem q t) (sym (mem_or q s t) ∙ h.1))

  grows-keep : (e d q : ℕ) → Has (grows d) q → Has (grows (e + d)) q
  unfolding closing
  grows-keep zero d q h = rw zero-add h
  grows-keep (suc e) d q h =
      let s : ℕ = closing 2 f w (e + d) 1 in
      let z = grows-keep e d q h in
      rw suc-add (z.0, mem_or q s (exists_code f w 0 (s ∷ s ∷ [])) ∙ ap (λ (u : Bool). u || mem q (exists_code f w 0 (s ∷ s ∷ []))) z.1)

  grows-step : (d : ℕ) (v : Bool) (r : Branch 2 → ℕ) → ((b : Branch 2) → Has (grows d) (r b)) → Has (grows (suc d)) (M.step (with_bit n x v 0) r)
  unfolding closing
  grows-step d v r h =
      let s : ℕ = closing 2 f w d 1 in
      let q : ℕ = M.step (with_bit n x v 0) r in
      let z = step-all 0 some-label (λ b. s) (λ b. grows_ok d) v r h in
      (z.0, mem_or q s (exists_code f w 0 (s ∷ s ∷ [])) ∙ ap (λ (u : Bool). mem q s || u) z.1 ∙ or-true (mem q s))

  abbrev blanks : List ℕ
  blanks = with_bit n x false 0 ∷ with_bit n x true 0 ∷ []

  abbrev next : List ℕ → List ℕ
  next L = successors M blanks (λ b. L)

  -- what the logic's rounds find is there after as many times
  rounds_in : (d : ℕ) (L : List ℕ) (e : ℕ) → ((q : ℕ) → T (elem q L) → Has (grows e) q) → (q : ℕ) → T (elem q (closure next d L)) → Has (grows (d + e)) q
  unfolding closure
  rounds_in zero L e h q t = rw zero-add (h q t)
  rounds_in (suc d) L e h q t = rw suc-add (go (eqb (length (add (next L) L)) (length L)) t (rw add-suc at (rounds_in d (add (next L) L) (suc e) found q)))
    where
      found : (q : ℕ) → T (elem q (add (next L) L)) → Has (grows (suc e)) q
      found q t =
          ⊎_elim
          (λ u.
          let z = (successors_iff M blanks (λ b. L) q).0 u in
          let v = one_of n x 0 z.0 z.1 in
          subst (Has (grows (suc e))) (ap (λ (k : ℕ). M.step k z.2) (sym v.1) ∙ z.4) (grows-step e v.0 z.2 (λ b. h (z.2 b) (z.3 b))))
          (λ u. rw (suc-add, zero-add) at (grows-keep 1 e q (h q u)))
          ((elem-add q (next L) L).0 t)

      go : (v : Bool) → T (elem q (cond v L (closure next d (add (next L) L)))) → (T (elem q (closure next d (add (next L) L))) → Has (grows (suc (d + e))) q)
          → Has (grows (suc (d + e))) q
      go true t later = rw suc-add at (grows-keep (suc d) e q (h q t))
      go false t later = later t

  start-all : (q : ℕ) → Blank n x M q → Has (exists_start 2 f w) q
  unfolding exists_start reach elem closing
  start-all q b =
      rounds_in 64 (0 ∷ []) 0
      (λ r u. ⊎_elim (λ z. subst (Has 1) (sym z) (B.0, mem-one 0 0 ∙ eq-eqb 0 0 refl)) (λ z. absurd z) ((elem-cons r 0 []).0 u)) q
      (reach-all M blanks 64 (λ r z. omega (arith, blank_bound n x m hx M B r z)) q (of_blank n x m hx M B q b))

  -- ---- so it projects
  projects : Projects n x M E Ok Has
  unfolding exists_start
  projects = record {
    start_ok = grows_ok 64;
    step_ok = λ l h s u. record {
      word = code-word l (s one ∷ s two ∷ []);
      below = exists_below (2 ^ n) m 2 f f top same w bit l (s one ∷ s two ∷ []) h refl (Each.cons (u one).below (Each.cons (u two).below Each.nil));
    };
    start-only = grows_blank 64;
    start-all = start-all;
    step-only = step-only;
    step-all = step-all;
    accepts-only = λ s u t.
        let i = any-true (λ (q : ℕ). mem q s && mem q a) 64 (T→true _ t) in
        let b = and_both (mem i.0 s) (mem i.0 a) i.2 in
        (i.0, (u.below i.0 i.1 b.0, b.0), true→T b.1);
    accepts-all = λ s u q h t. true→T (any_in (λ (q : ℕ). mem q s && mem q a) 64 q (omega (arith, h.0)) (ap₂ ◌&&◌ h.1 (T→true (mem q a) t)));
  }

  -- words with the same members are the same
  same_set : (s s' : ℕ) → Ok s → Ok s' → ((q : ℕ) → Has s q ↔ Has s' q) → s ≡ s'
  same_set s s' o o' h =
      word_ext 64 s (λ (q : ℕ). mem q s') o.word (λ q l. bool_ext (mem q s) (mem q s')
      (λ e. ((h q).0 (o.below q l e, e)).1) (λ e. ((h q).1 (o'.below q l e, e)).1))
      ∙ sym (word_ext 64 s' (λ (q : ℕ). mem q s') o'.word (λ q l. refl))

  pub of_sets : (F : Formula 2) → Valid n F → JoinedOf n F M → ConstructedOf n (exists x F) E
  of_sets F vf o = of_exists n x hx F vf M E o Ok Has projects same_set
