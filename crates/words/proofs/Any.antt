-- Laws of `any` and of the Bools that it joins. Assumes nothing.
use Rattle.words.proofs.Vocabulary.{ℕ, ◌<◌, suc, zero, Bool, ◌||◌, true, false, ◌&&◌, or-true, ◌≡◌, ◌∙◌, refl, sym, ap₂, ⊎_elim, inl, inr, ◌⊎◌, eq-eqb}
use Rattle.words.proofs.Vocabulary.{eqb-true, eqb, le_of_suc-le-suc, not-suc-le-zero, eq-or-lt_of_le, arith}
use Rattle.words.specs.Word.{any}

pub or_cases : (a b : Bool) → (a || b) ≡ true → (a ≡ true) ⊎ (b ≡ true)
or_cases true b e = inl refl
or_cases false b e = inr e

pub and_both : (a b : Bool) → (a && b) ≡ true → (a ≡ true) × (b ≡ true)
and_both true b e = (refl, e)
and_both false b e = let z : ◌≡◌ {A = ℕ} 0 1 = cc in absurd (omega arith)

pub and_cong : (a b c : Bool) → (a ≡ true → b ≡ c) → (a && b) ≡ (a && c)
and_cong true b c h = h refl
and_cong false b c h = refl

-- two Bools are one where each is true if the other is
pub bool_ext : (a b : Bool) → (a ≡ true → b ≡ true) → (b ≡ true → a ≡ true) → a ≡ b
bool_ext true b f g = sym (f refl)
bool_ext false true f g = g refl
bool_ext false false f g = refl

-- the same tests
pub any_cong : (f g : ℕ → Bool) (n : ℕ) → ((i : ℕ) → i < n → f i ≡ g i) → any f n ≡ any g n
unfolding any
any_cong f g zero h = refl
any_cong f g (suc n) h = ap₂ ◌||◌ (any_cong f g n (λ i l. h i (omega arith))) (h n (omega arith))

-- one that passes
pub any-true : (f : ℕ → Bool) (n : ℕ) → any f n ≡ true → (i : ℕ) × (i < n) × (f i ≡ true)
unfolding any
any-true f zero e = let z : ◌≡◌ {A = ℕ} 0 1 = cc in absurd (omega arith)
any-true f (suc n) e =
    ⊎_elim (λ (a : any f n ≡ true). let r = any-true f n a in (r.0, omega (arith, r.1), r.2)) (λ (b : f n ≡ true). (n, omega arith, b))
    (or_cases (any f n) (f n) e)

pub any_in : (f : ℕ → Bool) (n i : ℕ) → i < n → f i ≡ true → any f n ≡ true
unfolding any
any_in f zero i h t = absurd (not-suc-le-zero h)
any_in f (suc n) i h t =
    ⊎_elim (λ (e : i ≡ n). rw (← e, t, or-true)) (λ (l : i < n). rw (any_in f n i l t)) (eq-or-lt_of_le (le_of_suc-le-suc h))

-- none that passes
pub any_none : (f : ℕ → Bool) (n : ℕ) → ((q : ℕ) → q < n → f q ≡ false) → any f n ≡ false
unfolding any
any_none f zero h = refl
any_none f (suc n) h = rw (any_none f n (λ q l. h q (omega arith)), h n (omega arith))

-- the test is passed by i alone, or one of two tests is passed
pub any-first : (i n : ℕ) (f g h : ℕ → Bool) → i < n → ((t : ℕ) → f t ≡ (eqb i t || g t))
    → any (λ (t : ℕ). f t && h t) n ≡ (h i || any (λ (t : ℕ). g t && h t) n)
any-first i n f g h l e = bool_ext (any both n) (h i || any rest n) there back
  where
    both : ℕ → Bool
    both t = f t && h t

    rest : ℕ → Bool
    rest t = g t && h t

    there : any both n ≡ true → (h i || any rest n) ≡ true
    there a =
        let r = any-true both n a in
        let b = and_both (f r.0) (h r.0) r.2 in
        ⊎_elim
        (λ (p : eqb i r.0 ≡ true). rw (eqb-true i r.0 p, b.1))
        (λ (p : g r.0 ≡ true). rw (any_in rest n r.0 r.1 (ap₂ ◌&&◌ p b.1), or-true))
        (or_cases (eqb i r.0) (g r.0) (sym (e r.0) ∙ b.0))

    back : (h i || any rest n) ≡ true → any both n ≡ true
    back a =
        ⊎_elim
        (λ (p : h i ≡ true). any_in both n i l (rw (e i, eq-eqb i i refl) p))
        (λ (p : any rest n ≡ true).
        let r = any-true rest n p in
        let b = and_both (g r.0) (h r.0) r.2 in
        any_in both n r.0 r.1 (rw (e r.0, b.0, or-true) b.1))
        (or_cases (h i) (any rest n) a)

-- two walks may change places
swapped : (n m : ℕ) (f g : ℕ → Bool) (h : ℕ → ℕ → Bool)
    → any (λ (i : ℕ). f i && any (λ (j : ℕ). g j && h i j) m) n ≡ true → any (λ (j : ℕ). g j && any (λ (i : ℕ). f i && h i j) n) m ≡ true
swapped n m f g h a =
    let i = any-true (λ (i : ℕ). f i && any (λ (j : ℕ). g j && h i j) m) n a in
    let p = and_both (f i.0) (any (λ (j : ℕ). g j && h i.0 j) m) i.2 in
    let j = any-true (λ (j : ℕ). g j && h i.0 j) m p.1 in
    let q = and_both (g j.0) (h i.0 j.0) j.2 in
    any_in (λ (j : ℕ). g j && any (λ (i : ℕ). f i && h i j) n) m j.0 j.1
    (ap₂ ◌&&◌ q.0 (any_in (λ (i : ℕ). f i && h i j.0) n i.0 i.1 (ap₂ ◌&&◌ p.0 q.1)))

pub any_swap : (n m : ℕ) (f g : ℕ → Bool) (h : ℕ → ℕ → Bool)
    → any (λ (i : ℕ). f i && any (λ (j : ℕ). g j && h i j) m) n ≡ any (λ (j : ℕ). g j && any (λ (i : ℕ). f i && h i j) n) m
any_swap n m f g h = bool_ext _ _ (swapped n m f g h) (swapped m n g f (λ j i. h i j))
