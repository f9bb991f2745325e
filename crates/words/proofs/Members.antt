-- A word's members: the smallest, the word without one, and the walk through them all. Assumes nothing.
use Rattle.words.proofs.Vocabulary.{ℕ, ◌≤◌, ◌<◌, ◌+◌, ◌-◌, ◌*◌, suc, ◌%◌, zero, ◌^◌, ◌/◌, Bool, ◌||◌, true, false, ◌&&◌, not, or-true, or_assoc}
use Rattle.words.proofs.Vocabulary.{or-false, and-false, ◌≡◌, ◌∙◌, sym, ap, eq-eqb, eqb-true, le-ltb, lt-ltb, ne_eqb, bit_or, and_le_l, bit_and, ones}
use Rattle.words.proofs.Vocabulary.{count_trailing_zeros, ones_step, ones_in, eqb, ltb, eqb·suc-suc, eqb·suc-zero, eqb·zero-suc, pow-lt, dec_lt, ℕ_discrete}
use Rattle.words.proofs.Vocabulary.{pow-suc, arith}
use Rattle.words.specs.Word.{Below, mem, any, Smallest, Without}
use Rattle.words.proofs.Any.{any_in, any_none, any-first}
use Rattle.words.proofs.WordLaws.{mem-zero, mem_shr, mem_or, mem-one, lowest, mem_and}

pub shl_one : (e : ℕ) → e < 64 → 1 * 2 ^ e % 18446744073709551616 ≡ 2 ^ e
shl_one e h = let l : 2 ^ e < 2 ^ 64 = pow-lt h in omega arith

pub smallest_law : (x : ℕ) → 0 < x → x < 2 ^ 64 → Smallest x (count_trailing_zeros 64 x)
smallest_law x p h = let z = lowest 64 x p h in record { top = z.0; is = z.1; below = z.2 }

odd : (x : ℕ) → mem 0 x ≡ true → x % 2 ≡ 1
unfolding mem
odd x h = eqb-true (x % 2) 1 h

-- a member's digit is part of the word
pub member_le : (q x : ℕ) → mem q x ≡ true → 2 ^ q ≤ x
unfolding mem
member_le zero x h = omega (arith, odd x h)
member_le (suc q) x h = omega (arith, pow-suc 2 q, member_le q (x / 2) h)

-- the halves of a word and of the word without a member
half : (q x : ℕ) → mem (suc q) x ≡ true → ((x - 2 ^ suc q) / 2 ≡ x / 2 - 2 ^ q) × ((x - 2 ^ suc q) % 2 ≡ x % 2)
half q x h = (omega (arith, pow-suc 2 q, member_le (suc q) x h), omega (arith, pow-suc 2 q, member_le (suc q) x h))

pub less-mem : (q x : ℕ) → mem q x ≡ true → (t : ℕ) → mem t x ≡ (eqb q t || mem t (x - 2 ^ q))
unfolding mem
less-mem zero x h zero = h
less-mem zero x h (suc t) = let e : (x - 1) / 2 ≡ x / 2 = omega (arith, odd x h) in rw (eqb·zero-suc t, e)
less-mem (suc q) x h zero = rw (eqb·suc-zero q, (half q x h).1)
less-mem (suc q) x h (suc t) = rw (eqb·suc-suc q t, (half q x h).0) (less-mem q (x / 2) h t)

pub less-size : (q x : ℕ) → mem q x ≡ true → ones x ≡ ones (x - 2 ^ q) + 1
unfolding mem
less-size zero x h =
    let e : (x - 1) / 2 ≡ x / 2 = omega (arith, odd x h) in
    let d : (x - 1) % 2 ≡ 0 = omega (arith, odd x h) in
    omega (arith, ones_step x, ones_step (x - 1), odd x h, ap ones e)
less-size (suc q) x h =
    let d = half q x h in
    omega (arith, ones_step x, ones_step (x - 2 ^ suc q), less-size q (x / 2) h, ap ones d.0)

pub without-law : (x q : ℕ) → q < 64 → mem q x ≡ true → Without x q (x - 1 * 2 ^ q % 18446744073709551616)
without-law x q h m = rw (shl_one q h) (record { same = less-mem q x m; less = less-size q x m })

-- a set of size 0 has no member
pub none_in : (q x : ℕ) → ones x ≡ 0 → mem q x ≡ false
unfolding mem
none_in zero x e = let d : x % 2 ≡ 0 = omega (arith, ones_step x) in rw d
none_in (suc q) x e = none_in q (x / 2) (omega (arith, ones_step x))

pub some_in : (x : ℕ) → 0 < ones x → 0 < x
unfolding ones ones_in
some_in zero h = absurd (omega arith)
some_in (suc x) h = omega arith

-- a walk through the members of a set: `rest` is left of it, and r has what passes the test g with a member that is gone
pub record Walk (set rest r : ℕ) (g : ℕ → ℕ → Bool) : Type 0 where
  pub whole : (q : ℕ) → any (λ (t : ℕ). mem t set && g q t) 64 ≡ (mem q r || any (λ (t : ℕ). mem t rest && g q t) 64)

pub walk_first : {set rest : ℕ} {g : ℕ → ℕ → Bool} → rest ≡ set → Walk set rest 0 g
walk_first e = record { whole = λ q. rw (mem-zero q, e) }

pub walk-next : {set rest r i rest' r' : ℕ} {g : ℕ → ℕ → Bool} → Walk set rest r g → i < 64 → Without rest i rest'
    → ((q : ℕ) → mem q r' ≡ (mem q r || g q i)) → Walk set rest' r' g
walk-next {rest = rest} {i = i} {rest' = rest'} {g = g} w l o e = record {
  whole = λ q. rw (w.whole q, any-first i 64 (λ (t : ℕ). mem t rest) (λ (t : ℕ). mem t rest') (g q) l o.same, e q, or_assoc);
}

pub walk-last : {set rest r : ℕ} {g : ℕ → ℕ → Bool} → rest ≡ 0 → Walk set rest r g → (q : ℕ) → mem q r ≡ any (λ (t : ℕ). mem t set && g q t) 64
walk-last {rest = rest} {g = g} e w q =
    let gone = any_none (λ (t : ℕ). mem t rest && g q t) 64 (λ t l. rw (e, mem-zero t)) in
    rw (w.whole q, gone, or-false)

pub with-law : (x e : ℕ) → e < 64 → (q : ℕ) → mem q (bit_or x (1 * 2 ^ e % 18446744073709551616)) ≡ (mem q x || eqb e q)
with-law x e h q = rw (shl_one e h, mem_or, mem-one)

pub has-law : (q w : ℕ) → eqb (w / 2 ^ q % 2) 1 ≡ mem q w
unfolding mem
has-law q w = let e : q + 0 ≡ q = omega arith in rw e at (mem_shr q 0 w)

-- two sets meet where their common part is not empty
pub meet_law : (x y : ℕ) → x < 2 ^ 64 → not (eqb (bit_and x y) 0) ≡ any (λ (q : ℕ). mem q x && mem q y) 64
meet_law x y h = elim (ℕ_discrete (bit_and x y) 0) [
  | yes e ↦ rw (eq-eqb (bit_and x y) 0 e) (sym (any_none (λ (q : ℕ). mem q x && mem q y) 64 (λ q l. sym (mem_and q x y) ∙ rw (e, mem-zero))))
  | no n ↦
      let t = count_trailing_zeros 64 (bit_and x y) in
      let s = smallest_law (bit_and x y) (omega arith) (omega (arith, and_le_l x y)) in
      rw (ne_eqb (bit_and x y) 0 n) (sym (any_in (λ (q : ℕ). mem q x && mem q y) 64 t s.top (sym (mem_and t x y) ∙ s.is)))
]

same_ltb : (i q : ℕ) → (i ≡ q → ⊥) → ltb q i ≡ ltb q (i + 1)
same_ltb i q n = elim (dec_lt q i) [
  | yes h ↦ lt-ltb q i h ∙ sym (lt-ltb q (i + 1) (omega arith))
  | no h ↦ le-ltb q i (omega arith) ∙ sym (le-ltb q (i + 1) (omega arith))
]

-- the accepting states up to i, with state i where it accepts
pub accept-more : (i q : ℕ) (A : ℕ → Bool) (R : Bool) → A i ≡ true → R ≡ (ltb q i && A q) → (R || eqb i q) ≡ (ltb q (i + 1) && A q)
accept-more i q A R t e = elim (ℕ_discrete i q) [
  | yes s ↦ rw (eq-eqb i q s, or-true, lt-ltb q (i + 1) (omega arith), ← s, t)
  | no n ↦ rw (ne_eqb i q n, or-false, ← same_ltb i q n) e
]

pub accept-same : (i q : ℕ) (A : ℕ → Bool) (R : Bool) → A i ≡ false → R ≡ (ltb q i && A q) → R ≡ (ltb q (i + 1) && A q)
accept-same i q A R t e = elim (ℕ_discrete i q) [
  | yes s ↦ e ∙ (rw (← s, t) (and-false (ltb i i) ∙ sym (and-false (ltb i (i + 1)))))
  | no n ↦ rw (← same_ltb i q n) e
]

-- a set without one of its members has no new one
pub below-without : {n x q r : ℕ} → Below n x → Without x q r → Below n r
below-without {n} {x} {q} {r} b o t h m = b t h (o.same t ∙ ap (λ (u : Bool). eqb q t || u) m ∙ or-true (eqb q t))
