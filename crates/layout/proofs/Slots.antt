-- Slots: what they hold is a tuple, every tuple is held so, and an entry's place is reckoned from them. Assumes nothing.
use Rattle.words.proofs.Vocabulary.{ℕ, ◌≤◌, ◌<◌, ◌+◌, ◌*◌, suc, zero, ◌^◌, ◌≡◌, refl, sym, List, [], ◌∷◌, map, mul-le-mul_left}
use Rattle.words.proofs.Vocabulary.{digits_lt, ltb, cond, true, false, arith}
use lib.Dec.{lit<}
use native.Mathlib.Nat.{pow-zero}
use Rattle.layout.specs.declared.Shape.{Shape}
use Rattle.layout.specs.Shape.{Shaped, labels_in, share_of, Each, nil, cons, Tuple, digits_of, place_in}
use Rattle.layout.specs.Slots.{range_of, in_slots, Slotted, slot_place}
use Rattle.layout.proofs.Places.{each_head, each_tail, place-in, pow_step}

-- a node has one to three branches
pub few-branches : (s : Shape) → Shaped s → (1 ≤ s.branches) × (s.branches ≤ 3)
few-branches s h = (omega (arith, h.branches), omega (arith, h.branches))

-- what holds of one, two and three branches
pub of_three : (P : ℕ → Type 0) → P 1 → P 2 → P 3 → (k : ℕ) → 1 ≤ k → k ≤ 3 → P k
of_three P x y z zero l h = absurd (omega arith)
of_three P x y z (suc zero) l h = x
of_three P x y z (suc (suc zero)) l h = y
of_three P x y z (suc (suc (suc zero))) l h = z
of_three P x y z (suc (suc (suc (suc k)))) l h = absurd (omega arith)

-- ---- ranges
pub range_up : (k after : ℕ) {n m i : ℕ} → n ≤ m → i < range_of k after n → i < range_of k after m
unfolding range_of
range_up k after {n} {m} {i} h = elim (ltb after k) as (λ b. i < cond b n 1 → i < cond b m 1) [
  | true ↦ λ l. omega arith
  | false ↦ λ l. l
]

pub range_most : (k after : ℕ) {n m : ℕ} → 0 < m → n ≤ m → (0 < range_of k after m) × (range_of k after n ≤ range_of k after m) × (range_of k after m ≤ m)
unfolding range_of
range_most k after {n} {m} p h = elim (ltb after k) as (λ b. (0 < cond b m 1) × (cond b n 1 ≤ cond b m 1) × (cond b m 1 ≤ m)) [
  | true ↦ (p, h, omega arith)
  | false ↦ (omega arith, omega arith, omega arith)
]

-- a slot that takes a number other than 0 takes every number below n
pub range_used : (k after : ℕ) {n i : ℕ} → 0 < i → i < range_of k after n → (x : ℕ) → x < n → x < range_of k after n
unfolding range_of
range_used k after {n} {i} p = elim (ltb after k) as (λ b. i < cond b n 1 → (x : ℕ) → x < n → x < cond b n 1) [
  | true ↦ λ l x h. h
  | false ↦ λ l x h. absurd (omega arith)
]

-- ---- slots and tuples
pub slots_up : {k n m a b d : ℕ} → n ≤ m → Slotted k n a b d → Slotted k m a b d
slots_up {k} h s = record {
  before = record { first = range_up k 2 h s.before.first; second = range_up k 1 h s.before.second };
  third = omega (arith, s.third);
}

pub slots-tuple : {n a b d : ℕ} (k : ℕ) → 1 ≤ k → k ≤ 3 → Slotted k n a b d → Tuple k n (in_slots k a b d)
unfolding in_slots range_of
slots-tuple {n} {a} {b} {d} = of_three (λ k. Slotted k n a b d → Tuple k n (in_slots k a b d))
    (λ h. record { long = refl; below = cons h.third nil })
    (λ h. record { long = refl; below = cons h.before.second (cons h.third nil) })
    (λ h. record { long = refl; below = cons h.before.first (cons h.before.second (cons h.third nil)) })

-- what holds of all that slots hold holds of all tuples
pub slots_of : {n : ℕ} (P : List ℕ → Type 0) (k : ℕ) → 1 ≤ k → k ≤ 3 → ((a b d : ℕ) → Slotted k n a b d → P (in_slots k a b d))
    → (is : List ℕ) → Tuple k n is → P is
unfolding in_slots range_of
slots_of P k l h f [] t = absurd (let e = t.long in omega arith)
slots_of P k l h f (d ∷ []) t =
    (rw (← t.long) at f) 0 0 d (record { before = record { first = lit< tt; second = lit< tt }; third = each_head t.below })
slots_of P k l h f (b ∷ d ∷ []) t =
    (rw (← t.long) at f) 0 b d (record { before = record { first = lit< tt; second = each_head t.below }; third = each_head (each_tail t.below) })
slots_of P k l h f (a ∷ b ∷ d ∷ []) t =
    let e = each_tail t.below in
    (rw (← t.long) at f) a b d (record { before = record { first = each_head t.below; second = each_head e }; third = each_head (each_tail e) })
slots_of P k l h f (a ∷ b ∷ d ∷ e ∷ is) t = absurd (let e = t.long in omega arith)

-- what is below n among numbers below m is in the slots' ranges
pub tuple-slots : {n m a b d : ℕ} (k : ℕ) → 1 ≤ k → k ≤ 3 → Slotted k m a b d → Each (λ (i : ℕ). i < n) (in_slots k a b d) → Slotted k n a b d
unfolding in_slots range_of
tuple-slots {n} {m} {a} {b} {d} = of_three (λ k. Slotted k m a b d → Each (λ (i : ℕ). i < n) (in_slots k a b d) → Slotted k n a b d)
    (λ h e. record { before = record { first = h.before.first; second = h.before.second }; third = each_head e })
    (λ h e. record { before = record { first = h.before.first; second = each_head e }; third = each_head (each_tail e) })
    (λ h e. record { before = record { first = each_head e; second = each_head (each_tail e) }; third = each_head (each_tail (each_tail e)) })

-- all slots hold numbers below n
pub slots-below : {k n a b d : ℕ} → Slotted k n a b d → (a < n) × (b < n) × (d < n)
slots-below {k} {n} s =
    let p : 0 < n = omega (arith, s.third) in
    let x = range_most k 2 {n = n} {m = n} p (omega arith) in
    let y = range_most k 1 {n = n} {m = n} p (omega arith) in
    (omega (arith, s.before.first), omega (arith, s.before.second), s.third)

-- a number below n in a range of m is in that of n
pub range_both : (k after m : ℕ) {n i : ℕ} → i < n → i < range_of k after m → i < range_of k after n
unfolding range_of
range_both k after m {n} {i} h = elim (ltb after k) as (λ b. i < cond b m 1 → i < cond b n 1) [
  | true ↦ λ l. h
  | false ↦ λ l. l
]

pub map-slots : (g : ℕ → ℕ) (a b d k : ℕ) → 1 ≤ k → k ≤ 3 → map g (in_slots k a b d) ≡ in_slots k (g a) (g b) (g d)
unfolding in_slots
map-slots g a b d = of_three (λ k. map g (in_slots k a b d) ≡ in_slots k (g a) (g b) (g d)) refl refl refl

-- ---- places
digits-slots : (l c a b d k : ℕ) → 1 ≤ k → k ≤ 3 → Slotted k c a b d
    → ((l * range_of k 2 c + a) * range_of k 1 c + b) * c + d ≡ digits_of c l (in_slots k a b d)
unfolding in_slots range_of digits_of
digits-slots l c a b d = of_three
    (λ k. Slotted k c a b d → ((l * range_of k 2 c + a) * range_of k 1 c + b) * c + d ≡ digits_of c l (in_slots k a b d))
    (λ h. let e : (l * 1 + a) * 1 + b ≡ l = omega (arith, h.before.first, h.before.second) in rw e)
    (λ h. let e : l * 1 + a ≡ l = omega (arith, h.before.first) in rw e)
    (λ h. refl)

-- the bytes of a share
powers : (n c k : ℕ) → 1 ≤ k → k ≤ 3 → n * range_of k 2 c * range_of k 1 c * c ≡ n * c ^ k
unfolding range_of
powers n c = of_three (λ k. n * range_of k 2 c * range_of k 1 c * c ≡ n * c ^ k)
    (let e : n * 1 * 1 ≡ n = omega arith in rw (e, pow_step c n 0, pow-zero) (omega arith))
    (let e : n * 1 ≡ n = omega arith in rw (e, pow_step c n 1, pow_step c (n * c) 0, pow-zero) (omega arith))
    (rw (pow_step c n 2, pow_step c (n * c) 1, pow_step c (n * c * c) 0, pow-zero) (omega arith))

-- the parts of a place are small
pub record SmallParts (x y c l a b d : ℕ) : Type 0 where
  pub one : l * x < 16384
  pub one_sum : l * x + a < 16384
  pub two : (l * x + a) * y < 1048576
  pub two_sum : (l * x + a) * y + b < 1048576
  pub three : ((l * x + a) * y + b) * c < 67108864
  pub three_sum : ((l * x + a) * y + b) * c + d < 67108864

module _ (s : Shape) (h : Shaped s) where
  pub place-slots : (l a b d : ℕ) → Slotted s.branches s.ceiling a b d → slot_place s l a b d ≡ place_in s l (in_slots s.branches a b d)
  unfolding slot_place place_in
  place-slots l a b d = let k = few-branches s h in digits-slots l s.ceiling a b d s.branches k.0 k.1

  pub slots_in : (l a b d : ℕ) → l < labels_in s → Slotted s.branches s.ceiling a b d → slot_place s l a b d < share_of s
  slots_in l a b d hl hs =
      let k = few-branches s h in
      rw (place-slots l a b d hs) (place-in s l (in_slots s.branches a b d) hl (slots-tuple s.branches k.0 k.1 hs))

  pub share-slots : share_of s ≡ labels_in s * range_of s.branches 2 s.ceiling * range_of s.branches 1 s.ceiling * s.ceiling
  unfolding share_of
  share-slots = let k = few-branches s h in sym (powers (labels_in s) s.ceiling s.branches k.0 k.1)

  -- a digit more
  digit-more : (p m r c : ℕ) → p < m → r < c → c ≤ 64 → (p * c < m * 64) × (p * c + r < m * 64)
  digit-more p m r c h l s =
      let a = digits_lt h l in
      let b : m * c ≤ m * 64 = mul-le-mul_left m s in
      (omega arith, omega arith)

  pub slots_small : (x y l a b d : ℕ) → x ≡ range_of s.branches 2 s.ceiling → y ≡ range_of s.branches 1 s.ceiling → l < 256
      → Slotted s.branches s.ceiling a b d
      → SmallParts x y s.ceiling l a b d
  slots_small x y l a b d ex ey hl hs =
      let k = s.branches in
      let rx = range_most k 2 {n = 0} h.some-state (omega arith) in
      let ry = range_most k 1 {n = 0} h.some-state (omega arith) in
      let p = digit-more l 256 a x hl (rw ex hs.before.first) (omega (arith, rx.2, h.ceiling)) in
      let q = digit-more (l * x + a) 16384 b y p.1 (rw ey hs.before.second) (omega (arith, ry.2, h.ceiling)) in
      let r = digit-more ((l * x + a) * y + b) 1048576 d s.ceiling q.1 hs.third h.ceiling in
      record { one = p.0; one_sum = p.1; two = q.0; two_sum = q.1; three = r.0; three_sum = r.1 }
