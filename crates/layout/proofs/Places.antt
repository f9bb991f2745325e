-- The places of entries: within the share, one entry at each, and an entry for each place; shares are small and apart. Assumes nothing.
use Rattle.words.proofs.Vocabulary.{ℕ, ◌≤◌, ◌<◌, ◌+◌, ◌*◌, suc, ◌%◌, zero, ◌^◌, ◌/◌, ◌≡◌, ◌∙◌, refl, sym, ap, subst, List, [], ◌∷◌, ◌++◌, map, digits_lt}
use Rattle.words.proofs.Vocabulary.{digits_div, digits_mod, length, length-append, replicate, pow_mono, mul-le-mul_right, mul-le-mul_left}
use Rattle.words.proofs.Vocabulary.{mul_assoc, suc-mul, mod-lt, div-add-mod', dec_lt, arith}
use native.Mathlib.Nat.{pow-zero, pow-succ'}
use Rattle.layout.specs.Shape.{Shaped, labels_in, share_of, share_at, Each, nil, cons, Tuple, digits_of, place_in, above_digits, low_digits, label_at, tuple_at}
use Rattle.layout.specs.declared.Shape.{Shape}

-- ---- what holds of each member
module _ {A : Type 0} {P : A → Type 0} where
  pub each_head : {x : A} {xs : List A} → Each P (x ∷ xs) → P x
  each_head (cons p e) = p

  pub each_tail : {x : A} {xs : List A} → Each P (x ∷ xs) → Each P xs
  each_tail (cons p e) = e

  pub each_append : {xs ys : List A} → Each P xs → Each P ys → Each P (xs ++ ys)
  each_append nil d = d
  each_append (cons p e) d = cons p (each_append e d)

  pub each_left : (xs ys : List A) → Each P (xs ++ ys) → Each P xs
  each_left [] ys e = nil
  each_left (x ∷ xs) ys (cons p e) = cons p (each_left xs ys e)

  pub each_right : (xs : List A) {ys : List A} → Each P (xs ++ ys) → Each P ys
  each_right [] e = e
  each_right (x ∷ xs) (cons p e) = each_right xs e

  pub each_all : ((a : A) → P a) → (xs : List A) → Each P xs
  each_all h [] = nil
  each_all h (x ∷ xs) = cons (h x) (each_all h xs)

  pub each_imp : {Q : A → Type 0} {xs : List A} → ((a : A) → P a → Q a) → Each P xs → Each Q xs
  each_imp h nil = nil
  each_imp h (cons p e) = cons (h _ p) (each_imp h e)

  pub each_map : {B : Type 0} (Q : B → Type 0) (f : A → B) {xs : List A} → ((a : A) → P a → Q (f a)) → Each P xs → Each Q (map f xs)
  each_map Q f h nil = nil
  each_map Q f h (cons p e) = cons (h _ p) (each_map Q f h e)

  pub each-replicate : (k : ℕ) (x : A) → P x → Each P (replicate k x)
  each-replicate zero x p = nil
  each-replicate (suc k) x p = cons p (each-replicate k x p)

pub tuple_up : {k n m : ℕ} {is : List ℕ} → n ≤ m → Tuple k n is → Tuple k m is
tuple_up h t = record { long = t.long; below = each_imp (λ i l. omega arith) t.below }

-- ---- two branches
pub two_of : {n i j : ℕ} → i < n → j < n → Tuple 2 n (i ∷ j ∷ [])
two_of hi hj = record { long = refl; below = cons hi (cons hj nil) }

pub pair_in : (s : Shape) → Shaped s → {n i j : ℕ} → i < n → j < n → Tuple s.branches n (i ∷ j ∷ [])
pair_in s h hi hj = record { long = sym h.branches; below = cons hi (cons hj nil) }

-- what holds of all pairs holds of all tuples of two
pub pair-of : {n : ℕ} (P : List ℕ → Type 0) → ((i j : ℕ) → i < n → j < n → P (i ∷ j ∷ [])) → (is : List ℕ) → Tuple 2 n is → P is
pair-of P h [] t = absurd (let e = t.long in omega arith)
pair-of P h (i ∷ []) t = absurd (let e = t.long in omega arith)
pair-of P h (i ∷ j ∷ []) t = h i j (each_head t.below) (each_head (each_tail t.below))
pair-of P h (i ∷ j ∷ k ∷ is) t = absurd (let e = t.long in omega arith)

pub pairs_of : (s : Shape) → Shaped s → {n : ℕ} (P : List ℕ → Type 0) → ((i j : ℕ) → i < n → j < n → P (i ∷ j ∷ []))
    → (is : List ℕ) → Tuple s.branches n is → P is
pairs_of s h P f is t = pair-of P f is (record { long = t.long ∙ h.branches; below = t.below })

-- ---- digits
pub pow_step : (c n k : ℕ) → n * c ^ suc k ≡ n * c * c ^ k
pow_step c n k = rw (pow-succ', mul_assoc)

digits_in : (c n l : ℕ) (is : List ℕ) → l < n → Each (λ (i : ℕ). i < c) is → digits_of c l is < n * c ^ length is
unfolding digits_of
digits_in c n l [] h e = rw pow-zero (omega arith)
digits_in c n l (i ∷ is) h (cons p e) = rw pow_step (digits_in c (n * c) (l * c + i) is (digits_lt h p) e)

digits-one : (c l m : ℕ) (is js : List ℕ) → length is ≡ length js → Each (λ (i : ℕ). i < c) is → Each (λ (i : ℕ). i < c) js
    → digits_of c l is ≡ digits_of c m js → (l ≡ m) × (is ≡ js)
unfolding digits_of
digits-one c l m [] [] h a b e = (e, refl)
digits-one c l m [] (j ∷ js) h a b e = absurd (omega arith)
digits-one c l m (i ∷ is) [] h a b e = absurd (omega arith)
digits-one c l m (i ∷ is) (j ∷ js) h (cons x a) (cons y b) e =
    let r = digits-one c (l * c + i) (m * c + j) is js (omega arith) a b e in
    let p : l ≡ m = sym (digits_div l x) ∙ ap (λ (n : ℕ). n / c) r.0 ∙ digits_div m y in
    let q : i ≡ j = sym (digits_mod l x) ∙ ap (λ (n : ℕ). n % c) r.0 ∙ digits_mod m y in
    (p, cc)

digits_last : (c l j : ℕ) (is : List ℕ) → digits_of c l (is ++ (j ∷ [])) ≡ digits_of c l is * c + j
unfolding digits_of
digits_last c l j [] = refl
digits_last c l j (i ∷ is) = digits_last c (l * c + i) j is

digits-whole : (c k q : ℕ) → digits_of c (above_digits c k q) (low_digits c k q) ≡ q
unfolding digits_of above_digits low_digits
digits-whole c zero q = refl
digits-whole c (suc k) q = rw (digits_last, digits-whole c k (q / c)) (div-add-mod' q c)

digits-tuple : (c k q : ℕ) → 0 < c → Tuple k c (low_digits c k q)
unfolding low_digits
digits-tuple c zero q h = record { long = refl; below = nil }
digits-tuple c (suc k) q h =
    let t = digits-tuple c k (q / c) h in
    record {
      long = length-append (low_digits c k (q / c)) (q % c ∷ []) ∙ omega (arith, t.long);
      below = each_append t.below (cons (mod-lt q h) nil);
    }

digits-least : (c l : ℕ) (is : List ℕ) → l * c ^ length is ≤ digits_of c l is
unfolding digits_of
digits-least c l [] = rw pow-zero (omega arith)
digits-least c l (i ∷ is) =
    let a = digits-least c (l * c + i) is in
    let d : l * c * c ^ length is ≤ (l * c + i) * c ^ length is = mul-le-mul_right (c ^ length is) (omega arith) in
    rw pow_step (omega arith)

-- ---- shares
pub few-labels : (s : Shape) → Shaped s → (2 ≤ labels_in s) × (labels_in s ≤ 256)
few-labels s h =
    let a : 2 ^ 1 ≤ 2 ^ s.variables = pow_mono h.some-variable in
    let b : 2 ^ s.variables ≤ 2 ^ 8 = pow_mono h.variables in
    (omega arith, omega arith)

pub share-two : (s : Shape) → Shaped s → share_of s ≡ labels_in s * s.ceiling * s.ceiling
unfolding share_of
share-two s h = rw (h.branches, pow_step s.ceiling (labels_in s) 1, pow_step s.ceiling _ 0, pow-zero) (omega arith)

pub share-small : (s : Shape) → Shaped s → (labels_in s * s.ceiling ≤ 16384) × (share_of s ≤ 1048576)
share-small s h =
    let a : labels_in s * s.ceiling ≤ labels_in s * 64 = mul-le-mul_left (labels_in s) h.ceiling in
    let b : labels_in s * s.ceiling * s.ceiling ≤ labels_in s * s.ceiling * 64 = mul-le-mul_left (labels_in s * s.ceiling) h.ceiling in
    (omega (arith, few-labels s h), omega (arith, few-labels s h, share-two s h))

pub shares_small : (s : Shape) → Shaped s → (r : ℕ) → r < 256 → share_at s r ≤ 268435456
unfolding share_at
shares_small s h r l =
    let b : r * share_of s ≤ 256 * share_of s = mul-le-mul_right (share_of s) (omega arith) in
    omega (arith, share-small s h)

-- a record's share ends before a later one's
pub share-next : (s : Shape) (r m : ℕ) → r < m → share_at s r + share_of s ≤ share_at s m
unfolding share_at
share-next s r m h = subst (λ (n : ℕ). n ≤ m * share_of s) (suc-mul r (share_of s)) (mul-le-mul_right (share_of s) h)

-- ---- places
module _ (s : Shape) where
  pub place-in : (l : ℕ) (is : List ℕ) → l < labels_in s → Tuple s.branches s.ceiling is → place_in s l is < share_of s
  unfolding place_in share_of
  place-in l is h t = rw t.long at (digits_in s.ceiling (labels_in s) l is h t.below)

  -- two entries at one place are one
  pub place-one : (l m : ℕ) (is js : List ℕ) → Tuple s.branches s.ceiling is → Tuple s.branches s.ceiling js
      → place_in s l is ≡ place_in s m js → (l ≡ m) × (is ≡ js)
  unfolding place_in
  place-one l m is js t u e = digits-one s.ceiling l m is js (t.long ∙ sym u.long) t.below u.below e

  -- what stands at a place
  pub place_at : (q : ℕ) → place_in s (label_at s q) (tuple_at s q) ≡ q
  unfolding place_in label_at tuple_at
  place_at q = digits-whole s.ceiling s.branches q

  module _ (pos : 0 < s.ceiling) where
    pub states_at : (q : ℕ) → Tuple s.branches s.ceiling (tuple_at s q)
    unfolding tuple_at
    states_at q = digits-tuple s.ceiling s.branches q pos

    pub label-at : (q : ℕ) → q < share_of s → label_at s q < labels_in s
    unfolding share_of place_in
    label-at q h = elim (dec_lt (label_at s q) (labels_in s)) [
      | yes y ↦ y
      | no y ↦
          let a = rw (states_at q).long at (digits-least s.ceiling (label_at s q) (tuple_at s q)) in
          let b : labels_in s * s.ceiling ^ s.branches ≤ label_at s q * s.ceiling ^ s.branches = mul-le-mul_right _ (omega arith) in
          absurd (omega (arith, place_at q))
    ]

-- ---- of two states
-- the parts of an entry's place are small
pub place-small : (s : Shape) → Shaped s → (l i : ℕ) → l < 512 → i < 64
    → (l * s.ceiling < 32769) × (l * s.ceiling + i < 32833) × ((l * s.ceiling + i) * s.ceiling < 2101313)
place-small s h l i hl hi =
    let a : l * s.ceiling ≤ l * 64 = mul-le-mul_left l h.ceiling in
    let b : (l * s.ceiling + i) * s.ceiling ≤ (l * s.ceiling + i) * 64 = mul-le-mul_left (l * s.ceiling + i) h.ceiling in
    (omega arith, omega arith, omega arith)

pub place-two : (s : Shape) (l i j : ℕ) → place_in s l (i ∷ j ∷ []) ≡ (l * s.ceiling + i) * s.ceiling + j
unfolding place_in digits_of
place-two s l i j = refl
