-- Bits written one after the other onto zeros, and the bytes that they are then. Assumes nothing.
use Prim.Native.Nat.{ℕ, zero, suc, ◌+◌, ◌-◌, ◌*◌, ◌/◌, ◌%◌, ◌≤◌, ◌<◌}
use mathlib.Core.Path.{◌≡◌, refl, sym, ap, ◌∙◌}
use mathlib.Core.List.{List, [], ◌∷◌, ◌++◌, append-nil}
use native.Mathlib.Omega.{arith}
use lib.ListN.{length, get_or, set, drop, replicate, length-append, length-replicate, replicate-append-replicate}
use lib.Seq.{sets, sets-eq, drop-length, ext_get_or}
use Rattle.std.proofs.lemmas.List.{drop-replicate}
use Rattle.bits.specs.Bits.{digits, bits, pack, Clear}
use Rattle.bits.proofs.Fields.{length_digits, length-bits, byte_at, bits_at, sets-after}
use Rattle.bits.proofs.Packing.{strip_of_bits}

-- ---- runs of stores
sets-append : (l : List ℕ) (at : ℕ) (xs ys : List ℕ) → sets l at (xs ++ ys) ≡ sets (sets l at xs) (at + length xs) ys
sets-append l at [] ys = let e : at + 0 ≡ at = omega arith in rw e refl
sets-append l at (x ∷ xs) ys = let e : at + suc (length xs) ≡ suc at + length xs = omega arith in rw e (sets-append (set l at x) (suc at) xs ys)

pub clear-after : (l l' : List ℕ) (at m : ℕ) (vs : List ℕ) → l' ≡ sets l at vs → Clear l at → m ≡ at + length vs → Clear l' m
clear-after l l' at m vs e z q k h = rw e (sets-after l at vs k (omega arith) ∙ z k (omega arith))

pub field-after : (l l' : List ℕ) (at b v : ℕ) → l' ≡ sets l at (digits b v) → Clear l at → Clear l' (at + b)
field-after l l' at b v e z = clear-after l l' at (at + b) (digits b v) e z (let d = length_digits b v in omega arith)

-- two such runs, and three, one after the other
pub two : (l₀ l₁ l₂ : List ℕ) (at m : ℕ) (xs ys : List ℕ) → l₁ ≡ sets l₀ at xs → l₂ ≡ sets l₁ m ys → m ≡ at + length xs → l₂ ≡ sets l₀ at (xs ++ ys)
two l₀ l₁ l₂ at m xs ys p q e = q ∙ rw (e, p) (sym (sets-append l₀ at xs ys))

pub three : (l₀ l₁ l₂ l₃ : List ℕ) (at m a : ℕ) (xs ys zs : List ℕ)
    → l₁ ≡ sets l₀ at xs → l₂ ≡ sets l₁ m ys → l₃ ≡ sets l₂ a zs → m ≡ at + length xs → a ≡ m + length ys → l₃ ≡ sets l₀ at (xs ++ (ys ++ zs))
three l₀ l₁ l₂ l₃ at m a xs ys zs p q r e f = two l₀ l₁ l₃ at m xs (ys ++ zs) p (two l₁ l₂ l₃ m a ys zs q r f) e

-- ---- zeros
pub zeros_at : (m i : ℕ) → get_or {A = ℕ} (replicate m 0) i 0 ≡ 0
zeros_at zero i = refl
zeros_at (suc m) zero = refl
zeros_at (suc m) (suc i) = zeros_at m i

zeros-after : (bs : List ℕ) (z k : ℕ) → get_or (bs ++ replicate z 0) k 0 ≡ get_or bs k 0
zeros-after [] z k = zeros_at z k
zeros-after (b ∷ bs) z zero = refl
zeros-after (b ∷ bs) z (suc k) = zeros-after bs z k

-- bytes that hold a list's bits, each at its place, and nothing more
pub placed : (s bs : List ℕ) (z : ℕ) → 8 * length s ≡ length bs + z
    → ((i j : ℕ) → i < length s → j < 8 → get_or (digits 8 (get_or s i 0)) j 0 ≡ get_or bs (8 * i + j) 0) → bits s ≡ bs ++ replicate z 0
placed s bs z e h =
    let a = length-bits s in
    let b = length-append bs (replicate z 0) in
    ext_get_or 0 (bits s) (bs ++ replicate z 0) (omega (arith, length-replicate {A = ℕ} z 0)) (λ p k. at p (omega arith))
  where
    at : (p : ℕ) → p < 8 * length s → get_or (bits s) p 0 ≡ get_or (bs ++ replicate z 0) p 0
    at p k =
        let q : 8 * (p / 8) + p % 8 ≡ p = omega arith in
        let x = get_or s (p / 8) 0 in
        ap (λ (i : ℕ). get_or (bits s) i 0) (sym q) ∙ bits_at s (p / 8) (p % 8) (omega arith) (omega arith) ∙ sym (byte_at x (p % 8) (omega arith))
        ∙ h (p / 8) (p % 8) (omega arith) (omega arith) ∙ ap (λ (i : ℕ). get_or bs i 0) q ∙ sym (zeros-after bs z p)

bits-zeros : (m : ℕ) → bits (replicate m 0) ≡ replicate (8 * m) 0
unfolding bits digits
bits-zeros zero = refl
bits-zeros (suc m) =
    let e : 8 * suc m ≡ 8 + 8 * m = omega arith in
    rw e (ap (λ (l : List ℕ). replicate 8 0 ++ l) (bits-zeros m) ∙ replicate-append-replicate 8 (8 * m) 0)

-- the bytes were made 0
module _ (d out : List ℕ) (len : ℕ) (e : out ≡ replicate len 0 ++ drop len d) (l : length d ≡ len) where
  all-zero : out ≡ replicate len 0
  all-zero =
      let gone : drop len d ≡ [] = ap (λ (k : ℕ). drop k d) (sym l) ∙ drop-length d in
      e ∙ rw gone (append-nil (replicate len 0))

  pub cleared : Clear (bits out) 0
  cleared k h = rw (all-zero, bits-zeros len) (zeros_at (8 * len) k)

  -- what was written from their start on is packed, if it ends in the last byte
  pub packed : (vs f : List ℕ) → bits f ≡ sets (bits out) 0 vs → ((i : ℕ) → get_or f i 0 < 256) → 0 < length vs → length vs ≤ 8 * len → 8 * len < length vs + 8
      → f ≡ pack 0 8 vs
  packed vs f w g some room full =
      let o : bits out ≡ replicate (8 * len) 0 = ap bits all-zero ∙ bits-zeros len in
      let m : length (bits out) ≡ 8 * len = ap length o ∙ length-replicate (8 * len) 0 in
      let v : sets (bits out) 0 vs ≡ vs ++ drop (0 + length vs) (bits out) = sets-eq vs (bits out) 0 (omega arith) in
      let u : drop (0 + length vs) (bits out) ≡ replicate (8 * len - (0 + length vs)) 0 = rw o (drop-replicate (0 + length vs) (8 * len) 0) in
      strip_of_bits f vs (8 * len - (0 + length vs)) g (w ∙ v ∙ ap (λ (l : List ℕ). vs ++ l) u) (omega arith) some
