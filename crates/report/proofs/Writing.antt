-- Texts written at a place of a line, one after the other. Assumes nothing.
use Prim.Native.Nat.{ℕ, zero, suc, ◌+◌, ◌-◌, ◌*◌, ◌/◌, ◌%◌, ◌≤◌, ◌<◌}
use mathlib.Core.Path.{◌≡◌, refl, sym, ap, ◌∙◌}
use mathlib.Core.List.{List, [], ◌∷◌, ◌++◌, append_assoc}
use native.Mathlib.Nat.{add-zero, add-suc, suc-add}
use native.Mathlib.Omega.{arith}
use borrow.Author.Tests.{lt-ltb, le-ltb}
use borrow.Rule.Slice.PartMut.{put_mid}
use lib.ListN.{length, set, take, drop, get_or, length-append}
use lib.Seq.{sets, length-sets, sets-eq, take_at, length-take-le, drop-drop}
use Rattle.std.proofs.lemmas.List.{take_more}
use Rattle.report.specs.Text.{glyph, decimal, hex, Put, Wrote}
use Rattle.report.specs.declared.text.Line.{Line}

-- a text after another
sets-append : (xs ys l : List ℕ) (i : ℕ) → sets (sets l i xs) (i + length xs) ys ≡ sets l i (xs ++ ys)
sets-append [] ys l i = rw (add-zero i) refl
sets-append (x ∷ xs) ys l i =
    let e : i + suc (length xs) ≡ suc i + length xs = add-suc i (length xs) ∙ sym (suc-add i (length xs)) in
    rw e (sets-append xs ys (set l i x) (suc i))

after : {a b c xs ys : List ℕ} {i j k : ℕ} → Put a i xs j b → Put b j ys k c → Put a i (xs ++ ys) k c
after {a} {b} {c} {xs} {ys} {i} {j} {k} p q = record {
  place = omega (arith, p.place, q.place, length-append xs ys);
  fits = q.fits;
  line = q.line ∙ ap (λ (l : List ℕ). sets l j ys) p.line ∙ ap (λ (n : ℕ). sets (sets a i xs) n ys) p.place ∙ sets-append xs ys a i;
}

pub then : {a b c : Line} {xs ys : List ℕ} → Wrote a xs b → Wrote b ys c → Wrote a (xs ++ ys) c
then p q = record { same = q.same ∙ p.same; size = q.size ∙ p.size; put = after p.put q.put }

-- nothing is written yet
pub none : (a : Line) → a.at ≤ length a.bytes.now → Wrote a [] a
none a h = record { same = refl; size = refl; put = record { place = sym (add-zero a.at); fits = h; line = refl } }

pub size : {a b xs : List ℕ} {i j : ℕ} → Put a i xs j b → length b ≡ length a
size {a} {b} {xs} {i} p = ap length p.line ∙ length-sets a i xs

-- a text written at the front of a line is what stands there
pub whole : {a b xs : List ℕ} {j : ℕ} → Put a 0 xs j b → take j b ≡ xs
whole {a} {b} {xs} {j} p =
    let n : j ≡ length xs = omega arith in
    let f : 0 + length xs ≤ length a = omega (arith, p.fits, p.place, size p) in
    rw (p.line, n, sets-eq xs a 0 f, take_at xs (drop (0 + length xs) a) (length xs) refl) refl

-- a text copied onto a line
pub copied : (l : List ℕ) (at k : ℕ) (s t : List ℕ) → t ≡ s → k ≡ length s → at + length s ≤ length l → Put l at s (at + length s) (put_mid at k l t)
copied l at k s t e q h =
    let w : put_mid at k l t ≡ sets l at s =
    rw (e, q, sets-eq s l at h, append_assoc (take at l) s (drop (at + length s) l), ← (drop-drop (length s) at l)) refl in
    record { place = refl; fits = omega (arith, ap length w ∙ length-sets l at s); line = w }

-- the digits of a number: none, one or more
pub decimal-none : (d n : ℕ) → d ≡ 0 → decimal d n ≡ []
unfolding decimal
decimal-none d n e = rw e refl

pub decimal-one : (d n : ℕ) → (d ≡ 0 → ⊥) → n < 10 → decimal d n ≡ glyph (n % 10) ∷ []
unfolding decimal
decimal-one zero n e h = absurd (e refl)
decimal-one (suc d) n e h = let q : n % 10 ≡ n = omega arith in rw (lt-ltb n 10 h, q, lt-ltb n 10 h) refl

pub decimal-more : (d n : ℕ) → (d ≡ 0 → ⊥) → 10 ≤ n → decimal d n ≡ decimal (d - 1) (n / 10) ++ (glyph (n % 10) ∷ [])
unfolding decimal
decimal-more zero n e h = absurd (e refl)
decimal-more (suc d) n e h = let k : suc d - 1 ≡ d = omega arith in rw (k, le-ltb n 10 h) refl

-- the digits of one more byte
pub hex-append : (s t : List ℕ) → hex (s ++ t) ≡ hex s ++ hex t
unfolding hex
hex-append [] t = refl
hex-append (x ∷ s) t = ap (λ (r : List ℕ). glyph (x / 16) ∷ glyph (x % 16) ∷ r) (hex-append s t)

pub hex-more : (s : List ℕ) (i : ℕ) → i < length s → hex (take (i + 1) s) ≡ hex (take i s) ++ (glyph (get_or s i 0 / 16) ∷ glyph (get_or s i 0 % 16) ∷ [])
unfolding hex
hex-more s i h = rw (take_more s i 0 h) (hex-append (take i s) (get_or s i 0 ∷ []))

pub length-hex : (s : List ℕ) → length (hex s) ≡ 2 * length s
unfolding hex
length-hex [] = refl
length-hex (x ∷ s) = omega (arith, length-hex s)

-- there is room for those of one more byte
pub hex-room : {a b : Line} (s : List ℕ) (i : ℕ) → i < length s → a.at + 2 * length s ≤ length a.bytes.now → Wrote a (hex (take i s)) b
    → b.at + 2 ≤ length b.bytes.now
hex-room s i h r w =
    omega (arith, w.put.place, w.size, length-hex (take i s), length-take-le i s (omega arith))
