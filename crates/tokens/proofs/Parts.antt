-- A part of a text, and its bytes. Assumes nothing.
use Prim.Native.Nat.{ℕ, zero, suc, ◌+◌, ◌-◌, ◌<◌, ◌≤◌}
use mathlib.Core.Path.{◌≡◌, ◌∙◌, ap}
use mathlib.Core.List.{List, [], ◌∷◌}
use native.Mathlib.Omega.{arith}
use lib.ListN.{length, get_or, take, drop, length-drop}
use lib.Seq.{drop-cons, length-take-le, get_or-drop}
use Rattle.tokens.specs.Spans.{part}

pub part-cons : (s : List ℕ) (a e : ℕ) → a < e → e ≤ length s → part s a e ≡ get_or s a 0 ∷ part s (suc a) e
part-cons s a e h k =
    let q : e - a ≡ suc (e - suc a) = omega arith in
    ap (λ (n : ℕ). take n (drop a s)) q ∙ ap (λ (l : List ℕ). take (suc (e - suc a)) l) (drop-cons s a 0 (omega arith))

pub part-empty : (s : List ℕ) (a : ℕ) → part s a a ≡ []
part-empty s a = let q : a - a ≡ 0 = omega arith in ap (λ (n : ℕ). take n (drop a s)) q

pub part_length : (s : List ℕ) (a e : ℕ) → a ≤ e → e ≤ length s → length (part s a e) ≡ e - a
part_length s a e h k = let q = length-drop a s in length-take-le (e - a) (drop a s) (omega arith)

-- all of l are bytes
abbrev pub Bytes : List ℕ → Type 0
Bytes l = (k : ℕ) → get_or l k 0 < 256

bytes_take : (n : ℕ) (l : List ℕ) → Bytes l → Bytes (take n l)
bytes_take zero l h k = omega arith
bytes_take (suc n) [] h k = omega arith
bytes_take (suc n) (b ∷ l) h zero = h 0
bytes_take (suc n) (b ∷ l) h (suc k) = bytes_take n l (λ j. h (suc j)) k

pub bytes-part : (s : List ℕ) (a e : ℕ) → Bytes s → Bytes (part s a e)
bytes-part s a e h = bytes_take (e - a) (drop a s) (λ k. rw (get_or-drop a s k 0) (h (a + k)))
