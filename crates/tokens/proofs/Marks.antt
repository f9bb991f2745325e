-- Marks, by their first byte and those that follow. Assumes nothing.
use Prim.Native.Nat.{ℕ, suc, ◌+◌, ◌-◌, ◌<◌, ◌≤◌}
use Prim.Native.String.{String}
use mathlib.Core.Path.{◌≡◌, refl, sym, ◌∙◌, ap}
use mathlib.Core.Bool.{Bool, true, false, cond, ◌&&◌}
use mathlib.Core.List.{List, [], ◌∷◌}
use native.Mathlib.Numerals.{add-one}
use native.Mathlib.Omega.{arith}
use borrow.Author.Tests.{ne_eqb}
use lib.Dec.{eqb}
use lib.ListN.{length, get_or, take, drop, length-drop}
use lib.Seq.{drop-cons, take_all}
use Rattle.std.specs.List.{starts_with}
use Rattle.text.specs.Token.{Piece, a_stray, spell, text_marks, mark_piece, begins_with}
use Rattle.tokens.specs.Tokens.{single_kind, mark_size}

arrow-kind : (t : List ℕ) (v : Bool) → begins_with (62 ∷ []) t ≡ v → (mark_piece 10 text_marks (61 ∷ t)).kind ≡ cond v 18 20
unfolding mark_piece text_marks spell begins_with
arrow-kind t true e = rw (e, begins_with) refl
arrow-kind t false e = rw (e, begins_with) refl

iff_kind : (t : List ℕ) (v : Bool) → begins_with (61 ∷ 62 ∷ []) t ≡ v → (mark_piece 10 text_marks (60 ∷ t)).kind ≡ cond v 19 a_stray
unfolding mark_piece text_marks spell begins_with
iff_kind t true e = rw (e, begins_with) refl
iff_kind t false e = rw (e, begins_with) refl

branch-kind : (t : List ℕ) (u v : Bool) → begins_with (48 ∷ []) t ≡ u → begins_with (49 ∷ []) t ≡ v
    → (mark_piece 10 text_marks (46 ∷ t)).kind ≡ cond u 21 (cond v 22 a_stray)
unfolding mark_piece text_marks spell begins_with
branch-kind t true v e f = rw (e, begins_with) refl
branch-kind t false true e f = rw (e, f, begins_with) refl
branch-kind t false false e f = rw (e, f, begins_with) refl

-- one mark of one byte after the other
one_byte : (i : ℕ) (m : String) (ms : List String) (c b : ℕ) (t : List ℕ) (x : ℕ) → spell m ≡ c ∷ [] → (mark_piece (suc i) ms (b ∷ t)).kind ≡ x
    → (mark_piece i (m ∷ ms) (b ∷ t)).kind ≡ cond (eqb c b) i x
unfolding mark_piece begins_with
one_byte i m ms c b t x e f =
    let p = mark_piece (suc i) ms (b ∷ t) in
    ap (λ (w : List ℕ). (elim (begins_with w (b ∷ t)) as (λ _. Piece) [ true ↦ record { kind = i; size = length w } | false ↦ p ]).kind) e
    ∙ go (eqb c b)
  where
    go : (v : Bool) → (elim (v && true) as (λ _. Piece) [ true ↦ record { kind = i; size = 1 } | false ↦ mark_piece (suc i) ms (b ∷ t) ]).kind ≡ cond v i x
    go true = refl
    go false = f

-- a mark that begins with another byte
not_this : (i : ℕ) (m : String) (ms : List String) (c : ℕ) (w : List ℕ) (b : ℕ) (t : List ℕ) → spell m ≡ c ∷ w → (b ≡ c → ⊥)
    → mark_piece i (m ∷ ms) (b ∷ t) ≡ mark_piece (suc i) ms (b ∷ t)
unfolding mark_piece begins_with
not_this i m ms c w b t e h =
    ap (λ (u : List ℕ). elim (begins_with u (b ∷ t)) as (λ _. Piece) [ true ↦ record { kind = i; size = length u } | false ↦ mark_piece (suc i) ms (b ∷ t) ]) e
    ∙ ap (λ (v : Bool). elim (v && begins_with w t) as (λ _. Piece) [ true ↦ record { kind = i; size = suc (length w) } | false ↦ mark_piece (suc i) ms (b ∷ t) ])
    (ne_eqb c b (λ q. h (sym q)))

-- a byte that begins no longer mark
single_is : (b : ℕ) (t : List ℕ) → (b ≡ 61 → ⊥) → (b ≡ 60 → ⊥) → (b ≡ 46 → ⊥) → (mark_piece 10 text_marks (b ∷ t)).kind ≡ single_kind b
unfolding mark_piece text_marks spell begins_with single_kind
single_is b t h k l =
    one_byte 10 ";" (drop 1 text_marks) 59 b t _ refl
    (one_byte 11 "," (drop 2 text_marks) 44 b t _ refl
    (one_byte 12 ":" (drop 3 text_marks) 58 b t _ refl
    (one_byte 13 "(" (drop 4 text_marks) 40 b t _ refl
    (one_byte 14 ")" (drop 5 text_marks) 41 b t _ refl
    (one_byte 15 "~" (drop 6 text_marks) 126 b t _ refl
    (one_byte 16 "&" (drop 7 text_marks) 38 b t _ refl
    (one_byte 17 "|" (drop 8 text_marks) 124 b t _ refl
    last)))))))
  where
    last : (mark_piece 18 ("=>" ∷ "<=>" ∷ "=" ∷ ".0" ∷ ".1" ∷ []) (b ∷ t)).kind ≡ a_stray
    last = ap (λ (p : Piece). p.kind)
        (not_this 18 "=>" ("<=>" ∷ "=" ∷ ".0" ∷ ".1" ∷ []) 61 (62 ∷ []) b t refl h
        ∙ not_this 19 "<=>" ("=" ∷ ".0" ∷ ".1" ∷ []) 60 (61 ∷ 62 ∷ []) b t refl k
        ∙ not_this 20 "=" (".0" ∷ ".1" ∷ []) 61 [] b t refl h
        ∙ not_this 21 ".0" (".1" ∷ []) 46 (48 ∷ []) b t refl l
        ∙ not_this 22 ".1" [] 46 (49 ∷ []) b t refl l)

begins_is : (w s : List ℕ) → starts_with eqb s w ≡ begins_with w s
unfolding begins_with
begins_is [] s = refl
begins_is (b ∷ w) [] = refl
begins_is (b ∷ w) (c ∷ s) = ap (λ (v : Bool). eqb b c && v) (begins_is w s)

-- ---- the kind of what stands at a place of a text, by the byte there and those behind it
module _ (s : List ℕ) (at : ℕ) (h : at < length s) where
  -- as a range of the text has them
  abbrev behind : List ℕ
  behind = take (length s - (at + 1)) (drop (at + 1) s)

  begins : (w : List ℕ) {v : Bool} → v ≡ starts_with eqb behind w → begins_with w behind ≡ v
  begins w f = sym (f ∙ begins_is w behind)

  split : drop at s ≡ get_or s at 0 ∷ behind
  split =
      let q = length-drop (at + 1) s in
      rw (take_all (length s - (at + 1)) (drop (at + 1) s) (omega arith), add-one at) (drop-cons s at 0 h)

  pub kind-arrow : (v : Bool) → get_or s at 0 ≡ 61 → v ≡ starts_with eqb behind (62 ∷ []) → cond v 18 20 ≡ (mark_piece 10 text_marks (drop at s)).kind
  kind-arrow v e f = rw (split, e) (sym (arrow-kind behind v (begins _ f)))

  pub kind_iff : (v : Bool) → get_or s at 0 ≡ 60 → v ≡ starts_with eqb behind (61 ∷ 62 ∷ []) → cond v 19 a_stray ≡ (mark_piece 10 text_marks (drop at s)).kind
  kind_iff v e f = rw (split, e) (sym (iff_kind behind v (begins _ f)))

  pub kind-branch : (u v : Bool) → get_or s at 0 ≡ 46 → u ≡ starts_with eqb behind (48 ∷ []) → v ≡ starts_with eqb behind (49 ∷ [])
      → cond u 21 (cond v 22 a_stray) ≡ (mark_piece 10 text_marks (drop at s)).kind
  kind-branch u v e f g = rw (split, e) (sym (branch-kind behind u v (begins _ f) (begins _ g)))

  pub kind-single : (get_or s at 0 ≡ 61 → ⊥) → (get_or s at 0 ≡ 60 → ⊥) → (get_or s at 0 ≡ 46 → ⊥)
      → single_kind (get_or s at 0) ≡ (mark_piece 10 text_marks (drop at s)).kind
  kind-single x y z = rw split (sym (single_is (get_or s at 0) behind x y z))

-- ---- sizes
-- each mark has the size of its number
Sized : ℕ → List String → Type 0
Sized i [] = 1 ≡ mark_size a_stray
Sized i (m ∷ ms) = (length (spell m) ≡ mark_size i) × Sized (suc i) ms

by_kind : (i : ℕ) (ms : List String) (s : List ℕ) → Sized i ms → (mark_piece i ms s).size ≡ mark_size (mark_piece i ms s).kind
unfolding Sized mark_piece
by_kind i [] s h = h
by_kind i (m ∷ ms) s h = go (begins_with (spell m) s) (by_kind (suc i) ms s h.1)
  where
    go : (v : Bool) → (mark_piece (suc i) ms s).size ≡ mark_size (mark_piece (suc i) ms s).kind
        → let p = elim v as (λ _. Piece) [ true ↦ record { kind = i; size = length (spell m) } | false ↦ mark_piece (suc i) ms s ] in
        p.size ≡ mark_size p.kind
    go true e = h.0
    go false e = e

marks-sized : Sized 10 text_marks
unfolding Sized text_marks spell mark_size
marks-sized = (refl, (refl, (refl, (refl, (refl, (refl, (refl, (refl, (refl, (refl, (refl, (refl, (refl, refl)))))))))))))

begins_le : (w s : List ℕ) → begins_with w s ≡ true → length w ≤ length s
unfolding begins_with
begins_le [] s e = omega arith
begins_le (b ∷ w) [] e = let z : ◌≡◌ {A = ℕ} 0 1 = cc in absurd (omega arith)
begins_le (b ∷ w) (c ∷ s) e = go (eqb b c) e (begins_le w s)
  where
    go : (v : Bool) → (v && begins_with w s) ≡ true → (begins_with w s ≡ true → length w ≤ length s) → suc (length w) ≤ suc (length s)
    go true f ih = let h = ih f in omega arith
    go false f ih = let z : ◌≡◌ {A = ℕ} 0 1 = cc in absurd (omega arith)

within : (i : ℕ) (ms : List String) (b : ℕ) (t : List ℕ) → (mark_piece i ms (b ∷ t)).size ≤ suc (length t)
unfolding mark_piece
within i [] b t = omega arith
within i (m ∷ ms) b t = go (begins_with (spell m) (b ∷ t)) refl (within (suc i) ms b t)
  where
    go : (v : Bool) → begins_with (spell m) (b ∷ t) ≡ v → (mark_piece (suc i) ms (b ∷ t)).size ≤ suc (length t)
        → (elim v as (λ _. Piece) [ true ↦ record { kind = i; size = length (spell m) } | false ↦ mark_piece (suc i) ms (b ∷ t) ]).size ≤ suc (length t)
    go true e h = begins_le (spell m) (b ∷ t) e
    go false e h = h

-- THE EQUATION of a mark's size
pub mark-sized : (s : List ℕ) → (mark_piece 10 text_marks s).size ≡ mark_size (mark_piece 10 text_marks s).kind
mark-sized s = by_kind 10 text_marks s marks-sized

pub mark-within : (b : ℕ) (t : List ℕ) → (mark_piece 10 text_marks (b ∷ t)).size ≤ suc (length t)
mark-within b t = within 10 text_marks b t

pub size-pos : (k : ℕ) → 0 < mark_size k
unfolding mark_size
size-pos k = go (eqb k 19) (eqb k 18) (eqb k 21) (eqb k 22)
  where
    go : (a b c d : Bool) → 0 < cond a 3 (cond b 2 (cond c 2 (cond d 2 1)))
    go true b c d = omega arith
    go false true c d = omega arith
    go false false true d = omega arith
    go false false false true = omega arith
    go false false false false = omega arith
