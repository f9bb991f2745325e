-- Laws of the loops over slots, labels and rounds: what is clean at the end of a loop in which nothing was parted. Assumes nothing.
use Rattle.words.proofs.Vocabulary.{ℕ, ◌≤◌, ◌<◌, ◌+◌, ◌≡◌, sym, ap, subst, ⊎_elim, List, eq-or-lt_of_le, get_or, mod-lt, arith}
use Rattle.layout.specs.Shape.{Tuple, place_in}
use Rattle.layout.specs.Slots.{range_of, in_slots, FirstSlots}
use Rattle.layout.specs.declared.Shape.{Shape}
use Rattle.layout.proofs.Slots.{few-branches, slots-tuple, slots_of}
use Rattle.table.specs.Entry.{Step, seen}
use Rattle.joining.specs.Classes.{class_in}
use Rattle.joining.specs.Parting.{state_in, Span, Refines, Same, Clean, CleanRow, CleanLabel, CleanBy}
use Rattle.joining.proofs.Parts.{same_first, same-last, clean-same, map_self}

module _ (s : Shape) (t : List ℕ) (n : ℕ) (E : Span s t n) where
  abbrev k : ℕ
  k = s.branches

  abbrev f : Step
  f = state_in s t

  small : (l : ℕ) (js : List ℕ) → f l js < 64
  small l js = mod-lt (get_or t (place_in s l js) 0) (omega arith)

  same-one : (gs hs : List ℕ) (l : ℕ) (is : List ℕ) → Same gs hs → Tuple k n is → Clean f gs l is → Clean f hs l is
  same-one gs hs l is e u = clean-same f gs hs l k n is (small l) e (omega (arith, E.few, E.shape.ceiling)) u

  row_same : (gs hs : List ℕ) (l a b : ℕ) → Same gs hs → FirstSlots k n a b → CleanRow f k n gs l a b → CleanRow f k n hs l a b
  row_same gs hs l a b e w c d h =
      let r = few-branches s E.shape in
      same-one gs hs l (in_slots k a b d) e (slots-tuple k r.0 r.1 (record { before = w; third = h })) (c d h)

  -- a loop over the second slot
  module _ (l a : ℕ) (ha : a < range_of k 2 n) {gs hs ks : List ℕ} {A : (ℕ → ℕ) → Type 0} (v : Refines A n gs hs) (w : Refines A n hs ks) where
    pub rows_next : (b c : ℕ) → b < range_of k 1 n → (Same gs hs → (j : ℕ) → c ≤ j → j < range_of k 1 n → CleanRow f k n hs l a j) → CleanRow f k n ks l a b → c ≡ b + 1
        → Same gs ks → (j : ℕ) → b ≤ j → j < range_of k 1 n → CleanRow f k n ks l a j
    rows_next b c hb old new d e j h m = ⊎_elim
        (λ (y : b ≡ j). subst (CleanRow f k n ks l a) y new)
        (λ (y : b < j). row_same hs ks l a j (same-last v w e) (record { first = ha; second = m }) (old (same_first v w e) j (omega arith) m))
        (eq-or-lt_of_le h)

  -- a loop over the first slot
  module _ (l : ℕ) {gs hs ks : List ℕ} {A : (ℕ → ℕ) → Type 0} (v : Refines A n gs hs) (w : Refines A n hs ks) where
    pub planes_next : (a c : ℕ) → a < range_of k 2 n
        → (Same gs hs → (i : ℕ) → c ≤ i → i < range_of k 2 n → (j : ℕ) → j < range_of k 1 n → CleanRow f k n hs l i j)
        → (Same hs ks → (j : ℕ) → j < range_of k 1 n → CleanRow f k n ks l a j) → c ≡ a + 1
        → Same gs ks → (i : ℕ) → a ≤ i → i < range_of k 2 n → (j : ℕ) → j < range_of k 1 n → CleanRow f k n ks l i j
    planes_next a c ha old new d e i h m j hj = ⊎_elim
        (λ (y : a ≡ i). subst (λ (z : ℕ). CleanRow f k n ks l z j) y (new (same-last v w e) j hj))
        (λ (y : a < i). row_same hs ks l i j (same-last v w e) (record { first = m; second = hj }) (old (same_first v w e) i (omega arith) m j hj))
        (eq-or-lt_of_le h)

  -- all rows of a label
  pub label-clean : (gs : List ℕ) (l : ℕ) → ((i : ℕ) → i < range_of k 2 n → (j : ℕ) → j < range_of k 1 n → CleanRow f k n gs l i j) → CleanLabel f k n gs l
  label-clean gs l h =
      let r = few-branches s E.shape in
      slots_of (Clean f gs l) k r.0 r.1 (λ a b d w. h a w.before.first b w.before.second d w.third)

  -- a loop over labels
  module _ {gs hs ks : List ℕ} {A : (ℕ → ℕ) → Type 0} (v : Refines A n gs hs) (w : Refines A n hs ks) where
    pub labels_next : (bits l : ℕ) → (Same gs hs → CleanBy f k n hs bits l) → (l ≤ seen bits l → CleanLabel f k n ks l) → Same gs ks → CleanBy f k n ks bits (l + 1)
    labels_next bits l old new e i h own = ⊎_elim
        (λ (y : i ≡ l). subst (CleanLabel f k n ks) (sym y) (new (subst (λ (z : ℕ). z ≤ seen bits z) y own)))
        (λ (y : i < l). λ is u. same-one hs ks i is (same-last v w e) u (old (same_first v w e) i y own is u))
        (eq-or-lt_of_le (omega arith))

-- states that are alone are their classes' first members
pub single-clean : (f : Step) (k n : ℕ) (gs : List ℕ) (bits labels : ℕ) → ((q : ℕ) → q < n → class_in gs q ≡ q) → CleanBy f k n gs bits labels
single-clean f k n gs bits labels h l hl own is u = ap (λ (js : List ℕ). class_in gs (f l js)) (sym (map_self (class_in gs) n h u.below))
