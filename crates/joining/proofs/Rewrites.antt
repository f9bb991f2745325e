-- Laws of writing the joined machine's entries over the old ones, in rising order of places. Assumes nothing.
use Rattle.words.proofs.Vocabulary.{ℕ, ◌≤◌, ◌<◌, ◌+◌, ◌-◌, ◌*◌, ◌%◌, suc, true, false, and-false, cond, ◌≡◌, ◌∙◌, refl, sym, ap, subst}
use Rattle.words.proofs.Vocabulary.{List, get_or, le-leb, lt-leb, ltb, arith}
use Rattle.words.proofs.Vocabulary.{mul-le-mul_right, suc-mul, dec_lt}
use native.Mathlib.Nat.{zero-mul}
use Rattle.layout.specs.Shape.{Shaped, labels_in, share_of, place_in, label_at, tuple_at, Tuple}
use Rattle.layout.specs.Slots.{range_of, in_slots, FirstSlots, Slotted, slot_place}
use Rattle.layout.specs.declared.Shape.{Shape}
use Rattle.layout.proofs.Places.{place-one, place_at, states_at, tuple_up}
use Rattle.layout.proofs.Slots.{few-branches, slots-tuple, slots_up, slots_of, tuple-slots, slots-below, range_both, range_most, map-slots, place-slots, share-slots}
use Rattle.table.specs.Entry.{seen}
use Rattle.exploring.specs.Explore.{are_below}
use Rattle.exploring.proofs.Grow.{are-below, each_below}
use Rattle.joining.specs.Parting.{state_at}
use Rattle.joining.specs.Rewriting.{Leaders, joined_entry, joined_byte, RowWritten, Rewritten}
use Rattle.joining.proofs.Parts.{is_false}
use Rattle.joining.proofs.Rows.{third-step}

-- ---- digits
quot_le : (c x y b : ℕ) → b < c → y * c ≤ x * c + b → y ≤ x
quot_le c x y b h e = elim (dec_lt x y) [
  | yes l ↦ absurd (let a : suc x * c ≤ y * c = mul-le-mul_right c l in let z = suc-mul x c in omega arith)
  | no l ↦ omega arith
]

quot_lt : (c x y b : ℕ) → x * c + b < y * c → x < y
quot_lt c x y b e = elim (dec_lt x y) [
  | yes l ↦ l
  | no l ↦ absurd (let a : y * c ≤ x * c = mul-le-mul_right c (omega arith) in omega arith)
]

-- between one multiple and the next, from the digit d on
quot_is : (c x y b d : ℕ) → b < c → y * c + d ≤ x * c + b → x * c + b < (y + 1) * c → (x ≡ y) × (d ≤ b)
quot_is c x y b d h lo hi =
    let p = quot_le c x y b h (omega arith) in
    let q = quot_lt c x (y + 1) b hi in
    let e : x ≡ y = omega arith in
    let z : x * c ≡ y * c = ap (λ (k : ℕ). k * c) e in
    (e, omega arith)

-- ---- bytes written in a row
module _ {v : ℕ → ℕ} {row : ℕ} where
  -- entries, and zeros after them
  pub written-clear : (m n : ℕ) {x : ℕ → ℕ} {t u u' : List ℕ} → m ≤ n → RowWritten x row m t u → RowWritten (λ d. 0) (row + m) (n - m) u u' → ((d : ℕ) → d < m → x d ≡ v d) → ((d : ℕ) → m ≤ d → d < n → 0 ≡ v d)
      → RowWritten v row n t u'
  written-clear m n {x} {t} {u} {u'} h a b same zeros = record {
    long = b.long ∙ a.long;
    entries = λ d l. elim (dec_lt d m) [
      | yes y ↦ b.rest (row + d) (λ p q. omega arith) ∙ a.entries d y ∙ same d y
      | no y ↦ ap (λ (z : ℕ). get_or u' z 0) (let z : row + d ≡ row + m + (d - m) = omega arith in z) ∙ b.entries (d - m) (omega arith) ∙ zeros d (omega arith) l
    ];
    rest = λ q o. b.rest q (λ p r. o (omega arith) (omega arith)) ∙ a.rest q (λ p r. o p (omega arith));
  }

  pub written_same : (n : ℕ) {x : ℕ → ℕ} {t u : List ℕ} → RowWritten x row n t u → ((d : ℕ) → d < n → x d ≡ v d) → RowWritten v row n t u
  written_same n w e = record { long = w.long; entries = λ d h. w.entries d h ∙ e d h; rest = w.rest }

row_up : (s : Shape) (n : ℕ) → n ≤ s.ceiling → (l a b : ℕ) → slot_place s l a b n ≤ slot_place s l a (b + 1) 0
unfolding slot_place
row_up s n few l a b =
    let C : ℕ = s.ceiling in
    let x : ℕ = (l * range_of s.branches 2 C + a) * range_of s.branches 1 C + b in
    let e : ((l * range_of s.branches 2 C + a) * range_of s.branches 1 C + (b + 1)) * C ≡ suc x * C = ap (λ (z : ℕ). z * C) (omega arith) in
    omega (arith, suc-mul x C)

-- ---- an entry of the joined machine
module _ (s : Shape) (h : Shaped s) (m n : ℕ) (F N : List ℕ) (L : Leaders m n F) where
  abbrev k : ℕ
  k = s.branches

  abbrev C : ℕ
  C = s.ceiling

  abbrev f : ℕ → ℕ
  f i = get_or F i 0

  -- are the states in the slots below x
  pub below_in : (x a b d : ℕ) → Slotted k x a b d → are_below x (in_slots k a b d) ≡ true
  below_in x a b d w = let r = few-branches s h in are-below x (slots-tuple k r.0 r.1 w).below

  pub below_not : (x a b d : ℕ) → Slotted k C a b d → (Slotted k x a b d → ⊥) → are_below x (in_slots k a b d) ≡ false
  below_not x a b d w o =
      let r = few-branches s h in
      is_false (are_below x (in_slots k a b d)) (λ e. o (tuple-slots k r.0 r.1 w (each_below x (in_slots k a b d) e)))

  lead_range : (after i : ℕ) → i < m → i < range_of k after n → f i < range_of k after n
  unfolding range_of
  lead_range after i hi = elim (ltb after k) as (λ v. i < cond v n 1 → f i < cond v n 1) [
    | true ↦ λ l. L.within i hi
    | false ↦ λ l. let e : i ≡ 0 = omega arith in omega (arith, L.begins (omega arith), ap f e)
  ]

  -- the first members of classes in the slots are in the slots' ranges
  pub lead-slots : (a b : ℕ) → a < m → b < m → FirstSlots k n a b → FirstSlots k n (f a) (f b)
  lead-slots a b ha hb w = record { first = lead_range 2 a ha w.first; second = lead_range 1 b hb w.second }

  module _ (few : n ≤ C) (t : List ℕ) (l a b : ℕ) (w : FirstSlots k n a b) where
    held : (d : ℕ) → d < n → Slotted k C a b d
    held d hd = slots_up few (record { before = w; third = hd })

    pub joined_in : a < m → b < m → (d : ℕ) → d < m → m ≤ n → get_or N (state_at t (slot_place s l (f a) (f b) 0 + f d)) 0 ≡ joined_entry s m F N t l (in_slots k a b d)
    joined_in ha hb d hd le =
        let r = few-branches s h in
        let u : Slotted k m a b d = record { before = record { first = range_both k 2 n ha w.first; second = range_both k 1 n hb w.second }; third = hd } in
        let v : Slotted k C (f a) (f b) (f d) = slots_up few (record { before = lead-slots a b ha hb w; third = L.within d hd }) in
        rw (below_in m a b d u) (ap (λ (p : ℕ). get_or N (state_at t p) 0) (third-step s l (f a) (f b) (f d) ∙ place-slots s h l (f a) (f b) (f d) v ∙ ap (place_in s l) (sym (map-slots f a b d k r.0 r.1))))

    pub joined_not : (d : ℕ) → d < n → ((a < m) × (b < m) × (d < m) → ⊥) → 0 ≡ joined_entry s m F N t l (in_slots k a b d)
    joined_not d hd o = rw (below_not m a b d (held d hd) (λ u. o (slots-below u))) refl

  -- an entry is read before it is written over
  pub slot_up : (l a b d i j x : ℕ) → a ≤ i → b ≤ j → d ≤ x → slot_place s l a b d ≤ slot_place s l i j x
  unfolding slot_place
  slot_up l a b d i j x ha hb hd =
      let X : ℕ = l * range_of k 2 C in
      let Y : ℕ = range_of k 1 C in
      let p : (X + a) * Y ≤ (X + i) * Y = mul-le-mul_right Y (omega arith) in
      let q : ((X + a) * Y + b) * C ≤ ((X + i) * Y + j) * C = mul-le-mul_right C (omega arith) in
      omega arith

  unread : (few : n ≤ C) (l a b d : ℕ) (t old : List ℕ) → FirstSlots k n a b → d < n → m ≤ n → ((q : ℕ) → slot_place s l a b 0 ≤ q → get_or t q 0 ≡ get_or old q 0)
      → joined_entry s m F N t l (in_slots k a b d) ≡ joined_entry s m F N old l (in_slots k a b d)
  unread few l a b d t old w hd le e = elim (dec_lt a m) [
    | no x ↦ sym (joined_not few t l a b w d hd (λ u. x u.0)) ∙ joined_not few old l a b w d hd (λ u. x u.0)
    | yes x ↦ elim (dec_lt b m) [
      | no y ↦ sym (joined_not few t l a b w d hd (λ u. y u.1)) ∙ joined_not few old l a b w d hd (λ u. y u.1)
      | yes y ↦ elim (dec_lt d m) [
        | no z ↦ sym (joined_not few t l a b w d hd (λ u. z u.2)) ∙ joined_not few old l a b w d hd (λ u. z u.2)
        | yes z ↦ sym (joined_in few t l a b w x y d z le)
            ∙ ap (λ (v : ℕ). get_or N (v % 64) 0) (e (slot_place s l (f a) (f b) 0 + f d)
            (let u = slot_up l a b 0 (f a) (f b) 0 (L.rising a x) (L.rising b y) (omega arith) in omega arith))
            ∙ joined_in few old l a b w x y d z le
      ]
    ]
  ]

  -- ---- what stands at a place
  module _ (bits : ℕ) (few : n ≤ C) where
    abbrev Split : ℕ → List ℕ → Type 0
    Split q is = (a : ℕ) × (b : ℕ) × (d : ℕ) × Slotted k C a b d × (is ≡ in_slots k a b d) × (q ≡ slot_place s (label_at s q) a b d)

    split : (q : ℕ) → Split q (tuple_at s q)
    split q =
        let r = few-branches s h in
        slots_of (λ is. place_in s (label_at s q) is ≡ q → Split q is) k r.0 r.1
        (λ a b d w p. (a, b, d, w, refl, sym p ∙ sym (place-slots s h (label_at s q) a b d w))) (tuple_at s q) (states_at s h.some-state q) (place_at s q)

    -- at an entry
    pub byte_at : (old : List ℕ) (l : ℕ) (is : List ℕ) → l ≤ seen bits l → Tuple k n is → joined_byte s bits n m F N old (place_in s l is) ≡ joined_entry s m F N old l is
    unfolding joined_byte
    byte_at old l is own u =
        let q : ℕ = place_in s l is in
        let p = place-one s (label_at s q) l (tuple_at s q) is (states_at s h.some-state q) (tuple_up few u) (place_at s q) in
        rw (p.0, p.1, le-leb l (seen bits l) own, are-below n u.below) refl

    slot_byte : (old : List ℕ) (l a b d : ℕ) → l ≤ seen bits l → Slotted k n a b d
        → joined_byte s bits n m F N old (slot_place s l a b d) ≡ joined_entry s m F N old l (in_slots k a b d)
    slot_byte old l a b d own w =
        let r = few-branches s h in
        ap (joined_byte s bits n m F N old) (place-slots s h l a b d (slots_up few w)) ∙ byte_at old l (in_slots k a b d) own (slots-tuple k r.0 r.1 w)

    -- a place without an entry keeps its byte
    module _ (old : List ℕ) (q : ℕ) where
      other-label : seen bits (label_at s q) < label_at s q → joined_byte s bits n m F N old q ≡ get_or old q 0
      unfolding joined_byte
      other-label o = rw (lt-leb (label_at s q) (seen bits (label_at s q)) o) refl

      other-slots : (let w = split q in Slotted k n w.0 w.1 w.2 → ⊥) → joined_byte s bits n m F N old q ≡ get_or old q 0
      unfolding joined_byte
      other-slots o = let w = split q in rw (w.4, below_not n w.0 w.1 w.2 w.3 o, and-false) refl

      abbrev X : ℕ
      X = range_of k 2 C

      abbrev Y : ℕ
      Y = range_of k 1 C

      -- the digits of q, from the last
      last-digit : (r d : ℕ) → r * C + d ≤ q → q < (r + 1) * C → let w = split q in ((label_at s q * X + w.0) * Y + w.1 ≡ r) × (d ≤ w.2)
      unfolding slot_place
      last-digit r d lo hi = let w = split q in quot_is C ((label_at s q * X + w.0) * Y + w.1) r w.2 d w.3.third (omega (arith, w.5)) (omega (arith, w.5))

      row_of : (r r' : ℕ) → r * C ≤ q → q < r' * C → let w = split q in (r ≤ (label_at s q * X + w.0) * Y + w.1) × ((label_at s q * X + w.0) * Y + w.1 < r')
      unfolding slot_place
      row_of r r' lo hi =
          let w = split q in
          let x : ℕ = (label_at s q * X + w.0) * Y + w.1 in
          (quot_le C x r w.2 w.3.third (omega (arith, w.5)), quot_lt C x r' w.2 (omega (arith, w.5)))

      plane_of : (p p' b : ℕ) → (p * Y + b) * C ≤ q → q < p' * Y * C → let w = split q in (p ≤ label_at s q * X + w.0) × (label_at s q * X + w.0 < p') × (p * Y + b ≤ (label_at s q * X + w.0) * Y + w.1)
      plane_of p p' b lo hi =
          let w = split q in
          let z = row_of (p * Y + b) (p' * Y) lo hi in
          let x : ℕ = label_at s q * X + w.0 in
          (quot_le Y x p w.1 w.3.before.second (omega arith), quot_lt Y x p' w.1 (omega arith), z.0)

      -- after the entries of a row
      row-rest : (l a b : ℕ) → slot_place s l a b n ≤ q → q < slot_place s l a (b + 1) 0 → joined_byte s bits n m F N old q ≡ get_or old q 0
      unfolding slot_place
      row-rest l a b lo hi =
          let r : ℕ = (l * X + a) * Y + b in
          let e : ((l * X + a) * Y + (b + 1)) * C ≡ (r + 1) * C = ap (λ (z : ℕ). z * C) (omega arith) in
          other-slots (λ u. let z = last-digit r n lo (omega arith) in omega (arith, u.third, z.1))

      -- after the rows of a plane
      plane_rest : (l a : ℕ) → slot_place s l a (range_of k 1 n) 0 ≤ q → q < slot_place s l (a + 1) 0 0 → joined_byte s bits n m F N old q ≡ get_or old q 0
      unfolding slot_place
      plane_rest l a lo hi =
          let p : ℕ = l * X + a in
          let e : ((l * X + (a + 1)) * Y + 0) * C ≡ (p + 1) * Y * C = ap (λ (z : ℕ). z * C) (let y : (l * X + (a + 1)) * Y ≡ (p + 1) * Y = ap (λ (z : ℕ). z * Y) (omega arith) in omega arith) in
          let w = split q in
          let z = plane_of p (p + 1) (range_of k 1 n) (omega arith) (omega arith) in
          let y : label_at s q * X + w.0 ≡ p = omega (arith, z.0, z.1) in
          let x : (label_at s q * X + w.0) * Y ≡ p * Y = ap (λ (i : ℕ). i * Y) y in
          other-slots (λ u. omega (arith, u.before.second, z.2))

      -- the label of a place between the first of l and the first of the next
      label-here : (l a : ℕ) → slot_place s l a 0 0 ≤ q → q < slot_place s (l + 1) 0 0 0 → let w = split q in (label_at s q ≡ l) × (l * X + a ≤ label_at s q * X + w.0)
      unfolding slot_place
      label-here l a lo hi =
          let w = split q in
          let e : (((l + 1) * X + 0) * Y + 0) * C ≡ (l + 1) * X * Y * C = ap (λ (z : ℕ). z * C) (let y : ((l + 1) * X + 0) * Y ≡ (l + 1) * X * Y = ap (λ (z : ℕ). z * Y) (omega arith) in omega arith) in
          let z = plane_of (l * X + a) ((l + 1) * X) 0 (omega arith) (omega arith) in
          let p = quot_le X (label_at s q) l w.0 w.3.before.first (omega (arith, z.0)) in
          let r = quot_lt X (label_at s q) (l + 1) w.0 z.1 in
          (omega arith, z.0)

      -- after the planes of a label
      label-rest : (l : ℕ) → slot_place s l (range_of k 2 n) 0 0 ≤ q → q < slot_place s (l + 1) 0 0 0 → joined_byte s bits n m F N old q ≡ get_or old q 0
      label-rest l lo hi =
          let z = label-here l (range_of k 2 n) lo hi in
          let y : label_at s q * X ≡ l * X = ap (λ (i : ℕ). i * X) z.0 in
          other-slots (λ u. omega (arith, u.before.first, z.1))

      label-other : (l : ℕ) → seen bits l < l → slot_place s l 0 0 0 ≤ q → q < slot_place s (l + 1) 0 0 0 → joined_byte s bits n m F N old q ≡ get_or old q 0
      label-other l o lo hi = other-label (subst (λ (i : ℕ). seen bits i < i) (sym (label-here l 0 lo hi).0) o)

    -- ---- from place to place
    skip : {old new : List ℕ} {value : ℕ → ℕ} (at to : ℕ) → Rewritten value at old new → at ≤ to → ((q : ℕ) → at ≤ q → q < to → value q ≡ get_or old q 0) → Rewritten value to old new
    skip at to w le keep = record {
      long = w.long;
      done = λ q l. elim (dec_lt q at) [ yes y ↦ w.done q y | no y ↦ w.rest q (omega arith) ∙ sym (keep q (omega arith) l) ];
      rest = λ q l. w.rest q (omega arith);
    }

    -- a row more
    pub row_next : (l a b : ℕ) (old t u : List ℕ) → l ≤ seen bits l → m ≤ n → FirstSlots k n a b
        → RowWritten (λ d. joined_entry s m F N t l (in_slots k a b d)) (slot_place s l a b 0) n t u
        → Rewritten (joined_byte s bits n m F N old) (slot_place s l a b 0) old t → Rewritten (joined_byte s bits n m F N old) (slot_place s l a (b + 1) 0) old u
    row_next l a b old t u own le w r v =
        let P : ℕ = slot_place s l a b 0 in
        skip (slot_place s l a b n) (slot_place s l a (b + 1) 0) (record {
          long = r.long ∙ v.long;
          done = λ q x. elim (dec_lt q P) [
            | yes y ↦ r.rest q (λ c d. omega arith) ∙ v.done q y
            | no y ↦
                let e : P + (q - P) ≡ q = omega arith in
                let i : q - P < n = omega (arith, third-step s l a b n) in
                ap (λ (z : ℕ). get_or u z 0) (sym e) ∙ r.entries (q - P) i ∙ unread few l a b (q - P) t old w i le v.rest
                ∙ sym (slot_byte old l a b (q - P) own (record { before = w; third = i })) ∙ ap (joined_byte s bits n m F N old) (sym (third-step s l a b (q - P)) ∙ e)
          ];
          rest = λ q x. r.rest q (λ c d. omega (arith, third-step s l a b n)) ∙ v.rest q (omega (arith, third-step s l a b n));
        }) (row_up s n few l a b) (λ q x y. row-rest old q l a b x y)

    -- the rest of a plane, of a label, and a label without entries
    pub plane_end : (l a : ℕ) (old t : List ℕ) → Rewritten (joined_byte s bits n m F N old) (slot_place s l a (range_of k 1 n) 0) old t
        → slot_place s l a (range_of k 1 n) 0 ≤ slot_place s l (a + 1) 0 0 → Rewritten (joined_byte s bits n m F N old) (slot_place s l (a + 1) 0 0) old t
    plane_end l a old t v le = skip (slot_place s l a (range_of k 1 n) 0) (slot_place s l (a + 1) 0 0) v le (λ q x y. plane_rest old q l a x y)

    pub label-end : (l : ℕ) (old t : List ℕ) → Rewritten (joined_byte s bits n m F N old) (slot_place s l (range_of k 2 n) 0 0) old t
        → slot_place s l (range_of k 2 n) 0 0 ≤ slot_place s (l + 1) 0 0 0 → Rewritten (joined_byte s bits n m F N old) (slot_place s (l + 1) 0 0 0) old t
    label-end l old t v le = skip (slot_place s l (range_of k 2 n) 0 0) (slot_place s (l + 1) 0 0 0) v le (λ q x y. label-rest old q l x y)

    pub label-skip : (l : ℕ) (old t : List ℕ) → seen bits l < l → Rewritten (joined_byte s bits n m F N old) (slot_place s l 0 0 0) old t
        → slot_place s l 0 0 0 ≤ slot_place s (l + 1) 0 0 0 → Rewritten (joined_byte s bits n m F N old) (slot_place s (l + 1) 0 0 0) old t
    label-skip l old t o v le = skip (slot_place s l 0 0 0) (slot_place s (l + 1) 0 0 0) v le (λ q x y. label-other old q l o x y)

-- ---- places in order
module _ (s : Shape) (h : Shaped s) (n : ℕ) (few : n ≤ s.ceiling) where
  pub plane_up : (l a : ℕ) → slot_place s l a (range_of s.branches 1 n) 0 ≤ slot_place s l (a + 1) 0 0
  unfolding slot_place
  plane_up l a =
      let C : ℕ = s.ceiling in
      let Y : ℕ = range_of s.branches 1 C in
      let x : ℕ = l * range_of s.branches 2 C + a in
      let r = range_most s.branches 1 {n = n} {m = C} h.some-state few in
      let e : (l * range_of s.branches 2 C + (a + 1)) * Y ≡ suc x * Y = ap (λ (z : ℕ). z * Y) (omega arith) in
      let p : (x * Y + range_of s.branches 1 n) * C ≤ ((l * range_of s.branches 2 C + (a + 1)) * Y + 0) * C = mul-le-mul_right C (omega (arith, suc-mul x Y, r.1)) in
      omega arith

  pub label_up : (l : ℕ) → slot_place s l (range_of s.branches 2 n) 0 0 ≤ slot_place s (l + 1) 0 0 0
  unfolding slot_place
  label_up l =
      let C : ℕ = s.ceiling in
      let Y : ℕ = range_of s.branches 1 C in
      let X : ℕ = range_of s.branches 2 C in
      let r = range_most s.branches 2 {n = n} {m = C} h.some-state few in
      let e : (l + 1) * X ≡ suc l * X = ap (λ (z : ℕ). z * X) (omega arith) in
      let p : (l * X + range_of s.branches 2 n) * Y ≤ ((l + 1) * X + 0) * Y = mul-le-mul_right Y (omega (arith, suc-mul l X, r.1)) in
      let q : ((l * X + range_of s.branches 2 n) * Y + 0) * C ≤ (((l + 1) * X + 0) * Y + 0) * C = mul-le-mul_right C (omega arith) in
      omega arith

  pub label_pass : (l : ℕ) → slot_place s l 0 0 0 ≤ slot_place s (l + 1) 0 0 0
  unfolding slot_place
  label_pass l =
      let C : ℕ = s.ceiling in
      let Y : ℕ = range_of s.branches 1 C in
      let X : ℕ = range_of s.branches 2 C in
      let e : (l + 1) * X ≡ suc l * X = ap (λ (z : ℕ). z * X) (omega arith) in
      let p : (l * X + 0) * Y ≤ ((l + 1) * X + 0) * Y = mul-le-mul_right Y (omega (arith, suc-mul l X)) in
      let q : ((l * X + 0) * Y + 0) * C ≤ (((l + 1) * X + 0) * Y + 0) * C = mul-le-mul_right C (omega arith) in
      omega arith

  pub whole-start : slot_place s 0 0 0 0 ≡ 0
  unfolding slot_place
  whole-start =
      let C : ℕ = s.ceiling in
      let Y : ℕ = range_of s.branches 1 C in
      let X : ℕ = range_of s.branches 2 C in
      let e : (0 * X + 0) * Y ≡ 0 = ap (λ (z : ℕ). z * Y) (let y : 0 * X + 0 ≡ 0 = omega arith in y) ∙ zero-mul Y in
      let z : ((0 * X + 0) * Y + 0) * C ≡ 0 = ap (λ (z : ℕ). z * C) (let y : (0 * X + 0) * Y + 0 ≡ 0 = omega arith in y) ∙ zero-mul C in
      omega arith

  pub whole-end : slot_place s (labels_in s) 0 0 0 ≡ share_of s
  unfolding slot_place
  whole-end =
      let C : ℕ = s.ceiling in
      let Y : ℕ = range_of s.branches 1 C in
      let X : ℕ = range_of s.branches 2 C in
      let e : (labels_in s * X + 0) * Y ≡ labels_in s * X * Y = ap (λ (z : ℕ). z * Y) (omega arith) in
      let z : ((labels_in s * X + 0) * Y + 0) * C ≡ labels_in s * X * Y * C = ap (λ (z : ℕ). z * C) (omega arith) in
      omega (arith, share-slots s h)
