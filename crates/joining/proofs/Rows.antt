-- The entries of a row, and the three ways in which one that is not clean splits a class. Assumes nothing.
use Rattle.words.proofs.Vocabulary.{ℕ, ◌≤◌, ◌<◌, ◌+◌, ◌-◌, ◌*◌, ◌≡◌, ◌∙◌, refl, sym, ap, ap₂, subst, List, map, length, arith, add-mul, mul_assoc}
use Rattle.layout.specs.Shape.{labels_in, Tuple}
use Rattle.layout.specs.Slots.{range_of, in_slots, FirstSlots, Slotted, slot_place}
use Rattle.layout.specs.declared.Shape.{Shape}
use Rattle.layout.proofs.Places.{few-labels}
use Rattle.layout.proofs.Slots.{few-branches, slots_up, slots-tuple, map-slots, range_used, range_most, place-slots, slots_in}
use Rattle.table.specs.Entry.{Step}
use Rattle.joining.specs.Classes.{class_in}
use Rattle.joining.specs.Parting.{state_in, class_at, Span, Whole, SplitBy, Respected, Refines, Same, Clean}
use Rattle.joining.proofs.Parts.{split_refines, split_moves}

-- ---- a step in one slot
pub third-step : (s : Shape) (l a b d : ℕ) → slot_place s l a b 0 + d ≡ slot_place s l a b d
unfolding slot_place
third-step s l a b d = omega arith

pub second_step : (s : Shape) (l a b d : ℕ) → slot_place s l a 0 d + b * s.ceiling ≡ slot_place s l a b d
unfolding slot_place
second_step s l a b d =
    let x : ℕ = (l * range_of s.branches 2 s.ceiling + a) * range_of s.branches 1 s.ceiling in
    let e : (x + b) * s.ceiling ≡ x * s.ceiling + b * s.ceiling = add-mul x b s.ceiling in
    let z : (x + 0) * s.ceiling ≡ x * s.ceiling = ap (λ (k : ℕ). k * s.ceiling) (omega arith) in
    omega arith

pub first_step : (s : Shape) (l a b d : ℕ) → slot_place s l 0 b d + a * (range_of s.branches 1 s.ceiling * s.ceiling) ≡ slot_place s l a b d
unfolding slot_place
first_step s l a b d =
    let C : ℕ = s.ceiling in
    let Y : ℕ = range_of s.branches 1 C in
    let x : ℕ = l * range_of s.branches 2 C in
    let e : (x + a) * Y ≡ x * Y + a * Y = add-mul x a Y in
    let z : (x + 0) * Y ≡ x * Y = ap (λ (k : ℕ). k * Y) (omega arith) in
    let f : ((x + a) * Y + b) * C ≡ ((x + 0) * Y + b + a * Y) * C = ap (λ (k : ℕ). k * C) (omega arith) in
    let g : ((x + 0) * Y + b + a * Y) * C ≡ ((x + 0) * Y + b) * C + a * Y * C = add-mul ((x + 0) * Y + b) (a * Y) C in
    let h : a * Y * C ≡ a * (Y * C) = mul_assoc a Y C in
    omega arith

-- lower states
pub slots-low : {k n a b : ℕ} (i j : ℕ) → i ≤ a → j ≤ b → FirstSlots k n a b → FirstSlots k n i j
slots-low i j hi hj w = record { first = omega (arith, w.first); second = omega (arith, w.second) }

module _ (s : Shape) (t : List ℕ) (n l : ℕ) (E : Span s t n) (hl : l < labels_in s) where
  pub few-states : n ≤ 64
  few-states = omega (arith, E.few, E.shape.ceiling)

  pub slotted : {a b : ℕ} (d : ℕ) → FirstSlots s.branches n a b → d < n → Slotted s.branches s.ceiling a b d
  slotted d w h = slots_up E.few (record { before = w; third = h })

  tuple : {a b : ℕ} (d : ℕ) → FirstSlots s.branches n a b → d < n → Tuple s.branches n (in_slots s.branches a b d)
  tuple d w h = let r = few-branches s E.shape in slots-tuple s.branches r.0 r.1 (record { before = w; third = h })

  pub slots_small : {a b : ℕ} → FirstSlots s.branches n a b → (a < 64) × (b < 64) × (l < 256)
  slots_small {a} {b} w =
      let x = range_most s.branches 2 E.shape.some-state E.few in
      let y = range_most s.branches 1 E.shape.some-state E.few in
      let z = few-labels s E.shape in
      (omega (arith, w.first, E.shape.ceiling), omega (arith, w.second, E.shape.ceiling), omega arith)

  pub entry_in : (a b d : ℕ) → FirstSlots s.branches n a b → d < n → slot_place s l a b d < length t
  entry_in a b d w h = let z = slots_in s E.shape l a b d hl (slotted d w h) in omega (arith, E.whole)

  -- a row lies within the table
  pub row-start : (a b : ℕ) → FirstSlots s.branches n a b → Slotted s.branches s.ceiling a b 0
  row-start a b w =
      let p = E.shape.some-state in
      let x = range_most s.branches 2 p E.few in
      let y = range_most s.branches 1 p E.few in
      record { before = record { first = omega (arith, w.first); second = omega (arith, w.second) }; third = p }

  pub row_in : (a b : ℕ) → FirstSlots s.branches n a b → slot_place s l a b 0 + n ≤ length t
  row_in a b w =
      let p = E.shape.some-state in
      let z = slots_in s E.shape l a b (s.ceiling - 1) hl (record { before = (row-start a b w).before; third = omega arith }) in
      omega (arith, third-step s l a b (s.ceiling - 1), E.whole, E.few)

module _ (s : Shape) (t gs : List ℕ) (n l : ℕ) (E : Span s t n) (hl : l < labels_in s) (W : Whole gs) where
  abbrev k : ℕ
  k = s.branches

  abbrev C : ℕ
  C = s.ceiling

  abbrev f : Step
  f = state_in s t

  abbrev g : ℕ → ℕ
  g = class_in gs

  -- an entry is where its slots say
  entry_is : (a b d : ℕ) → FirstSlots k n a b → d < n → class_at gs t (slot_place s l a b d) ≡ g (f l (in_slots k a b d))
  entry_is a b d w h = ap (class_at gs t) (place-slots s E.shape l a b d (slotted s t n l E hl d w h))

  -- ---- clean entries
  map_is : (a b d : ℕ) → map g (in_slots k a b d) ≡ in_slots k (g a) (g b) (g d)
  map_is a b d = let r = few-branches s E.shape in map-slots g a b d k r.0 r.1

  firsts : (a b : ℕ) → FirstSlots k n a b → FirstSlots k n (g a) (g b)
  firsts a b w = slots-low (g a) (g b) (W.low a) (W.low b) w

  first-is : (a b d : ℕ) → FirstSlots k n a b → d < n → class_at gs t (slot_place s l (g a) (g b) (g d)) ≡ g (f l (map g (in_slots k a b d)))
  first-is a b d w h =
      entry_is (g a) (g b) (g d) (firsts a b w) (omega (arith, W.low d)) ∙ ap (λ (is : List ℕ). g (f l is)) (sym (map_is a b d))

  module _ (a b row lead : ℕ) (w : FirstSlots k n a b) (er : row ≡ slot_place s l a b 0) (el : lead ≡ slot_place s l (g a) (g b) 0) where
    at_row : (d : ℕ) → row + d ≡ slot_place s l a b d
    at_row d = ap (λ (q : ℕ). q + d) er ∙ third-step s l a b d

    at_lead : (d : ℕ) → lead + d ≡ slot_place s l (g a) (g b) d
    at_lead d = ap (λ (q : ℕ). q + d) el ∙ third-step s l (g a) (g b) d

    pub clean_of : (d : ℕ) → d < n → class_at gs t (row + d) ≡ class_at gs t (lead + g d) → Clean f gs l (in_slots k a b d)
    clean_of d h e =
        sym (entry_is a b d w h) ∙ sym (ap (class_at gs t) (at_row d)) ∙ e ∙ ap (class_at gs t) (at_lead (g d)) ∙ first-is a b d w h

    pub clean_to : (d : ℕ) → d < n → Clean f gs l (in_slots k a b d) → class_at gs t (row + d) ≡ class_at gs t (lead + g d)
    clean_to d h e =
        ap (class_at gs t) (at_row d) ∙ entry_is a b d w h ∙ e ∙ sym (first-is a b d w h) ∙ sym (ap (class_at gs t) (at_lead (g d)))

  -- ---- a class split by what one slot leads to
  abbrev Parted : List ℕ → Type 0
  Parted hs = Refines (Respected f k n l) n gs hs × (Same gs hs → ⊥)

  -- P x has x in that slot; p leads elsewhere than its class's first member
  moves : (P : ℕ → List ℕ) (key : ℕ → ℕ) (p : ℕ) (hs : List ℕ) → ((x : ℕ) → x < n → Tuple k n (P x)) → ((x : ℕ) → x < n → key x ≡ g (f l (P x)))
      → ((name : ℕ → ℕ) (x y : ℕ) → name x ≡ name y → map name (P x) ≡ map name (P y)) → p < n → (key p ≡ key (g p) → ⊥) → SplitBy key n (g p) gs hs → Parted hs
  moves P key p hs u e m hp d w = (
    split_refines key n (g p) gs hs W w (λ name R K x y hx hy z.
        e x hx ∙ K (f l (P x)) (f l (P y)) (R.inside (P x) (u x hx)) (R.inside (P y) (u y hy)) (R.alike (P x) (P y) (u x hx) (u y hy) (m name x y z)) ∙ sym (e y hy)),
    split_moves key n (g p) gs hs W w p hp (few-states s t n l E hl) refl (λ z. d (sym z)),
  )

  same_lists : (name : ℕ → ℕ) (a b d i j x : ℕ) → name a ≡ name i → name b ≡ name j → name d ≡ name x → map name (in_slots k a b d) ≡ map name (in_slots k i j x)
  same_lists name a b d i j x p q r =
      let z = few-branches s E.shape in
      map-slots name a b d k z.0 z.1 ∙ (let y : in_slots k (name a) (name b) (name d) ≡ in_slots k (name i) (name j) (name x) = cc in y) ∙ sym (map-slots name i j x k z.0 z.1)

  module _ (a b d : ℕ) (w : FirstSlots k n a b) (hd : d < n) where
    module _ (base stride r : ℕ) (eb : base ≡ slot_place s l a b 0) (es : stride ≡ 1) (er : r ≡ g d) where
      third_at : (x : ℕ) → base + x * stride ≡ slot_place s l a b x
      third_at x = ap₂ (λ (p q : ℕ). p + x * q) eb es ∙ ap (λ (q : ℕ). slot_place s l a b 0 + q) (omega arith) ∙ third-step s l a b x

      pub third_in : (x : ℕ) → x < n → base + x * stride < length t
      third_in x h = subst (λ (q : ℕ). q < length t) (sym (third_at x)) (entry_in s t n l E hl a b x w h)

      pub third-moves : (hs : List ℕ) → (class_at gs t (slot_place s l a b d) ≡ class_at gs t (slot_place s l a b (g d)) → ⊥)
          → SplitBy (λ x. class_at gs t (base + x * stride)) n r gs hs → Parted hs
      third-moves hs o v =
          moves (λ x. in_slots k a b x) (λ x. class_at gs t (base + x * stride)) d hs (λ x h. tuple s t n l E hl x w h)
          (λ x h. ap (class_at gs t) (third_at x) ∙ entry_is a b x w h) (λ name x y z. same_lists name a b x a b y refl refl z) hd
          (λ z. o (sym (ap (class_at gs t) (third_at d)) ∙ z ∙ ap (class_at gs t) (third_at (g d))))
          (subst (λ (q : ℕ). SplitBy (λ x. class_at gs t (base + x * stride)) n q gs hs) er v)

    within : {i : ℕ} (after : ℕ) → i < range_of k after n → i < n
    within after h = let z = range_most k after {n = n} {m = n} (omega arith) (omega arith) in omega (arith, z.2)

    -- a slot whose state leads elsewhere than its class's first member is used
    used : (a : ℕ) → (a ≡ g a → ⊥) → 0 < a
    used a o = let z = W.low a in omega arith

    module _ (base stride r : ℕ) (eb : base ≡ slot_place s l a 0 d) (es : stride ≡ C) (er : r ≡ g b)
        (o : class_at gs t (slot_place s l a b d) ≡ class_at gs t (slot_place s l a (g b) d) → ⊥) where
      second_at : (x : ℕ) → base + x * stride ≡ slot_place s l a x d
      second_at x = ap₂ (λ (p q : ℕ). p + x * q) eb es ∙ second_step s l a x d

      second-slots : (x : ℕ) → x < n → FirstSlots k n a x
      second-slots x h = record { first = w.first; second = range_used k 1 (used b (λ e. o (ap (λ (q : ℕ). class_at gs t (slot_place s l a q d)) e))) w.second x h }

      pub second_in : (x : ℕ) → x < n → base + x * stride < length t
      second_in x h = subst (λ (q : ℕ). q < length t) (sym (second_at x)) (entry_in s t n l E hl a x d (second-slots x h) hd)

      pub second-moves : (hs : List ℕ) → SplitBy (λ x. class_at gs t (base + x * stride)) n r gs hs → Parted hs
      second-moves hs v =
          moves (λ x. in_slots k a x d) (λ x. class_at gs t (base + x * stride)) b hs (λ x h. tuple s t n l E hl d (second-slots x h) hd)
          (λ x h. ap (class_at gs t) (second_at x) ∙ entry_is a x d (second-slots x h) hd) (λ name x y z. same_lists name a x d a y d refl z refl) (within 1 w.second)
          (λ z. o (sym (ap (class_at gs t) (second_at b)) ∙ z ∙ ap (class_at gs t) (second_at (g b))))
          (subst (λ (q : ℕ). SplitBy (λ x. class_at gs t (base + x * stride)) n q gs hs) er v)

    module _ (base stride r : ℕ) (eb : base ≡ slot_place s l 0 b d) (es : stride ≡ range_of k 1 C * C) (er : r ≡ g a)
        (o : class_at gs t (slot_place s l a b d) ≡ class_at gs t (slot_place s l (g a) b d) → ⊥) where
      first-at : (x : ℕ) → base + x * stride ≡ slot_place s l x b d
      first-at x = ap₂ (λ (p q : ℕ). p + x * q) eb es ∙ first_step s l x b d

      first-slots : (x : ℕ) → x < n → FirstSlots k n x b
      first-slots x h = record { first = range_used k 2 (used a (λ e. o (ap (λ (q : ℕ). class_at gs t (slot_place s l q b d)) e))) w.first x h; second = w.second }

      pub first_in : (x : ℕ) → x < n → base + x * stride < length t
      first_in x h = subst (λ (q : ℕ). q < length t) (sym (first-at x)) (entry_in s t n l E hl x b d (first-slots x h) hd)

      pub first-moves : (hs : List ℕ) → SplitBy (λ x. class_at gs t (base + x * stride)) n r gs hs → Parted hs
      first-moves hs v =
          moves (λ x. in_slots k x b d) (λ x. class_at gs t (base + x * stride)) a hs (λ x h. tuple s t n l E hl d (first-slots x h) hd)
          (λ x h. ap (class_at gs t) (first-at x) ∙ entry_is x b d (first-slots x h) hd) (λ name x y z. same_lists name x b d y b d z refl refl) (within 2 w.first)
          (λ z. o (sym (ap (class_at gs t) (first-at a)) ∙ z ∙ ap (class_at gs t) (first-at (g a))))
          (subst (λ (q : ℕ). SplitBy (λ x. class_at gs t (base + x * stride)) n q gs hs) er v)
