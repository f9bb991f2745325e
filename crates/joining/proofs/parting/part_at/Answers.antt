-- `part_at` meets its contract: one of the three slots splits a class.
use Rattle.words.proofs.Vocabulary.{ℕ, List, ◌≤◌, ◌<◌, ◌*◌, ◌≡◌, ◌∙◌, sym, ap, ap₂, refl, length, arith, mul-le-mul_right}
use Rattle.layout.specs.Slots.{Slotted, slot_place}
use Rattle.layout.proofs.Slots.{range_most}
use Rattle.joining.specs.Classes.{class_in}
use Rattle.joining.specs.Parting.{class_at, RowSpan}
use Rattle.joining.specs.declared.machine.Machine.{Machine}
use Rattle.joining.proofs.Rows.{slots-low, few-states, slots_small, slotted, entry_in, first_in, first-moves, second_in, second-moves, third_in, third-moves, clean_of, third-step}
use Rattle.joining.proofs.parting.part_at.Goals as goal
use Rattle.joining.proofs.parting.part_at.Goals.{After-leader-h, After-class_at-first, After-class_at}

abbrev Row : Machine → ℕ → ℕ → ℕ → Type 0
Row m l a b = RowSpan m.shape m.table.now m.states l a b

-- states no later than those in the slots are in the slots' ranges
held : (m : Machine) {l a b : ℕ} → Row m l a b → (i j x : ℕ) → i ≤ a → j ≤ b → x < m.states → (l < 256) × Slotted m.shape.branches m.shape.ceiling i j x
held m {l} e i j x hi hj hx =
    ((slots_small m.shape m.table.now m.states l e.span e.label e.slots).2, slotted m.shape m.table.now m.states l e.span e.label x (slots-low i j hi hj e.slots) hx)

-- their entries are within the table
inside : (m : Machine) {l a b : ℕ} → Row m l a b → (i j x p : ℕ) → i ≤ a → j ≤ b → x < m.states → p ≡ slot_place m.shape l i j x → p < length m.table.now
inside m {l} e i j x p hi hj hx q =
    omega (arith, entry_in m.shape m.table.now m.states l e.span e.label i j x (slots-low i j hi hj e.slots) hx)

-- the first members of the first two states' classes are no later than these
low : (c : After-leader-h) → (c.leader-g.result ≤ c.args.a) × (c.leader-h.result ≤ c.args.b)
low c =
    let W = c.args.classes.now.whole in
    (omega (arith, c.leader-g.ensures, W.low c.args.a), omega (arith, c.leader-h.ensures, W.low c.args.b))

pub leader-g-requires : goal.leader-g-requires
leader-g-requires c =
    let m = c.args.machine.now in
    let e = c.requires.row_span.0 in
    omega (arith, slots_small m.shape m.table.now m.states c.args.l e.span e.label e.slots)

pub leader-h-requires : goal.leader-h-requires
leader-h-requires c =
    let m = c.args.machine.now in
    let e = c.requires.row_span.0 in
    omega (arith, slots_small m.shape m.table.now m.states c.args.l e.span e.label e.slots)

-- ---- the entries that are looked at
pub slot_place-requires-clause-l_bound : goal.slot_place-requires-clause-l_bound
slot_place-requires-clause-l_bound c =
    held c.args.machine.now c.requires.row_span.0 _ _ _ (omega arith) (omega arith) c.requires.row_span.1

pub class_at-here-requires : goal.class_at-here-requires
class_at-here-requires c =
    inside c.args.machine.now c.requires.row_span.0 _ _ _ _ (omega arith) (omega arith) c.requires.row_span.1 c.slot_place.ensures.0

pub slot_place-requires-2-clause-l_bound : goal.slot_place-requires-2-clause-l_bound
slot_place-requires-2-clause-l_bound c =
    let w = low (goal.at.slot_place-requires-2-clause-l_bound c).After-leader-h in
    held c.args.machine.now c.requires.row_span.0 _ _ _ w.0 (omega arith) c.requires.row_span.1

pub class_at-first-requires : goal.class_at-first-requires
class_at-first-requires c =
    let w = low (goal.at.class_at-first-requires c).After-leader-h in
    inside c.args.machine.now c.requires.row_span.0 _ _ _ _ w.0 (omega arith) c.requires.row_span.1 c.slot_place-2.ensures.0

pub slot_place-requires-3-clause-l_bound : goal.slot_place-requires-3-clause-l_bound
slot_place-requires-3-clause-l_bound c =
    let w = low (goal.at.slot_place-requires-3-clause-l_bound c).After-leader-h in
    held c.args.machine.now c.requires.row_span.0 _ _ _ w.0 w.1 c.requires.row_span.1

pub class_at-requires : goal.class_at-requires
class_at-requires c =
    let w = low (goal.at.class_at-requires c).After-leader-h in
    inside c.args.machine.now c.requires.row_span.0 _ _ _ _ w.0 w.1 c.requires.row_span.1 c.slot_place-3.ensures.0

-- ---- what stands there
-- the class to which states in the slots lead
abbrev Led : Machine → List ℕ → ℕ → ℕ → ℕ → ℕ → ℕ
Led m G l i j d = class_at G m.table.now (slot_place m.shape l i j d)

here_is : (c : After-class_at-first) → c.class_at-here.result ≡ Led c.args.machine.now c.args.classes.now.of c.args.l c.args.a c.args.b c.args.d
here_is c = c.class_at-here.ensures ∙ ap (class_at c.args.classes.now.of c.args.machine.now.table.now) c.slot_place.ensures.0

first_is : (c : After-class_at-first) → c.class_at-first.result ≡ Led c.args.machine.now c.args.classes.now.of c.args.l (class_in c.args.classes.now.of c.args.a) c.args.b c.args.d
first_is c =
    let a = c.args in
    c.class_at-first.ensures
    ∙ ap (class_at a.classes.now.of a.machine.now.table.now) (c.slot_place-2.ensures.0 ∙ ap (λ (q : ℕ). slot_place a.machine.now.shape a.l q a.b a.d) c.leader-g.ensures)

both_is : (c : After-class_at) → c.class_at.result ≡ Led c.args.machine.now c.args.classes.now.of c.args.l (class_in c.args.classes.now.of c.args.a) (class_in c.args.classes.now.of c.args.b) c.args.d
both_is c =
    let a = c.args in
    c.class_at.ensures
    ∙ ap (class_at a.classes.now.of a.machine.now.table.now) (c.slot_place-3.ensures.0 ∙ ap₂ (λ (p q : ℕ). slot_place a.machine.now.shape a.l p q a.d) c.leader-g.ensures c.leader-h.ensures)

-- ---- the first slot
pub slot_place-base-requires-clause-l_bound : goal.slot_place-base-requires-clause-l_bound
slot_place-base-requires-clause-l_bound c =
    held c.args.machine.now c.requires.row_span.0 _ _ _ (omega arith) (omega arith) c.requires.row_span.1

pub overflow_mul-range : goal.overflow_mul-range
overflow_mul-range c =
    let s = c.args.machine.now.shape in
    let h = c.requires.row_span.0.span.shape in
    let z = range_most s.branches 1 {n = s.ceiling} {m = s.ceiling} h.some-state (omega arith) in
    let y : c.range.result * s.ceiling ≤ 64 * s.ceiling = mul-le-mul_right s.ceiling (omega (arith, c.range.ensures, z.2, h.ceiling)) in
    omega (arith, h.ceiling)

pub split-requires : goal.split-requires
split-requires c =
    let a = c.args in
    let m = a.machine.now in
    let e = c.requires.row_span.0 in
    let p = (goal.at.split-requires c).After-class_at-first in (
      few-states m.shape m.table.now m.states a.l e.span e.label,
      first_in m.shape m.table.now a.classes.now.of m.states a.l e.span e.label a.classes.now.whole a.a a.b a.d e.slots c.requires.row_span.1 _ _ _ c.slot_place-base.ensures.0
          (ap (λ (q : ℕ). q * m.shape.ceiling) c.range.ensures) c.leader-g.ensures (λ z. c.if-here-first.true (here_is p ∙ z ∙ sym (first_is p))),
    )

pub returns-then-here-first : goal.returns-then-here-first
returns-then-here-first c =
    let a = c.args in
    let m = a.machine.now in
    let e = c.requires.row_span.0 in
    let p = (goal.at.returns-then-here-first c).After-class_at-first in
    let w = first-moves m.shape m.table.now a.classes.now.of m.states a.l e.span e.label a.classes.now.whole a.a a.b a.d e.slots c.requires.row_span.1 _ _ _ c.slot_place-base.ensures.0
    (ap (λ (q : ℕ). q * m.shape.ceiling) c.range.ensures) c.leader-g.ensures (λ z. c.if-here-first.true (here_is p ∙ z ∙ sym (first_is p))) _ c.split.ensures in
    record { refines = w.0; fact_2 = w.1 }

-- ---- the second
pub slot_place-base-requires-then-first-class_at-clause-l_bound : goal.slot_place-base-requires-then-first-class_at-clause-l_bound
slot_place-base-requires-then-first-class_at-clause-l_bound c =
    let w = low (goal.at.slot_place-base-requires-then-first-class_at-clause-l_bound c).After-leader-h in
    held c.args.machine.now c.requires.row_span.0 _ _ _ w.0 (omega arith) c.requires.row_span.1

pub split-requires-then-first-class_at : goal.split-requires-then-first-class_at
split-requires-then-first-class_at c =
    let a = c.args in
    let m = a.machine.now in
    let W = a.classes.now.whole in
    let e = c.requires.row_span.0 in
    let p = (goal.at.split-requires-then-first-class_at c).After-class_at-first in
    let q = (goal.at.split-requires-then-first-class_at c).After-class_at in (
      few-states m.shape m.table.now m.states a.l e.span e.label,
      second_in m.shape m.table.now a.classes.now.of m.states a.l e.span e.label W (class_in a.classes.now.of a.a) a.b a.d (slots-low _ _ (W.low a.a) (omega arith) e.slots)
          c.requires.row_span.1 _ _ _ (c.slot_place-base-then-first-class_at.ensures.0 ∙ ap (λ (i : ℕ). slot_place m.shape a.l i 0 a.d) c.leader-g.ensures) refl c.leader-h.ensures
          (λ z. c.if-first-class_at.true (first_is p ∙ z ∙ sym (both_is q))),
    )

pub returns-then-first-class_at : goal.returns-then-first-class_at
returns-then-first-class_at c =
    let a = c.args in
    let m = a.machine.now in
    let W = a.classes.now.whole in
    let e = c.requires.row_span.0 in
    let p = (goal.at.returns-then-first-class_at c).After-class_at-first in
    let q = (goal.at.returns-then-first-class_at c).After-class_at in
    let w = second-moves m.shape m.table.now a.classes.now.of m.states a.l e.span e.label W (class_in a.classes.now.of a.a) a.b a.d (slots-low _ _ (W.low a.a) (omega arith) e.slots)
    c.requires.row_span.1 _ _ _ (c.slot_place-base-then-first-class_at.ensures.0 ∙ ap (λ (i : ℕ). slot_place m.shape a.l i 0 a.d) c.leader-g.ensures) refl c.leader-h.ensures
    (λ z. c.if-first-class_at.true (first_is p ∙ z ∙ sym (both_is q))) _ c.split-then-first-class_at.ensures in
    record { refines = w.0; fact_2 = w.1 }

-- ---- the third
pub slot_place-base-requires-2-clause-l_bound : goal.slot_place-base-requires-2-clause-l_bound
slot_place-base-requires-2-clause-l_bound c =
    let w = low (goal.at.slot_place-base-requires-2-clause-l_bound c).After-leader-h in
    held c.args.machine.now c.requires.row_span.0 _ _ _ w.0 w.1 (omega (arith, c.requires.row_span.1))

pub split-requires-2 : goal.split-requires-2
split-requires-2 c =
    let a = c.args in
    let m = a.machine.now in
    let G = a.classes.now.of in
    let W = a.classes.now.whole in
    let e = c.requires.row_span.0 in (
      few-states m.shape m.table.now m.states a.l e.span e.label,
      third_in m.shape m.table.now G m.states a.l e.span e.label W (class_in G a.a) (class_in G a.b) a.d (slots-low _ _ (W.low a.a) (W.low a.b) e.slots) c.requires.row_span.1 _ _ _
          (c.slot_place-base-2.ensures.0 ∙ ap₂ (λ (i j : ℕ). slot_place m.shape a.l i j 0) c.leader-g.ensures c.leader-h.ensures) refl c.leader-last.ensures,
    )

pub returns : goal.returns
returns c =
    let a = c.args in
    let m = a.machine.now in
    let G = a.classes.now.of in
    let W = a.classes.now.whole in
    let e = c.requires.row_span.0 in
    let k = class_at G m.table.now in
    let p = (goal.at.returns c).After-class_at-first in
    let q = (goal.at.returns c).After-class_at in
    let w = third-moves m.shape m.table.now G m.states a.l e.span e.label W (class_in G a.a) (class_in G a.b) a.d (slots-low _ _ (W.low a.a) (W.low a.b) e.slots) c.requires.row_span.1 _ _ _
    (c.slot_place-base-2.ensures.0 ∙ ap₂ (λ (i j : ℕ). slot_place m.shape a.l i j 0) c.leader-g.ensures c.leader-h.ensures) refl c.leader-last.ensures _
    (λ z. c.requires.fact (clean_of m.shape m.table.now G m.states a.l e.span e.label W a.a a.b _ _ e.slots refl refl a.d c.requires.row_span.1
    (ap k (third-step m.shape a.l a.a a.b a.d) ∙ sym (here_is p) ∙ c.if-here-first.false ∙ c.if-first-class_at.false ∙ both_is q ∙ z
    ∙ sym (ap k (third-step m.shape a.l (class_in G a.a) (class_in G a.b) (class_in G a.d))))))
    c.split-2.ensures in
    record { refines = w.0; fact_2 = w.1 }
