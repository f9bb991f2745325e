-- `running::run` meets its contract. The measure: the bits from the place on.
use Rattle.words.proofs.Vocabulary.{ℕ, ◌≡◌, sym, ◌∙◌, arith}
use Rattle.running.proofs.Runs.{at_in, came_empty, label-within, first_runnable, second-after, second_runnable, in_table, came_node}
use Rattle.running.proofs.+run.Goals as goal

-- where the bit is set
set-bit : {r b : ℕ} → r ≡ b → (r ≡ 0 → ⊥) → b ≡ 0 → ⊥
set-bit e n z = n (e ∙ z)

pub bit_at-requires : goal.bit_at-requires
bit_at-requires t c = at_in c.requires

pub overflow_add-result : goal.overflow_add-result
overflow_add-result t c = omega (arith, at_in c.requires, c.requires.short)

pub returns-then-bit_at-eq0 : goal.returns-then-bit_at-eq0
returns-then-bit_at-eq0 t c = came_empty c.requires (sym c.bit_at.ensures.value ∙ c.if-bit_at-eq0.true)

pub overflow_add-at : goal.overflow_add-at
overflow_add-at t c = omega (arith, at_in c.requires, c.requires.short)

pub field_at-label-requires-clause-b_bound_2 : goal.field_at-label-requires-clause-b_bound_2
field_at-label-requires-clause-b_bound_2 t c = label-within c.requires (set-bit c.bit_at.ensures.value c.if-bit_at-eq0.false)

pub field_at-label-requires-clause-at_bound : goal.field_at-label-requires-clause-at_bound
field_at-label-requires-clause-at_bound t c =
    omega (arith, label-within c.requires (set-bit c.bit_at.ensures.value c.if-bit_at-eq0.false), c.requires.whole.inside.shape.some-variable)

pub overflow_add-at-2 : goal.overflow_add-at-2
overflow_add-at-2 t c = omega (arith, at_in c.requires, c.requires.short)

pub overflow_add-at-3 : goal.overflow_add-at-3
overflow_add-at-3 t c = omega (arith, c.requires.short, label-within c.requires (set-bit c.bit_at.ensures.value c.if-bit_at-eq0.false))

pub run-first-requires : goal.run-first-requires
run-first-requires t c =
    (omega (arith, c.decreases, at_in c.requires), first_runnable c.requires (set-bit c.bit_at.ensures.value c.if-bit_at-eq0.false))

pub run-second-requires : goal.run-second-requires
run-second-requires t c =
    let w = c.requires in
    let b = set-bit c.bit_at.ensures.value c.if-bit_at-eq0.false in
    (omega (arith, c.decreases, at_in w, second-after w b c.run-first.ensures), second_runnable w b c.run-first.ensures)

pub step_in-requires-clause-l_bound : goal.step_in-requires-clause-l_bound
step_in-requires-clause-l_bound t c =
    (in_table c.requires (set-bit c.bit_at.ensures.value c.if-bit_at-eq0.false) c.run-first.ensures c.run-second.ensures c.field_at-label.ensures).1

pub returns : goal.returns
returns t c =
    let b = set-bit c.bit_at.ensures.value c.if-bit_at-eq0.false in
    came_node c.requires b c.run-first.ensures c.run-second.ensures c.field_at-label.ensures c.step_in.ensures
