-- `find_parts` meets its contract: each way through the loop is a case of the definition's turn. Assumes nothing.
use mathlib.Core.Path.{refl, sym, ◌∙◌}
use native.Mathlib.Omega.{arith}
use Rattle.parts.proofs.Walking.{fields-byte, head_long, some-records, walking_first, top_within, walking_passed}
use Rattle.parts.proofs.Walking.{push-fits, opened-less, walking_opened, list-fits, listed-less, walking_listed, walking_last}
use Rattle.parts.proofs.find_parts.Goals as goal

pub count_of-requires : goal.count_of-requires
count_of-requires c = head_long _ c.requires

pub overflow_sub-count_of : goal.overflow_sub-count_of
overflow_sub-count_of c = let h = some-records _ c.requires in omega (arith, c.count_of.ensures)

pub push-requires-clause-i_bound : goal.push-requires-clause-i_bound
push-requires-clause-i_bound c = let h = some-records _ c.requires in omega (arith, c.count_of.ensures)

pub loop-i-init : goal.loop-i-init
loop-i-init c = walking_first _ c.requires _ _ c.count_of.ensures (c.push.ensures ∙ rw c.new-stack.ensures refl)

pub bounds-marks-i : goal.bounds-marks-i
bounds-marks-i c = let h = top_within c.loop-i.invariant c.in-Some.ensures in omega arith

pub loop-i-preserved-then-marks-i : goal.loop-i-preserved-then-marks-i
loop-i-preserved-then-marks-i c = walking_passed c.loop-i.invariant c.in-Some.ensures c.if-marks-i.true

pub bounds-marks-i-in-Some : goal.bounds-marks-i-in-Some
bounds-marks-i-in-Some c = let h = top_within c.loop-i.invariant c.in-Some.ensures in omega arith

pub overflow_mul-i : goal.overflow_mul-i
overflow_mul-i c = let h = top_within c.loop-i.invariant c.in-Some.ensures in omega arith

pub overflow_add-i : goal.overflow_add-i
overflow_add-i c = let h = top_within c.loop-i.invariant c.in-Some.ensures in omega arith

pub fields_at-f-requires-clause-at_value : goal.fields_at-f-requires-clause-at_value
fields_at-f-requires-clause-at_value c = let h = top_within c.loop-i.invariant c.in-Some.ensures in (omega arith, omega arith)

pub push_both-requires-clause-room : goal.push_both-requires-clause-room
push_both-requires-clause-room c =
    push-fits c.loop-i.invariant c.in-Some.ensures c.if-marks-i.false c.fields_at-f.ensures (c.if-f-number.true ∙ c.number.ensures.value)

pub push_both-requires-clause-first_bound : goal.push_both-requires-clause-first_bound
push_both-requires-clause-first_bound c = (fields-byte _ _ _ c.fields_at-f.ensures).0

pub push_both-requires-clause-second_bound : goal.push_both-requires-clause-second_bound
push_both-requires-clause-second_bound c = (fields-byte _ _ _ c.fields_at-f.ensures).1

pub loop-i-smaller-then-f-number : goal.loop-i-smaller-then-f-number
loop-i-smaller-then-f-number c = opened-less c.loop-i.invariant c.in-Some.ensures c.if-marks-i.false c.push_both.ensures

pub loop-i-preserved-then-f-number : goal.loop-i-preserved-then-f-number
loop-i-preserved-then-f-number c =
    walking_opened c.loop-i.invariant c.in-Some.ensures c.if-marks-i.false c.fields_at-f.ensures (c.if-f-number.true ∙ c.number.ensures.value) c.push_both.ensures

pub overflow_cast-parts : goal.overflow_cast-parts
overflow_cast-parts c = let h = top_within c.loop-i.invariant c.in-Some.ensures in omega arith

pub bounds-parts-parts : goal.bounds-parts-parts
bounds-parts-parts c =
    list-fits c.loop-i.invariant c.in-Some.ensures c.if-marks-i.false c.fields_at-f.ensures (λ e. c.if-f-number.false (e ∙ sym c.number.ensures.value))

pub loop-i-smaller : goal.loop-i-smaller
loop-i-smaller c = listed-less c.loop-i.invariant c.in-Some.ensures c.if-marks-i.false

pub loop-i-preserved : goal.loop-i-preserved
loop-i-preserved c =
    walking_listed c.loop-i.invariant c.in-Some.ensures c.if-marks-i.false c.fields_at-f.ensures (λ e. c.if-f-number.false (e ∙ sym c.number.ensures.value))

pub returns : goal.returns
returns c = let e = c.in_default.ensures in walking_last c.loop-i.invariant e.0
