-- `slot_place` meets its contract. Assumes nothing.
use Rattle.words.proofs.Vocabulary.{refl, arith}
use Rattle.layout.specs.Slots.{slot_place}
use Rattle.layout.proofs.Slots.{SmallParts, slots_small}
use Rattle.layout.proofs.slot_place.Goals as goal

small : (c : goal.After-range-second) → let a = c.args in
    SmallParts c.range-first.result c.range-second.result a.s.ceiling a.l a.a a.b a.d
small c =
    slots_small c.args.s c.requires.shaped _ _ c.args.l _ _ _ c.range-first.ensures c.range-second.ensures c.requires.l_bound.0 c.requires.l_bound.1

pub overflow_mul-result : goal.overflow_mul-result
overflow_mul-result c =
    omega (arith, small c)

pub overflow_add-result : goal.overflow_add-result
overflow_add-result c =
    omega (arith, small c)

pub overflow_mul-result-2 : goal.overflow_mul-result-2
overflow_mul-result-2 c =
    omega (arith, small c)

pub overflow_add-result-2 : goal.overflow_add-result-2
overflow_add-result-2 c =
    omega (arith, small c)

pub overflow_mul-result-3 : goal.overflow_mul-result-3
overflow_mul-result-3 c =
    omega (arith, small c)

pub overflow_add-result-3 : goal.overflow_add-result-3
overflow_add-result-3 c =
    omega (arith, small c)

pub returns : goal.returns
unfolding slot_place
returns c =
    (rw (c.range-first.ensures, c.range-second.ensures) refl, (small c).three_sum)
