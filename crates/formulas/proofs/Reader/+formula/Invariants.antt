-- The measures of `formulas::Reader::formula` and the six methods that it calls in a circle: each call is made at a smaller one.
use Rattle.std.proofs.Common.{◌+◌, ◌-◌, ◌*◌, length}
use Rattle.formulas.specs.Reading.{strength_of}
use Rattle.formulas.proofs.Levels.{Joined}
use Rattle.formulas.proofs.Reader.+formula.Given as goal

abbrev pub decreases-arrow : goal.decreases-arrow
decreases-arrow l = 16 * l.depth + 11

abbrev pub decreases-bracket : goal.decreases-bracket
decreases-bracket l = 16 * l.depth + 17

abbrev pub decreases-formula : goal.decreases-formula
decreases-formula l = 16 * l.depth + (15 - 3 * strength_of l.weakest)

abbrev pub decreases-more : goal.decreases-more
decreases-more l = 16 * l.depth + (14 - 3 * strength_of l.operator)

abbrev pub decreases-operand : goal.decreases-operand
decreases-operand l = 16 * l.depth + 3

abbrev pub decreases-quantified : goal.decreases-quantified
decreases-quantified l = 16 * l.depth + 17

abbrev pub decreases-tighter : goal.decreases-tighter
decreases-tighter l = 16 * l.depth + (13 - 3 * strength_of l.operator)

abbrev pub invariant-more-loop-operator : goal.invariant-more-loop-operator
invariant-more-loop-operator l = Joined l.depth l.operator l.initial.self l.self

abbrev pub decreases-more-loop-operator : goal.decreases-more-loop-operator
decreases-more-loop-operator l = length l.self.names.text.now - l.self.next.start
