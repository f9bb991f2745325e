-- What is put behind the records of a sentence's parts, by the word or mark that stands before or between them: document 01, "How trainers type
-- a rule". Assumes nothing.
use Rattle.std.specs.Prelude.{ℕ, List}
use Rattle.logic.specs.Rule.{Record, last_of}
use Rattle.text.specs.Records.{put, put_not, put_single, put_exists, put_alike}
use Rattle.drafting.specs.declared.Quantifier.{Quantifier}
use Rattle.drafting.specs.declared.Quantifier.TheVariants.{SomePlace, SomeSet, EveryPlace, EverySet}
use Rattle.drafting.specs.declared.Operator.{Operator}
use Rattle.drafting.specs.declared.Operator.TheVariants.{Alike, Implies, Or, And}

-- behind the records of what the variable x of `ex1` reaches over
abbrev pub put_some_place : ℕ → List Record → List Record
put_some_place x rs = put_exists x (put_single x rs)

-- behind the records of what a quantifier's variable x reaches over
abbrev pub put_quantified : Quantifier → ℕ → List Record → List Record
put_quantified SomePlace x rs = put_some_place x rs
put_quantified SomeSet x rs = put_exists x rs
put_quantified EveryPlace x rs = put_not (put_some_place x (put_not rs))
put_quantified EverySet x rs = put_not (put_exists x (put_not rs))

-- behind the records of both sides, which end in those of the right side, gs; fs are those up to the left side, which before `=>` is denied already
abbrev pub put_joined : Operator → List Record → List Record → List Record
put_joined Alike fs gs = put_alike fs gs
put_joined Implies fs gs = put 6 (last_of fs) (last_of gs) gs
put_joined Or fs gs = put 6 (last_of fs) (last_of gs) gs
put_joined And fs gs = put 7 (last_of fs) (last_of gs) gs
