-- What the words and marks of formulas open, bind and join, by kind: document 01, "How trainers type a rule". Assumes nothing.
use Rattle.std.specs.Prelude.{Option, Some, None}
use Rattle.text.specs.declared.kinds.Kind.{Kind}
use Rattle.text.specs.declared.kinds.Kind.TheVariants as kind
use Rattle.text.specs.Syntax.{Name, Order, first, second, Sentence, for_some, for_every}
use Rattle.drafting.specs.declared.Operator.{Operator}
use Rattle.drafting.specs.declared.Operator.TheVariants.{And, Or, Implies, Alike}
use Rattle.drafting.specs.declared.Quantifier.{Quantifier}
use Rattle.drafting.specs.declared.Quantifier.TheVariants.{SomePlace, SomeSet, EveryPlace, EverySet}
use Rattle.formulas.specs.declared.Opener.{Opener}
use Rattle.formulas.specs.declared.Opener.TheVariants.{Bracket, Denial, Quantified}

-- "a level opening at its bracket, `~`, quantifier word": what a token opens before an operand, if it does
abbrev pub opener_of : Kind → Option Opener
opener_of kind.Opening = Some Bracket
opener_of kind.Not = Some Denial
opener_of kind.Ex1 = Some (Quantified SomePlace)
opener_of kind.Ex2 = Some (Quantified SomeSet)
opener_of kind.All1 = Some (Quantified EveryPlace)
opener_of kind.All2 = Some (Quantified EverySet)
opener_of _ = None

-- the order of what a quantifier word binds, and the sentence that it makes
abbrev pub order_by : Quantifier → Order
order_by SomePlace = first
order_by SomeSet = second
order_by EveryPlace = first
order_by EverySet = second

abbrev pub quantifier_by : Quantifier → Order → Name → Sentence → Sentence
quantifier_by SomePlace = for_some
quantifier_by SomeSet = for_some
quantifier_by EveryPlace = for_every
quantifier_by EverySet = for_every

-- the mark of an operator
abbrev pub mark_of : Operator → Kind
mark_of Alike = kind.Alike
mark_of Implies = kind.Implies
mark_of Or = kind.Or
mark_of And = kind.And
