-- `formulas::Reader::formula` and the six methods that it calls in a circle meet their contracts.
use Rattle.std.proofs.Common.{arith, true, false, refl, sym, ◌∙◌, ap, ◌≡◌, ℕ, suc, ◌-◌, ◌≤◌, Option, Some, None, not}
use mathlib.Core.Path.{subst}
use Rattle.std.specs.Option.{SomeIff}
use denote.Enum.Bare.{sameb, same_true, same_false, differs_true, differs_false}
use Rattle.text.specs.declared.kinds.Kind.{Kind}
use Rattle.text.specs.contracts.kinds.Kind as kind
use Rattle.drafting.specs.declared.Operator.{Operator}
use Rattle.drafting.specs.declared.Operator.TheVariants.{And, Or, Implies}
use Rattle.drafting.specs.contracts.Operator as operator
use Rattle.formulas.specs.declared.Opener.{Opener}
use Rattle.formulas.specs.Words.{opener_of}
use Rattle.formulas.specs.Reading.{joins-alike, joins-either, joins-both}
use Rattle.formulas.proofs.Strengths.{most, below_and, below_or, below_implies}
use Rattle.formulas.proofs.Levels.{passed, same, level_as, refused-down, joined-first, joined_on, joined-less, joined-refused, joined-ends}
use Rattle.formulas.proofs.Levels.{arrow-none, arrow-deep, arrow-refused, arrow_on, operand-atom, operand_deep, operand-bracket, operand-quantifier}
use Rattle.formulas.proofs.Levels.{operand_not-refused, operand_not, bracket-refused, bracket-reads, inner_is, quantified_unbound, quantified-refused, quantified_reads}
use Rattle.formulas.proofs.Reader.+formula.Goals as goal

-- what a test of two operators says
is : (a b : Operator) → true ≡ sameb operator.the_type a b → a ≡ b
is a b e = same_true operator.the_type tt _ _ (sym e)

is_not : {a b : Operator} → false ≡ sameb operator.the_type a b → a ≡ b → ⊥
is_not e = same_false operator.the_type _ _ (sym e)

is_implies : {a b : Kind} → false ≡ not (sameb kind.the_type a b) → a ≡ b
is_implies e = differs_false kind.the_type tt _ _ (sym e)

-- a token is an operator's mark
is_mark : {a b c : Kind} → true ≡ sameb kind.the_type a b → b ≡ c → a ≡ c
is_mark e f = same_true kind.the_type tt _ _ (sym e) ∙ f

-- what a token opens
opens-it : (k : Kind) {o : Option Opener} {p q : Opener} → o ≡ opener_of k → o ≡ Some p → p ≡ q → opener_of k ≡ Some q
opens-it k e f g = sym e ∙ f ∙ ap Some g

no_opener : (o : Option Opener) → ((p : Opener) → o ≡ Some p → ⊥) → o ≡ None
no_opener None z = refl
no_opener (Some p) z = absurd (z p refl)

-- the levels that may open inside one more, where one may
deeper_is : {d k : ℕ} {o : Option ℕ} → SomeIff o (1 ≤ d) (d - 1) → o ≡ Some k → d ≡ suc k
deeper_is {d} s e = let p = subst (λ (o : Option ℕ). SomeIff o (1 ≤ d) (d - 1)) e s in omega arith

no_deeper : {d : ℕ} (o : Option ℕ) → SomeIff o (1 ≤ d) (d - 1) → ((k : ℕ) → o ≡ Some k → ⊥) → d ≡ 0
no_deeper None s z = omega arith
no_deeper (Some k) s z = absurd (z k refl)

pub arrow-returns-then-ne : goal.arrow-returns-then-ne
arrow-returns-then-ne t c = arrow-none _ (differs_true kind.the_type _ _ (sym c.if-ne.ensures))

pub arrow-returns-in_default : goal.arrow-returns-in_default
arrow-returns-in_default t c =
    arrow-deep (is_implies c.if-ne.ensures) _ (no_deeper _ c.checked_sub.ensures c.in_default.not-Some) c.refuse_next.ensures

pub arrow-returns-in_err-formula : goal.arrow-returns-in_err-formula
arrow-returns-in_err-formula t c =
    rw (passed c.from_residual.ensures.1) (arrow-refused (is_implies c.if-ne.ensures)
    (same refl refl refl) c.put_not.ensures c.look.ensures (deeper_is c.checked_sub.ensures c.in-Some.is) c.in_err-formula.ensures)

pub arrow-returns : goal.arrow-returns
arrow-returns t c =
    arrow_on (is_implies c.if-ne.ensures) (same refl refl refl) c.put_not.ensures c.look.ensures
    (deeper_is c.checked_sub.ensures c.in-Some.is) c.in_ok-formula.ensures (same refl refl refl) c.put_joined.ensures

pub bracket-returns-in_err-formula : goal.bracket-returns-in_err-formula
bracket-returns-in_err-formula t c =
    rw (passed c.from_residual.ensures.1) (bracket-refused _ c.requires c.look.ensures c.in_err-formula.ensures)

pub bracket-returns : goal.bracket-returns
bracket-returns t c = bracket-reads _ c.requires c.look.ensures c.in_ok-formula.ensures c.close.ensures

pub formula-returns-in_err-operand : goal.formula-returns-in_err-operand
formula-returns-in_err-operand t c =
    let m = most c.args.weakest in
    rw (passed c.from_residual.ensures.1) (refused-down _ 4 _ (omega arith) c.in_err-operand.ensures)

pub formula-more-requires : goal.formula-more-requires
formula-more-requires t c = let m = most c.args.weakest in (omega arith, joins-both)

pub formula-returns-in_err-more : goal.formula-returns-in_err-more
formula-returns-in_err-more t c =
    rw (passed c.from_residual-in_err-more.ensures.1) (refused-down _ 3 _ (most c.args.weakest) (c.in_err-more.ensures _ c.in_ok-operand.ensures))

pub formula-returns-then-eq : goal.formula-returns-then-eq
formula-returns-then-eq t c = rw (is c.args.weakest And c.if-eq.ensures) (c.in_ok-more.ensures _ c.in_ok-operand.ensures)

pub formula-more-requires-2 : goal.formula-more-requires-2
formula-more-requires-2 t c = let m = below_and c.args.weakest (is_not c.if-eq.ensures) in (omega arith, joins-either)

pub formula-returns-in_err-more-2 : goal.formula-returns-in_err-more-2
formula-returns-in_err-more-2 t c =
    rw (passed c.from_residual-in_err-more-2.ensures.1) (refused-down _ 2 _ (below_and c.args.weakest (is_not c.if-eq.ensures))
    (c.in_err-more-2.ensures _ (c.in_ok-more.ensures _ c.in_ok-operand.ensures)))

pub formula-returns-then-eq-2 : goal.formula-returns-then-eq-2
formula-returns-then-eq-2 t c =
    rw (is c.args.weakest Or c.if-eq-2.ensures) (c.in_ok-more-2.ensures _ (c.in_ok-more.ensures _ c.in_ok-operand.ensures))

pub formula-returns-in_err-arrow : goal.formula-returns-in_err-arrow
formula-returns-in_err-arrow t c =
    rw (passed c.from_residual-in_err-arrow.ensures.1)
    (refused-down _ 1 _ (below_or c.args.weakest (is_not c.if-eq.ensures) (is_not c.if-eq-2.ensures))
    (c.in_err-arrow.ensures _ (c.in_ok-more-2.ensures _ (c.in_ok-more.ensures _ c.in_ok-operand.ensures))))

pub formula-returns-then-eq-3 : goal.formula-returns-then-eq-3
formula-returns-then-eq-3 t c =
    rw (is c.args.weakest Implies c.if-eq-3.ensures)
    (c.in_ok-arrow.ensures _ (c.in_ok-more-2.ensures _ (c.in_ok-more.ensures _ c.in_ok-operand.ensures)))

pub formula-more-requires-3 : goal.formula-more-requires-3
formula-more-requires-3 t c =
    let m = below_implies c.args.weakest (is_not c.if-eq.ensures) (is_not c.if-eq-2.ensures) (is_not c.if-eq-3.ensures) in
    (omega arith, joins-alike)

pub formula-returns : goal.formula-returns
formula-returns t c =
    level_as _ (sym (below_implies c.args.weakest (is_not c.if-eq.ensures) (is_not c.if-eq-2.ensures) (is_not c.if-eq-3.ensures)))
    (c.more-3.ensures _ (c.in_ok-arrow.ensures _ (c.in_ok-more-2.ensures _ (c.in_ok-more.ensures _ c.in_ok-operand.ensures))))

pub more-loop-operator-init : goal.more-loop-operator-init
more-loop-operator-init t c = joined-first c.requires

pub more-returns-in_err-tighter : goal.more-returns-in_err-tighter
more-returns-in_err-tighter t c =
    rw (passed c.from_residual.ensures.1) (joined-refused c.loop-operator.invariant
    (is_mark c.loop-operator-test.ensures c.mark-mark.ensures) c.look.ensures c.in_err-tighter.ensures)

pub more-loop-operator-smaller : goal.more-loop-operator-smaller
more-loop-operator-smaller t c =
    joined-less c.loop-operator.invariant (is_mark c.loop-operator-test.ensures c.mark-mark.ensures)
    c.look.ensures c.in_ok-tighter.ensures

pub more-loop-operator-preserved : goal.more-loop-operator-preserved
more-loop-operator-preserved t c =
    joined_on c.loop-operator.invariant (is_mark c.loop-operator-test.ensures c.mark-mark.ensures)
    c.look.ensures c.in_ok-tighter.ensures (same refl refl refl) c.put_joined.ensures

pub more-returns : goal.more-returns
more-returns t c =
    joined-ends c.loop-operator.invariant
    (λ e. same_false kind.the_type _ _ (sym c.loop-operator-test.ensures) (e ∙ sym c.mark-mark.ensures))

pub operand-returns-in_default : goal.operand-returns-in_default
operand-returns-in_default t c = operand-atom _ (sym c.opens.ensures ∙ no_opener _ (λ p. c.in_default.not-Some p)) c.atom.ensures

pub operand-returns-in_default-checked_sub : goal.operand-returns-in_default-checked_sub
operand-returns-in_default-checked_sub t c =
    operand_deep (sym c.opens.ensures ∙ c.in-Some.is) _ (no_deeper _ c.checked_sub.ensures c.in_default-checked_sub.not-Some) c.refuse_next.ensures

pub operand-returns-in-Bracket : goal.operand-returns-in-Bracket
operand-returns-in-Bracket t c =
    operand-bracket (deeper_is c.checked_sub.ensures c.in-Some-checked_sub.is) (opens-it _ c.opens.ensures c.in-Some.is c.in-Bracket.is) c.bracket.ensures

pub operand-returns-in-Quantified : goal.operand-returns-in-Quantified
operand-returns-in-Quantified t c =
    operand-quantifier (deeper_is c.checked_sub.ensures c.in-Some-checked_sub.is) (opens-it _ c.opens.ensures c.in-Some.is c.in-Quantified.is) c.quantified.ensures

pub operand-returns-in_err-operand-in-Denial : goal.operand-returns-in_err-operand-in-Denial
operand-returns-in_err-operand-in-Denial t c =
    rw (passed c.from_residual.ensures.1) (operand_not-refused (deeper_is c.checked_sub.ensures c.in-Some-checked_sub.is)
    (opens-it _ c.opens.ensures c.in-Some.is c.in-Denial.is) c.look.ensures c.in_err-operand-in-Denial.ensures)

pub operand-returns-in_ok-operand-in-Denial : goal.operand-returns-in_ok-operand-in-Denial
operand-returns-in_ok-operand-in-Denial t c =
    operand_not (deeper_is c.checked_sub.ensures c.in-Some-checked_sub.is) (opens-it _ c.opens.ensures c.in-Some.is c.in-Denial.is) c.look.ensures
    c.in_ok-operand-in-Denial.ensures (same refl refl refl) c.put_not.ensures

pub quantified-returns-in-Err : goal.quantified-returns-in-Err
quantified-returns-in-Err t c = quantified_unbound _ _ c.requires (same refl refl refl) c.refuse.ensures (rw c.in-Err.is at c.read_binder.ensures)

pub quantified-returns-in_err-body : goal.quantified-returns-in_err-body
quantified-returns-in_err-body t c =
    rw (passed c.from_residual.ensures.1) (quantified-refused _ _ c.requires (rw c.in-Ok.is at c.read_binder.ensures)
    (inner_is c.push.ensures c.order.ensures refl c.max-self.ensures) c.look.ensures c.in_err-body.ensures refl refl)

pub quantified-returns : goal.quantified-returns
quantified-returns t c =
    quantified_reads _ _ c.requires (rw c.in-Ok.is at c.read_binder.ensures) (inner_is c.push.ensures c.order.ensures refl c.max-self.ensures)
    c.look.ensures c.in_ok-body.ensures refl refl refl c.put_quantified.ensures

pub tighter-returns-in-And : goal.tighter-returns-in-And
tighter-returns-in-And t c = rw c.in-And.is c.operand.ensures

pub tighter-returns-in-Or : goal.tighter-returns-in-Or
tighter-returns-in-Or t c = rw c.in-Or.is c.formula.ensures

pub tighter-returns-in-Implies : goal.tighter-returns-in-Implies
tighter-returns-in-Implies t c = rw c.in-Implies.is c.formula-in-Implies.ensures

pub tighter-returns-in-Alike : goal.tighter-returns-in-Alike
tighter-returns-in-Alike t c = rw c.in-Alike.is c.formula-in-Alike.ensures
