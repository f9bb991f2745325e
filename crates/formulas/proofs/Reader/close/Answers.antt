-- `formulas::Reader::close` meets its contract.
use Rattle.std.proofs.Common.{refl, sym}
use denote.Enum.Bare.{differs_true}
use Rattle.text.specs.contracts.kinds.Kind as kind
use Rattle.formulas.specs.Reading.{lacks-closing}
use Rattle.formulas.proofs.Reader.close.Goals as goal

pub returns-then-ne : goal.returns-then-ne
returns-then-ne c = lacks-closing _ refl (differs_true kind.the_type _ _ (sym c.if-ne.ensures)) c.refuse_next.ensures
