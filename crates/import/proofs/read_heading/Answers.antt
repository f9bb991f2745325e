-- `import::read_heading` meets its contract.
use Rattle.std.proofs.Common.{sym}
use denote.Enum.Bare.{differs_true, differs_false}
use Rattle.text.specs.declared.kinds.Kind.TheVariants.{Ws2s}
use Rattle.text.specs.contracts.kinds.Kind as kind
use Rattle.phrases.proofs.Taking.{mark-stands, mark-lacks}
use Rattle.import.proofs.Whole.{heading_told, heading_lacks}
use Rattle.import.proofs.read_heading.Goals as goal

pub returns-then-ne : goal.returns-then-ne
returns-then-ne c = rw c.refused.ensures (heading_lacks (mark-lacks c.requires Ws2s (differs_true kind.the_type _ _ (sym c.if-ne.ensures))))

pub returns : goal.returns
returns c = heading_told _ (mark-stands c.requires Ws2s (λ z. absurd cc) (differs_false kind.the_type tt _ _ (sym c.if-ne.ensures))) c.read_mark.ensures
