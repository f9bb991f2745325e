-- `search::find` meets its contract.
use Rattle.words.proofs.Vocabulary.{sym, ◌∙◌}
use Rattle.search.proofs.RoundLaws.{find_more, find_empty, find_none}
use Rattle.search.proofs.find.Goals as goal

pub returns-then-not-satisfiable : goal.returns-then-not-satisfiable
returns-then-not-satisfiable c =
    find_none _ _ _ _ (sym c.if-not-satisfiable.true ∙ c.satisfiable.ensures)

pub returns-then-has : goal.returns-then-has
returns-then-has c =
    rw c.first.ensures
    (find_empty _ _ _ _ (sym c.if-not-satisfiable.false ∙ c.satisfiable.ensures) (sym c.if-has.true ∙ c.has.ensures))

pub returns : goal.returns
returns c =
    find_more _ _ _ _ (sym c.if-not-satisfiable.false ∙ c.satisfiable.ensures) (sym c.if-has.false ∙ c.has.ensures) c.settle.ensures
