-- `satisfiable` meets its contract. Assumes nothing.
use Rattle.words.proofs.Vocabulary.{ℕ, ◌∙◌, ap₂}
use Rattle.words.specs.Word.{mem}
use Rattle.logic.specs.Search.{any_below}
use Rattle.reading.proofs.satisfiable.Goals as goal

pub returns : goal.returns
returns c =
    λ s base m ws st. c.satisfiable.ensures ∙ ap₂ (λ (w n : ℕ). any_below (λ (q : ℕ). mem q w) n) st.accept (c.from.ensures ∙ st.count)
