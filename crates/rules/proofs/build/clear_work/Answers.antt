-- `rules::build::clear_work` meets its contract. Assumes nothing.
use Rattle.words.proofs.Vocabulary.{arith}
use Rattle.rules.proofs.Rules.{rule-sizes}
use Rattle.rules.proofs.build.clear_work.Goals as goal

pub needed-requires : goal.needed-requires
needed-requires c =
    let w = c.requires.workable in
    let z = rule-sizes w in (
      omega (arith, c.variables_of-n.ensures),
      omega (arith, c.variables_of-n.ensures),
      omega (arith, c.count_of.ensures),
      w.some-state,
      w.few-states,
    )

pub overflow_add-m : goal.overflow_add-m
overflow_add-m c =
    omega (arith, c.count_of.ensures, rule-sizes c.requires.workable)
