-- `rules::read::satisfied` meets its contract. Assumes nothing.
use Rattle.words.proofs.Vocabulary.{arith}
use Rattle.rules.proofs.Rules.{rule-sizes}
use Rattle.rules.proofs.RuleAnswers.{rule-machine, rule-tree, rule-says}
use Rattle.rules.proofs.read.satisfied.Goals as goal

pub accepted-requires : goal.accepted-requires
accepted-requires c =
    let n = c.variables_of.ensures in
    let e = c.shape_for-s.ensures in record { has_machine = rule-machine c.requires.workable c.requires.decider n e c.count_of-last.ensures; has_tree = rule-tree c.requires.workable c.requires.decider n e c.count_of-last.ensures c.requires.accepted_tree }

pub returns : goal.returns
returns c =
    rule-says c.requires.workable c.requires.decider c.variables_of.ensures c.shape_for-s.ensures c.count_of-last.ensures c.requires.accepted_tree
    c.accepted.ensures

pub overflow_sub-last : goal.overflow_sub-last
overflow_sub-last c =
    let z = rule-sizes c.requires.workable in omega (arith, c.count_of-last.ensures)
