-- `rules::read::earliest` meets its contract. Assumes nothing.
use Rattle.words.proofs.Vocabulary.{arith}
use Rattle.rules.proofs.Rules.{rule-sizes}
use Rattle.rules.proofs.RuleAnswers.{rule-machine, rule_found}
use Rattle.rules.proofs.read.earliest.Goals as goal

pub earliest-requires : goal.earliest-requires
earliest-requires c =
    record { has_machine = rule-machine c.requires.workable c.requires.decider c.variables_of.ensures c.shape_for-s.ensures c.count_of-last.ensures; p_bound = c.requires.p_bound }

pub returns : goal.returns
returns c =
    rule_found c.requires.workable c.requires.decider c.variables_of.ensures c.shape_for-s.ensures c.count_of-last.ensures
    c.earliest.ensures

pub overflow_sub-last : goal.overflow_sub-last
overflow_sub-last c =
    let z = rule-sizes c.requires.workable in omega (arith, c.count_of-last.ensures)
