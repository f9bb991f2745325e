-- `rules::build::build_rule` meets its contract. Assumes nothing.
use Rattle.words.proofs.Vocabulary.{◌≡◌, arith}
use Rattle.std.specs.Prelude.{Ok}
use Rattle.std.proofs.lemmas.Grind.{common_steps}
use Rattle.rules.proofs.Rules.{rule-sizes, rule-decided}
use Rattle.rules.proofs.build.build_rule.Goals as goal

pub overflow_sub-count_of : goal.overflow_sub-count_of
overflow_sub-count_of c =
    omega (arith, c.count_of.ensures, rule-sizes c.requires)

pub kept-requires : goal.kept-requires
kept-requires c =
    omega (arith, c.count_of.ensures, rule-sizes c.requires)

pub returns-clause-built_rule : goal.returns-clause-built_rule
returns-clause-built_rule c =
    let t = c.in_ok-machines.machines in
    let e : c.build_records.result ≡ Ok t = grind (arith, common_steps) in
    rw (c.kept.ensures, c.count_of.ensures) (rule-decided c.requires t _ (rw e at c.build_records.ensures.built_records))
