-- `join_pair` meets its contract.
use Rattle.words.proofs.Vocabulary.{arith}
use Rattle.joining.specs.Record.{AddsJoined}
use Rattle.rules.specs.Building.{rule_shape}
use Rattle.rules.proofs.Rules.{rule-sizes}
use Rattle.trying.proofs.Pairs.{and_of, pair_fits, conjoined-over, conjoined-made}
use Rattle.trying.proofs.joint.join_pair.Goals as goal
use Rattle.trying.proofs.joint.join_pair.Goals.{After-build_joined-k}

pub variables_of-requires : goal.variables_of-requires
variables_of-requires c = (rule-sizes c.requires.triable.work).0

pub build_joined-k-requires-clause-fits : goal.build_joined-k-requires-clause-fits
build_joined-k-requires-clause-fits c =
    let p = c.requires in
    rw (c.shape_for-s.ensures, c.variables_of.ensures) (pair_fits p.triable p.a_lt_r.0 p.a_lt_r.1 p.a_lt_r.2)

-- the machine that is built is the rule's
added : (c : After-build_joined-k) → let a = c.args in
    AddsJoined (and_of a.first.number a.second.number) (rule_shape a.rule.now a.c) a.r a.first.machine a.second.machine c.build_joined-k.result a.ws.now
    c.build_joined-k.new.ws
added c = rw (c.shape_for-s.ensures, c.variables_of.ensures) at c.build_joined-k.ensures.adds_joined

pub returns-then-c-from-clause-conjoins : goal.returns-then-c-from-clause-conjoins
returns-then-c-from-clause-conjoins c =
    conjoined-over c.requires.triable (added (goal.at.returns-then-c-from-clause-conjoins c).After-build_joined-k) (omega arith)

pub returns-clause-conjoins : goal.returns-clause-conjoins
returns-clause-conjoins c =
    conjoined-made c.requires.triable (added (goal.at.returns-clause-conjoins c).After-build_joined-k) c.build_joined-k.auto.ws c.requires.a_lt_r.2
    (omega arith)
