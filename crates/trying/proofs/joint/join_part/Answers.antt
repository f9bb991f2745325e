-- `join_part` meets its contract.
use Rattle.words.proofs.Vocabulary.{ap, ◌∙◌, subst, arith}
use Rattle.std.specs.Prelude.{Ok}
use Rattle.trying.specs.Trying.{SomeJoint}
use Rattle.trying.proofs.Joints.{reached-below, confined-share, joins-first, joins-made, joins-over}
use Rattle.trying.proofs.joint.join_part.Goals as goal

pub kept-requires : goal.kept-requires
kept-requires c = (reached-below c.requires.triable c.args.q c.requires.reached_record.0).1

pub join_pair-requires-clause-a_lt_r : goal.join_pair-requires-clause-a_lt_r
join_pair-requires-clause-a_lt_r c =
    let a = c.args in
    let p = c.requires in
    let x = (subst (SomeJoint a.rule.now a.c a.ws.now a.r) (c.in-Ok-Some.is ∙ ap Ok (rw c.in-Ok-Some.is at c.in-Ok-Some.field-0-is)) p.some_joint).1 in
    let below = reached-below p.triable a.q p.reached_record.0 in
    (omega (arith, x.before), omega (arith, x.behind, below), p.reached_record.2)

pub returns-in-Err-clause-joins_part : goal.returns-in-Err-clause-joins_part
returns-in-Err-clause-joins_part c =
    let a = c.args in joins-over a.rule.now a.c a.ws.now _ a.r a.q c.in-Err.is

pub returns-in-Ok-None-clause-joins_part : goal.returns-in-Ok-None-clause-joins_part
returns-in-Ok-None-clause-joins_part c =
    let p = c.requires in
    let u = p.reached_record in
    rw c.kept.ensures (joins-first p.triable p.reached_built u.0 _ u.1 (c.in-Ok-None.is ∙ ap Ok (rw c.in-Ok-None.is at c.in-Ok-None.field-0-is)))

pub returns-in-Ok-Some-clause-joins_part : goal.returns-in-Ok-Some-clause-joins_part
returns-in-Ok-Some-clause-joins_part c =
    let p = c.requires in
    let u = p.reached_record in
    joins-made p.triable p.reached_built u.0 _ u.1 c.join_pair.new.ws c.join_pair.result (rw c.kept.ensures at c.join_pair.ensures.conjoins)
    (c.in-Ok-Some.is ∙ ap Ok (rw c.in-Ok-Some.is at c.in-Ok-Some.field-0-is))

pub returns-in-Ok-Some-clause-confined : goal.returns-in-Ok-Some-clause-confined
returns-in-Ok-Some-clause-confined c =
    let a = c.args in
    let x = (subst (SomeJoint a.rule.now a.c a.ws.now a.r) (c.in-Ok-Some.is ∙ ap Ok (rw c.in-Ok-Some.is at c.in-Ok-Some.field-0-is)) c.requires.some_joint).1 in
    confined-share x.behind c.requires.reached_record.2 c.join_pair.ensures.spared
