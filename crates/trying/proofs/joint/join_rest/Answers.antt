-- `join_rest` meets its contract: one turn for each part.
use Rattle.words.proofs.Vocabulary.{◌≡◌, refl, arith}
use Rattle.std.specs.Prelude.{Ok}
use Rattle.std.proofs.lemmas.Grind.{common_steps}
use Rattle.std.proofs.lemmas.Result.{err_from_is_err_and}
use Rattle.rules.proofs.Rules.{rule-sizes}
use Rattle.trying.proofs.Joints.{part_is, joining_first, joining_asks, joining_confined, joining_next, joining_over, joining_last, rest-over}
use Rattle.trying.proofs.joint.join_rest.Goals as goal

pub count_of-m-requires : goal.count_of-m-requires
count_of-m-requires c = (rule-sizes c.requires.triable.work).0

pub returns-in_err-all-clause-joins_rest : goal.returns-in_err-all-clause-joins_rest
returns-in_err-all-clause-joins_rest c =
    let a = c.args in
    let e = err_from_is_err_and c.from_residual.result c.from_residual.ensures.1 in
    rw (e.1, e.2) (rest-over a.rule.now a.c a.ws.now _ a.i (grind (arith, common_steps)))

pub loop-p-init : goal.loop-p-init
loop-p-init c = joining_first

pub overflow_add-m : goal.overflow_add-m
overflow_add-m c = omega (arith, rule-sizes c.requires.triable.work)

pub overflow_sub-m : goal.overflow_sub-m
overflow_sub-m c = omega (arith, rule-sizes c.requires.triable.work)

pub join_part-requires-clause-reached_built : goal.join_part-requires-clause-reached_built
join_part-requires-clause-reached_built c =
    let p = c.requires in
    let e : c.args.joined ≡ Ok c.in_ok-all.all = grind (arith, common_steps) in
    (joining_asks p.triable p.listed.0 c.loop-p.invariant refl p.reached_built (rw e at p.some_joint)).1.0

pub join_part-requires-clause-reached_record : goal.join_part-requires-clause-reached_record
join_part-requires-clause-reached_record c =
    let p = c.requires in
    let z = rule-sizes p.triable.work in
    (rw c.from-q.ensures (part_is p.triable p.listed.0 c.loop-p.p c.loop-p-test.true), omega arith, omega arith)

pub join_part-requires-clause-some_joint : goal.join_part-requires-clause-some_joint
join_part-requires-clause-some_joint c =
    let p = c.requires in
    let e : c.args.joined ≡ Ok c.in_ok-all.all = grind (arith, common_steps) in
    rw c.count_of-m.ensures (joining_asks p.triable p.listed.0 c.loop-p.invariant refl p.reached_built (rw e at p.some_joint)).1.1

pub returns-in_err-join_part-clause-joins_rest : goal.returns-in_err-join_part-clause-joins_rest
returns-in_err-join_part-clause-joins_rest c =
    let p = c.requires in
    let e = err_from_is_err_and c.from_residual-in_err-join_part.result c.from_residual-in_err-join_part.ensures.1 in
    let v = c.in_err-join_part.ensures in
    let j : c.args.joined ≡ Ok c.in_ok-all.all = grind (arith, common_steps) in
    rw (j, e.1, e.2) (joining_over p.triable p.listed.0 c.loop-p.invariant c.loop-p-test.true (rw c.count_of-m.ensures at v.confined)
    c.in_err-join_part.field-0.0 (rw (c.count_of-m.ensures, c.from-q.ensures) at v.joins_part))

pub returns-in_err-join_part-clause-confined : goal.returns-in_err-join_part-clause-confined
returns-in_err-join_part-clause-confined c =
    let p = c.requires in
    joining_confined p.triable p.listed.0 c.loop-p.invariant c.loop-p-test.true (rw c.count_of-m.ensures at c.in_err-join_part.ensures.confined)

pub loop-p-preserved : goal.loop-p-preserved
loop-p-preserved c =
    let p = c.requires in
    let v = c.in_ok-join_part.ensures in
    joining_next p.triable p.listed.0 c.loop-p.invariant c.loop-p-test.true (rw c.count_of-m.ensures at v.confined)
    c.join_part.auto.ws c.in_ok-join_part.field-0 (rw (c.count_of-m.ensures, c.from-q.ensures) at v.joins_part)

pub returns-clause-joins_rest : goal.returns-clause-joins_rest
returns-clause-joins_rest c =
    let p = c.requires in
    let j : c.args.joined ≡ Ok c.in_ok-all.all = grind (arith, common_steps) in
    rw j (joining_last p.triable p.listed.0 c.loop-p.invariant c.loop-p-test.false (c.loop-p.auto.p-end p.listed.1))

pub returns-clause-confined : goal.returns-clause-confined
returns-clause-confined c = c.loop-p.invariant.confined
