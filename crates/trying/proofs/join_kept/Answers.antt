-- `join_kept` meets its contract.
use Rattle.words.proofs.Vocabulary.{arith}
use Rattle.std.proofs.lemmas.Result.{err_from_is_err_and}
use Rattle.rules.proofs.Rules.{rule-sizes}
use Rattle.trying.proofs.Joints.{part_is}
use Rattle.trying.proofs.Tries.{kept-joined, kept-over}
use Rattle.trying.proofs.join_kept.Goals as goal

pub count_of-m-requires : goal.count_of-m-requires
count_of-m-requires c = (rule-sizes c.requires.triable.work).0

pub overflow_add-m : goal.overflow_add-m
overflow_add-m c = omega (arith, rule-sizes c.requires.triable.work)

pub overflow_sub-m : goal.overflow_sub-m
overflow_sub-m c = omega (arith, rule-sizes c.requires.triable.work)

pub join_part-requires-clause-reached_record : goal.join_part-requires-clause-reached_record
join_part-requires-clause-reached_record c =
    let p = c.requires in
    let z = rule-sizes p.triable.work in
    (rw c.from-q.ensures (part_is p.triable p.listed.0 c.args.i p.listed.1), omega arith, omega arith)

pub returns-in_err-join_part-clause-joins_kept : goal.returns-in_err-join_part-clause-joins_kept
returns-in_err-join_part-clause-joins_kept c =
    let p = c.requires in
    let e = err_from_is_err_and c.from_residual.result c.from_residual.ensures.1 in
    rw (e.1, e.2) (kept-over p.triable p.listed.0 c.args.ws.now c.args.i c.args.joined c.join_part.new.ws c.in_err-join_part.field-0.0 (omega arith)
    (rw (c.count_of-m.ensures, c.from-q.ensures) at c.in_err-join_part.ensures.joins_part))

pub returns-clause-joins_kept : goal.returns-clause-joins_kept
returns-clause-joins_kept c =
    let p = c.requires in
    kept-joined p.triable p.listed.0 c.args.ws.now c.args.i c.args.joined c.join_part.new.ws c.in_ok-join_part.field-0 p.listed.1
    (rw (c.count_of-m.ensures, c.from-q.ensures) at c.in_ok-join_part.ensures.joins_part)
