-- `try_part` meets its contract.
use Rattle.std.proofs.lemmas.Result.{err_from_is_err_and}
use Rattle.trying.proofs.Tries.{rest-few, tells-alone, tells-over, tells-made}
use Rattle.trying.proofs.try_part.Goals as goal

pub satisfiable-requires : goal.satisfiable-requires
satisfiable-requires c =
    let a = c.args in
    rest-few a.rule.now a.c a.ws.now a.i a.joined c.join_rest.new.ws c.in-Some.made c.in-Some.is c.in_ok-rest.ensures.joins_rest c.requires.triable
    c.requires.some_joint

pub returns-in_err-rest-clause-trial_tells : goal.returns-in_err-rest-clause-trial_tells
returns-in_err-rest-clause-trial_tells c =
    let a = c.args in
    let e = err_from_is_err_and c.from_residual.result c.from_residual.ensures.1 in
    rw (e.1, e.2) (tells-over a.rule.now a.c a.ws.now a.i a.joined c.join_rest.new.ws c.in_err-rest.field-0.0 c.in_err-rest.ensures.joins_rest)

pub returns-in-None-clause-trial_tells : goal.returns-in-None-clause-trial_tells
returns-in-None-clause-trial_tells c =
    let a = c.args in
    tells-alone a.rule.now a.c a.ws.now a.i a.joined c.join_rest.new.ws c.in-None.is c.in_ok-rest.ensures.joins_rest

pub returns-in-Some-clause-trial_tells : goal.returns-in-Some-clause-trial_tells
returns-in-Some-clause-trial_tells c =
    let a = c.args in
    tells-made a.rule.now a.c a.ws.now a.i a.joined c.join_rest.new.ws c.in-Some.made c.in-Some.is c.in_ok-rest.ensures.joins_rest c.satisfiable.ensures
