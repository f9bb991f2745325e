-- `try_parts` meets its contract: one turn for each part.
use Rattle.words.proofs.Vocabulary.{refl, arith}
use Rattle.std.proofs.lemmas.Result.{err_from_is_err_and}
use Rattle.trying.proofs.Tries.{tries_first, tries_done, tries_asks, tries_over, tries_dropped, kept_asks, kept-confined, tries-kept-over, tries_kept}
use Rattle.trying.proofs.Tries.{confined-then}
use Rattle.trying.proofs.try_parts.Goals as goal
use Rattle.trying.proofs.try_parts.Goals.{then-not-dropped+in_ok-joined, else-not-dropped}

pub loop-i-init : goal.loop-i-init
loop-i-init c = tries_first

pub try_part-requires-clause-reached_built : goal.try_part-requires-clause-reached_built
try_part-requires-clause-reached_built c =
    let p = c.requires in (tries_asks p.triable p.listed.0 c.loop-i.invariant c.loop-i-test.true refl p.reached_built).1.0

pub returns-in_err-dropped-clause-tried_all : goal.returns-in_err-dropped-clause-tried_all
returns-in_err-dropped-clause-tried_all c =
    let p = c.requires in
    let e = err_from_is_err_and c.from_residual.result c.from_residual.ensures.1 in
    rw (e.1, e.2) (tries_over p.triable p.listed.0 c.loop-i.invariant c.loop-i-test.true c.try_part.ensures.confined c.in_err-dropped.field-0.0
    c.in_err-dropped.ensures.trial_tells)

pub returns-in_err-dropped-clause-confined : goal.returns-in_err-dropped-clause-confined
returns-in_err-dropped-clause-confined c =
    confined-then c.requires.triable c.requires.listed.0 c.loop-i.invariant c.loop-i-test.true c.try_part.ensures.confined

pub join_kept-requires-clause-reached_built : goal.join_kept-requires-clause-reached_built
join_kept-requires-clause-reached_built c =
    let p = c.requires in
    (kept_asks p.triable p.listed.0 c.loop-i.invariant c.loop-i-test.true c.try_part.ensures.confined c.try_part.auto.ws c.in_ok-dropped.dropped
    c.in_ok-dropped.ensures.trial_tells c.if-not-dropped.true refl p.reached_built).1.0

pub join_kept-requires-clause-some_joint : goal.join_kept-requires-clause-some_joint
join_kept-requires-clause-some_joint c =
    let p = c.requires in
    (kept_asks p.triable p.listed.0 c.loop-i.invariant c.loop-i-test.true c.try_part.ensures.confined c.try_part.auto.ws c.in_ok-dropped.dropped
    c.in_ok-dropped.ensures.trial_tells c.if-not-dropped.true refl p.reached_built).1.1

pub returns-in_err-joined-clause-tried_all : goal.returns-in_err-joined-clause-tried_all
returns-in_err-joined-clause-tried_all c =
    let p = c.requires in
    let e = err_from_is_err_and c.from_residual-in_err-joined.result c.from_residual-in_err-joined.ensures.1 in
    rw (e.1, e.2) (tries-kept-over p.triable p.listed.0 c.loop-i.invariant c.loop-i-test.true c.try_part.ensures.confined c.try_part.auto.ws
    c.in_ok-dropped.dropped c.in_ok-dropped.ensures.trial_tells c.if-not-dropped.true c.join_kept.new.ws c.in_err-joined.field-0.0
    c.in_err-joined.ensures.joins_kept)

pub returns-in_err-joined-clause-confined : goal.returns-in_err-joined-clause-confined
returns-in_err-joined-clause-confined c =
    kept-confined c.requires.triable c.requires.listed.0 c.loop-i.invariant c.loop-i-test.true c.try_part.ensures.confined c.try_part.auto.ws
    c.in_ok-dropped.dropped c.in_ok-dropped.ensures.trial_tells c.if-not-dropped.true c.join_kept.ensures.confined

pub loop-i-preserved : goal.loop-i-preserved
loop-i-preserved c =
    let p = c.requires in
    elim c.if-not-dropped.branch [
      | then-not-dropped+in_ok-joined w ↦
          rw (w.ws-is, w.joined-is, w.kept-is, w.put.ensures, w.from.ensures)
          (tries_kept p.triable p.listed.0 c.loop-i.invariant c.loop-i-test.true c.try_part.ensures.confined c.try_part.auto.ws
          c.in_ok-dropped.dropped c.in_ok-dropped.ensures.trial_tells w.if-not-dropped.true (omega (arith, p.listed, c.loop-i-test.true))
          w.join_kept.auto.ws w.join_kept.ensures.confined w.in_ok-joined.ensures.joins_kept)
      | else-not-dropped w ↦
          rw (w.ws-is, w.joined-is, w.kept-is)
          (tries_dropped p.triable p.listed.0 c.loop-i.invariant c.loop-i-test.true c.try_part.ensures.confined c.try_part.auto.ws
          c.in_ok-dropped.dropped c.in_ok-dropped.ensures.trial_tells w.if-not-dropped.false)
    ]

pub returns-clause-tried_all : goal.returns-clause-tried_all
returns-clause-tried_all c = tries_done c.requires.triable c.requires.listed.0 c.loop-i.invariant c.loop-i-test.false
