-- `decide::decide_accepted` meets its contract.
use Rattle.words.proofs.Vocabulary.{refl, sym, subst, arith, length}
use Rattle.std.proofs.lemmas.Result.{err_from_is_err_and}
use Rattle.logic.specs.Claims.{Outcome}
use Rattle.rules.specs.Room.{Workable}
use Rattle.rules.proofs.Rules.{rule-sizes}
use Rattle.decide.specs.Decide.{outcome_verdict, out_after_answer, Spacious}
use Rattle.decide.proofs.Deciding.{rule-over, spacious}
use Rattle.decide.proofs.decide_accepted.Goals as goal

pub returns-in_err-k : goal.returns-in_err-k
unfolding outcome_verdict out_after_answer
returns-in_err-k c =
    let v = c.build_rule.ensures in
    let p = err_from_is_err_and c.from_residual.result c.from_residual.ensures.1 in
    let over = rule-over _ c.requires.workable.sound _ c.args.p _ (rw c.in_err-k.was at v.built_rule) in
    rw (p.1, p.2) (record { value = rw over refl; out_after = rw over refl; ws_unchanged = v.ws_unchanged })

pub earliest-f-requires : goal.earliest-f-requires
earliest-f-requires c =
    let v = c.build_rule in record {
      workable = subst (Workable c.args.rule.now c.args.c) (sym v.auto.ws) c.requires.workable;
      decider = rw c.in_ok-k.was at v.ensures.built_rule;
      p_bound = c.requires.p_bound.0;
    }

pub conclude-requires : goal.conclude-requires
conclude-requires c =
    let w = c.requires in
    let z = rule-sizes w.workable in
    let n = c.variables_of in
    let found = c.earliest-f.ensures in (
      omega (arith, n.ensures),
      found.ended,
      subst (λ (o : Outcome 2). Spacious n.result o (length c.args.out.now)) (sym found.decided)
          (rw n.ensures (spacious _ w.workable.sound _ _ w.p_bound.0 w.p_bound.1)),
    )

pub returns : goal.returns
returns c =
    let told = rw (c.earliest-f.ensures.decided, c.variables_of.ensures) at c.conclude.ensures in
    record { value = told.value; out_after = told.out_after; ws_unchanged = c.build_rule.ensures.ws_unchanged }
