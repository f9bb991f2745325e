-- `decide::decide` meets its contract.
use Rattle.words.proofs.Vocabulary.{sym, subst, ◌∙◌, add-zero, arith}
use Rattle.std.proofs.lemmas.Result.{err_from_is_err_and}
use Rattle.rules.specs.Room.{Workable}
use Rattle.decide.proofs.Verdicts.{early-free, ends-refused, ends-told}
use Rattle.decide.proofs.Shown.{promised}
use Rattle.decide.proofs.decide.Goals as goal

pub returns-in_err-decide_refusal : goal.returns-in_err-decide_refusal
returns-in_err-decide_refusal c =
    let a = c.args in
    let p = err_from_is_err_and c.from_residual.result c.from_residual.ensures.1 in
    rw (p.1, p.2) (promised a.rule.now a.c a.p a.ws.now a.out.now
    (ends-refused a.rule.now a.c a.p a.ws.now a.out.now (sym c.decide_refusal.ensures ∙ c.in_err-decide_refusal.was)))

pub decide_accepted-verdict-requires : goal.decide_accepted-verdict-requires
decide_accepted-verdict-requires c =
    let a = c.args in
    let w = early-free a.rule.now a.c a.p a.ws.now a.out.now (sym c.decide_refusal.ensures ∙ c.in_ok-decide_refusal.was) in
    record { workable = w.0; p_bound = (w.1, w.2) }

pub clear_work-requires : goal.clear_work-requires
clear_work-requires c =
    let a = c.args in
    let w : Workable a.rule.now a.c _ = subst (Workable a.rule.now a.c) (sym c.decide_accepted-verdict.auto.ws)
    (early-free a.rule.now a.c a.p a.ws.now a.out.now (sym c.decide_refusal.ensures ∙ c.in_ok-decide_refusal.was)).0 in
    record { workable = w; more_bound = (omega arith, rw add-zero w.long) }

pub returns : goal.returns
returns c =
    let a = c.args in
    let v = c.decide_accepted-verdict.ensures in
    promised a.rule.now a.c a.p a.ws.now a.out.now
    (ends-told a.rule.now a.c a.p a.ws.now a.out.now (sym c.decide_refusal.ensures ∙ c.in_ok-decide_refusal.was) v.value _ v.ws_unchanged
    (rw add-zero at c.clear_work.ensures) v.out_after)
