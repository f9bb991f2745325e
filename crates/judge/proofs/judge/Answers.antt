-- `judge::judge` meets its contract.
use Rattle.words.proofs.Vocabulary.{sym, subst, ◌∙◌, add-zero, arith}
use Rattle.std.proofs.lemmas.Result.{err_from_is_err_and}
use Rattle.rules.specs.Room.{Workable}
use Rattle.judge.proofs.Judging.{early-free, ends-refused, ends-told, promised}
use Rattle.judge.proofs.judge.Goals as goal

pub returns-in_err-judge_refusal : goal.returns-in_err-judge_refusal
returns-in_err-judge_refusal c =
    let a = c.args in
    let p = err_from_is_err_and c.from_residual.result c.from_residual.ensures.1 in
    rw (p.1, p.2) (promised a.rule.now a.c a.ws.now a.tree.now
    (ends-refused a.rule.now a.c a.ws.now a.tree.now (sym c.judge_refusal.ensures ∙ c.in_err-judge_refusal.was)))

pub judge_accepted-answer-requires : goal.judge_accepted-answer-requires
judge_accepted-answer-requires c =
    let a = c.args in
    let free = early-free a.rule.now a.c a.ws.now a.tree.now (sym c.judge_refusal.ensures ∙ c.in_ok-judge_refusal.was) in
    record { workable = free.0; accepted_tree = free.1 }

pub clear_work-requires : goal.clear_work-requires
clear_work-requires c =
    let a = c.args in
    let w : Workable a.rule.now a.c _ = subst (Workable a.rule.now a.c) (sym c.judge_accepted-answer.auto.ws)
    (early-free a.rule.now a.c a.ws.now a.tree.now (sym c.judge_refusal.ensures ∙ c.in_ok-judge_refusal.was)).0 in
    record { workable = w; more_bound = (omega arith, rw add-zero w.long) }

pub returns : goal.returns
returns c =
    let a = c.args in
    let v = c.judge_accepted-answer.ensures in
    promised a.rule.now a.c a.ws.now a.tree.now
    (ends-told a.rule.now a.c a.ws.now a.tree.now (sym c.judge_refusal.ensures ∙ c.in_ok-judge_refusal.was) v.value _ v.ws_unchanged
    (rw add-zero at c.clear_work.ensures))
