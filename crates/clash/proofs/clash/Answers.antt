-- `clash::clash` meets its contract.
use Rattle.words.proofs.Vocabulary.{sym, subst, ap, ◌∙◌, arith}
use Rattle.std.proofs.lemmas.Result.{err_from_is_err_and}
use Rattle.trying.specs.Trying.{Triable}
use Rattle.clash.specs.Clashes.{refusal_in}
use Rattle.clash.proofs.Clashing.{early-free, ends-refused, ends-told, promised}
use Rattle.clash.proofs.clash.Goals as goal

pub returns-in_err-parts : goal.returns-in_err-parts
returns-in_err-parts c =
    let a = c.args in
    let p = err_from_is_err_and c.from_residual.result c.from_residual.ensures.1 in
    rw (p.1, p.2) (promised a.rule.now a.c a.ws.now
    (ends-refused a.rule.now a.c a.ws.now (sym c.clash_refusal.ensures.refusal_value ∙ ap refusal_in c.in_err-parts.was)))

pub clash_accepted-kept-requires : goal.clash_accepted-kept-requires
clash_accepted-kept-requires c =
    let a = c.args in
    let e = c.clash_refusal.ensures in
    let w = early-free a.rule.now a.c a.ws.now (sym e.refusal_value ∙ ap refusal_in c.in_ok-parts.was) in
    let l = rw c.in_ok-parts.was at e.listed in
    record { triable = w.0; listed = (l, omega (arith, l.counted, w.1)) }

pub clear_work-requires : goal.clear_work-requires
clear_work-requires c =
    let a = c.args in
    let w : Triable a.rule.now a.c _ = subst (Triable a.rule.now a.c) (sym c.clash_accepted-kept.auto.ws)
    (early-free a.rule.now a.c a.ws.now (sym c.clash_refusal.ensures.refusal_value ∙ ap refusal_in c.in_ok-parts.was)).0 in
    record { workable = w.work; more_bound = (omega arith, w.long) }

pub returns : goal.returns
returns c =
    let a = c.args in
    let v = c.clash_accepted-kept.ensures in
    promised a.rule.now a.c a.ws.now
    (ends-told a.rule.now a.c a.ws.now (sym c.clash_refusal.ensures.refusal_value ∙ ap refusal_in c.in_ok-parts.was) v.value _ v.ws_unchanged
    c.clear_work.ensures)
