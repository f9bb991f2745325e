-- `judge::judge_accepted` meets its contract.
use Rattle.words.proofs.Vocabulary.{refl, sym, subst}
use Rattle.std.proofs.lemmas.Result.{err_from_is_err_and}
use Rattle.rules.specs.Room.{Workable}
use Rattle.judge.specs.Judge.{ruling_judgement}
use Rattle.judge.proofs.Judging.{rule-over, tells-tree}
use Rattle.judge.proofs.judge_accepted.Goals as goal

pub returns-in_err-k : goal.returns-in_err-k
unfolding ruling_judgement
returns-in_err-k c =
    let w = c.requires in
    let v = c.build_rule.ensures in
    let p = err_from_is_err_and c.from_residual.result c.from_residual.ensures.1 in
    let over = rule-over w.workable w.accepted_tree _ (rw c.in_err-k.was at v.built_rule) in
    rw (p.1, p.2) (record { value = rw over refl; ws_unchanged = v.ws_unchanged })

pub satisfied-requires : goal.satisfied-requires
satisfied-requires c =
    let v = c.build_rule in record {
      workable = subst (Workable c.args.rule.now c.args.c) (sym v.auto.ws) c.requires.workable;
      decider = rw c.in_ok-k.was at v.ensures.built_rule;
      accepted_tree = c.requires.accepted_tree;
    }

pub returns : goal.returns
returns c =
    let w = c.requires in
    record { value = tells-tree w.workable w.accepted_tree _ c.satisfied.ensures; ws_unchanged = c.build_rule.ensures.ws_unchanged }
