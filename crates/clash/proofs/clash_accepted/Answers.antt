-- `clash::clash_accepted` meets its contract.
use Rattle.words.proofs.Vocabulary.{ℕ, ◌-◌, ◌≡◌, ◌∙◌, sym, subst, List, arith}
use Rattle.std.specs.Prelude.{Ok}
use Rattle.std.proofs.lemmas.Result.{err_from_is_err_and}
use Rattle.std.proofs.lemmas.Grind.{common_steps}
use Rattle.building.specs.Build.{entry_of}
use Rattle.building.specs.declared.Machines.{Machines}
use Rattle.records.specs.declared.Summary.{Summary}
use Rattle.rule_strip.specs.RuleStrip.{count_of}
use Rattle.rules.specs.Building.{BuiltRecords, Decider}
use Rattle.rules.specs.Room.{Workable}
use Rattle.rules.proofs.Rules.{rule-sizes, rule-decided}
use Rattle.trying.specs.Trying.{Triable}
use Rattle.clash.proofs.Clashing.{built-beyond, trials-beyond, own-over, own-satisfiable, own-tried, kept-listed, over-listed}
use Rattle.clash.proofs.clash_accepted.Goals as goal

-- the last record's machine decides the rule
decider : {rule : List ℕ} {c room : ℕ} → Workable rule c room → (t : Machines) (ws : List ℕ) → BuiltRecords rule c (Ok t) ws
    → {m : ℕ} → m ≡ count_of rule → {k : Summary} → k ≡ entry_of t (m - 1) → Decider rule c k ws
decider w t ws b f g = rw (g, f) (rule-decided w t ws b)

pub returns-in_err-machines : goal.returns-in_err-machines
returns-in_err-machines c =
    let a = c.args in
    let v = c.build_records.ensures in
    let p = err_from_is_err_and c.from_residual.result c.from_residual.ensures.1 in
    rw (p.1, p.2)
    (record {
      value = own-over c.requires.triable _ (grind (arith, common_steps));
      ws_unchanged = built-beyond a.rule.now a.c a.ws.now _ v.ws_unchanged;
    })

pub overflow_sub-count_of : goal.overflow_sub-count_of
overflow_sub-count_of c =
    omega (arith, c.count_of.ensures, rule-sizes c.requires.triable.work)

pub kept-requires : goal.kept-requires
kept-requires c =
    omega (arith, c.count_of.ensures, rule-sizes c.requires.triable.work)

pub satisfiable-requires : goal.satisfiable-requires
satisfiable-requires c =
    let w = c.requires.triable.work in
    let t = c.in_ok-machines.machines in
    let e : c.build_records.result ≡ Ok t = grind (arith, common_steps) in
    let h = (decider w t _ (rw e at c.build_records.ensures.built_records) c.count_of.ensures c.kept.ensures).last.readable.stored in
    omega (arith, h.count, h.few, w.few-states)

pub returns-then-satisfiable : goal.returns-then-satisfiable
returns-then-satisfiable c =
    let a = c.args in
    let t = c.requires.triable in
    let v = c.build_records.ensures in
    let e : c.build_records.result ≡ Ok c.in_ok-machines.machines = grind (arith, common_steps) in
    let d = decider t.work c.in_ok-machines.machines _ (rw e at v.built_records) c.count_of.ensures c.kept.ensures in record {
      value = own-satisfiable t d c.satisfiable.ensures c.if-satisfiable.true;
      ws_unchanged = built-beyond a.rule.now a.c a.ws.now _ v.ws_unchanged;
    }

pub try_parts-requires : goal.try_parts-requires
try_parts-requires c =
    let p = c.requires in
    let v = c.build_records in
    let e : v.result ≡ Ok c.in_ok-machines.machines = grind (arith, common_steps) in record {
      triable = subst (Triable c.args.rule.now c.args.c) (sym v.auto.ws) p.triable;
      reached_built = (rw e at v.ensures.built_records).1;
      listed = p.listed;
    }

pub returns-in_err-kept : goal.returns-in_err-kept
returns-in_err-kept c =
    let a = c.args in
    let t = c.requires.triable in
    let v = c.build_records.ensures in
    let l = c.try_parts.ensures in
    let e : c.build_records.result ≡ Ok c.in_ok-machines.machines = grind (arith, common_steps) in
    let d = decider t.work c.in_ok-machines.machines _ (rw e at v.built_records) c.count_of.ensures c.kept.ensures in
    let p = err_from_is_err_and c.from_residual-in_err-kept.result c.from_residual-in_err-kept.ensures.1 in
    rw (p.1, p.2)
    (record {
      value = over-listed a.rule.now a.c _ (rw c.in_err-kept.was at l.tried_all) ∙ own-tried t d c.satisfiable.ensures c.if-satisfiable.false;
      ws_unchanged = trials-beyond t l.confined ∙ built-beyond a.rule.now a.c a.ws.now _ v.ws_unchanged;
    })

pub returns : goal.returns
returns c =
    let a = c.args in
    let t = c.requires.triable in
    let v = c.build_records.ensures in
    let l = c.try_parts.ensures in
    let e : c.build_records.result ≡ Ok c.in_ok-machines.machines = grind (arith, common_steps) in
    let d = decider t.work c.in_ok-machines.machines _ (rw e at v.built_records) c.count_of.ensures c.kept.ensures in record {
      value = kept-listed a.rule.now a.c _ (rw c.in_ok-kept.was at l.tried_all) ∙ own-tried t d c.satisfiable.ensures c.if-satisfiable.false;
      ws_unchanged = trials-beyond t l.confined ∙ built-beyond a.rule.now a.c a.ws.now _ v.ws_unchanged;
    }
