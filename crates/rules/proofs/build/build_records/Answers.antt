-- `rules::build::build_records` meets its contract. Assumes nothing.
use Rattle.rule_strip.specs.RuleStrip.{variables_of, count_of}
use Rattle.rules.proofs.Rooms.{room_shares}
use Rattle.rules.proofs.Rules.{rule-shaped, rule_buildable, rule-built}
use Rattle.rules.proofs.build.build_records.Goals as goal

pub build_all-requires : goal.build_all-requires
build_all-requires c =
    let d = c.decode-records in
    let whole = rule_buildable c.requires d.result (rw c.count_of-m.ensures at d.ensures) c.count_of-m.ensures in record {
      m_nonzero = whole.0;
      by_index = rw (c.shape_for.ensures, c.variables_of-n.ensures) whole.1;
    }

pub returns : goal.returns
returns c =
    let e = c.count_of-m.ensures in
    let r = rw (c.shape_for.ensures, c.variables_of-n.ensures, e) at c.build_all.ensures in record {
      built_records = rule-built c.requires _ (rw e at c.decode-records.ensures) _ _ r.made_by c.build_all.auto.ws;
      ws_unchanged = rw (room_shares (variables_of c.args.rule.now) (count_of c.args.rule.now) c.args.c (rule-shaped c.requires)) at r.ws_unchanged;
    }
