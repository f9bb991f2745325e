-- `join::moved_word` meets its contract. Assumes nothing.
use mathlib.Core.Path.{◌∙◌}
use native.Mathlib.Omega.{arith}
use Rattle.rule_strip.proofs.RuleLaws.{rule-accepted}
use Rattle.join.proofs.Words.{movable, word_moved}
use Rattle.join.proofs.moved_word.Goals as goal

pub fields_at-f-requires : goal.fields_at-f-requires
fields_at-f-requires c =
    let f = rule-accepted _ c.requires.s_value in record { s_len_bound = omega arith; at_value = omega arith }

pub moved_field-first-requires : goal.moved_field-first-requires
moved_field-first-requires c =
    (omega arith, (movable _ _ _ _ c.requires.s_value c.requires.i_bound c.requires.s_bound c.fields_at-f.ensures).first_small.0)

pub moved_field-second-requires : goal.moved_field-second-requires
moved_field-second-requires c =
    (omega arith, (movable _ _ _ _ c.requires.s_value c.requires.i_bound c.requires.s_bound c.fields_at-f.ensures).second-small.0)

pub record_word-requires : goal.record_word-requires
record_word-requires c =
    let k = movable _ _ _ _ c.requires.s_value c.requires.i_bound c.requires.s_bound c.fields_at-f.ensures in record { op_bound = omega (arith, k.known); first_bound = rw (c.moved_field-first.ensures, c.first_use.ensures) k.first_small.1; second_bound = rw (c.moved_field-second.ensures, c.second_use.ensures) k.second-small.1 }

pub returns : goal.returns
returns c =
    c.record_word.ensures
    ∙ word_moved _ _ _ _ _ _ _ c.fields_at-f.ensures c.first_use.ensures c.second_use.ensures c.moved_field-first.ensures
    c.moved_field-second.ensures

pub first_use-requires : goal.first_use-requires
first_use-requires c =
    (movable _ _ _ _ c.requires.s_value c.requires.i_bound c.requires.s_bound c.fields_at-f.ensures).known

pub second_use-requires : goal.second_use-requires
second_use-requires c =
    (movable _ _ _ _ c.requires.s_value c.requires.i_bound c.requires.s_bound c.fields_at-f.ensures).known
