-- A6, "Which requirements clash?", by computation on the definitions: from the bytes of a rule strip, c and the length of the workspace to
-- what clash returns. Assumes nothing.
use Prim.Native.Nat.{ℕ}
use mathlib.Core.Path.{◌≡◌, refl}
use mathlib.Core.List.{List, [], ◌∷◌, map}
use native.Mathlib.Decide.{dec_lt}
use lib.ListN.{replicate}
use Rattle.logic.specs.Tree.{down_from, sum_of, low, bit}
use Rattle.logic.specs.Rule.{successor_at}
use Rattle.logic.specs.Machine.{set_low, with_bit, all_of, any_of}
use Rattle.logic.specs.Reach.{elem, below, flat, select, outcomes, successors, add, closure, reach, position, numbered, word_of, members, projection}
use Rattle.logic.specs.ReachedRecords.{names_of, named_after, mark, marks, is_reached}
use Rattle.logic.specs.Joined.{pairs, seeds, splits_at, splits, spread, apart_pairs, numbers, first, class_of, merged, classes, join_by, join, constructed}
use Rattle.logic.specs.Joined.{joined_table}
use Rattle.logic.specs.Table.{table_by, coded_product, build, product_table, projection_table, complement_table, table_of, admit, build_all, kind_of}
use Rattle.logic.specs.Search.{any_below}
use Rattle.bits.specs.Bits.{digits, bits, any_set, first_set, bit_length}
use Rattle.rule_strip.specs.RuleStrip.{record_at, records_from, records_of, first_use, second_use, record_fault, records_fault, head_fault, rule_fault}
use Rattle.rules.specs.Room.{ceiling_refusal, workspace_refusal, work_refusal}
use Rattle.std.specs.Prelude.{Result, Ok, Err}
use Rattle.refusals.specs.declared.Reason.TheVariants as reason
use Rattle.refusals.specs.declared.Refusal.{Refusal}
use Rattle.refusals.specs.declared.Refusal.TheVariants.{Placed, Plain, TooManyStates}
use Rattle.parts.specs.Parts.{is_and, walk, fresh, parts_of}
use Rattle.trials.specs.Joins.{accepts, join_one, join_from, trial_says, trials}
use Rattle.trials.specs.Answer.{trials_answer, after_built, clash_of}
use Rattle.clash.specs.Clashes.{parts_refusal, clash_refusal, clashing_list, clash_list_of}
use Rattle.trying.specs.declared.KeptParts.{KeptParts}

-- what clash is asked
pub record Request : Type 0 where
  pub strip : List ℕ
  pub c : ℕ
  pub room : ℕ

abbrev ask : ℕ → ℕ → List ℕ → Request
ask c room s = record { strip = s; c = c; room = room }

-- whoever unfolds it has all that clash is defined by
unfoldable pub told : Request → Result KeptParts Refusal
unfolding digits bits any_set first_set bit_length record_at records_from records_of first_use second_use record_fault records_fault head_fault rule_fault
    ceiling_refusal workspace_refusal work_refusal parts_refusal clash_refusal clashing_list clash_list_of clash_of after_built trials_answer trials trial_says
    join_from join_one accepts parts_of fresh walk is_and low bit down_from all_of any_of sum_of successor_at kind_of set_low with_bit elem below flat select
    outcomes successors add closure reach position numbered word_of members projection
    joined_table constructed join join_by classes merged class_of first numbers apart_pairs spread splits splits_at seeds pairs
    table_by coded_product build product_table projection_table
    complement_table table_of admit names_of named_after mark marks is_reached build_all any_below dec_lt
told q = clash_list_of q.strip q.c q.room

-- samples/kinds_in_a_circle.rul: n = 3, 0: X0 ⊆ X1; 1: X1 ⊆ X2; 2: 0 and 1; 3: X2 ⊆ X0; 4: 2 and 3; 5: X0 ⊆ X2; 6: not 5; 7: 4 and 6
abbrev circle : List ℕ
circle =
    0x13 ∷ 0x08 ∷ 0x00 ∷ 0x00 ∷ 0x40 ∷ 0x08 ∷ 0x27 ∷ 0x00 ∷ 0x04 ∷ 0x01 ∷ 0x00 ∷ 0x70 ∷ 0x40 ∷ 0xC0 ∷ 0x00 ∷ 0x25 ∷ 0x0A ∷ 0x01 ∷ 0xC2 ∷ 0x06 ∷ []

-- example i of document 01: n = 2, X0 = ε and X0 = X1 1, of which 6 states are built
abbrev never : List ℕ
never = 0x12 ∷ 0x03 ∷ 0x40 ∷ 0x00 ∷ 0x08 ∷ 0x00 ∷ 0x17 ∷ 0x00 ∷ 0x04 ∷ []

-- n = 1, Sing(X0) seventeen times, then 0 and 1, that and 2, and so on
abbrev seventeen : List ℕ
seventeen =
    0x11 ∷ 0x21 ∷ 0x10 ∷ 0x00 ∷ 0x04 ∷ 0x00 ∷ 0x01 ∷ 0x00 ∷ 0x00 ∷ 0x40 ∷ 0x00 ∷ 0x10 ∷ 0x00 ∷ 0x04 ∷ 0x00 ∷ 0x01
    ∷ 0x00 ∷ 0x00 ∷ 0x40 ∷ 0x00 ∷ 0x10 ∷ 0x00 ∷ 0x04 ∷ 0x00 ∷ 0x01 ∷ 0x00 ∷ 0x00 ∷ 0x40 ∷ 0x00 ∷ 0x10 ∷ 0x00 ∷ 0x04
    ∷ 0x00 ∷ 0x01 ∷ 0x00 ∷ 0x00 ∷ 0x40 ∷ 0x00 ∷ 0x10 ∷ 0x00 ∷ 0x1C ∷ 0x00 ∷ 0x17 ∷ 0x22 ∷ 0x09 ∷ 0xC9 ∷ 0x03 ∷ 0x72
    ∷ 0x61 ∷ 0x1C ∷ 0xA0 ∷ 0x57 ∷ 0x2A ∷ 0x19 ∷ 0xCB ∷ 0x07 ∷ 0x72 ∷ 0xE2 ∷ 0x1C ∷ 0xC0 ∷ 0x97 ∷ 0x32 ∷ 0x29 ∷ 0xCD
    ∷ 0x0B ∷ 0x73 ∷ 0x63 ∷ 0x1C ∷ 0xE0 ∷ 0xD7 ∷ 0x3A ∷ 0x39 ∷ 0xCF ∷ 0x0F ∷ 0x73 ∷ 0xE4 ∷ 0x00 ∷ []

-- the circle, with the room of m + 15 records, with a byte less, and with that of m + 14; example i, and with a ceiling that it goes over;
-- example e, X0 = X0 1, its own one part; example a, Sing(X0), which can be satisfied; seventeen parts, with a ceiling that Sing(X0) goes
-- over, and with the room of m + 14 records; version 2
pub requests : List Request
requests =
    ask 64 753664 circle
    ∷ ask 64 753663 circle
    ∷ ask 64 720896 circle
    ∷ ask 64 294912 never
    ∷ ask 5 1800 never
    ∷ ask 64 131072 (0x11 ∷ 0x01 ∷ 0x20 ∷ 0x00 ∷ 0x00 ∷ [])
    ∷ ask 64 131072 (0x11 ∷ 0x01 ∷ 0x10 ∷ 0x00 ∷ 0x00 ∷ [])
    ∷ ask 2 384 seventeen
    ∷ ask 2 376 seventeen
    ∷ ask 0 0 (0x21 ∷ 0x01 ∷ 0x10 ∷ 0x00 ∷ 0x00 ∷ [])
    ∷ []

pub lists : List (Result KeptParts Refusal)
lists =
    Ok (record { count = 3; parts = 0 ∷ 1 ∷ 6 ∷ replicate 13 0 })
    ∷ Err (Plain reason.Workspace)
    ∷ Err (Plain reason.Workspace)
    ∷ Ok (record { count = 2; parts = 0 ∷ 1 ∷ replicate 14 0 })
    ∷ Err (TooManyStates 2)
    ∷ Ok (record { count = 1; parts = 0 ∷ replicate 15 0 })
    ∷ Err (Plain reason.Satisfiable)
    ∷ Err (Plain reason.Parts)
    ∷ Err (Plain reason.Workspace)
    ∷ Err (Placed (record { reason = reason.RuleVersion; place = 0 }))
    ∷ []

pub clashes_told : map told requests ≡ lists
unfolding told requests lists
clashes_told = refl
