-- The twelve examples of document 01 ("Examples to be shown of the definitions"), a to l, with the states that A8 leaves to e, i and j, by
-- computation on the definitions: from the bytes of a rule strip, through the records read, to decide's answer and the bytes in out. Assumes nothing.
use Prim.Native.Nat.{ℕ}
use mathlib.Core.Path.{◌≡◌, refl}
use mathlib.Core.List.{List, [], ◌∷◌, map}
use native.Mathlib.Decide.{dec_lt}
use lib.ListN.{take, replicate}
use Rattle.logic.specs.Tree.{down_from, sum_of, positions, low, bit}
use Rattle.logic.specs.Rule.{Record, successor_at}
use Rattle.logic.specs.Machine.{set_low, with_bit, run, all_of, any_of}
use Rattle.logic.specs.Reach.{elem, below, flat, select, outcomes, successors, add, closure, reach, position, numbered, word_of, members, projection}
use Rattle.logic.specs.ReachedRecords.{names_of, named_after, mark, marks, is_reached}
use Rattle.logic.specs.Joined.{pairs, seeds, splits_at, splits, spread, apart_pairs, numbers, first, class_of, merged, classes, join_by, join, constructed}
use Rattle.logic.specs.Joined.{joined_table}
use Rattle.logic.specs.Table.{table_by, coded_product, build, product_table, projection_table, complement_table, table_of, admit, build_all, kind_of}
use Rattle.logic.specs.Search.{settled, view, lighter, choose, consider, loop, tuples, pick, verdict, next, rounds, any_below, begin, search}
use Rattle.logic.specs.Decide.{report, conclude, decide_of}
use Rattle.bits.specs.Bits.{digits, bits, any_set, first_set, bit_length, pack}
use Rattle.rule_strip.specs.RuleStrip.{variables_of, record_at, records_from, records_of, first_use, second_use, record_fault, records_fault, head_fault, rule_fault}
use Rattle.tree_strip.specs.TreeStrip.{tree_bits, strip_of_tree}
use Rattle.rules.specs.Room.{ceiling_refusal, places_refusal, workspace_refusal, work_refusal, out_refusal}
use Rattle.decide.specs.Decide.{room_refusal, decide_refusal, outcome_verdict, out_after_answer, verdict_of, out_of}
use Rattle.decide.specs.declared.Verdict.{Verdict}
use Rattle.decide.specs.declared.Verdict.TheVariants.{Shown, None, Larger}
use Rattle.refusals.specs.declared.Refusal.{Refusal}
use Rattle.refusals.specs.declared.Refusal.TheVariants.{TooManyStates}
use Rattle.std.specs.Prelude.{Result, Ok, Err}

-- what decide is asked: a rule strip and both ceilings
pub record Question : Type 0 where
  pub strip : List ℕ
  pub c : ℕ
  pub P : ℕ

-- what it reads and answers: n, the records, the verdict, and the bytes of the strip in out
pub record Answer : Type 0 where
  pub variables : ℕ
  pub records : List Record
  pub verdict : Result Verdict Refusal
  pub tree : List ℕ

-- the front of out that a verdict speaks of
abbrev front : Result Verdict Refusal → List ℕ → List ℕ
front (Ok (Shown places states size)) out = take size out
front (Ok (None states)) out = []
front (Ok (Larger states)) out = []
front (Err r) out = []

-- with the longest workspace that can be asked for, and 320 bytes of out, none of them 0; whoever unfolds it has all that decide is defined by
unfoldable pub answer : Question → Answer
unfolding bits any_set first_set bit_length record_at records_from records_of first_use second_use record_fault records_fault
    head_fault rule_fault ceiling_refusal places_refusal workspace_refusal work_refusal out_refusal room_refusal decide_refusal outcome_verdict out_after_answer verdict_of out_of
    low bit down_from all_of any_of sum_of positions successor_at kind_of set_low
    with_bit run elem below flat select outcomes successors add closure reach position numbered word_of members projection
    joined_table constructed join join_by classes merged class_of first numbers apart_pairs spread splits splits_at seeds pairs
    table_by coded_product build
    product_table projection_table complement_table table_of admit names_of named_after mark marks is_reached build_all settled view lighter choose consider
    loop tuples pick verdict next rounds any_below begin search report conclude decide_of digits pack tree_bits strip_of_tree dec_lt
answer q =
    let v = verdict_of q.strip q.c q.P 134217728 320 in
    record {
      variables = variables_of q.strip;
      records = records_of q.strip;
      verdict = v;
      tree = front v (out_of q.strip q.c q.P 134217728 (replicate 320 255));
    }

abbrev pub with : ℕ → ℕ → List ℕ → Question
with c P s = record { strip = s; c = c; P = P }

abbrev pub rec : ℕ → ℕ → ℕ → Record
rec o a b = record { op = o; first = a; second = b }

abbrev pub is : ℕ → List Record → Result Verdict Refusal → List ℕ → Answer
is n rs v t = record { variables = n; records = rs; verdict = v; tree = t }

-- a verdict, and 14 of a record
abbrev pub shown : ℕ → ℕ → ℕ → Result Verdict Refusal
shown positions states size = Ok (Shown positions states size)

abbrev pub none : ℕ → Result Verdict Refusal
none states = Ok (None states)

abbrev pub larger : ℕ → Result Verdict Refusal
larger states = Ok (Larger states)

abbrev pub over : ℕ → Result Verdict Refusal
over r = Err (TooManyStates r)

-- the strip of a: n = 1, Sing(X0)
abbrev pub sing : List ℕ
sing = 0x11 ∷ 0x01 ∷ 0x10 ∷ 0x00 ∷ 0x00 ∷ []

-- a to l, with both parts of k and of l
pub examples : List Question
examples =
    with 64 255 sing
    ∷ with 64 255 (0x11 ∷ 0x02 ∷ 0x10 ∷ 0x00 ∷ 0x20 ∷ 0x00 ∷ 0x00 ∷ [])
    ∷ with 64 255 (0x11 ∷ 0x03 ∷ 0x10 ∷ 0x00 ∷ 0x20 ∷ 0x00 ∷ 0x05 ∷ 0x02 ∷ 0x00 ∷ [])
    ∷ with 64 255 (0x11 ∷ 0x01 ∷ 0x00 ∷ 0x00 ∷ 0x00 ∷ [])
    ∷ with 64 255 (0x11 ∷ 0x01 ∷ 0x20 ∷ 0x00 ∷ 0x00 ∷ [])
    ∷ with 64 255 (0x12 ∷ 0x01 ∷ 0x20 ∷ 0x00 ∷ 0x40 ∷ [])
    ∷ with 64 255 (0x12 ∷ 0x01 ∷ 0x30 ∷ 0x00 ∷ 0x40 ∷ [])
    ∷ with 64 255 (0x12 ∷ 0x02 ∷ 0x20 ∷ 0x00 ∷ 0x60 ∷ 0x08 ∷ 0x00 ∷ [])
    ∷ with 64 255 (0x12 ∷ 0x03 ∷ 0x40 ∷ 0x00 ∷ 0x08 ∷ 0x00 ∷ 0x17 ∷ 0x00 ∷ 0x04 ∷ [])
    ∷ with 64 255 (0x12 ∷ 0x05 ∷ 0x00 ∷ 0x00 ∷ 0x54 ∷ 0x00 ∷ 0x00 ∷ 0x02 ∷ 0x01 ∷ 0x41 ∷ 0x00 ∷ 0x60 ∷ 0x20 ∷ 0xC0 ∷ [])
    ∷ with 2 255 sing
    ∷ with 3 255 sing
    ∷ with 64 0 sing
    ∷ with 64 1 sing
    ∷ []

pub expected : List Answer
expected =
    is 1 (rec 1 0 0 ∷ []) (shown 1 3 2) (0x11 ∷ 0xC0 ∷ [])
    ∷ is 1 (rec 1 0 0 ∷ rec 8 0 0 ∷ []) (shown 0 1 2) (0x11 ∷ 0x00 ∷ [])
    ∷ is 1 (rec 1 0 0 ∷ rec 8 0 0 ∷ rec 5 1 0 ∷ []) (none 1) []
    ∷ is 1 (rec 0 0 0 ∷ []) (shown 0 1 2) (0x11 ∷ 0x00 ∷ [])
    ∷ is 1 (rec 2 0 0 ∷ []) (none 1) []
    ∷ is 2 (rec 2 0 1 ∷ []) (shown 2 4 3) (0x12 ∷ 0xB8 ∷ 0x00 ∷ [])
    ∷ is 2 (rec 3 0 1 ∷ []) (shown 2 4 3) (0x12 ∷ 0xAC ∷ 0x00 ∷ [])
    ∷ is 2 (rec 2 0 1 ∷ rec 8 1 0 ∷ []) (shown 2 4 3) (0x12 ∷ 0x98 ∷ 0x00 ∷ [])
    ∷ is 2 (rec 4 0 0 ∷ rec 2 0 1 ∷ rec 7 0 1 ∷ []) (none 1) []
    ∷ is 2 (rec 0 0 1 ∷ rec 5 0 0 ∷ rec 0 1 0 ∷ rec 5 2 0 ∷ rec 6 1 3 ∷ []) (shown 1 2 2) (0x12 ∷ 0xA0 ∷ [])
    ∷ is 1 (rec 1 0 0 ∷ []) (over 0) []
    ∷ is 1 (rec 1 0 0 ∷ []) (shown 1 3 2) (0x11 ∷ 0xC0 ∷ [])
    ∷ is 1 (rec 1 0 0 ∷ []) (larger 3) []
    ∷ is 1 (rec 1 0 0 ∷ []) (shown 1 3 2) (0x11 ∷ 0xC0 ∷ [])
    ∷ []

pub examples-right : map answer examples ≡ expected
unfolding answer examples expected
examples-right = refl
