-- A strip for each refusal of the two checks, with the place that it names, by computation on the definitions. Assumes nothing.
use Prim.Native.Nat.{ℕ}
use mathlib.Core.Path.{◌≡◌, refl}
use mathlib.Core.List.{List, [], ◌∷◌, map}
use lib.ListN.{replicate}
use Rattle.bits.specs.Bits.{digits, bits, any_set, first_set, bit_length}
use Rattle.std.specs.Prelude.{Result}
use Rattle.refusals.specs.Fault.{sound, fault}
use Rattle.refusals.specs.declared.Fault.{Fault}
use Rattle.refusals.specs.declared.Reason.TheVariants as reason
use Rattle.rule_strip.specs.RuleStrip.{record_at, records_from, records_of, first_use, second_use, record_fault, records_fault, head_fault, rule_fault}
use Rattle.tree_strip.specs.TreeStrip.{join, and_then, parse, end_fault, ended, read_tree, tree_fault}

-- X0 = X1 1 with n = 2, and the same with one fault: one byte; version 2; n = 0; m = 0; cut short; a padding bit set; op 9; variable 2 on
-- the left, on the right, on both sides. Then "not" of itself, "not 2" in record 1, Sing with an unused field set, "exists" of itself
pub rule_strips : List (List ℕ)
rule_strips =
    (0x12 ∷ 0x01 ∷ 0x20 ∷ 0x00 ∷ 0x40 ∷ [])
    ∷ (0x12 ∷ [])
    ∷ (0x22 ∷ 0x01 ∷ 0x20 ∷ 0x00 ∷ 0x40 ∷ [])
    ∷ (0x10 ∷ 0x01 ∷ 0x20 ∷ 0x00 ∷ 0x40 ∷ [])
    ∷ (0x12 ∷ 0x00 ∷ 0x20 ∷ 0x00 ∷ 0x40 ∷ [])
    ∷ (0x12 ∷ 0x01 ∷ 0x20 ∷ 0x00 ∷ [])
    ∷ (0x12 ∷ 0x01 ∷ 0x20 ∷ 0x00 ∷ 0x50 ∷ [])
    ∷ (0x12 ∷ 0x01 ∷ 0x90 ∷ 0x00 ∷ 0x40 ∷ [])
    ∷ (0x12 ∷ 0x01 ∷ 0x20 ∷ 0x40 ∷ 0x40 ∷ [])
    ∷ (0x12 ∷ 0x01 ∷ 0x20 ∷ 0x00 ∷ 0x80 ∷ [])
    ∷ (0x12 ∷ 0x01 ∷ 0x20 ∷ 0x40 ∷ 0x80 ∷ [])
    ∷ (0x12 ∷ 0x01 ∷ 0x50 ∷ 0x00 ∷ 0x00 ∷ [])
    ∷ (0x12 ∷ 0x04 ∷ 0x20 ∷ 0x00 ∷ 0x54 ∷ 0x10 ∷ 0x00 ∷ 0x00 ∷ 0x05 ∷ 0xC0 ∷ 0x01 ∷ [])
    ∷ (0x12 ∷ 0x01 ∷ 0x10 ∷ 0x00 ∷ 0x40 ∷ [])
    ∷ (0x12 ∷ 0x01 ∷ 0x80 ∷ 0x00 ∷ 0x00 ∷ [])
    ∷ []

pub rule_faults : List (Result Unit Fault)
rule_faults =
    sound
    ∷ fault reason.RuleShort 8
    ∷ fault reason.RuleVersion 0
    ∷ fault reason.RuleVariables 4
    ∷ fault reason.RuleRecords 8
    ∷ fault reason.RuleLength 32
    ∷ fault reason.RulePadding 35
    ∷ fault reason.Op 16
    ∷ fault reason.Variable 20
    ∷ fault reason.Variable 27
    ∷ fault reason.Variable 20
    ∷ fault reason.Record 20
    ∷ fault reason.Record 38
    ∷ fault reason.Unused 27
    ∷ fault reason.Record 27
    ∷ []

pub rule-places : map rule_fault rule_strips ≡ rule_faults
unfolding rule_strips rule_faults digits bits any_set first_set bit_length record_at records_from records_of first_use second_use record_fault records_fault head_fault
    rule_fault
rule-places = refl

-- the tree of Sing(X0), with n = 1; then no bytes; version 2; n = 0; a strip that ends before its tree, at the node bit and in a label; a
-- root with label 0 alone; 256 nodes; the empty tree with a padding bit set, with a byte left over, with both
pub tree_strips : List (List ℕ)
tree_strips =
    (0x11 ∷ 0xC0 ∷ [])
    ∷ []
    ∷ (0x21 ∷ 0x00 ∷ [])
    ∷ (0x10 ∷ 0x00 ∷ [])
    ∷ (0x11 ∷ 0xFF ∷ [])
    ∷ (0x12 ∷ 0xFF ∷ [])
    ∷ (0x11 ∷ 0x80 ∷ [])
    ∷ (0x11 ∷ replicate 64 0xFF)
    ∷ (0x11 ∷ 0x10 ∷ [])
    ∷ (0x11 ∷ 0x00 ∷ 0x01 ∷ [])
    ∷ (0x11 ∷ 0x10 ∷ 0x01 ∷ [])
    ∷ []

pub tree_faults : List (Result Unit Fault)
tree_faults =
    sound
    ∷ fault reason.TreeShort 0
    ∷ fault reason.TreeVersion 0
    ∷ fault reason.TreeVariables 4
    ∷ fault reason.TreeCut 16
    ∷ fault reason.TreeCut 16
    ∷ fault reason.TreeBare 8
    ∷ fault reason.TreePositions 518
    ∷ fault reason.TreeLeftOver 11
    ∷ fault reason.TreeLeftOver 16
    ∷ fault reason.TreeLeftOver 11
    ∷ []

pub tree_places : map tree_fault tree_strips ≡ tree_faults
unfolding tree_strips tree_faults digits bits any_set first_set bit_length join and_then parse end_fault ended read_tree tree_fault
tree_places = refl
