-- `rule_at` meets its contract: a table's rule is a test at each of its entries, which antt computes.
use Rattle.std.proofs.Common.{◌≢◌}
use Rattle.words.proofs.Vocabulary.{ℕ, ◌≡◌, ◌∙◌, refl, rules}
use Rattle.table.specs.Succ.{atom_code, subset_rule, child1_rule, child2_rule, root_rule}
use Rattle.ops.specs.declared.Op.{Op}
use Rattle.ops.specs.declared.Op.TheVariants.{Subset, Single, Child1, Child2, Root, Not, Or, And, Exists}
use Rattle.table.specs.declared.atoms.TheConstants.{SUBSET, CHILD1, CHILD2, ROOT}
use Rattle.table.proofs.Rules.{rule-at}
use Rattle.table.proofs.atoms.rule_at.Goals as goal
use Rattle.table.proofs.atoms.rule_at.Goals.{in-Subset, in-Single, in-Child1, in-Child2, in-Root, in_default}

-- what is left is no atom
other : (k : Op) (n : ℕ) → k ≢ Subset → k ≢ Single → k ≢ Child1 → k ≢ Child2 → k ≢ Root → 0 ≡ atom_code k n
other Subset n a b c d e = absurd (a refl)
other Single n a b c d e = absurd (b refl)
other Child1 n a b c d e = absurd (c refl)
other Child2 n a b c d e = absurd (d refl)
other Root n a b c d e = absurd (e refl)
other Not n a b c d e = refl
other Or n a b c d e = refl
other And n a b c d e = refl
other Exists n a b c d e = refl

pub returns : goal.returns
returns c =
    let k = c.args.k in
    c.from.ensures ∙ elim c.match-kind.branch [
      | in-Subset w ↦ rw (w.state-is, w.in-Subset.is) (rule-at subset_rule SUBSET refl k (search rules))
      | in-Single w ↦ rw (w.state-is, w.in-Single.is) w.single_at-state.ensures
      | in-Child1 w ↦ rw (w.state-is, w.in-Child1.is) (rule-at child1_rule CHILD1 refl k (search rules))
      | in-Child2 w ↦ rw (w.state-is, w.in-Child2.is) (rule-at child2_rule CHILD2 refl k (search rules))
      | in-Root w ↦ rw (w.state-is, w.in-Root.is) (rule-at root_rule ROOT refl k (search rules))
      | in_default w ↦
          let d = w.in_default in rw w.state-is (other c.args.kind k d.not-Subset d.not-Single d.not-Child1 d.not-Child2 d.not-Root)
    ]
