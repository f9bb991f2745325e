-- A tree strip beside a rule: its refusals, and what holds where there is none. Assumes nothing.
use Rattle.words.proofs.Vocabulary.{ℕ, ◌≡◌, refl, subst, List, arith}
use Rattle.std.specs.Prelude.{Ok}
use Rattle.std.proofs.lemmas.Grind.{common_steps}
use Rattle.bits.specs.Bits.{field}
use Rattle.layout.specs.Shape.{shape_of}
use Rattle.reading.specs.Reading.{HasTree}
use Rattle.refusals.specs.Fault.{sound}
use Rattle.refusals.proofs.Refusals.{free, checked-free, tested-free}
use Rattle.tree_strip.specs.TreeStrip.{Parsed, parsed, refused, read_tree, tree_fault}
use Rattle.tree_strip.specs.TreeAnswers.{answered, checked_tree}
use Rattle.tree_strip.specs.declared.check.TreeSize.{TreeSize}
use Rattle.tree_strip.proofs.TreeLaws.{TreeFacts, tree-accepted, sound-read, facts_length, tree_bytes-most}
use Rattle.tree_strip.proofs.TreeWalk.{facts_stand}
use Rattle.rules.specs.Trees.{other_variables, tree_refusal, AcceptedTree}

-- a tree strip that is accepted, over so many variables
pub tree_sound : (s : List ℕ) (size : TreeSize) → checked_tree s ≡ Ok size → (tree_fault s ≡ sound) × (field s 4 4 ≡ size.variables)
unfolding tree_fault
tree_sound s size e = go (read_tree s) refl e
  where
    go : (p : Parsed) → read_tree s ≡ p → answered s p ≡ Ok size → (tree_fault s ≡ sound) × (field s 4 4 ≡ size.variables)
    go (refused f) q h = absurd cc
    go (parsed t met rest) q h = (rw q refl, cc)

same_variables : (s : List ℕ) (n : ℕ) → other_variables s n ≡ Ok tt → field s 4 4 ≡ n
same_variables s n e = grind (arith, common_steps)

-- what no refusal says
pub tree_free : (s : List ℕ) (n : ℕ) → tree_refusal s n ≡ free → AcceptedTree s n
unfolding tree_refusal
tree_free s n e =
    let d = checked-free (tree_fault s) _ e in
    let r = sound-read s d.0 in
    record {
      tree = r.0;
      met = r.1;
      rest = r.2;
      read = r.3;
      variables = same_variables s n (tested-free (other_variables s n) _ d.1).0;
    }

-- its tree, in its place
module _ {s : List ℕ} {n : ℕ} (w : AcceptedTree s n) where
  pub tree_facts : TreeFacts s n w.tree
  tree_facts = subst (λ (k : ℕ). TreeFacts s k w.tree) w.variables (tree-accepted s w.tree w.met w.rest w.read).1

  pub tree-readable : (c : ℕ) → HasTree s (shape_of n c)
  tree-readable c =
      let f = tree_facts in
      let l = facts_length s n w.tree f in
      let b = tree_bytes-most n _ f.at_most f.few in
      record { short = omega arith; tree = w.tree; proper = f.proper; stands = facts_stand s n w.tree f }
