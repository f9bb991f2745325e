-- From what was built and found to decide's answer and the bytes in out. Assumes nothing.
use Rattle.words.proofs.Vocabulary.{ℕ, ◌+◌, ◌≤◌, ◌≡◌, refl, sym, ap, ◌∙◌, List, ◌++◌, mul-le-mul_right, arith, length, take, drop, length-take-le}
use Rattle.std.specs.Prelude.{Ok}
use Rattle.logic.specs.Tree.{Tree, positions}
use Rattle.logic.specs.Claims.{refused14, FirstOver}
use Rattle.logic.specs.Decide.{report}
use Rattle.logic.proofs.Answers.{decide-answers, shown-fits}
use Rattle.search.specs.Rounds.{answer_of, Showable}
use Rattle.search.specs.declared.Earliest.{Earliest}
use Rattle.search.specs.declared.Found.TheVariants as found
use Rattle.refusals.specs.Fault.{sound}
use Rattle.rule_strip.specs.RuleStrip.{variables_of, records_of, rule_fault}
use Rattle.rule_strip.proofs.RuleLaws.{rule-accepted}
use Rattle.tree_strip.specs.Ranks.{last_tree}
use Rattle.tree_strip.specs.TreeStrip.{strip_of_tree, tree_bytes}
use Rattle.tree_strip.proofs.TreeLaws.{tree_strip-length}
use Rattle.decide.specs.Decide.{decided_of, outcome_verdict, out_after_answer, Spacious}
use Rattle.decide.specs.declared.Verdict.TheVariants.{Shown}

module _ (rule : List ℕ) (unrefused : rule_fault rule ≡ sound) (c P : ℕ) where
  -- a record with too many states
  pub rule-over : (r : ℕ) → FirstOver 2 (variables_of rule) (records_of rule) c r → decided_of rule c P ≡ refused14 r
  rule-over r h =
      ((decide-answers 2 (variables_of rule) (records_of rule) c P (rule-accepted rule unrefused).records-accepted).refused_is r).1 h

  -- the tree that decide shows has room where one of P positions has
  pub spacious : P ≤ 255 → {space : ℕ} → tree_bytes (variables_of rule) P ≤ space → Spacious (variables_of rule) (decided_of rule c P) space
  spacious few room places states t f =
      let w = shown-fits 2 (variables_of rule) (records_of rule) c P (rule-accepted rule unrefused).records-accepted places states t f in
      let e = mul-le-mul_right (variables_of rule + 1) w.1 in
      (let a = w.1 in omega arith, let a = w.1 in omega arith)

-- the tree that a search found, where it has room
module _ (n states : ℕ) (e : Earliest) (out : List ℕ) (s : Showable e) (w : Spacious n (report states (answer_of (found.Shown e))) (length out)) where
  abbrev shown_tree : Tree 2
  shown_tree = last_tree e.ranks

  pub shown-room : (e.positions ≤ 255) × (positions shown_tree ≤ 255) × (tree_bytes n e.positions ≤ length out)
  unfolding report
  shown-room = let k = w (positions shown_tree) states shown_tree refl in rw s.counted (k.0, k.0, k.1)

  module _ {len : ℕ} (f : len ≡ tree_bytes n e.positions) where
    pub shown-long : len ≤ length out
    shown-long = rw f shown-room.2

    -- the front of out holds the strip
    pub shown-front : length (take len out) ≡ tree_bytes n (positions shown_tree)
    shown-front = length-take-le len out shown-long ∙ f ∙ ap (tree_bytes n) s.counted

    -- what is told, and what stands in out then
    pub tells-shown : {front : List ℕ} → front ≡ strip_of_tree n shown_tree
        → (Ok (Shown e.positions states len) ≡ outcome_verdict n (report states (answer_of (found.Shown e))))
        × (front ++ drop len out ≡ out_after_answer n (report states (answer_of (found.Shown e))) out)
    unfolding outcome_verdict out_after_answer report
    tells-shown g =
        let z : len ≡ length (strip_of_tree n shown_tree) = f ∙ ap (tree_bytes n) s.counted ∙ sym (tree_strip-length n shown_tree) in
        rw (g, z, s.counted) (refl, refl)
