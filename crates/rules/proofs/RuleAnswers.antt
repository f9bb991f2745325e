-- From a rule's machine to decide's and judge's answers. Assumes nothing.
use Rattle.words.proofs.Vocabulary.{ℕ, ◌-◌, ◌≡◌, refl, ap, ◌∙◌, Bool, List}
use Rattle.logic.proofs.Answers.{trimmed_iff}
use Rattle.logic.proofs.Builders.{decide-any, judge_any}
use Rattle.logic.specs.Decide.{say}
use Rattle.layout.specs.Shape.{shape_of}
use Rattle.layout.specs.declared.Shape.{Shape}
use Rattle.reading.specs.Reading.{HasMachine, HasTree, Finds, Accepts}
use Rattle.records.specs.declared.Summary.{Summary}
use Rattle.rule_strip.specs.RuleStrip.{variables_of, count_of, records_of}
use Rattle.rule_strip.proofs.RuleLaws.{rule-accepted}
use Rattle.search.specs.declared.Found.{Found}
use Rattle.tree_strip.proofs.TreeWalk.{facts_stand}
use Rattle.rules.specs.Building.{Decider, FoundFor, SaysOfTree}
use Rattle.rules.specs.Room.{Workable}
use Rattle.rules.specs.Trees.{AcceptedTree}
use Rattle.rules.proofs.TreeRefusals.{tree_facts, tree-readable}

-- the shape and the number of the last record, as they are read off the strip again
module _ {rule : List ℕ} {c room : ℕ} (w : Workable rule c room) {k : Summary} {ws : List ℕ} (d : Decider rule c k ws)
    {n : ℕ} (en : n ≡ variables_of rule) {s : Shape} (es : s ≡ shape_of n c) {m : ℕ} (em : m ≡ count_of rule) where
  pub rule-machine : HasMachine ws s (m - 1) k
  rule-machine = rw (es, en, em) d.last.readable

  pub rule-tree : {tree : List ℕ} → AcceptedTree tree (variables_of rule) → HasTree tree s
  rule-tree a = rw (es, en) (tree-readable a c)

  pub rule_found : {P : ℕ} {f : Found} → Finds ws s (m - 1) k P f → FoundFor rule c P k f
  rule_found {P} finds =
      let h = d.last.readable in
      let e = (rw (es, en, em) at finds) h.machine h.stored in
      record {
        ended = record { answer = refl; shown = e.shown };
        decided = rw (h.stored.count, e.answer)
            (decide-any 2 (variables_of rule) (records_of rule) (rule-accepted rule w.sound).records-accepted c P d.roomy _ d.last.decides _
            d.last.full);
      }

  pub rule-says : {tree : List ℕ} → AcceptedTree tree (variables_of rule) → {b : Bool} → Accepts ws s (m - 1) k tree b → SaysOfTree rule c tree b
  rule-says {tree} a accepts t met rest read =
      let v = variables_of rule in
      let f = tree_facts {n = v} (record { tree = t; met = met; rest = rest; read = read; variables = a.variables }) in
      let h = d.last.readable in
      let A = (trimmed_iff v t f.proper).0 f.trimmed in
      ap say ((rw (es, en, em) at accepts) h.machine t h.stored f.proper (facts_stand tree v t f))
      ∙ judge_any 2 v (records_of rule) (rule-accepted rule w.sound).records-accepted c d.roomy _ d.last.decides t A.0 A.1
