-- A4: the strip of a shown tree, as it stands in out, and the bound on the tree's depth; with it all that decide promises. Assumes nothing.
use Rattle.words.proofs.Vocabulary.{ℕ, ◌≡◌, refl, sym, ap, subst, ◌∙◌, List, arith, length, take, replicate}
use Rattle.logic.specs.Tree.{Tree}
use Rattle.logic.specs.Claims.{Outcome, refused14, shown, none, larger}
use Rattle.logic.proofs.Answers.{decide-shallow, shown-earliest, shown-fits, shown-states}
use Rattle.logic.proofs.Assignments.{tree_of-trimmed}
use Rattle.rule_strip.specs.RuleStrip.{variables_of, records_of}
use Rattle.rule_strip.proofs.RuleLaws.{rule-accepted}
use Rattle.tree_strip.specs.TreeStrip.{strip_of_tree, parsed}
use Rattle.tree_strip.proofs.TreeLaws.{tree-read-back}
use Rattle.std.specs.Prelude.{Result, Ok, Err}
use Rattle.refusals.specs.Refusal.{answer_unless}
use Rattle.refusals.specs.declared.Refusal.{Refusal}
use Rattle.refusals.proofs.Refusals.{free}
use Rattle.decide.proofs.Verdicts.{Ends, early, early-free, strip-first, claim}
use Rattle.decide.specs.Decide.{decided_of, outcome_verdict, verdict_of, workspace_of, out_of, DecideClaim, ShallowStrip, ShowsShallow}
use Rattle.decide.specs.declared.Verdict.{Verdict}
use Rattle.decide.specs.declared.Verdict.TheVariants.{Shown}

-- the outcome that shown tells
told-tree : (n : ℕ) (o : Outcome 2) {places states bytes : ℕ} → outcome_verdict n o ≡ Ok (Shown places states bytes)
    → (t : Tree 2) × (o ≡ shown places states t) × (bytes ≡ length (strip_of_tree n t))
unfolding outcome_verdict
told-tree n (refused14 r) e = absurd cc
told-tree n (shown places states t) e = (t, cc, cc)
told-tree n (none states) e = absurd cc
told-tree n (larger states) e = absurd cc

module _ (rule : List ℕ) (c P : ℕ) (ws out : List ℕ) where
  -- the strip of the tree that is shown
  strip-shallow : early rule c P ws out ≡ free → (places states : ℕ) (t : Tree 2) → decided_of rule c P ≡ shown places states t
      → ShallowStrip (strip_of_tree (variables_of rule) t) c places states
  strip-shallow e places states t f =
      let n = variables_of rule in
      let a = early-free rule c P ws out e in
      let g = rule-accepted rule a.0.sound in
      let ok = g.records-accepted in
      let m = (shown-earliest 2 n (records_of rule) c P ok places states t f).1.model.tree in
      let w = shown-fits 2 n (records_of rule) c P ok places states t f in
      let b = tree-read-back n t g.some-variable g.few-variables m.proper (tree_of-trimmed n _ t m) (omega (arith, w.1, a.1)) in
      record {
        tree = t;
        rest = replicate b.0 0;
        read = b.1 ∙ ap (λ (N : ℕ). parsed t N (replicate b.0 0)) (sym w.0);
        shallow = λ path d. let h = decide-shallow 2 n (records_of rule) c P ok places states t f path d in omega arith;
        few = shown-states 2 n (records_of rule) c P ok places states t f;
        at_most = a.0.few-states;
      }

  shows-shallow : {x : Result Verdict Refusal} → x ≡ verdict_of rule c P (length ws) (length out)
      → {out' : List ℕ} → out' ≡ out_of rule c P (length ws) out → ShowsShallow c x out'
  unfolding verdict_of
  shows-shallow ex {out' = out'} eo places states bytes f = go (early rule c P ws out) refl (sym ex ∙ f)
    where
      go : (r : Result Unit Refusal) → early rule c P ws out ≡ r
          → answer_unless r (outcome_verdict (variables_of rule) (decided_of rule c P)) ≡ Ok (Shown places states bytes)
          → ShallowStrip (take bytes out') c places states
      go (Err r) e h = absurd cc
      go (Ok u) e h =
          let w = told-tree (variables_of rule) (decided_of rule c P) h in
          let z = strip-first rule c P ws out eo e places states w.0 w.1 in
          subst (λ (s : List ℕ). ShallowStrip s c places states) (sym (ap (λ (l : ℕ). take l out') w.2 ∙ z))
          (strip-shallow e places states w.0 w.1)

  -- all that decide promises follows from how it ends
  pub promised : {x : Result Verdict Refusal} {ws' out' : List ℕ} → Ends rule c P ws out x ws' out' → record {
    value : x ≡ verdict_of rule c P (length ws) (length out);
    ws_after : ws' ≡ workspace_of rule c P ws (length out);
    out_after : out' ≡ out_of rule c P (length ws) out;
    decide_claim : DecideClaim rule c P (length ws) (length out) x out';
    shows_shallow : ShowsShallow c x out';
  }
  promised e = record {
    value = e.0;
    ws_after = e.1.0;
    out_after = e.1.1;
    decide_claim = claim rule c P ws out e.0 e.1.1;
    shows_shallow = shows-shallow e.0 e.1.1;
  }
