-- From an accepted rule strip and an accepted tree strip to judge's answer, and its claim. Assumes nothing.
use Rattle.words.proofs.Vocabulary.{ℕ, ◌≡◌, refl, sym, ◌∙◌, ◌⊎◌, inl, inr, ⊎_elim, Bool, true, false, List, length, drop}
use Rattle.std.specs.Prelude.{Result, Ok, Err}
use Rattle.logic.specs.Claims.{Judgement, unbuilt, yes, no, FirstOver}
use Rattle.logic.specs.Decide.{say, judge_of}
use Rattle.logic.proofs.Answers.{judge_judges, trimmed_iff}
use Rattle.rule_strip.specs.RuleStrip.{variables_of, count_of, records_of, rule_fault}
use Rattle.rule_strip.proofs.RuleLaws.{rule-accepted}
use Rattle.rule_strip.proofs.RulePlaces.{place-told}
use Rattle.tree_strip.specs.TreeStrip.{tree_fault}
use Rattle.tree_strip.proofs.TreePlaces.{place-told as tree-told}
use Rattle.refusals.specs.declared.Fault.{Fault}
use Rattle.refusals.specs.declared.Refusal.{Refusal}
use Rattle.refusals.specs.declared.Refusal.TheVariants.{Placed}
use Rattle.refusals.proofs.Refusals.{free, checked-free, checked-placed, tested_unplaced}
use Rattle.rules.specs.Building.{SaysOfTree}
use Rattle.rules.specs.Room.{room_of, cleared, Workable}
use Rattle.rules.specs.Trees.{other_variables, tree_refusal, AcceptedTree}
use Rattle.rules.proofs.Ends.{placed_early, told_early, told_late, kept_early, cleared_late}
use Rattle.rules.proofs.Rooms.{work_free, work_unplaced}
use Rattle.rules.proofs.TreeRefusals.{tree_free, tree_facts}
use Rattle.judge.specs.Judge.{judge_refusal, judged_of, ruling_judgement, judgement_for, workspace_for, JudgeClaim}

-- ---- the answer
module _ {rule : List ℕ} {c room : ℕ} (w : Workable rule c room) {tree : List ℕ} (a : AcceptedTree tree (variables_of rule)) where
  pub is_judged : judged_of rule c tree ≡ judge_of (variables_of rule) (records_of rule) c a.tree
  unfolding judged_of
  is_judged = rw a.read

  -- a record with too many states
  pub rule-over : (r : ℕ) → FirstOver 2 (variables_of rule) (records_of rule) c r → judged_of rule c tree ≡ unbuilt r
  rule-over r h =
      is_judged ∙ ((judge_judges 2 (variables_of rule) (records_of rule) c 0 (rule-accepted rule w.sound).records-accepted a.tree).unbuilt_is r).1 h

  -- what is said of the tree
  pub tells-tree : (b : Bool) → SaysOfTree rule c tree b → Ok b ≡ ruling_judgement (judged_of rule c tree)
  unfolding say ruling_judgement
  tells-tree b says = rw (is_judged, ← (says _ _ _ a.read)) (go b)
    where
      go : (v : Bool) → Ok v ≡ ruling_judgement (say v)
      go true = refl
      go false = refl

-- ---- the end, by the refusals
judgement_unplaced : (j : Judgement) {f : Fault} → ruling_judgement j ≡ Err (Placed f) → ⊥
unfolding ruling_judgement
judgement_unplaced (unbuilt r) e = cc
judgement_unplaced yes e = cc
judgement_unplaced no e = cc

-- a tree strip's refusal that names a place is the strip's own
tree-placed : (tree : List ℕ) (n : ℕ) {f : Fault} → tree_refusal tree n ≡ Err (Placed f) → tree_fault tree ≡ Err f
unfolding tree_refusal
tree-placed tree n {f} e =
    ⊎_elim (λ g. g) (λ g. let z : free ≡ Err (Placed f) = tested_unplaced (other_variables tree n) _ g in absurd cc) (checked-placed (tree_fault tree) _ e)

module _ (rule : List ℕ) (c : ℕ) (ws tree : List ℕ) where
  abbrev pub Ends : Result Bool Refusal → List ℕ → Type 0
  Ends v ws' = (v ≡ judgement_for rule c (length ws) tree) × (ws' ≡ workspace_for rule c ws tree)

  abbrev pub early : Result Unit Refusal
  early = judge_refusal rule c (length ws) tree

  -- it is refused
  pub ends-refused : {r : Refusal} → early ≡ Err r → Ends (Err r) ws
  unfolding judgement_for workspace_for
  ends-refused e = (told_early early _ e, kept_early early ws _ e)

  -- it goes on
  module _ (e : early ≡ free) where
    pub early-free : Workable rule c (length ws) × AcceptedTree tree (variables_of rule)
    unfolding judge_refusal
    early-free =
        let s = checked-free (rule_fault rule) _ e in
        let w = work_free (variables_of rule) (count_of rule) c (length ws) _ s.1 in
        (record { sound = s.0; some-state = w.0; few-states = w.1; long = w.2 }, tree_free tree (variables_of rule) w.3)

    pub ends-told : {x : Result Bool Refusal} → x ≡ ruling_judgement (judged_of rule c tree)
        → (made : List ℕ) → drop (room_of rule c) made ≡ drop (room_of rule c) ws → {ws' : List ℕ} → ws' ≡ cleared (room_of rule c) made → Ends x ws'
    unfolding judgement_for workspace_for
    ends-told ex made same ew = (told_late early _ e ex, cleared_late early ws e (room_of rule c) made same ew)

  -- a refusal that names a place is one of the strips'
  placed_is : {f : Fault} → judgement_for rule c (length ws) tree ≡ Err (Placed f) → (rule_fault rule ≡ Err f) ⊎ (tree_fault tree ≡ Err f)
  unfolding judgement_for judge_refusal
  placed_is e =
      ⊎_elim inl (λ f. inr (tree-placed tree (variables_of rule) (work_unplaced (variables_of rule) (count_of rule) c (length ws) _ f)))
      (checked-placed (rule_fault rule) _ (placed_early early _ (judgement_unplaced (judged_of rule c tree)) e))

  -- YES OR NO AGREES WITH THE MEANING, and a place that is named is where a strip offends
  pub claim : {x : Result Bool Refusal} → x ≡ judgement_for rule c (length ws) tree → JudgeClaim rule c (length ws) tree x
  unfolding judgement_for judged_of
  claim ex = record {
    judged = λ e.
        let w = early-free e in
        let a = w.1 in
        let f = tree_facts a in
        record {
          tree = a.tree;
          met = a.met;
          rest = a.rest;
          read = a.read;
          assigned = (trimmed_iff (variables_of rule) a.tree f.proper).0 f.trimmed;
          judgement = judge_of (variables_of rule) (records_of rule) c a.tree;
          judges = judge_judges 2 (variables_of rule) (records_of rule) c 0 (rule-accepted rule w.0.sound).records-accepted a.tree;
          told = ex ∙ rw (e, a.read);
        };
    names = λ f e. ⊎_elim (λ g. inl (place-told rule g)) (λ g. inr (tree-told tree f g)) (placed_is (sym ex ∙ e));
  }

  -- all that judge promises follows from how it ends
  pub promised : {x : Result Bool Refusal} {ws' : List ℕ} → Ends x ws' → record {
    value : x ≡ judgement_for rule c (length ws) tree;
    ws_after : ws' ≡ workspace_for rule c ws tree;
    judge_claim : JudgeClaim rule c (length ws) tree x;
  }
  promised e = record { value = e.0; ws_after = e.1; judge_claim = claim e.0 }
