-- Decide's result and the buffers at its end, by the refusals; and demands 2 and 3 of them. Assumes nothing.
use Rattle.words.proofs.Vocabulary.{ℕ, ◌≤◌, ◌≡◌, sym, ◌∙◌, ⊎_elim, List, length, take, drop}
use lib.Seq.{take-append_seam}
use Rattle.logic.specs.Tree.{Tree}
use Rattle.logic.specs.Rule.{formula_at, last_of}
use Rattle.logic.specs.Joined.{joined_table}
use Rattle.logic.specs.Claims.{Outcome, refused14, shown, none, larger}
use Rattle.logic.proofs.Answers.{decide-answers}
use Rattle.rule_strip.specs.RuleStrip.{variables_of, count_of, records_of, rule_fault}
use Rattle.rule_strip.proofs.RuleLaws.{rule-accepted}
use Rattle.rule_strip.proofs.RulePlaces.{place-told}
use Rattle.tree_strip.specs.TreeStrip.{strip_of_tree, tree_bytes}
use Rattle.std.specs.Prelude.{Result, Err}
use Rattle.refusals.specs.declared.Fault.{Fault}
use Rattle.refusals.specs.declared.Refusal.{Refusal}
use Rattle.refusals.specs.declared.Refusal.TheVariants.{Placed}
use Rattle.refusals.proofs.Refusals.{free, checked-free, tested-free, checked-placed, tested_unplaced}
use Rattle.rules.specs.Room.{room_of, cleared, places_refusal, out_refusal, Workable}
use Rattle.rules.proofs.Rooms.{places_free, out_free, work_free, work_unplaced}
use Rattle.rules.proofs.Ends.{placed_early, told_early, told_late, kept_early, changed_late, cleared_late}
use Rattle.decide.specs.Decide.{room_refusal, decide_refusal, decided_of, outcome_verdict, out_after_answer, verdict_of, workspace_of, out_of, DecideClaim}
use Rattle.decide.specs.declared.Verdict.{Verdict}

-- none of 11 to 13 names a place
room_unplaced : (n m c P room out_room : ℕ) {f : Fault} → room_refusal n m c P room out_room ≡ Err (Placed f) → ⊥
unfolding room_refusal
room_unplaced n m c P room out_room {f} e =
    let z : free ≡ Err (Placed f) =
    tested_unplaced (out_refusal n P out_room) _ (work_unplaced n m c room _ (tested_unplaced (places_refusal P) _ e)) in cc

-- nor does an outcome
outcome_unplaced : (n : ℕ) (o : Outcome 2) {f : Fault} → outcome_verdict n o ≡ Err (Placed f) → ⊥
unfolding outcome_verdict
outcome_unplaced n (refused14 r) e = cc
outcome_unplaced n (shown places states t) e = cc
outcome_unplaced n (none states) e = cc
outcome_unplaced n (larger states) e = cc

module _ (rule : List ℕ) (c P : ℕ) (ws out : List ℕ) where
  -- decide ends so
  abbrev pub Ends : Result Verdict Refusal → List ℕ → List ℕ → Type 0
  Ends v ws' out' =
      (v ≡ verdict_of rule c P (length ws) (length out)) × ((ws' ≡ workspace_of rule c P ws (length out)) × (out' ≡ out_of rule c P (length ws) out))

  abbrev pub early : Result Unit Refusal
  early = decide_refusal rule c P (length ws) (length out)

  -- it is refused
  pub ends-refused : {r : Refusal} → early ≡ Err r → Ends (Err r) ws out
  unfolding verdict_of workspace_of out_of
  ends-refused e = (told_early early _ e, (kept_early early ws _ e, kept_early early out _ e))

  -- it goes on
  module _ (e : early ≡ free) where
    pub early-free : Workable rule c (length ws) × (P ≤ 255) × (tree_bytes (variables_of rule) P ≤ length out)
    unfolding decide_refusal room_refusal
    early-free =
        let s = checked-free (rule_fault rule) _ e in
        let n = variables_of rule in
        let a = tested-free (places_refusal P) _ s.1 in
        let w = work_free n (count_of rule) c (length ws) _ a.1 in (
          record { sound = s.0; some-state = w.0; few-states = w.1; long = w.2 },
          places_free P a.0,
          out_free n P (length out) (tested-free (out_refusal n P (length out)) _ w.3).0,
        )

    pub ends-told : {x : Result Verdict Refusal} → x ≡ outcome_verdict (variables_of rule) (decided_of rule c P)
        → (made : List ℕ) → drop (room_of rule c) made ≡ drop (room_of rule c) ws → {ws' : List ℕ} → ws' ≡ cleared (room_of rule c) made
        → {out' : List ℕ} → out' ≡ out_after_answer (variables_of rule) (decided_of rule c P) out → Ends x ws' out'
    unfolding verdict_of workspace_of out_of
    ends-told ex made same ew eo = (told_late early _ e ex, (cleared_late early ws e (room_of rule c) made same ew, changed_late early out e eo))

  -- a refusal that names a place is the strip's
  placed_is : {f : Fault} → verdict_of rule c P (length ws) (length out) ≡ Err (Placed f) → rule_fault rule ≡ Err f
  unfolding verdict_of decide_refusal
  placed_is e =
      ⊎_elim (λ f. f) (λ f. absurd (room_unplaced (variables_of rule) (count_of rule) c P (length ws) (length out) f))
      (checked-placed (rule_fault rule) _ (placed_early early _ (outcome_unplaced (variables_of rule) (decided_of rule c P)) e))

  -- the strip of a tree that is shown stands at the front of out
  pub strip-first : {out' : List ℕ} → out' ≡ out_of rule c P (length ws) out → early ≡ free
      → (places states : ℕ) (t : Tree 2) → decided_of rule c P ≡ shown places states t
      → take (length (strip_of_tree (variables_of rule) t)) out' ≡ strip_of_tree (variables_of rule) t
  unfolding out_of out_after_answer
  strip-first eo e places states t f = let s = strip_of_tree (variables_of rule) t in rw eo (rw e (rw f (take-append_seam s (drop (length s) out))))

  -- DEMANDS 2 AND 3, of what decide answers and leaves in out, and the place that it names
  pub claim : {x : Result Verdict Refusal} → x ≡ verdict_of rule c P (length ws) (length out) → {out' : List ℕ} → out' ≡ out_of rule c P (length ws) out
      → DecideClaim rule c P (length ws) (length out) x out'
  unfolding verdict_of
  claim ex eo = record {
    decided = λ e. record {
      outcome = decided_of rule c P;
      states = (joined_table {k = 2} (variables_of rule) (formula_at (records_of rule) (last_of (records_of rule)))).count;
      answers = decide-answers 2 (variables_of rule) (records_of rule) c P (rule-accepted rule (early-free e).0.sound).records-accepted;
      told = ex ∙ rw e;
      shows = strip-first eo e;
    };
    names = λ f e. place-told rule (placed_is (sym ex ∙ e));
  }
