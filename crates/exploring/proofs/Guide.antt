-- What a builder's codes keep while it grows: none stands twice, and those of an "exists" are sets of states of its part. Assumes nothing.
use Rattle.words.proofs.Vocabulary.{ℕ, ◌≤◌, ◌<◌, true, ◌≡◌, ◌∙◌, refl, sym, subst, List, [], ◌∷◌, some, take, get_or, get_or-take, length, arith}
use Rattle.words.specs.Word.{Below, mem}
use Rattle.layout.specs.Shape.{Shaped, labels_in, Each, nil, cons}
use Rattle.table.specs.Entry.{Step, through}
use Rattle.table.specs.Rows.{RowsReady, Inside, Led}
use Rattle.table.specs.Succ.{Ranged, first_step, second_step, kind_code, successor_of, exists_start, start_code, start_of}
use Rattle.ops.specs.declared.Op.{Op}
use Rattle.ops.specs.declared.Op.TheVariants.{Exists}
use Rattle.table.specs.declared.plan.Plan.{Plan}
use Rattle.table.proofs.Sets.{exists_below}
use Rattle.table.proofs.Start.{closing-below}
use Rattle.exploring.specs.Explore.{Visit, DistinctCodes, ring}
use Rattle.exploring.specs.Filling.{Guided, listed, Visited}
use Rattle.exploring.specs.declared.Builder.{Builder}
use Rattle.exploring.proofs.Found.{Codes, Good, Proper, proper, visits-good, one_code}
use Rattle.exploring.proofs.Grow.{ring-all}
use Rattle.exploring.proofs.Steps.{Sized, is_list, list-long}

pub ring-proper : (labels k m : ℕ) → m ≤ labels → Each (Proper labels) (ring k m)
ring-proper labels k m h = ring-all k m (λ l i hl hi. let q : l < labels = omega arith in cons (proper q) (cons (proper q) nil))

-- what holds of the codes, and of what follows codes of which it holds, holds of the codes that are found
module _ {succ : Step} {p : Plan} {vs : List Visit} {b r : Builder} {ws ws' : List ℕ} (sb : Sized p.shape.ceiling b) (sr : Sized p.shape.ceiling r)
    (all : Each (Proper (labels_in p.shape)) vs) (f : Visited succ p vs b r ws ws') where
  visited-codes : (P : ℕ → Type 0) → ((l : ℕ) (xs : List ℕ) → l < labels_in p.shape → length xs ≡ 2 → Each P xs → P (succ l xs))
      → Codes P (take b.count b.codes) → Codes P (take r.count r.codes)
  visited-codes P closed ok =
      let c = p.shape.ceiling in
      let before : Good P c (listed c b) = subst (Good P c) (sym (is_list sb)) (ok, omega (arith, list-long sb, sb.few)) in
      let after = (visits-good succ succ c (labels_in p.shape) P (λ l xs hl n e. (refl, closed l xs hl n e)) vs (listed c b) all before).0 in
      (subst (Good P c) (sym f.list ∙ is_list sr) after).0

  -- none stands twice: of any code this asks nothing
  pub visited-apart : DistinctCodes (take b.count b.codes) → DistinctCodes (take r.count r.codes)
  visited-apart d = (visited-codes (λ (x : ℕ). Unit {0}) (λ l xs h n e. tt) (record { distinct = d; all = λ i h. tt })).distinct

-- ---- a ring of visits
-- the sets that "exists" finds hold states of its part alone
inside-closed : (low : List ℕ) (p : Plan) (n : ℕ) → Shaped p.shape → p.kind ≡ Exists → Inside low p n
    → (l : ℕ) (xs : List ℕ) → l < labels_in p.shape → length xs ≡ 2 → Each (Below n) xs → Below n (successor_of low p l xs)
unfolding successor_of kind_code through
inside-closed low p n shape e i l xs hl long h =
    subst (λ (k : Op). Below n (kind_code k (first_step low p) (second_step low p) p.wx p.wy l xs)) (sym e)
    (exists_below (labels_in p.shape) n p.shape.branches (first_step low p) (first_step low p) (omega (arith, i.few, shape.ceiling))
    (λ l is hl t. (refl, i.stays l is hl t)) p.wx i.bit l xs hl (long ∙ sym shape.branches) h)

module _ (low : List ℕ) (p : Plan) (shape : Shaped p.shape) where
  pub ring-guided : (k m : ℕ) {b r : Builder} {ws ws' : List ℕ} → Sized p.shape.ceiling b → Sized p.shape.ceiling r → m ≤ labels_in p.shape
      → Visited (successor_of low p) p (ring k m) b r ws ws' → Guided low p (listed p.shape.ceiling b) → Guided low p (listed p.shape.ceiling r)
  ring-guided k m sb sr hm f g =
      let all = ring-proper (labels_in p.shape) k m hm in
      let h = subst (Guided low p) (is_list sb) g in
      subst (Guided low p) (sym (is_list sr)) (
        visited-apart sb sr all f h.0,
        λ e.
            let w = h.1 e in
            (w.0, w.1, (visited-codes sb sr all f (Below w.0) (inside-closed low p w.0 shape e w.1) (record { distinct = h.0; all = w.2 })).all),
      )

  module _ {r : Builder} (sr : Sized p.shape.ceiling r) (g : Guided low p (listed p.shape.ceiling r)) where
    guided : Guided low p (some (take r.count r.codes))
    guided = subst (Guided low p) (is_list sr) g

    pub guided-apart : DistinctCodes (take r.count r.codes)
    guided-apart = guided.0

    pub guided-ready : Ranged p → (l k : ℕ) → l < labels_in p.shape → k < r.count → p.kind ≡ Exists
        → RowsReady p.shape low p.table1 p.wx l r.codes k
    guided-ready ranged l k hl hk e =
        let w = guided.1 e in
        let i = w.1 in
        record {
          table = record { shape = shape; small = ranged.table1_small; share = i.share };
          weight = ranged.wx_pos;
          small = ranged.wx_small;
          label = i.bit.on_label l hl;
          last = omega (arith, sr.few, shape.ceiling);
          states = λ j hj q hq m.
              let here : mem q (get_or (take r.count r.codes) j 0) ≡ true = rw (get_or-take r.count r.codes j 0 (omega arith)) m in
              let z = w.2 j (omega (arith, list-long sr)) q hq here in
              omega (arith, i.few);
        }

pub start-guided : (low : List ℕ) (p : Plan) → Shaped p.shape → Led low p → Guided low p (some (start_of low p ∷ []))
unfolding start_code exists_start
start-guided low p shape led = (
  (one_code (λ (x : ℕ). Unit {0}) (start_of low p) tt).distinct,
  λ e.
      let w = led e in
      let below = subst (λ (k : Op). Below w.0 (start_code k p.shape.branches (first_step low p) p.wx)) (sym e)
      (closing-below low p w.0 shape w.1 64) in
      (w.0, w.1, (one_code (Below w.0) (start_of low p) below).all),
)
