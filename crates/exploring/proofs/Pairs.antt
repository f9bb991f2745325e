-- A row of pairs, visited one after the other. Assumes nothing.
use Rattle.words.proofs.Vocabulary.{ℕ, ◌≤◌, ◌<◌, ◌+◌, ◌≡◌, ◌∙◌, refl, sym, subst, lt-leb, Bool, List, [], ◌∷◌, ◌++◌, length, get_or, take, set, arith}
use Rattle.layout.specs.Shape.{labels_in, place_in, Each, nil, cons}
use Rattle.layout.proofs.Places.{each_append, tuple_up, pair_in}
use Rattle.table.specs.Rows.{Serves}
use Rattle.table.specs.Succ.{PlanRoom, succ_in}
use Rattle.table.specs.declared.plan.Plan.{Plan}
use Rattle.exploring.specs.Explore.{Visit, DistinctCodes, place_of, codes_at, over, row}
use Rattle.exploring.specs.Filling.{Cell, listed, Noted, Visited, Visitable}
use Rattle.exploring.specs.declared.Builder.{Builder}
use Rattle.exploring.proofs.Fill.{PutIn, is_put, was_there, entered, visited-idle, visited-next}
use Rattle.exploring.proofs.Found.{Proper, proper}
use Rattle.exploring.proofs.Grow.{row-all}
use Rattle.exploring.proofs.Guide.{visited-apart}
use Rattle.exploring.proofs.Loops.{code-later, row_more}
use Rattle.exploring.proofs.Steps.{Sized, list-long}
use Rattle.exploring.proofs.Place.{is_place}
use Rattle.std.specs.declared.option.Option.TheVariants.{Some}

-- a builder keeps its whole array
put_long : {c x : ℕ} {b r : Builder} {new : Bool} → length b.codes ≡ 64 → PutIn c x b new r → length r.codes ≡ 64
put_long full (is_put long put) = long
put_long full (was_there old) = rw old full

-- what holds once the visits vs are made
pub record Turn (ws₀ ws left right : List ℕ) (p : Plan) (b r : Builder) (l k : ℕ) (vs : List Visit) : Type 0 where
  pub start : Visitable p b l k
  pub serves : Serves (succ_in ws₀ p) l b.codes k left right
  pub sized : Sized p.shape.ceiling b
  pub long : length ws ≡ length ws₀
  pub room : PlanRoom p (length ws)
  pub full : length r.codes ≡ 64
  pub all : Each (Proper (labels_in p.shape)) vs
  pub visited : Visited (succ_in ws₀ p) p vs b r ws₀ ws

-- the next visit, of states i and j up to k
module _ {ws₀ ws left right : List ℕ} {p : Plan} {b r : Builder} {l k : ℕ} {vs : List Visit} (t : Turn ws₀ ws left right p b r l k vs) (i j : ℕ)
    (hi : i ≤ k) (hj : j ≤ k) where
  pub can_note : PlanRoom p (length ws) × (((l < labels_in p.shape) × (i < r.count) × (j < r.count))
      × (r.count ≤ p.shape.ceiling → DistinctCodes (take r.count r.codes)))
  can_note =
      let there : k < r.count = omega (arith, t.visited.more, t.start.state) in
      let apart : r.count ≤ p.shape.ceiling → DistinctCodes (take r.count r.codes) = λ few.
      visited-apart t.sized (record { full = t.full; top = t.sized.top; few = few }) t.all t.visited t.start.distinct in
      (t.room, ((t.start.label, omega arith, omega arith), apart))

  pub made : {ws' : List ℕ} {x : ℕ} {new : Bool} {s : Builder} → x ≡ succ_in ws₀ p l (codes_at b.codes (i ∷ j ∷ []))
      → Noted p r (over l i j) x new ws ws' → length ws' ≡ length ws → PutIn p.shape.ceiling x r new s
      → Turn ws₀ ws' left right p b s l k (vs ++ (over l i j ∷ []))
  made ex noted same put =
      let low : i < b.count = omega (arith, t.start.state) in
      let high : j < b.count = omega (arith, t.start.state) in
      let later = code-later l t.sized t.visited (cons low (cons high nil)) ex in
      let there = tuple_up t.visited.more (pair_in p.shape t.room.ranged.shape low high) in
      record {
        start = t.start;
        serves = t.serves;
        sized = t.sized;
        long = same ∙ t.long;
        room = subst (PlanRoom p) (sym same) t.room;
        full = put_long t.full put;
        all = each_append t.all (cons (proper t.start.label) nil);
        visited = visited-next t.visited (entered _ _ _ t.room (t.room.blind (take p.base ws₀)) t.start.label t.start.own there
            t.visited.most t.full later noted put);
      }

  -- the code that follows is known: its place is written, and the builder stays
  pub known : {ws' : List ℕ} {x at : ℕ} → x ≡ succ_in ws₀ p l (codes_at b.codes (i ∷ j ∷ [])) → r.count ≤ p.shape.ceiling
      → Some at ≡ place_of x (take r.count r.codes) → ws' ≡ set ws (p.base + place_in p.shape l (i ∷ j ∷ [])) at
      → length ws' ≡ length ws → Turn ws₀ ws' left right p b r l k (vs ++ (over l i j ∷ []))
  known {x = x} ex few found written same =
      let at = is_place x (take r.count r.codes) found in
      let there = at.1 in
      let list = list-long (record { full = t.full; top = t.sized.top; few = few }) in
      made ex (record {
        found = λ h. sym (lt-leb _ _ (omega arith));
        written = λ h. rw (← at.0) written;
        passed = λ h. absurd (omega arith);
      }) same (was_there refl)

-- the two visits of states i and k
module _ {ws₀ ws left right : List ℕ} {p : Plan} {b r : Builder} {l k i : ℕ} (t : Turn ws₀ ws left right p b r l k (row l k i)) (hi : i ≤ k) where
  module _ {ws₁ : List ℕ} {r₁ : Builder} {new : Bool} (noted : Noted p r (over l i k) (get_or right i 0) new ws ws₁)
      (same : length ws₁ ≡ length ws) (put : PutIn p.shape.ceiling (get_or right i 0) r new r₁) where
    pub made_first : Turn ws₀ ws₁ left right p b r₁ l k (row l k i ++ (over l i k ∷ []))
    made_first = made t i k hi (omega arith) (t.serves i hi).0 noted same put

    pub made_both : {ws₂ : List ℕ} {r₂ : Builder} {new₂ : Bool} → Noted p r₁ (over l k i) (get_or left i 0) new₂ ws₁ ws₂
        → length ws₂ ≡ length ws₁ → PutIn p.shape.ceiling (get_or left i 0) r₁ new₂ r₂ → Turn ws₀ ws₂ left right p b r₂ l k (row l k (i + 1))
    made_both noted₂ same₂ put₂ = rw row_more (made made_first k i (omega arith) hi (t.serves i hi).1 noted₂ same₂ put₂)

-- of two codes that are known
module _ {ws₀ ws left right : List ℕ} {p : Plan} {b : Builder} {l k i : ℕ} (t : Turn ws₀ ws left right p b b l k (row l k i)) (hi : i ≤ k) where
  module _ {ws₁ : List ℕ} {at : ℕ} (found : Some at ≡ place_of (get_or right i 0) (take b.count b.codes))
      (written : ws₁ ≡ set ws (p.base + place_in p.shape l (i ∷ k ∷ [])) at) (same : length ws₁ ≡ length ws) where
    pub known_first : Turn ws₀ ws₁ left right p b b l k (row l k i ++ (over l i k ∷ []))
    known_first = known t i k hi (omega arith) (t.serves i hi).0 t.start.few found written same

    pub known_both : {ws₂ : List ℕ} {to : ℕ} → Some to ≡ place_of (get_or left i 0) (take b.count b.codes)
        → ws₂ ≡ set ws₁ (p.base + place_in p.shape l (k ∷ i ∷ [])) to → length ws₂ ≡ length ws₁
        → Turn ws₀ ws₂ left right p b b l k (row l k (i + 1))
    known_both found₂ written₂ same₂ = rw row_more (known known_first k i (omega arith) hi (t.serves i hi).1 t.start.few found₂ written₂ same₂)

-- the first pairs have their entries
pub begun : {ws left right : List ℕ} {p : Plan} {b : Builder} {l k : ℕ} (n : ℕ) → PlanRoom p (length ws) → Visitable p b l k
    → Serves (succ_in ws p) l b.codes k left right → length b.codes ≡ 64
    → Each (Cell (succ_in ws p) p (listed p.shape.ceiling b) ws) (row l k n) → Turn ws ws left right p b b l k (row l k n)
begun {l = l} {k = k} n room v serves full cells = record {
  start = v;
  serves = serves;
  sized = record { full = full; top = room.ranged.shape.ceiling; few = v.few };
  long = refl;
  room = room;
  full = full;
  all = row-all l k n (λ i hi. cons (proper v.label) (cons (proper v.label) nil));
  visited = visited-idle (row l k n) (omega (arith, v.few)) cells;
}
