-- The turns of the exploration's loops. Assumes nothing.
use Rattle.words.proofs.Vocabulary.{ℕ, ◌≤◌, ◌<◌, ◌+◌, ◌-◌, suc, ◌≡◌, ◌∙◌, refl, sym, ap, subst, inl, inr, ◌⊎◌, List, [], ◌∷◌, ◌++◌, some, append_assoc, le-leb}
use Rattle.words.proofs.Vocabulary.{lt-leb, take, replicate, length-take, get_or-take, add-one, arith}
use Rattle.layout.specs.Shape.{Shaped, labels_in, Each, nil, cons}
use Rattle.layout.proofs.Places.{each_head, each_tail, pairs_of}
use Rattle.table.specs.Entry.{Step, seen}
use Rattle.table.specs.declared.plan.Plan.{Plan}
use Rattle.exploring.specs.Explore.{Visit, codes_at, visits, over, row, ring, rings, explore}
use Rattle.exploring.specs.Filling.{listed, Cell, Visited, Explored}
use Rattle.exploring.specs.declared.Builder.{Builder}
use Rattle.exploring.proofs.Fill.{Blind, cell_seen, visited-next, visited-idle, visited-over}
use Rattle.exploring.proofs.Grow.{Grows, grows_some, codes_same, visits-grows, row-all, ring-each, rings-each}
use Rattle.exploring.proofs.Grow.{pile_rest, Done, rings-rest}
use Rattle.exploring.proofs.Steps.{Sized, is_list, list-long}

-- the codes of states keep their places while the builder grows, so what follows them is the same later on
pub code-later : {succ : Step} {p : Plan} {vs : List Visit} {b r : Builder} {ws ws' : List ℕ} {is : List ℕ} {x : ℕ} (l : ℕ) → Sized p.shape.ceiling b
    → Visited succ p vs b r ws ws' → Each (λ (i : ℕ). i < b.count) is → x ≡ succ l (codes_at b.codes is)
    → r.count ≤ p.shape.ceiling → x ≡ succ l (codes_at (take r.count r.codes) is)
code-later {succ} {p} {vs} {b} {r} l sb f h e few =
    let c = p.shape.ceiling in
    let all = subst (Grows (listed c b)) (sym f.list) (visits-grows succ c vs (listed c b)) in
    let g = grows_some (rw (is_list sb, le-leb r.count c few) at all) in
    e ∙ ap (succ l) (codes_same b.count b.codes (take r.count r.codes) (λ i l.
    sym (g.same i (omega (arith, list-long sb)) ∙ get_or-take b.count b.codes i 0 l)) h)

-- the two visits of states i and k
pub row_more : (l k i : ℕ) → row l k (i + 1) ≡ (row l k i ++ (over l i k ∷ [])) ++ (over l k i ∷ [])
unfolding row
row_more l k i = rw (add-one, append_assoc)

module _ {succ : Step} {p : Plan} {b r s : Builder} {ws ws₁ ws₂ : List ℕ} where
  -- the row of label l
  pub ring-next : (k l : ℕ) → Visited succ p (ring k l) b r ws ws₁ → Visited succ p (row l k (k + 1)) r s ws₁ ws₂
      → Visited succ p (ring k (l + 1)) b s ws ws₂
  unfolding ring
  ring-next k l f g = rw add-one (visited-next f (subst (λ (n : ℕ). Visited succ p (row l k n) r s ws₁ ws₂) (add-one k) g))

  -- the ring of state k
  pub rings-next : (labels k : ℕ) → Visited succ p (rings labels k) b r ws ws₁ → Visited succ p (ring k labels) r s ws₁ ws₂
      → Visited succ p (rings labels (k + 1)) b s ws ws₂
  unfolding rings
  rings-next labels k f g = rw add-one (visited-next f g)

-- a label that is not told from an earlier one, whose row was visited, is passed
pub label-passed : {succ : Step} {p : Plan} {b : Builder} {ws : List ℕ} (k l : ℕ) → Blind succ p → b.count ≤ p.shape.ceiling + 1 → seen p.looks l < l
    → Each (Cell succ p (listed p.shape.ceiling b) ws) (ring k l) → Visited succ p (row l k (k + 1)) b b ws ws
label-passed {p = p} {b = b} {ws = ws} k l blind h less old =
    let o = listed p.shape.ceiling b in
    visited-idle (row l k (k + 1)) h (row-all l k (k + 1) (λ i hi.
    let z = ring-each k l old (seen p.looks l) i less (omega arith) in
    cons (cell_seen p blind o ws l (i ∷ k ∷ []) (each_head z)) (cons (cell_seen p blind o ws l (k ∷ i ∷ []) (each_head (each_tail z))) nil)))

-- where there are too many, the labels that are left need no visit
pub ring_stopped : {succ : Step} {p : Plan} {b r : Builder} {ws ws' : List ℕ} (k l m : ℕ) → l ≤ m → p.shape.ceiling < r.count
    → Visited succ p (ring k l) b r ws ws' → Visited succ p (ring k m) b r ws ws'
unfolding ring
ring_stopped {succ} {p} {b} {r} {ws} {ws'} k l m h over f =
    let s : l + (m - l) ≡ m = omega arith in
    let z = pile_rest (ring k) (λ l. row l k (suc k)) refl (λ n. refl) l (m - l) in
    subst (λ (vs : List Visit). Visited succ p vs b r ws ws') (sym z.1 ∙ ap (ring k) s) (visited-next f (visited-over z.0 over f.most))

-- every state had its turn, or there are too many
pub explored : {succ : Step} {p : Plan} {start : ℕ} (k : ℕ) {r : Builder} {ws ws' : List ℕ} → Shaped p.shape → k ≤ p.shape.ceiling
    → (r.count ≤ k) ⊎ (p.shape.ceiling < r.count)
    → Visited succ p (rings (labels_in p.shape) k) (record { codes = replicate 64 start; count = 1 }) r ws ws' → Explored succ p start r ws ws'
unfolding explore
explored {succ} {p} {start} k {r} {ws} {ws'} shape hk end f = record {
  most = f.most;
  list =
      let rest : k + (c - k) ≡ c = omega arith in
      is_found ∙ sym (rw rest at (rings-rest succ c labels k (c - k) (some (start ∷ [])) (subst (Done k) is_found (ended end).0)));
  cells = λ v hl. pairs_of p.shape shape (λ (is : List ℕ). Cell succ p (listed c r) ws' (record { label = v.label; states = is }))
      ((ended end).1 v.label hl) v.states;
  bare = f.bare;
  kept = f.kept;
}
  where
    c : ℕ
    c = p.shape.ceiling

    labels : ℕ
    labels = labels_in p.shape

    is_found : listed c r ≡ visits succ c (rings labels k) (some (start ∷ []))
    is_found = f.list ∙ (rw (le-leb 1 c shape.some-state))

    ended : (r.count ≤ k) ⊎ (c < r.count) → Done k (listed c r)
        × ((l : ℕ) → l < labels → (i j : ℕ) → i < r.count → j < r.count → Cell succ p (listed c r) ws' (over l i j))
    ended (inl few) = (
      rw (le-leb r.count c (omega arith)) (omega (arith, length-take r.count r.codes)),
      λ l hl i j hi hj. rings-each labels k f.cells l i j hl (omega arith) (omega arith),
    )
    ended (inr over) = rw (lt-leb r.count c over) (tt, λ l hl i j hi hj. tt)
