-- One turn of each loop of a scan, its start and its end. Assumes nothing.
use Rattle.words.proofs.Vocabulary.{ℕ, suc, ◌+◌, ◌≤◌, ◌<◌, ◌≡◌, ◌∙◌, refl, sym, ap, subst, Bool, true, false, List, [], ◌∷◌, get_or}
use Rattle.words.proofs.Vocabulary.{arith, add-one, lt-ltb, le-ltb, ltb-true, ltb-false}
use Rattle.std.specs.Prelude.{Option, None, Some}
use mathlib.Core.Bool.{true≢false}
use Rattle.layout.specs.declared.Shape.{Shape}
use Rattle.layout.specs.Shape.{labels_in}
use Rattle.layout.proofs.Places.{pair_in}
use Rattle.logic.specs.Search.{Best, nothing, found, View, weight, lighter, choose, consider, loop, tuples, pick}
use Rattle.logic.specs.Tree.{down_from, sum_of}
use Rattle.logic.specs.Meaning.{Branch}
use Rattle.logic.specs.Two.{one, two}
use Rattle.logic.proofs.Repeats.{label_repeats}
use Rattle.search.specs.declared.Pick.{Pick}
use Rattle.search.specs.declared.Settled.{Settled}
use Rattle.table.specs.Entry.{step_in, entry, through, seen}
use Rattle.table.proofs.Masks.{seen-seen}
use Rattle.search.specs.Scan.{kept, code_view, best_in, Held, ScanReady, scan_second, scan_first, scan_label}

-- the definition's loops are these
pub pick_loops : (v : View 2) (labels n : ℕ) → pick labels n v ≡ scan_label v n labels nothing
unfolding pick tuples scan_label scan_first scan_second
pick_loops v labels n = refl

weight-two : (v : View 2) (i j : ℕ) → weight v (i ∷ j ∷ []) ≡ v.size i + v.size j
unfolding sum_of down_from
weight-two v i j = omega arith

module _ (v : View 2) (l i j : ℕ) where
  abbrev new : Pick
  new = record { size = suc (v.size i + v.size j); rank = record { label = l; first = i; second = j } }

  held_new : Held v (found l (i ∷ j ∷ [])) (Some new)
  held_new = record { best = refl; fair = ap suc (sym (weight-two v i j)) }

  held-choose : (o : Bool) (b : Best) (p : Option Pick) → Held v b p → (y : Bool) → lighter v (i ∷ j ∷ []) b ≡ y
      → Held v (choose o y l (i ∷ j ∷ []) b) (kept p o new)
  unfolding choose lighter
  held-choose true b p h y f = h
  held-choose false nothing None h true f = held_new
  held-choose false nothing None h false f = absurd (true≢false f)
  held-choose false nothing (Some p) h y f = let e = h.best in absurd cc
  held-choose false (found l' is') None h y f = let e = h.best in absurd cc
  held-choose false (found l' is') (Some p) h true f =
      rw (lt-ltb (suc (v.size i + v.size j)) p.size
      (omega (arith, size_in p h, weight-two v i j, ltb-true (weight v (i ∷ j ∷ [])) (weight v is') f))) held_new
    where
      size_in : (p : Pick) → Held v (found l' is') (Some p) → p.size ≡ suc (weight v is')
      size_in p h = let e = h.best in let q : p.rank.first ∷ p.rank.second ∷ [] ≡ is' = cc in h.fair ∙ ap (λ is. suc (weight v is)) q
  held-choose false (found l' is') (Some p) h false f =
      rw (le-ltb (suc (v.size i + v.size j)) p.size
      (omega (arith, size_in p h, weight-two v i j, ltb-false (weight v (i ∷ j ∷ [])) (weight v is') f))) h
    where
      size_in : (p : Pick) → Held v (found l' is') (Some p) → p.size ≡ suc (weight v is')
      size_in p h = let e = h.best in let q : p.rank.first ∷ p.rank.second ∷ [] ≡ is' = cc in h.fair ∙ ap (λ is. suc (weight v is)) q

-- one turn of the inner loop
held-consider : (s : Shape) (looks : ℕ) (table : List ℕ) (t : Settled) (l i j : ℕ) (b : Best) (p : Option Pick) → let v : View 2 = code_view s looks table t in
    Held v b p → Held v (consider v l (i ∷ j ∷ []) b)
    (kept p (get_or t.done (step_in s table 0 looks l (get_or t.state i 0 ∷ get_or t.state j 0 ∷ [])) false) (record {
      size = suc (get_or t.size i 0 + get_or t.size j 0);
      rank = record { label = l; first = i; second = j };
    }))
unfolding consider code_view
held-consider s looks table t l i j b p h =
    let v : View 2 = code_view s looks table t in
    held-choose v l i j (get_or t.done (step_in s table 0 looks l (get_or t.state i 0 ∷ get_or t.state j 0 ∷ [])) false) b p h
    (lighter v (i ∷ j ∷ []) b) refl

-- One turn of the inner loop, as the code takes it.
pub row_next : (s : Shape) (looks : ℕ) (table : List ℕ) (t : Settled) (l i j : ℕ) (b : Best) (p r : Option Pick) (q : ℕ) → let v : View 2 = code_view s looks table t in
    Held v (scan_second v l i j b) p
    → q ≡ step_in s table 0 looks l (get_or t.state i 0 ∷ get_or t.state j 0 ∷ [])
    → r ≡ kept p (get_or t.done q false) (record {
      size = get_or t.size i 0 + get_or t.size j 0 + 1;
      rank = record { label = l; first = i; second = j };
    })
    → Held v (scan_second v l i (j + 1) b) r
unfolding scan_second loop
row_next s looks table t l i j b p r q h eq er =
    rw (er, eq, add-one j, add-one (get_or t.size i 0 + get_or t.size j 0))
    (held-consider s looks table t l i j (scan_second (code_view s looks table t) l i j b) p h)

-- what is held is fair by itself
pub held_self : {v : View 2} {b : Best} {p : Option Pick} → Held v b p → Held v (best_in p) p
held_self {v} {b} {p} h = rw h.best h

pub rows_next : (v : View 2) (n l i : ℕ) (b : Best) (p r : Option Pick) → Held v (scan_first v n l i b) p
    → Held v (scan_second v l i n (best_in p)) r → Held v (scan_first v n l (i + 1) b) r
unfolding scan_first loop
rows_next v n l i b p r h k = rw (add-one i) (rw h.best at k)

pub rows_done : (v : View 2) (n l i : ℕ) (b : Best) (r : Option Pick) → i ≤ n → n ≤ i → Held v (scan_first v n l i b) r → Held v (scan_first v n l n b) r
rows_done v n l i b r p q h = subst (λ (k : ℕ). Held v (scan_first v n l k b) r) (omega arith) h

pub pick_first : (v : View 2) (n : ℕ) → Held v (scan_label v n 0 nothing) None
unfolding scan_label loop
pick_first v n = record { best = refl; fair = tt }

pub pick_next : (v : View 2) (n l : ℕ) (b : Best) (p r : Option Pick) → Held v (scan_label v n l b) p
    → Held v (scan_first v n l n (best_in p)) r → Held v (scan_label v n (l + 1) b) r
unfolding scan_label loop
pick_next v n l b p r h k = rw (add-one l) (rw h.best at k)

-- a label with a bit that is not looked at is passed over: it has the steps of the label without that bit, which is an earlier one
pub pick-passed : (s : Shape) (looks : ℕ) (table : List ℕ) (t : Settled) (n l : ℕ) (b : Best) (p : Option Pick) → let v : View 2 = code_view s looks table t in
    seen looks l < l → Held v (scan_label v n l b) p → Held v (scan_label v n (l + 1) b) p
unfolding scan_label scan_first scan_second tuples loop code_view through
pick-passed s looks table t n l b p h w =
    let v : View 2 = code_view s looks table t in
    let alike : (f : Branch 2 → ℕ) → v.step (seen looks l) f ≡ v.step l f =
    λ f. ap (λ (m : ℕ). entry s table 0 m (f one ∷ f two ∷ [])) (seen-seen looks l) in
    rw (add-one l) (subst (λ (x : Best). Held v x p) (sym (label_repeats v n (seen looks l) l h alike b)) w)

pub pick-done : (v : View 2) (n l labels : ℕ) (b : Best) (r : Option Pick) → l ≤ labels → labels ≤ l → Held v (scan_label v n l b) r → Held v (scan_label v n labels b) r
pick-done v n l labels b r p q h = subst (λ (k : ℕ). Held v (scan_label v n k b) r) (omega arith) h

pub ready-steps : {s : Shape} {looks : ℕ} {table : List ℕ} {t : Settled} (v : ScanReady s looks table t) (l a b : ℕ)
    → l < labels_in s → a < v.bound → b < v.bound → step_in s table 0 looks l (a ∷ b ∷ []) < 64
ready-steps {s} v l a b hl ha hb =
    let w = v.table-whole in
    omega (arith, w.steps l (a ∷ b ∷ []) hl (pair_in s w.inside.shape ha hb), w.within, w.inside.shape.ceiling)
