-- One round over the arrays, from the first to the last. Assumes nothing.
use Rattle.words.proofs.Vocabulary.{ℕ, zero, suc, ◌+◌, ◌≤◌, ◌<◌, ◌-◌, ◌≡◌, refl, sym, ap, ap₂, subst, ◌∙◌, fun_ext, Bool, true, false, ◌||◌, or-false}
use Rattle.words.proofs.Vocabulary.{or_assoc, or-true, List, [], ◌∷◌, ◌++◌, arith, add-one, ltb, eqb, eq-eqb, ne_eqb, lt-ltb, le-ltb, length, get_or, set}
use Rattle.words.proofs.Vocabulary.{replicate, length-append, length-set, List·getD-append, List·getD-eq-default, ℕ_discrete, get_or-append_seam}
use Rattle.words.proofs.Vocabulary.{get_or-set_same, get_or-set_other}
use lib.Seq.{set_out}
use Rattle.words.specs.Word.{mem}
use Rattle.layout.specs.declared.Shape.{Shape}
use Rattle.layout.specs.Shape.{labels_in}
use Rattle.layout.proofs.Places.{pair_in}
use Rattle.logic.specs.Tree.{Tree, empty, positions}
use Rattle.logic.specs.Machine.{Machine, run}
use Rattle.logic.specs.Search.{Best, nothing, found, View, lighter, choose, consider, loop, pick, at, rank, settled, view, Sought, tree}
use Rattle.logic.specs.Search.{verdict, next, rounds, any_below, begin, search, large, absent}
use Rattle.logic.proofs.Orders.{less, same, more, ℕ-tri}
use Rattle.std.specs.Prelude.{Option, None, Some}
use Rattle.tree_strip.specs.Ranks.{no_rank, rank_in, tree_with, tree_at, decode, last_tree, Backs}
use Rattle.tree_strip.specs.declared.write.Rank.{Rank}
use Rattle.tree_strip.proofs.Ranks.{decode-length}
use Rattle.search.specs.declared.Earliest.{Earliest}
use Rattle.search.specs.declared.Pick.{Pick}
use Rattle.search.specs.declared.Settled.{Settled}
use Rattle.search.specs.declared.Found.{Found}
use Rattle.search.specs.declared.Found.TheVariants.{None as Nowhere, Larger, Shown}
use Rattle.table.specs.Entry.{step_in}
use Rattle.table.specs.Whole.{machine_in, Whole}
use Rattle.search.specs.Scan.{code_view, best_in, Held, Stepped, ScanReady, scan_second, scan_first, scan_label}
use Rattle.search.specs.Rounds.{first_settled, settled_too, Showable, Ended}
use Rattle.search.proofs.ScanLaws.{pick_loops}

-- what a scan finds lies in its range
unfoldable Ranged : ℕ → ℕ → Best → Type 0
Ranged labels n nothing = Unit {0}
Ranged labels n (found l is) = (i j : ℕ) → is ≡ i ∷ j ∷ [] → (l < labels) × (i < n) × (j < n)

module _ (v : View 2) (labels n : ℕ) where
  ranged-choose : (x y : Bool) (l i j : ℕ) (b : Best) → (l < labels) × (i < n) × (j < n) → Ranged labels n b → Ranged labels n (choose x y l (i ∷ j ∷ []) b)
  unfolding choose Ranged
  ranged-choose true y l i j b h r = r
  ranged-choose false true l i j b h r = λ i' j' e. let p : i ≡ i' = cc in let q : j ≡ j' = cc in rw (← p, ← q) h
  ranged-choose false false l i j b h r = r

  ranged-second : (l i j : ℕ) (b : Best) → l < labels → i < n → j ≤ n → Ranged labels n b → Ranged labels n (scan_second v l i j b)
  unfolding scan_second loop consider
  ranged-second l i zero b hl hi hj r = r
  ranged-second l i (suc j) b hl hi hj r =
      ranged-choose (v.old (v.step l (λ b. v.state (rank (i ∷ j ∷ []) b)))) (lighter v (i ∷ j ∷ []) (scan_second v l i j b)) l i j (scan_second v l i j b)
      (hl, hi, omega arith) (ranged-second l i j b hl hi (omega arith) r)

  ranged-first : (l i : ℕ) (b : Best) → l < labels → i ≤ n → Ranged labels n b → Ranged labels n (scan_first v n l i b)
  unfolding scan_first loop
  ranged-first l zero b hl hi r = r
  ranged-first l (suc i) b hl hi r = ranged-second l i n (scan_first v n l i b) hl (omega arith) (omega arith) (ranged-first l i b hl (omega arith) r)

  ranged-label : (l : ℕ) (b : Best) → l ≤ labels → Ranged labels n b → Ranged labels n (scan_label v n l b)
  unfolding scan_label loop
  ranged-label zero b hl r = r
  ranged-label (suc l) b hl r = ranged-first l n (scan_label v n l b) (omega arith) (omega arith) (ranged-label l b (omega arith) r)

-- ranks from n on are not read
module _ (nodes nodes' : List Rank) where
  tree_at-same : (s : List (Tree 2)) (i : ℕ) → rank_in nodes i ≡ rank_in nodes' i → tree_at nodes s i ≡ tree_at nodes' s i
  unfolding tree_at
  tree_at-same s zero h = refl
  tree_at-same s (suc i) h = rw h

  decode-same : (n : ℕ) → ((i : ℕ) → i < n → rank_in nodes i ≡ rank_in nodes' i) → decode nodes n ≡ decode nodes' n
  unfolding decode
  decode-same zero h = refl
  decode-same (suc n) h =
      let e : decode nodes n ≡ decode nodes' n = decode-same n (λ i k. h i (omega arith)) in
      ap₂ (λ (s : List (Tree 2)) (t : Tree 2). s ++ (t ∷ [])) e
      (ap (λ (s : List (Tree 2)). tree_at nodes s n) e ∙ tree_at-same (decode nodes' n) n (h n (omega arith)))

-- one tree more
decode-more : (nodes : List Rank) (n : ℕ) (x : Rank) → 0 < n → n < length nodes
    → decode (set nodes n x) (suc n) ≡ decode nodes n ++ (tree_with (decode nodes n) x ∷ [])
unfolding decode tree_at
decode-more nodes zero x h a = absurd (omega arith)
decode-more nodes (suc n) x h a =
    ap₂ (λ (s : List (Tree 2)) (t : Tree 2). s ++ (t ∷ [])) e
    (ap (λ (s : List (Tree 2)). tree_with s (rank_in (set nodes (suc n) x) (suc n))) e
    ∙ ap (tree_with (decode nodes (suc n))) (get_or-set_same nodes (suc n) x no_rank a))
  where
    e : decode (set nodes (suc n) x) (suc n) ≡ decode nodes (suc n)
    e = decode-same (set nodes (suc n) x) nodes (suc n) (λ k q. get_or-set_other nodes (suc n) k x no_rank (λ z. omega arith))

-- what is settled are the states and the positions of the trees s, with zeros past their end
pub record Arrays (M : Machine 2 ℕ) (s : List (Tree 2)) (t : Settled) : Type 0 where
  pub states : (i : ℕ) → get_or t.state i 0 ≡ run M (at s i)
  pub sizes : (i : ℕ) → get_or t.size i 0 ≡ positions (at s i)
  pub marks : (q : ℕ) → get_or t.done q false ≡ settled M s q

arrays-view : (sh : Shape) (looks : ℕ) (table : List ℕ) (accept : ℕ) (s : List (Tree 2)) (t : Settled)
    → Arrays (machine_in sh looks table accept) s t → code_view sh looks table t ≡ view (machine_in sh looks table accept) s
unfolding code_view view
arrays-view sh looks table accept s t h = λ i. record {
  step = (machine_in sh looks table accept).step;
  old = fun_ext h.marks i;
  state = fun_ext h.states i;
  size = fun_ext h.sizes i;
}

-- The scan of the arrays is the round's pick.
scan_pick : (sh : Shape) (looks : ℕ) (table : List ℕ) (accept : ℕ) (s : List (Tree 2)) (t : Settled) (n : ℕ) (r : Option Pick)
    → Arrays (machine_in sh looks table accept) s t → length s ≡ n
    → Held (code_view sh looks table t) (scan_label (code_view sh looks table t) n (labels_in sh) nothing) r
    → Held (view (machine_in sh looks table accept) s) (pick (labels_in sh) (length s) (view (machine_in sh looks table accept) s)) r
scan_pick sh looks table accept s t n r h e k =
    let v : View 2 = view (machine_in sh looks table accept) s in
    subst (λ (m : ℕ). Held v (pick (labels_in sh) m v) r) (sym e) (subst (λ (b : Best). Held v b r) (sym (pick_loops v (labels_in sh) n))
    (subst (λ (w : View 2). Held w (scan_label w n (labels_in sh) nothing) r) (arrays-view sh looks table accept s t h) k))

-- at the start
all_same : {A : Type 0} (x : A) (m i : ℕ) → get_or (replicate m x) i x ≡ x
all_same x zero i = refl
all_same x (suc m) zero = refl
all_same x (suc m) (suc i) = all_same x m i

at_first : (i : ℕ) → at {k = 2} (empty ∷ []) i ≡ empty
at_first zero = refl
at_first (suc i) = refl

arrays-first : (M : Machine 2 ℕ) → M.start ≡ 0 → Arrays M (empty ∷ []) first_settled
unfolding run positions settled
arrays-first M z = record {
  states = λ i. all_same 0 64 i ∙ sym z ∙ ap (run M) (sym (at_first i));
  sizes = λ i. all_same 0 64 i ∙ ap positions (sym (at_first i));
  marks = marked;
}
  where
    marked : (q : ℕ) → get_or (true ∷ replicate 63 false) q false ≡ settled M (empty ∷ []) q
    marked zero = rw (eq-eqb M.start 0 z)
    marked (suc q) = rw (all_same false 63 q, ne_eqb M.start (suc q) (λ e. omega arith))

-- after a round
settled-more : (M : Machine 2 ℕ) (s : List (Tree 2)) (t : Tree 2) (q : ℕ) → settled M (s ++ (t ∷ [])) q ≡ (settled M s q || eqb (run M t) q)
unfolding settled
settled-more M [] t q = or-false (eqb (run M t) q)
settled-more M (x ∷ s) t q = ap (λ (b : Bool). eqb (run M x) q || b) (settled-more M s t q) ∙ sym (or_assoc (eqb (run M x) q) (settled M s q) (eqb (run M t) q))

at_more : (s : List (Tree 2)) (t : Tree 2) (n i : ℕ) → length s ≡ n → (i ≡ n → ⊥) → at (s ++ (t ∷ [])) i ≡ at s i
at_more s t n i e h = elim (ℕ-tri i (length s)) [
  | less p ↦ List·getD-append s (t ∷ []) empty i p
  | same p ↦ absurd (h (p ∙ e))
  | more p ↦ List·getD-eq-default (s ++ (t ∷ [])) empty (omega (arith, length-append s (t ∷ []))) ∙ sym (List·getD-eq-default s empty (omega arith))
]

-- what holds at n and elsewhere, after a store at n
stored : (xs : List ℕ) (n x : ℕ) (f : ℕ → ℕ) → n < length xs → x ≡ f n → ((i : ℕ) → (i ≡ n → ⊥) → get_or xs i 0 ≡ f i) → (i : ℕ) → get_or (set xs n x) i 0 ≡ f i
stored xs n x f h e k i = elim (ℕ_discrete i n) [
  | yes p ↦ rw p (get_or-set_same xs n x 0 h ∙ e)
  | no p ↦ get_or-set_other xs n i x 0 p ∙ k i p
]

arrays-more : (M : Machine 2 ℕ) (s : List (Tree 2)) (t : Tree 2) (st : Settled) (p : Pick) (q : ℕ) → length s ≡ st.ranks.count
    → st.ranks.count < length st.state → st.ranks.count < length st.size → q < length st.done → q ≡ run M t → p.size ≡ positions t
    → Arrays M s st → Arrays M (s ++ (t ∷ [])) (settled_too st p q)
arrays-more M s t st p q e hs hz hd eq ew h = record {
  states = stored st.state st.ranks.count q (λ i. run M (at (s ++ (t ∷ [])) i)) hs (eq ∙ ap (run M) new) (λ i p. h.states i ∙ ap (run M) (sym (at_more s t st.ranks.count i e p)));
  sizes = stored st.size st.ranks.count p.size (λ i. positions (at (s ++ (t ∷ [])) i)) hz (ew ∙ ap positions new)
      (λ i p. h.sizes i ∙ ap positions (sym (at_more s t st.ranks.count i e p)));
  marks = marked;
}
  where
    new : t ≡ at (s ++ (t ∷ [])) st.ranks.count
    new = sym (get_or-append_seam s t [] empty) ∙ ap (at (s ++ (t ∷ []))) e

    marked : (p : ℕ) → get_or (set st.done q true) p false ≡ settled M (s ++ (t ∷ [])) p
    marked p = elim (ℕ_discrete p q) [
      | yes z ↦ rw (z, get_or-set_same st.done q true false hd, settled-more M s t q, eq-eqb (run M t) q (sym eq), or-true (settled M s q))
      | no z ↦ rw (get_or-set_other st.done q p true false z, settled-more M s t p, ne_eqb (run M t) p (λ e. z (sym e ∙ sym eq)), or-false (settled M s p)) (h.marks p)
    ]

-- what holds of all entries, and of the stored one, holds after the store
kept-all : (xs : List ℕ) (n x : ℕ) (Q : ℕ → Type 0) → Q x → ((i : ℕ) → Q (get_or xs i 0)) → (i : ℕ) → Q (get_or (set xs n x) i 0)
kept-all xs n x Q p f i = elim (ℕ-tri n (length xs)) [
  | less k ↦ elim (ℕ_discrete i n) [ yes e ↦ rw (e, get_or-set_same xs n x 0 k) p | no e ↦ rw (get_or-set_other xs n i x 0 e) (f i) ]
  | same k ↦ rw (set_out xs n x (omega arith)) (f i)
  | more k ↦ rw (set_out xs n x (omega arith)) (f i)
]

-- what is picked lies in the range of the scan
pub record InRange (labels n : ℕ) (r : Rank) : Type 0 where
  pub label_in : r.label < labels
  pub first_in : r.first < n
  pub second_in : r.second < n

-- the loop's invariant
pub record Round (sh : Shape) (looks : ℕ) (table : List ℕ) (count accept P : ℕ) (st : Settled) : Type 0 where
  pub low : 0 < st.ranks.count
  pub high : st.ranks.count ≤ count
  pub long-done : length st.done ≡ 64
  pub long-state : length st.state ≡ 64
  pub long-size : length st.size ≡ 64
  pub long-nodes : length st.ranks.nodes ≡ 64
  pub arrays : Arrays (machine_in sh looks table accept) (decode st.ranks.nodes st.ranks.count) st
  pub tame : (i : ℕ) → get_or st.state i 0 < count
  pub light : (i : ℕ) → get_or st.size i 0 ≤ P
  pub back : Backs st.ranks.count st.ranks.nodes
  pub ahead : rounds (labels_in sh) (machine_in sh looks table accept) P (count - st.ranks.count) (decode st.ranks.nodes st.ranks.count)
      ≡ rounds (labels_in sh) (machine_in sh looks table accept) P (count - 1) (empty ∷ [])

-- an end that shows no tree
none_found : {x : Sought 2} → absent ≡ x → Ended x Nowhere
none_found e = record { answer = e; shown = λ t p. absurd cc }

larger_found : {x : Sought 2} → large ≡ x → Ended x Larger
larger_found e = record { answer = e; shown = λ t p. absurd cc }

-- one that does
shown_found : {x : Sought 2} (e : Earliest) → tree (last_tree e.ranks) ≡ x → Showable e → Ended x (Shown e)
shown_found e a w = record { answer = a; shown = λ t p. let q : e ≡ t = cc in subst Showable q w }

module _ {sh : Shape} {looks : ℕ} {table : List ℕ} {count accept P : ℕ} (wh : Whole sh looks table count) where
  pub round_first : Round sh looks table count accept P first_settled
  unfolding decode tree_at
  round_first = record {
    low = omega arith;
    high = wh.some-state;
    long-done = refl;
    long-state = refl;
    long-size = refl;
    long-nodes = refl;
    arrays = arrays-first (machine_in sh looks table accept) refl;
    tame = λ i. rw (all_same {A = ℕ} 0 64 i) (omega (arith, wh.some-state, wh.within));
    light = λ i. rw (all_same {A = ℕ} 0 64 i) (omega arith);
    back = λ i h k. absurd (omega arith);
    ahead = refl;
  }

  module _ {st : Settled} (v : Round sh looks table count accept P st) where
    abbrev n : ℕ
    n = st.ranks.count

    abbrev s : List (Tree 2)
    s = decode st.ranks.nodes n

    abbrev M : Machine 2 ℕ
    M = machine_in sh looks table accept

    abbrev labels : ℕ
    labels = labels_in sh

    abbrev goal : Sought 2
    goal = rounds labels M P (count - 1) (empty ∷ [])

    pub round_ready : P ≤ 255 → ScanReady sh looks table st
    round_ready small = record {
      bound = count;
      table-whole = wh;
      settled-few = omega (arith, v.high, wh.within, wh.inside.shape.ceiling);
      states = λ i h. v.tame i;
      sizes = λ i h. omega (arith, v.light i);
    }

    pub round_end : count ≤ n → Ended goal Nowhere
    unfolding rounds
    round_end h = none_found (let e : count - n ≡ 0 = omega arith in subst (λ (m : ℕ). rounds labels M P m s ≡ goal) e v.ahead)

    go : List (Tree 2) → Sought 2
    go = rounds labels M P (count - (n + 1))

    module _ (h : n < count) {r : Option Pick}
        (k : Held (code_view sh looks table st) (scan_label (code_view sh looks table st) n labels nothing) r) where
      held : Held (view M s) (pick labels (length s) (view M s)) r
      held = scan_pick sh looks table accept s st n r v.arrays (decode-length st.ranks.nodes n) k

      round_next : next go M P s (best_in r) ≡ goal
      unfolding rounds go
      round_next =
          let e : count - n ≡ suc (count - (n + 1)) = omega arith in
          rw held.best (subst (λ (m : ℕ). rounds labels M P m s ≡ goal) e v.ahead)

    pub round_none : n < count → Held (code_view sh looks table st) (scan_label (code_view sh looks table st) n labels nothing) None → Ended goal Nowhere
    unfolding next
    round_none h k = none_found (round_next h k)

    module _ (h : n < count) {r : Pick}
        (k : Held (code_view sh looks table st) (scan_label (code_view sh looks table st) n labels nothing) (Some r)) where
      abbrev t : Tree 2
      t = tree_with s r.rank

      picked_this : pick labels (length s) (view M s) ≡ found r.rank.label (r.rank.first ∷ r.rank.second ∷ [])
      picked_this = sym (held h k).best

      pub round_range : InRange labels n r.rank
      unfolding Ranged
      round_range =
          let e : pick labels n (view M s) ≡ found r.rank.label (r.rank.first ∷ r.rank.second ∷ []) = rw (decode-length st.ranks.nodes n) at picked_this in
          let w : Ranged labels n (found r.rank.label (r.rank.first ∷ r.rank.second ∷ [])) =
          subst (Ranged labels n) (sym (pick_loops (view M s) labels n) ∙ e) (ranged-label (view M s) labels n labels nothing (omega arith) tt) in
          let z = w r.rank.first r.rank.second refl in
          record { label_in = z.0; first_in = z.1; second_in = z.2 }

      size_is : r.size ≡ positions t
      unfolding positions view
      size_is = (held h k).fair

      verdict_is : verdict (ltb P (positions t)) (mem (run M t) accept) t go s ≡ goal
      unfolding next
      verdict_is = round_next h k

      pub round_larger : P < r.size → Ended goal Larger
      unfolding verdict
      round_larger p = larger_found (rw (lt-ltb P (positions t) (rw (← size_is) p)) at verdict_is)

      abbrev q : ℕ
      q = run M t

      round_shown : r.size ≤ P → mem q accept ≡ true → tree t ≡ goal
      unfolding verdict
      round_shown p a = rw (le-ltb P (positions t) (rw (← size_is) p), a) at verdict_is

      round_on : r.size ≤ P → mem q accept ≡ false → go (s ++ (t ∷ [])) ≡ goal
      unfolding verdict
      round_on p a = rw (le-ltb P (positions t) (rw (← size_is) p), a) at verdict_is

      pub round_stepped : Stepped sh table st.state r.rank
      round_stepped =
          let w = round_range in
          record {
            within = wh.inside;
            label = w.label_in;
            first_in = omega (arith, w.first_in, v.high, wh.within, wh.inside.shape.ceiling);
            second_in = omega (arith, w.second_in, v.high, wh.within, wh.inside.shape.ceiling);
            first = omega (arith, v.tame r.rank.first, wh.within);
            second = omega (arith, v.tame r.rank.second, wh.within);
          }

      pub round_target : {q' : ℕ} → q' ≡ step_in sh table 0 looks r.rank.label (get_or st.state r.rank.first 0 ∷ get_or st.state r.rank.second 0 ∷ [])
          → q' ≡ q
      unfolding run
      round_target e = e ∙ rw (v.arrays.states r.rank.first, v.arrays.states r.rank.second)

      round_below : q < count
      unfolding run
      round_below = wh.steps r.rank.label (run M (at s r.rank.first) ∷ run M (at s r.rank.second) ∷ []) round_range.label_in
          (pair_in sh wh.inside.shape (rw v.arrays.states at (v.tame r.rank.first)) (rw v.arrays.states at (v.tame r.rank.second)))

      pub round_small : {q' : ℕ} → q' ≡ q → (n < 64) × (q' < 64)
      round_small e = (omega (arith, wh.within, wh.inside.shape.ceiling), omega (arith, round_below, wh.within, wh.inside.shape.ceiling))

      grown : decode (set st.ranks.nodes n r.rank) (n + 1) ≡ s ++ (t ∷ [])
      grown = rw (add-one n) (decode-more st.ranks.nodes n r.rank v.low (omega (arith, v.long-nodes, wh.within, wh.inside.shape.ceiling)))

      grown-back : Backs (n + 1) (set st.ranks.nodes n r.rank)
      grown-back i p z = elim (ℕ_discrete i n) [
        | yes e ↦ rw (e, get_or-set_same st.ranks.nodes n r.rank no_rank (omega (arith, v.long-nodes, wh.within, wh.inside.shape.ceiling)))
            (round_range.first_in, round_range.second_in)
        | no e ↦ rw (get_or-set_other st.ranks.nodes n i r.rank no_rank e) (v.back i p (omega arith))
      ]

      pub round_shown' : {q' : ℕ} → q' ≡ q → r.size ≤ P → mem q' accept ≡ true
          → Ended goal (Shown (record { positions = r.size; ranks = (settled_too st r q').ranks }))
      round_shown' {q'} e p a =
          let g : n + 1 - 1 ≡ length s = omega (arith, decode-length st.ranks.nodes n) in
          let last : last_tree (settled_too st r q').ranks ≡ t = ap₂ at grown g ∙ get_or-append_seam s t [] empty in
          shown_found (record { positions = r.size; ranks = (settled_too st r q').ranks })
          (ap {B = Sought 2} tree last ∙ round_shown p (rw e at a))
          (record {
            counted = size_is ∙ ap positions (sym last);
            back = grown-back;
            low = omega arith;
            high = omega (arith, wh.within, wh.inside.shape.ceiling);
          })

      pub round_more : {q' : ℕ} → q' ≡ q → r.size ≤ P → mem q' accept ≡ false → Round sh looks table count accept P (settled_too st r q')
      unfolding go run
      round_more {q'} e p a = record {
        low = omega arith;
        high = omega arith;
        long-done = length-set st.done q' true ∙ v.long-done;
        long-state = length-set st.state n q' ∙ v.long-state;
        long-size = length-set st.size n r.size ∙ v.long-size;
        long-nodes = length-set st.ranks.nodes n r.rank ∙ v.long-nodes;
        arrays = subst (λ (z : List (Tree 2)). Arrays M z (settled_too st r q')) (sym grown) (arrays-more M s t st r q' (decode-length st.ranks.nodes n)
            (omega (arith, v.long-state, wh.within, wh.inside.shape.ceiling)) (omega (arith, v.long-size, wh.within, wh.inside.shape.ceiling))
            (omega (arith, v.long-done, below, wh.within, wh.inside.shape.ceiling)) e size_is v.arrays);
        tame = kept-all st.state n q' (λ x. x < count) below v.tame;
        light = kept-all st.size n r.size (λ x. x ≤ P) p v.light;
        back = grown-back;
        ahead = rw grown (round_on p (rw e at a));
      }
        where
          below : q' < count
          below = rw e round_below

-- the search, by whether a state accepts, and whether the first does
module _ (labels : ℕ) (M : Machine 2 ℕ) (count P : ℕ) where
  abbrev sought : Sought 2
  sought = search labels (record { count = count; machine = M }) P

  pub find_more : {f : Found} → true ≡ any_below M.accepting count → false ≡ M.accepting M.start
      → Ended (rounds labels M P (count - 1) (empty ∷ [])) f → Ended sought f
  unfolding search begin
  find_more e a h = rw (← e, ← a) h

  -- with one rank, that of the empty tree
  pub find_empty : true ≡ any_below M.accepting count → true ≡ M.accepting M.start
      → Ended sought (Shown (record { positions = 0; ranks = first_settled.ranks }))
  unfolding search begin decode tree_at positions
  find_empty e a = shown_found (record { positions = 0; ranks = first_settled.ranks }) (rw (← e, ← a) refl) (record {
    counted = refl;
    back = λ i h k. absurd (omega arith);
    low = omega arith;
    high = omega arith;
  })

  pub find_none : false ≡ any_below M.accepting count → Ended sought Nowhere
  unfolding search begin
  find_none e = none_found (rw (← e) refl)
