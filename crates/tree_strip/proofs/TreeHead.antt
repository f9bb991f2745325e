-- The tree at a bit place of a strip, by what stands there: each step of the reader. Assumes nothing.
use Prim.Native.Nat.{ℕ, zero, suc, ◌+◌, ◌*◌, ◌≤◌, ◌<◌}
use mathlib.Core.Path.{◌≡◌, refl, sym, ap, subst, ◌∙◌}
use mathlib.Core.Bool.{Bool, true, false, ◌&&◌, cond}
use mathlib.Core.List.{List, ◌∷◌}
use native.Mathlib.Nat.{mul-le-mul_left}
use native.Mathlib.Numerals.{add-one}
use native.Mathlib.Omega.{arith}
use borrow.Author.Tests.{lt-ltb, le-ltb, leb-true, leb-false, ltb-true, ltb-false, eqb-true, eqb-false, eq-eqb, ne_eqb}
use lib.Dec.{eqb, leb, ltb, eqb-suc-zero}
use lib.ListN.{length, get_or, drop, length-append, drop_of_length-le}
use lib.Seq.{drop-cons, drop-drop, drop-append_seam}
use Rattle.logic.specs.Tree.{Tree, empty, node, branches, sum_of, positions}
use Rattle.logic.specs.Trim.{is_empty}
use Rattle.logic.specs.Two.{pair_of}
use Rattle.bits.specs.Bits.{bits, field, bit_length}
use Rattle.std.specs.Prelude.{Result, Ok, Err}
use Rattle.refusals.specs.declared.Fault.{Fault}
use Rattle.refusals.specs.declared.Reason.TheVariants as reason
use Rattle.tree_strip.specs.TreeStrip.{Parsed, parsed, refused, refused_at, place_of, join, and_then, parse, tree_bits}
use Rattle.tree_strip.specs.TreeAnswers.{amiss, head_at, tree_read, closed, told}
use Rattle.tree_strip.specs.declared.check.Head.{Head}
use Rattle.tree_strip.specs.declared.check.Head.TheVariants as head
use Rattle.tree_strip.specs.declared.check.TreeRead.{TreeRead}
use Rattle.bits.proofs.Fields.{length-bits}
use Rattle.bits.proofs.Packing.{length_from}
use Rattle.tree_strip.proofs.TreeBits.{tree_bits-length, last-from}
use Rattle.tree_strip.proofs.TreeParse.{Reading, Good, parse-good, parse_reading, parse-enough}

module _ (s : List ℕ) (n : ℕ) where
  -- the tree that begins with a head at a place
  abbrev pub follow : ℕ → ℕ → ℕ → Result Head Fault → Parsed
  follow d met at (Err f) = refused f
  follow d met at (Ok (head.Empty next)) = parsed empty met (drop next (bits s))
  follow d met at (Ok (head.Node l next)) = and_then at l (parse s d n (suc met) (drop next (bits s))) (parse s d n)

  -- a node bit's head
  abbrev node_head : ℕ → ℕ → Result Head Fault
  node_head met at =
      cond (leb 255 met) (amiss reason.TreePositions at)
      (cond (ltb (8 * length s) (at + 1 + n)) (amiss reason.TreeCut (bit_length s)) (Ok (head.Node (field s (at + 1) n) (at + 1 + n))))

  cut : (at : ℕ) → at < 8 * length s → ltb (length (drop (suc at) (bits s))) n ≡ ltb (8 * length s) (at + 1 + n)
  cut at h = go (ltb (8 * length s) (at + 1 + n)) refl
    where
      go : (v : Bool) → ltb (8 * length s) (at + 1 + n) ≡ v → ltb (length (drop (suc at) (bits s))) n ≡ v
      go true e = let k = ltb-true (8 * length s) (at + 1 + n) e in let l = length_from s (suc at) in lt-ltb (length (drop (suc at) (bits s))) n (omega arith)
      go false e = let k = ltb-false (8 * length s) (at + 1 + n) e in let l = length_from s (suc at) in le-ltb (length (drop (suc at) (bits s))) n (omega arith)

  parse-node : (d met at b : ℕ) → at < 8 * length s → parse s (suc d) n met (suc b ∷ drop (suc at) (bits s)) ≡ follow d met at (node_head met at)
  unfolding parse
  parse-node d met at b h =
      let f : suc at + n ≡ at + 1 + n = omega arith in
      let e : drop n (drop (suc at) (bits s)) ≡ drop (at + 1 + n) (bits s) = drop-drop n (suc at) (bits s) ∙ ap (λ (k : ℕ). drop k (bits s)) f in
      let p : place_of s (suc b ∷ drop (suc at) (bits s)) ≡ at = (let l = length_from s (suc at) in omega arith) in
      rw (p, cut at h, e) (rw (← (add-one at)) (go (leb 255 met) (ltb (8 * length s) (at + 1 + n))))
    where
      go : (v w : Bool)
          → cond v (refused_at reason.TreePositions at)
          (cond w (refused_at reason.TreeCut (bit_length s)) (and_then at (field s (at + 1) n) (parse s d n (suc met) (drop (at + 1 + n) (bits s))) (parse s d n)))
          ≡ follow d met at (cond v (amiss reason.TreePositions at) (cond w (amiss reason.TreeCut (bit_length s)) (Ok (head.Node (field s (at + 1) n) (at + 1 + n)))))
      go true w = refl
      go false true = refl
      go false false = refl

  pub parse_head : (d met at : ℕ) → parse s (suc d) n met (drop at (bits s)) ≡ follow d met at (head_at s n met at)
  unfolding head_at parse
  parse_head d met at = ends (leb (8 * length s) at) refl
    where
      first_bit : at < 8 * length s → (b : ℕ) → parse s (suc d) n met (b ∷ drop (suc at) (bits s))
          ≡ follow d met at (cond (eqb b 0) (Ok (head.Empty (at + 1))) (node_head met at))
      first_bit h zero = rw (add-one at) refl
      first_bit h (suc b) = rw (eqb-suc-zero b) (parse-node d met at b h)

      ends : (v : Bool) → leb (8 * length s) at ≡ v
          → parse s (suc d) n met (drop at (bits s)) ≡ follow d met at
          (cond v (amiss reason.TreeCut (bit_length s)) (cond (eqb (get_or (bits s) at 0) 0) (Ok (head.Empty (at + 1))) (node_head met at)))
      ends true e =
          let h : length (bits s) ≤ at = (let k = leb-true (8 * length s) at e in let l = length-bits s in omega arith) in
          rw (drop_of_length-le (bits s) h) refl
      ends false e =
          let k = leb-false (8 * length s) at e in
          rw (drop-cons (bits s) at 0 (let l = length-bits s in omega arith)) (first_bit k (get_or (bits s) at 0))

  -- ---- where a head's tree goes on
  abbrev Within : ℕ → ℕ → Result Head Fault → Type 0
  Within met at (Err f) = Unit {0}
  Within met at (Ok (head.Empty next)) = (next ≡ at + 1) × (next ≤ 8 * length s)
  Within met at (Ok (head.Node l next)) = (next ≡ at + 1 + n) × (next ≤ 8 * length s) × (met < 255) × (l ≡ field s (at + 1) n)

  head_within : (met at : ℕ) → Within met at (head_at s n met at)
  unfolding head_at
  head_within met at = go (leb (8 * length s) at) refl (eqb (get_or (bits s) at 0) 0) (leb 255 met) refl (ltb (8 * length s) (at + 1 + n)) refl
    where
      go : (v : Bool) → leb (8 * length s) at ≡ v → (w : Bool) → (x : Bool) → leb 255 met ≡ x → (y : Bool) → ltb (8 * length s) (at + 1 + n) ≡ y
          → Within met at (cond v (amiss reason.TreeCut (bit_length s)) (cond w (Ok (head.Empty (at + 1))) (cond x (amiss reason.TreePositions at)
          (cond y (amiss reason.TreeCut (bit_length s)) (Ok (head.Node (field s (at + 1) n) (at + 1 + n)))))))
      go true e w x f y g = tt
      go false e true x f y g = let h = leb-false (8 * length s) at e in (refl, omega arith)
      go false e false true f y g = tt
      go false e false false f true g = tt
      go false e false false f false g = (refl, ltb-false (8 * length s) (at + 1 + n) g, leb-false 255 met f, refl)

  empty-within : (met at next : ℕ) → Ok (head.Empty next) ≡ head_at s n met at → (next ≡ at + 1) × (next ≤ 8 * length s)
  empty-within met at next e = subst (Within met at) (sym e) (head_within met at)

  node-within : (met at l next : ℕ) → Ok (head.Node l next) ≡ head_at s n met at
      → (next ≡ at + 1 + n) × (next ≤ 8 * length s) × (met < 255) × (l ≡ field s (at + 1) n)
  node-within met at l next e = subst (Within met at) (sym e) (head_within met at)

  -- ---- the reader's answers, with enough for every bit of the strip
  abbrev pub tree_at : ℕ → ℕ → Parsed
  tree_at met at = parse s (suc (8 * length s)) n met (drop at (bits s))

  pub place : (at : ℕ) → at ≤ 8 * length s → place_of s (drop at (bits s)) ≡ at
  place at h = let l = length_from s at in omega arith

  pub told-refused : (met at : ℕ) {f : Fault} → Err f ≡ head_at s n met at → Err f ≡ told s (tree_at met at)
  told-refused met at {f} e = sym (ap (told s) (parse_head (8 * length s) met at ∙ ap (follow (8 * length s) met at) (sym e)))

  pub told-empty : (met at : ℕ) {h : Head} → Ok h ≡ head_at s n met at → {next : ℕ} → h ≡ head.Empty next → Ok (tree_read met next) ≡ told s (tree_at met at)
  told-empty met at {h} is_head {next} is_empty =
      let e : Ok (head.Empty next) ≡ head_at s n met at = ap (λ (x : Head). Ok x) (sym is_empty) ∙ is_head in
      sym (ap (told s) (parse_head (8 * length s) met at ∙ ap (follow (8 * length s) met at) (sym e))
      ∙ ap (λ (k : ℕ). Ok (tree_read met k)) (place next (empty-within met at next e).1))

  -- the first branch's answer is that of the definition with one less to spare
  one_less : (met at : ℕ) → met ≤ 255 → 0 < at → at ≤ 8 * length s → parse s (8 * length s) n met (drop at (bits s)) ≡ tree_at met at
  one_less met at h z k =
      let l = length_from s at in
      parse-enough s n (8 * length s) (suc (8 * length s)) met (drop at (bits s)) (omega arith) (omega arith) h (last-from s at)

  node_at : (met at l next : ℕ) → Ok (head.Node l next) ≡ head_at s n met at
      → tree_at met at ≡ and_then at l (tree_at (suc met) next) (parse s (8 * length s) n)
  node_at met at l next e =
      let w = node-within met at l next e in
      parse_head (8 * length s) met at ∙ ap (follow (8 * length s) met at) (sym e)
      ∙ ap (λ (P : Parsed). and_then at l P (parse s (8 * length s) n)) (one_less (suc met) next (omega arith) (omega arith) w.1)

  pub told-tree : (P : Parsed) (r : TreeRead) → Ok r ≡ told s P → (t : Tree 2) × (rest : List ℕ) × (P ≡ parsed t r.met rest) × (r.next ≡ place_of s rest)
  told-tree (refused f) r e = absurd cc
  told-tree (parsed t m rest) r e = let q : m ≡ r.met = cc in (t, rest, ap (λ (k : ℕ). parsed t k rest) q, cc)

  -- what was read from a place ends at another
  pub ending : (met next m mid : ℕ) (t : Tree 2) (rest : List ℕ) → next ≤ 8 * length s → Reading s n met (drop next (bits s)) t m rest
      → mid ≡ place_of s rest
      → (drop mid (bits s) ≡ rest) × (mid ≡ next + length (tree_bits n t)) × (mid ≤ 8 * length s)
  ending met next m mid t rest h g e =
      let a = ap length g.written ∙ length-append (tree_bits n t) rest in
      let b = length_from s next in
      let f : mid ≡ next + length (tree_bits n t) = omega arith in (
        ap (λ (k : ℕ). drop k (bits s)) f
            ∙ sym (drop-drop (length (tree_bits n t)) next (bits s)) ∙ ap (drop (length (tree_bits n t))) g.written ∙ drop-append_seam (tree_bits n t) rest,
        f,
        omega arith,
      )

  pub reading_at : (met at m : ℕ) (t : Tree 2) (rest : List ℕ) → met ≤ 255 → tree_at met at ≡ parsed t m rest → Reading s n met (drop at (bits s)) t m rest
  reading_at met at m t rest h e = parse_reading s n (suc (8 * length s)) met (drop at (bits s)) t m rest (omega (arith, length_from s at)) h (last-from s at) e

  pub room : (N : ℕ) → n ≤ 8 → N * (n + 1) ≤ N * 9
  room N h = mul-le-mul_left N (omega arith)

  empty-none : (t : Tree 2) → is_empty t ≡ eqb (positions t) 0
  unfolding positions
  empty-none empty = refl
  empty-none (node l f) = sym (eqb-suc-zero (sum_of (λ b. positions (f b)) (branches 2)))

  -- no position is met in two empty branches, and some in any others
  none-met : (met m m' : ℕ) (t u : Tree 2) → m ≡ suc met + positions t → m' ≡ m + positions u → (is_empty t && is_empty u) ≡ eqb m' (met + 1)
  none-met met m m' t u p q = rw (empty-none t, empty-none u) (go (eqb (positions t) 0) refl (eqb (positions u) 0) refl)
    where
      go : (v : Bool) → eqb (positions t) 0 ≡ v → (w : Bool) → eqb (positions u) 0 ≡ w → (v && w) ≡ eqb m' (met + 1)
      go true e true f = let a = eqb-true (positions t) 0 e in let b = eqb-true (positions u) 0 f in sym (eq-eqb m' (met + 1) (omega arith))
      go true e false f = let b = eqb-false (positions u) 0 f in sym (ne_eqb m' (met + 1) (λ z. b (omega arith)))
      go false e w f = let a = eqb-false (positions t) 0 e in sym (ne_eqb m' (met + 1) (λ z. a (omega arith)))

  -- the answer for a node, by that of its second branch
  abbrev closing : ℕ → ℕ → ℕ → Result TreeRead Fault → Result TreeRead Fault
  closing at l met (Err f) = Err f
  closing at l met (Ok r) = closed at l met r

  join-closed : (at l met m : ℕ) (t : Tree 2) (rest : List ℕ) (Q : Parsed) → m ≡ suc met + positions t → Good s n m rest Q
      → closing at l (met + 1) (told s Q) ≡ told s (join at l t Q)
  unfolding join
  join-closed at l met m t rest (refused f) e g = refl
  join-closed at l met m t rest (parsed u m' rest') e g = rw (none-met met m m' t u e g.counted) (go (eqb l 0 && eqb m' (met + 1)))
    where
      go : (v : Bool) → cond v (amiss reason.TreeBare at) (told s (parsed (node l (pair_of t u)) m' rest'))
          ≡ told s (cond v (refused_at reason.TreeBare at) (parsed (node l (pair_of t u)) m' rest'))
      go true = refl
      go false = refl

  -- ---- a node
  module _ (met at : ℕ) {h : Head} (is_head : Ok h ≡ head_at s n met at) {l next : ℕ} (is_node : h ≡ head.Node l next) where
    node_there : Ok (head.Node l next) ≡ head_at s n met at
    node_there = ap (λ (x : Head). Ok x) (sym is_node) ∙ is_head

    pub first-room : n ≤ 8 → met ≤ 255 → at ≤ 8 + 10 * met → (met + 1 ≤ 255) × (next ≤ 8 + 10 * (met + 1))
    first-room i j k = let w = node-within met at l next node_there in (omega arith, omega arith)

    pub first-refused : {f : Fault} → Err f ≡ told s (tree_at (met + 1) next) → Err f ≡ told s (tree_at met at)
    unfolding and_then
    first-refused {f} e = go (tree_at (suc met) next) (rw (add-one met) at e) ∙ sym (ap (told s) (node_at met at l next node_there))
      where
        go : (P : Parsed) → Err f ≡ told s P → Err f ≡ told s (and_then at l P (parse s (8 * length s) n))
        go (refused g) e = e
        go (parsed t m rest) e = absurd cc

    module _ {r : TreeRead} (is_first : Ok r ≡ told s (tree_at (met + 1) next)) where
      pub second-room : n ≤ 8 → met ≤ 255 → at ≤ 8 + 10 * met → (met < r.met) × (r.met ≤ 255) × (r.next ≤ 8 + 10 * r.met)
      second-room i j k =
          let w = node-within met at l next node_there in
          let q = told-tree (tree_at (met + 1) next) r is_first in
          let g = reading_at (met + 1) next r.met q.0 q.1 (omega arith) q.2 in
          let e = ending (met + 1) next r.met r.next q.0 q.1 w.1 g q.3 in
          let b = tree_bits-length n q.0 in
          let c = room (positions q.0) i in
          (omega arith, g.few, omega arith)

      told-closing : met ≤ 255 → closing at l (met + 1) (told s (tree_at r.met r.next)) ≡ told s (tree_at met at)
      unfolding and_then
      told-closing i =
          let w = node-within met at l next node_there in
          let m = r.met in
          let mid = r.next in
          let q = told-tree (tree_at (suc met) next) r (rw (add-one met) at is_first) in
          let g = reading_at (suc met) next m q.0 q.1 (omega arith) q.2 in
          let f = ending (suc met) next m mid q.0 q.1 w.1 g q.3 in
          let c : tree_at met at ≡ join at l q.0 (parse s (8 * length s) n m q.1) =
          node_at met at l next node_there ∙ ap (λ (P : Parsed). and_then at l P (parse s (8 * length s) n)) q.2 in
          let d : parse s (8 * length s) n m q.1 ≡ tree_at m mid = ap (parse s (8 * length s) n m) (sym f.0)
          ∙ one_less m mid g.few (omega arith) f.2 in
          join-closed at l met m q.0 (drop mid (bits s)) (tree_at m mid) g.counted
          (parse-good s n (suc (8 * length s)) m (drop mid (bits s)) (omega (arith, length_from s mid)) g.few (last-from s mid))
          ∙ sym (ap (told s) (c ∙ ap (join at l q.0) d))

      pub second-refused : met ≤ 255 → {f : Fault} → Err f ≡ told s (tree_at r.met r.next) → Err f ≡ told s (tree_at met at)
      second-refused i {f} e = ap (closing at l (met + 1)) e ∙ told-closing i

      pub told-node : met ≤ 255 → {r' : TreeRead} → Ok r' ≡ told s (tree_at r.met r.next) → closed at l (met + 1) r' ≡ told s (tree_at met at)
      told-node i {r'} e = ap (closing at l (met + 1)) e ∙ told-closing i
