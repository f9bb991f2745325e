-- What a tree that is read from bits is, where one is refused, and that a written tree is read back. Assumes nothing.
use Prim.Native.Nat.{ℕ, zero, suc, ◌+◌, ◌*◌, ◌^◌, ◌≤◌, ◌<◌}
use mathlib.Core.Path.{◌≡◌, refl, sym, ap, subst, ◌∙◌}
use mathlib.Core.Bool.{Bool, true, false, cond, not, ◌&&◌}
use mathlib.Core.List.{List, [], ◌∷◌, ◌++◌, append_assoc}
use native.Mathlib.Nat.{not-suc-le-zero, add-zero}
use native.Mathlib.Omega.{arith}
use borrow.Author.Tests.{lt-leb, le-ltb, leb-true, leb-false, ltb-true, ltb-false}
use lib.Dec.{T, T_not, eqb, leb, ltb, eqb-suc-zero}
use lib.ListN.{length, get_or, take, drop, length-append, length-drop, take-append-drop}
use lib.Seq.{length-take-le, take_at, drop_at}
use Rattle.logic.specs.Machine.{all_of}
use Rattle.logic.specs.Meaning.{Branch}
use Rattle.logic.specs.Tree.{Tree, empty, node, down_from, positions, Proper}
use Rattle.logic.specs.Trim.{is_empty, bare, Trimmed}
use Rattle.logic.specs.Two.{one, two, pair_of}
use Rattle.logic.proofs.Places.{true→T, not_T}
use Rattle.bits.specs.Bits.{digits, bits, number, bit_length}
use Rattle.refusals.specs.declared.Reason.TheVariants as reason
use Rattle.refusals.specs.Reason.{number_of}
use Rattle.tree_strip.specs.TreeStrip.{Parsed, parsed, refused, refused_at, place_of, join, and_then, parse, tree_bits, Stands}
use Rattle.tree_strip.specs.TreePlaces.{ReadingComes, begin, past_empty, past_label, Offends, early-end, bare-node, node-bit}
use Rattle.bits.proofs.Fields.{length_digits}
use Rattle.logic.proofs.Two.{two-branches}
use Rattle.bits.proofs.Packing as packing
use Rattle.bits.proofs.Packing.{AreBits, bits-take, number_lt, digits_number, length_from, bit_is}
use Rattle.tree_strip.proofs.TreeBits.{positions-pair, positions-node, tree_bits-length}
use Rattle.tree_strip.proofs.TreeBits.{node-from, after-label, Last, last-few, last-bits, last-second, last-drop}

-- t is at the front of bs, and m positions are met after it; reading the strip s goes on from bs to rest
pub record Reading (s : List ℕ) (n met : ℕ) (bs : List ℕ) (t : Tree 2) (m : ℕ) (rest : List ℕ) : Type 0 where
  pub written : bs ≡ tree_bits n t ++ rest
  pub counted : m ≡ met + positions t
  pub few : m ≤ 255
  pub proper : Proper n t
  pub trimmed : Trimmed t
  pub onward : (o : ℕ) → ReadingComes s n met (place_of s bs) (suc o) → ReadingComes s n m (place_of s rest) o

-- of the strip s, whose reading comes to bs: what was read, or why nothing was
abbrev pub Good : List ℕ → ℕ → ℕ → List ℕ → Parsed → Type 0
Good s n met bs (refused f) = (o : ℕ) → ReadingComes s n met (place_of s bs) (suc o) → Offends s n (number_of f.reason) f.place
Good s n met bs (parsed t m rest) = Reading s n met bs t m rest

-- what holds of both trees holds of each branch
each : (P : Tree 2 → Type 0) (t u : Tree 2) → P t → P u → (v : Bool) → P (cond v t u)
each P t u p q true = p
each P t u p q false = q

-- refusal 19 is for label 0 above empty branches
pub bare-pair : (l : ℕ) (t u : Tree 2) → bare l (pair_of t u) ≡ (eqb l 0 && (is_empty t && is_empty u))
unfolding all_of down_from
bare-pair l t u = ap (λ (v : Bool). eqb l 0 && v) (go (is_empty t) (is_empty u))
  where
    go : (v w : Bool) → w && (v && true) ≡ (v && w)
    go true true = refl
    go true false = refl
    go false true = refl
    go false false = refl

bare_is : (l : ℕ) (t u : Tree 2) → (eqb l 0 && (is_empty t && is_empty u)) ≡ true → node l (pair_of t u) ≡ node 0 (pair_of empty empty)
bare_is zero empty empty e = refl
bare_is zero empty (node m g) e = absurd cc
bare_is zero (node m g) u e = absurd cc
bare_is (suc l) t u e = absurd (let f = rw (eqb-suc-zero l) at e in let z : ◌≡◌ {A = ℕ} 0 1 = cc in omega arith)

module _ (n : ℕ) where
  written-node : (l : ℕ) (t u : Tree 2) (bs mid rest : List ℕ) → digits n l ≡ take n bs → drop n bs ≡ tree_bits n t ++ mid → mid ≡ tree_bits n u ++ rest
      → 1 ∷ bs ≡ tree_bits n (node l (pair_of t u)) ++ rest
  unfolding tree_bits
  written-node l t u bs mid rest d p q =
      ap (λ (x : List ℕ). 1 ∷ x)
      (sym (take-append-drop n bs)
      ∙ rw (← d, p, q) (ap (λ (x : List ℕ). digits n l ++ x) (sym (append_assoc (tree_bits n t) (tree_bits n u) rest))
      ∙ sym (append_assoc (digits n l) (tree_bits n t ++ tree_bits n u) rest)))

  pub label-digits : (bs : List ℕ) → AreBits bs → n ≤ length bs → digits n (number 0 (take n bs)) ≡ take n bs
  label-digits bs a h = ap (λ (k : ℕ). digits k (number 0 (take n bs))) (sym (length-take-le n bs h)) ∙ digits_number 0 (take n bs) (bits-take n bs a)

  pub label_lt : (bs : List ℕ) → AreBits bs → n ≤ length bs → number 0 (take n bs) < 2 ^ n
  label_lt bs a h = subst (λ (k : ℕ). number 0 (take n bs) < 2 ^ k) (length-take-le n bs h) (number_lt (take n bs) (bits-take n bs a))

-- so many trees stand one after the other at the front of some bits
abbrev Owed : ℕ → ℕ → List ℕ → Type 0
Owed n zero bs = Unit {0}
Owed n (suc o) bs = (t : Tree 2) × (rest : List ℕ) × (bs ≡ tree_bits n t ++ rest) × Owed n o rest

-- ---- if a tree stands at bit place 8, then wherever its reading comes, the trees that it owes stand
module _ (s : List ℕ) (n : ℕ) where
  owed-empty : (o p : ℕ) (t : Tree 2) (rest : List ℕ) → drop p (bits s) ≡ tree_bits n t ++ rest → Owed n o rest → get_or (bits s) p 0 ≡ 0
      → Owed n o (drop (p + 1) (bits s))
  unfolding tree_bits
  owed-empty o p empty rest e r z = subst (Owed n o) (sym (bit_is s p 0 rest e).2) r
  owed-empty o p (node l f) rest e r z = let b = (node-from s n p l f rest e).1 in absurd (omega arith)

  owed-node : (o p : ℕ) (t : Tree 2) (rest : List ℕ) → drop p (bits s) ≡ tree_bits n t ++ rest → Owed n o rest → get_or (bits s) p 0 ≡ 1
      → Owed n (suc (suc o)) (drop (p + 1 + n) (bits s))
  unfolding tree_bits
  owed-node o p empty rest e r z = let b = (bit_is s p 0 rest e).1 in absurd (omega arith)
  owed-node o p (node l f) rest e r z = (f one, tree_bits n (f two) ++ rest, after-label s n p l f rest e, (f two, rest, refl, r))

  owed : {m p o : ℕ} (t : Tree 2) → Stands s n 8 t → ReadingComes s n m p o → Owed n o (drop p (bits s))
  owed t a begin = (t, a.0, a.1, tt)
  owed t a (past_empty {p = p} {o = o} w e) = let q = owed t a w in owed-empty o p q.0 q.1 q.2 q.3 e
  owed t a (past_label {p = p} {o = o} w e) = let q = owed t a w in owed-node o p q.0 q.1 q.2 q.3 e

  -- so none does if a tree is still owed at the end of the bits
  no_tree : {m p o : ℕ} → ReadingComes s n m p (suc o) → 8 * length s ≤ p → (t : Tree 2) → Stands s n 8 t → ⊥
  no_tree {p = p} w h t a =
      let q = owed t a w in
      let e = ap length q.2 ∙ length-append (tree_bits n q.0) q.1 in
      let l = length_from s p in
      let b = tree_bits-length n q.0 in
      omega arith

-- ---- the bits are the last ones of the strip s
module _ (s : List ℕ) (n : ℕ) where
  -- once a first branch is read, what is left are still its last bits
  after_first : {met m : ℕ} {bs mid : List ℕ} {t : Tree 2} → Reading s n met bs t m mid → Last s bs → Last s mid
  after_first {mid = mid} {t = t} p a = last-second s (tree_bits n t) mid (subst (Last s) p.written a)

  shorter : (met : ℕ) (bs : List ℕ) (t : Tree 2) (m : ℕ) (rest : List ℕ) → Reading s n met bs t m rest → length rest ≤ length bs
  shorter met bs t m rest p = let e = ap length p.written ∙ length-append (tree_bits n t) rest in omega arith

  -- reading goes on past an empty tree's bit, and past a node's label
  past_zero : (met o : ℕ) (bs : List ℕ) → Last s (0 ∷ bs) → ReadingComes s n met (place_of s (0 ∷ bs)) (suc o) → ReadingComes s n met (place_of s bs) o
  past_zero met o bs a w =
      let l = last-few s (0 ∷ bs) a in
      let e : place_of s (0 ∷ bs) + 1 ≡ place_of s bs = omega arith in
      subst (λ (k : ℕ). ReadingComes s n met k o) e (past_empty w (bit_is s (place_of s (0 ∷ bs)) 0 bs a).1)

  past_one : (met o : ℕ) (bs : List ℕ) → n ≤ length bs → Last s (1 ∷ bs) → ReadingComes s n met (place_of s (1 ∷ bs)) (suc o)
      → ReadingComes s n (suc met) (place_of s (drop n bs)) (suc (suc o))
  past_one met o bs h a w =
      let l = last-few s (1 ∷ bs) a in
      let d = length-drop n bs in
      let e : place_of s (1 ∷ bs) + 1 + n ≡ place_of s (drop n bs) = omega arith in
      subst (λ (k : ℕ). ReadingComes s n (suc met) k (suc (suc o))) e (past_label w (bit_is s (place_of s (1 ∷ bs)) 1 bs a).1)

  join-good : (met m : ℕ) (bs mid : List ℕ) (t : Tree 2) (P : Parsed) → n ≤ length bs → Last s (1 ∷ bs)
      → Reading s n (suc met) (drop n bs) t m mid → Good s n m mid P
      → Good s n met (1 ∷ bs) (join (place_of s (1 ∷ bs)) (number 0 (take n bs)) t P)
  unfolding join Proper Trimmed
  join-good met m bs mid t (refused f) h a r q = λ o w. q o (r.onward (suc o) (past_one met o bs h a w))
  join-good met m bs mid t (parsed u m' rest) h a r q = go (eqb l 0 && (is_empty t && is_empty u)) refl
    where
      l : ℕ
      l = number 0 (take n bs)

      label : AreBits bs
      label = last-bits s bs (last-second s (1 ∷ []) bs a)

      whole : 1 ∷ bs ≡ tree_bits n (node l (pair_of t u)) ++ rest
      whole = written-node n l t u bs mid rest (label-digits n bs label h) r.written q.written

      go : (v : Bool) → (eqb l 0 && (is_empty t && is_empty u)) ≡ v
          → Good s n met (1 ∷ bs) (cond v (refused_at reason.TreeBare (place_of s (1 ∷ bs))) (parsed (node l (pair_of t u)) m' rest))
      go true e = λ o w. bare-node (rest, a ∙ whole ∙ ap (λ (v : Tree 2). tree_bits n v ++ rest) (bare_is l t u e))
      go false e = record {
        written = whole;
        counted = let e = r.counted in let f = q.counted in omega (arith, positions-pair l t u);
        few = q.few;
        proper = (label_lt n bs label h, λ b. each (Proper n) t u r.proper q.proper (eqb b.number 0));
        trimmed = (true→T (ap not (bare-pair l t u ∙ e)), λ b. each Trimmed t u r.trimmed q.trimmed (eqb b.number 0));
        onward = λ o w. q.onward o (r.onward (suc o) (past_one met o bs h a w));
      }

  then-good : (met : ℕ) (bs : List ℕ) (P : Parsed) (go : ℕ → List ℕ → Parsed) → n ≤ length bs → Last s (1 ∷ bs)
      → Good s n (suc met) (drop n bs) P → ((m : ℕ) (mid : List ℕ) → length mid ≤ length bs → m ≤ 255 → Last s mid → Good s n m mid (go m mid))
      → Good s n met (1 ∷ bs) (and_then (place_of s (1 ∷ bs)) (number 0 (take n bs)) P go)
  unfolding and_then
  then-good met bs (refused f) go h a r next = λ o w. r (suc o) (past_one met o bs h a w)
  then-good met bs (parsed t m mid) go h a r next =
      let z = shorter (suc met) (drop n bs) t m mid r in
      let d = length-drop n bs in
      join-good met m bs mid t (go m mid) h a r
      (next m mid (omega arith) r.few (after_first r (last-drop s n bs (last-second s (1 ∷ []) bs a))))

  pub parse-good : (d met : ℕ) (bs : List ℕ) → length bs < d → met ≤ 255 → Last s bs → Good s n met bs (parse s d n met bs)
  unfolding parse tree_bits positions Proper Trimmed
  parse-good zero met bs i h a = absurd (not-suc-le-zero i)
  parse-good (suc d) met [] i h a = λ o w. early-end (no_tree s n w (omega arith))
  parse-good (suc d) met (zero ∷ bs) i h a =
      record { written = refl; counted = sym (add-zero met); few = h; proper = tt; trimmed = tt; onward = λ o w. past_zero met o bs a w }
  parse-good (suc d) met (suc (suc b) ∷ bs) i h a = let z = last-bits s (suc (suc b) ∷ bs) a 0 in absurd (omega arith)
  parse-good (suc d) met (suc zero ∷ bs) i h a =
      go (leb 255 met) refl (ltb (length bs) n) refl (λ m mid j g c. parse-good d m mid (omega arith) g c)
    where
      go : (v : Bool) → leb 255 met ≡ v → (w : Bool) → ltb (length bs) n ≡ w
          → ((m : ℕ) (mid : List ℕ) → length mid ≤ length bs → m ≤ 255 → Last s mid → Good s n m mid (parse s d n m mid))
          → Good s n met (1 ∷ bs) (cond v (refused_at reason.TreePositions (place_of s (1 ∷ bs))) (cond w (refused_at reason.TreeCut (bit_length s))
          (and_then (place_of s (1 ∷ bs)) (number 0 (take n bs)) (parse s d n (suc met) (drop n bs)) (parse s d n))))
      go true e w f k =
          let z = bit_is s (place_of s (1 ∷ bs)) 1 bs a in
          let m : met ≡ 255 = (let l = leb-true 255 met e in omega arith) in
          λ o c. node-bit (subst (λ (k : ℕ). ReadingComes s n k (place_of s (1 ∷ bs)) (suc o)) m c) z.0 z.1
      go false e true f k =
          let l = last-few s (1 ∷ bs) a in
          let j = ltb-true (length bs) n f in
          λ o c. early-end (no_tree s n (past_label c (bit_is s (place_of s (1 ∷ bs)) 1 bs a).1) (omega arith))
      go false e false f k =
          let m = leb-false 255 met e in
          let l = length-drop n bs in
          then-good met bs (parse s d n (suc met) (drop n bs)) (parse s d n) (ltb-false (length bs) n f) a
          (k (suc met) (drop n bs) (omega arith) (omega arith) (last-drop s n bs (last-second s (1 ∷ []) bs a))) k

  -- ---- as much as there are bits is enough
  then_same : (at l : ℕ) (P Q : Parsed) (go go' : ℕ → List ℕ → Parsed) → P ≡ Q
      → ((t : Tree 2) (m : ℕ) (mid : List ℕ) → Q ≡ parsed t m mid → go m mid ≡ go' m mid) → and_then at l P go ≡ and_then at l Q go'
  unfolding and_then
  then_same at l P (refused f) go go' e g = rw e refl
  then_same at l P (parsed t m mid) go go' e f = rw e (ap (join at l t) (f t m mid refl))

  pub parse_reading : (d met : ℕ) (bs : List ℕ) (t : Tree 2) (m : ℕ) (rest : List ℕ) → length bs < d → met ≤ 255 → Last s bs
      → parse s d n met bs ≡ parsed t m rest → Reading s n met bs t m rest
  parse_reading d met bs t m rest i h a e = subst (Good s n met bs) e (parse-good d met bs i h a)

  pub parse-enough : (d e met : ℕ) (bs : List ℕ) → length bs < d → length bs < e → met ≤ 255 → Last s bs → parse s d n met bs ≡ parse s e n met bs
  unfolding parse
  parse-enough zero e met bs p q h a = absurd (not-suc-le-zero p)
  parse-enough (suc d) zero met bs p q h a = absurd (not-suc-le-zero q)
  parse-enough (suc d) (suc e) met [] p q h a = refl
  parse-enough (suc d) (suc e) met (zero ∷ bs) p q h a = refl
  parse-enough (suc d) (suc e) met (suc b ∷ bs) p q h a = go (leb 255 met) refl (λ m mid r f c. parse-enough d e m mid (omega arith) (omega arith) f c)
    where
      go : (v : Bool) → leb 255 met ≡ v
          → ((m : ℕ) (mid : List ℕ) → length mid ≤ length bs → m ≤ 255 → Last s mid → parse s d n m mid ≡ parse s e n m mid)
          → cond v (refused_at reason.TreePositions (place_of s (suc b ∷ bs))) (cond (ltb (length bs) n) (refused_at reason.TreeCut (bit_length s))
          (and_then (place_of s (suc b ∷ bs)) (number 0 (take n bs)) (parse s d n (suc met) (drop n bs)) (parse s d n)))
          ≡ cond v (refused_at reason.TreePositions (place_of s (suc b ∷ bs))) (cond (ltb (length bs) n) (refused_at reason.TreeCut (bit_length s))
          (and_then (place_of s (suc b ∷ bs)) (number 0 (take n bs)) (parse s e n (suc met) (drop n bs)) (parse s e n)))
      go true f k = refl
      go false f k =
          let l = leb-false 255 met f in
          let c : Last s (drop n bs) = last-drop s n bs (last-second s (suc b ∷ []) bs a) in
          let r = length-drop n bs in
          ap (cond (ltb (length bs) n) (refused_at reason.TreeCut (bit_length s)))
          (then_same (place_of s (suc b ∷ bs)) (number 0 (take n bs)) (parse s d n (suc met) (drop n bs)) (parse s e n (suc met) (drop n bs))
          (parse s d n) (parse s e n)
          (k (suc met) (drop n bs) (omega arith) (omega arith) c)
          (λ t m mid w. let g = parse_reading e (suc met) (drop n bs) t m mid (omega arith) (omega arith) c w in
          let z = shorter (suc met) (drop n bs) t m mid g in
          k m mid (omega arith) g.few (after_first g c)))

  -- ---- a written tree is read back
  parse-one : (d met l : ℕ) (bs : List ℕ) → met < 255 → l < 2 ^ n
      → parse s (suc d) n met (1 ∷ (digits n l ++ bs)) ≡ and_then (place_of s (1 ∷ (digits n l ++ bs))) l (parse s d n (suc met) bs) (parse s d n)
  unfolding parse
  parse-one d met l bs h k =
      let a = length-append (digits n l) bs in
      let b = length_digits n l in
      rw (lt-leb 255 met h, le-ltb (length (digits n l ++ bs)) n (omega arith), take_at (digits n l) bs n b, drop_at (digits n l) bs n b, packing.number_of n l k) refl

  join-back : (at l m : ℕ) (f : Branch 2 → Tree 2) (rest : List ℕ) → T (not (bare l f))
      → join at l (f one) (parsed (f two) m rest) ≡ parsed (node l f) m rest
  unfolding join
  join-back at l m f rest r =
      let e = sym (bare-pair l (f one) (f two)) ∙ ap (bare l) (two-branches f) ∙ not_T (bare l f) (T_not (bare l f) r) in
      rw e (ap (λ (g : Branch 2 → Tree 2). parsed (node l g) m rest) (two-branches f))

  pub parse-back : (d met : ℕ) (t : Tree 2) (rest : List ℕ) → length (tree_bits n t ++ rest) < d → met + positions t ≤ 255 → Proper n t → Trimmed t
      → parse s d n met (tree_bits n t ++ rest) ≡ parsed t (met + positions t) rest
  unfolding parse and_then tree_bits positions Proper Trimmed
  parse-back zero met t rest h k o r = absurd (not-suc-le-zero h)
  parse-back (suc d) met empty rest h k o r = rw (add-zero met) refl
  parse-back (suc d) met (node l f) rest h k o r =
      let p = positions-node l f in
      let w = tree_bits n (f one) ++ (tree_bits n (f two) ++ rest) in
      let e : (digits n l ++ (tree_bits n (f one) ++ tree_bits n (f two))) ++ rest ≡ digits n l ++ w = simp append_assoc in
      let a = ap length e ∙ length-append (digits n l) w in
      let b = length-append (tree_bits n (f one)) (tree_bits n (f two) ++ rest) in
      let i = parse-back d (suc met) (f one) (tree_bits n (f two) ++ rest) (omega arith) (omega arith) (o.1 one) (r.1 one) in
      let j = parse-back d (suc met + positions (f one)) (f two) rest (omega arith) (omega arith) (o.1 two) (r.1 two) in
      let c : suc met + positions (f one) + positions (f two) ≡ met + positions (node l f) = omega arith in
      let at = place_of s (1 ∷ (digits n l ++ w)) in
      ap (λ (v : List ℕ). parse s (suc d) n met (1 ∷ v)) e ∙ parse-one d met l w (omega arith) o.0
      ∙ ap (λ (P : Parsed). and_then at l P (parse s d n)) i ∙ ap (join at l (f one)) j
      ∙ join-back at l (suc met + positions (f one) + positions (f two)) f rest r.0 ∙ ap (λ (m : ℕ). parsed (node l f) m rest) c
