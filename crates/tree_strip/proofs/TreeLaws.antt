-- Tree strips and trees: an accepted strip holds one trimmed tree, the tree's strip is read back, and no other strip holds it.
-- Assumes nothing.
use Prim.Native.Nat.{ℕ, zero, suc, ◌+◌, ◌*◌, ◌/◌, ◌%◌, ◌≤◌, ◌<◌}
use mathlib.Core.Path.{◌≡◌, refl, sym, ap, ap₂, subst, ◌∙◌}
use mathlib.Core.Bool.{Bool, true, false, not, ◌&&◌, ◌||◌, cond}
use mathlib.Core.List.{List, [], ◌∷◌, ◌++◌, append_assoc}
use native.Mathlib.Nat.{mul-le-mul, zero-add}
use native.Mathlib.Omega.{arith}
use borrow.Author.Tests.{le-leb, lt-leb, eq-eqb, ne_eqb, leb-true, leb-false, eqb-true, eqb-false, not-false}
use lib.Dec.{leb, eqb}
use lib.ListN.{length, get_or, take, drop, replicate, length-append, length-drop, length-replicate, take-append-drop}
use lib.Seq.{drop-drop, take_all, take_at, drop_at}
use Rattle.logic.specs.Tree.{Tree, positions, Proper}
use Rattle.logic.specs.Trim.{Trimmed}
use Rattle.bits.specs.Bits.{digits, bits, number, field, any_set, first_set}
use Rattle.bits.specs.Bits.{between}
use Rattle.std.specs.Prelude.{Result, Ok, Err}
use Rattle.refusals.specs.declared.Fault.{Fault}
use Rattle.refusals.specs.declared.Reason.TheVariants as reason
use Rattle.refusals.specs.Fault.{sound, fault}
use Rattle.tree_strip.specs.TreeStrip.{Parsed, parsed, refused, place_of, parse, padding, end_fault, unless, ended, read_tree, fault_in, tree_fault}
use Rattle.tree_strip.specs.TreeStrip.{tree_bits, strip_of_tree, tree_bytes}
use Rattle.tree_strip.specs.TreeAnswers.{answered, checked_tree}
use Rattle.tree_strip.specs.declared.check.TreeSize.{TreeSize}
use Rattle.bits.proofs.Fields.{length_digits, length-bits}
use Rattle.bits.proofs.Packing.{length_from, number_of, bits-append, bits-drop, bits-bits, digits-bits, Padded, pack-bits, strip_of_bits}
use Rattle.tree_strip.proofs.TreeBits.{tree_bits-length, tree-bits, last-from}
use Rattle.tree_strip.proofs.TreeParse.{label-digits, parse_reading, parse-back}

-- the bits that are written before the padding
abbrev pub strip_bits : ℕ → Tree 2 → List ℕ
strip_bits n t = digits 4 1 ++ (digits 4 n ++ tree_bits n t)

-- what an accepted strip s is: it has n variables and holds the tree t
pub record TreeFacts (s : List ℕ) (n : ℕ) (t : Tree 2) : Type 0 where
  pub some : 1 ≤ n
  pub at_most : n ≤ 8
  pub proper : Proper n t
  pub trimmed : Trimmed t
  pub few : positions t ≤ 255
  pub padded : Padded s (strip_bits n t)

-- ---- the strip's own tests
either : (a b : Bool) → (a || b) ≡ false → (a ≡ false) × (b ≡ false)
either true b e = absurd cc
either false b e = (refl, e)

both : (a b : Bool) → (a && b) ≡ true → (a ≡ true) × (b ≡ true)
both true b e = (refl, e)
both false b e = absurd cc

-- a test that refuses did not
passed : (v : Bool) (f : Fault) (P : Parsed) (t : Tree 2) (m : ℕ) (rest : List ℕ) → cond v (refused f) P ≡ parsed t m rest
    → (v ≡ false) × (P ≡ parsed t m rest)
passed true f P t m rest e = absurd cc
passed false f P t m rest e = (refl, e)

-- nor did a fault
free : (F : Result Unit Fault) (P : Parsed) (t : Tree 2) (m : ℕ) (rest : List ℕ) → unless F P ≡ parsed t m rest → (F ≡ sound) × (P ≡ parsed t m rest)
free (Ok u) P t m rest e = (refl, e)
free (Err f) P t m rest e = absurd cc

no_bit : (l : List ℕ) → any_set l ≡ false → l ≡ replicate (length l) 0
unfolding any_set
no_bit [] e = refl
no_bit (b ∷ l) e =
    let w = either (not (eqb b 0)) (any_set l) e in
    ap₂ (λ (x : ℕ) (r : List ℕ). x ∷ r) (eqb-true b 0 (not-false (eqb b 0) w.0)) (no_bit l w.1)

no_set : (z : ℕ) → any_set (replicate z 0) ≡ false
unfolding any_set
no_set zero = refl
no_set (suc z) = no_set z

-- bits that are left leave nothing to refuse exactly if they are less than a byte of zeros
short-padding : (l : List ℕ) → length l < 8 → padding l ≡ l
short-padding l h = take_all (length l % 8) l (omega arith)

clean : (at : ℕ) (l : List ℕ) → end_fault at l ≡ sound → (length l < 8) × (l ≡ replicate (length l) 0)
unfolding end_fault
clean at l e = go (any_set (padding l)) refl (leb 8 (length l)) refl e
  where
    go : (v : Bool) → any_set (padding l) ≡ v → (w : Bool) → leb 8 (length l) ≡ w
        → cond v (fault reason.TreeLeftOver (at + first_set (padding l))) (cond w (fault reason.TreeLeftOver (at + length (padding l))) sound) ≡ sound
        → (length l < 8) × (l ≡ replicate (length l) 0)
    go true f w g e = absurd cc
    go false f true g e = absurd cc
    go false f false g e = let h = leb-false 8 (length l) g in (h, no_bit l (ap any_set (sym (short-padding l h)) ∙ f))

zeros-clean : (at z : ℕ) → z < 8 → end_fault at (replicate z 0) ≡ sound
unfolding end_fault
zeros-clean at z h =
    let l : length (replicate {A = ℕ} z 0) < 8 = omega (arith, length-replicate {A = ℕ} z 0) in
    rw (short-padding (replicate z 0) l, no_set z, lt-leb 8 (length (replicate {A = ℕ} z 0)) l) refl

ended_is : (s : List ℕ) (P : Parsed) (t : Tree 2) (m : ℕ) (rest : List ℕ) → ended s P ≡ parsed t m rest
    → (P ≡ parsed t m rest) × (length rest < 8) × (rest ≡ replicate (length rest) 0)
unfolding ended
ended_is s (refused f) t m rest e = absurd cc
ended_is s (parsed u k more) t m rest e =
    let w = free (end_fault (place_of s more) more) (parsed u k more) t m rest e in
    let v = clean (place_of s more) more w.0 in
    let q : more ≡ rest = (let a = w.1 in cc) in
    (w.1, subst (λ (l : List ℕ). length l < 8) q v.0, subst (λ (l : List ℕ). l ≡ replicate (length l) 0) q v.1)

-- ---- what is accepted
grouped : (n : ℕ) (t : Tree 2) (z : ℕ) → strip_bits n t ++ replicate z 0 ≡ digits 4 1 ++ (digits 4 n ++ (tree_bits n t ++ replicate z 0))
grouped n t z = simp append_assoc

-- the two fields before the tree
header : (s : List ℕ) (v n : ℕ) → 0 < length s → field s 0 4 ≡ v → field s 4 4 ≡ n → bits s ≡ digits 4 v ++ (digits 4 n ++ drop 8 (bits s))
header s v n h p q =
    let l = length-bits s in
    let k = length-drop 4 (bits s) in
    let a : digits 4 v ≡ take 4 (bits s) = ap (digits 4) (sym p) ∙ label-digits 4 (bits s) (bits-bits s) (omega arith) in
    let b : digits 4 n ≡ take 4 (drop 4 (bits s)) = ap (digits 4) (sym q)
    ∙ label-digits 4 (drop 4 (bits s)) (bits-drop 4 (bits s) (bits-bits s)) (omega arith) in
    rw (a, b, ← (drop-drop 4 4 (bits s))) (sym (ap (λ (x : List ℕ). take 4 (bits s) ++ x) (take-append-drop 4 (drop 4 (bits s))) ∙ take-append-drop 4 (bits s)))

pub tree-accepted : (s : List ℕ) (t : Tree 2) (m : ℕ) (rest : List ℕ) → read_tree s ≡ parsed t m rest → (m ≡ positions t) × TreeFacts s (field s 4 4) t
unfolding read_tree
tree-accepted s t m rest e =
    let n = field s 4 4 in
    let a = passed (eqb (length s) 0) _ _ t m rest e in
    let b = passed (not (eqb (field s 0 4) 1)) _ _ t m rest a.1 in
    let c = passed (not (between 1 8 n)) _ _ t m rest b.1 in
    let i = both (leb 1 n) (leb n 8) (not-false (between 1 8 n) c.0) in
    let d = ended_is s (parse s (suc (8 * length s)) n 0 (drop 8 (bits s))) t m rest c.1 in
    let g = parse_reading s n (suc (8 * length s)) 0 (drop 8 (bits s)) t m rest (omega (arith, length_from s 8)) (omega arith) (last-from s 8) d.0 in
    let h : 0 < length s = (let z = eqb-false (length s) 0 a.0 in omega arith) in
    let v = eqb-true (field s 0 4) 1 (not-false (eqb (field s 0 4) 1) b.0) in (
      omega arith,
      record {
        some = leb-true 1 n i.0;
        at_most = leb-true n 8 i.1;
        proper = g.proper;
        trimmed = g.trimmed;
        few = omega arith;
        padded = (
          length rest,
          d.1,
          header s 1 n h v refl
              ∙ ap (λ (x : List ℕ). digits 4 1 ++ (digits 4 n ++ x)) (g.written ∙ ap (λ (x : List ℕ). tree_bits n t ++ x) d.2)
              ∙ sym (grouped n t (length rest)),
        );
      },
    )

-- ---- how long the strip is
length-strip_bits : (n : ℕ) (t : Tree 2) → length (strip_bits n t) ≡ 8 + positions t * (n + 1) + positions t + 1
length-strip_bits n t =
    let a = length-append (digits 4 1) (digits 4 n ++ tree_bits n t) in
    let b = length-append (digits 4 n) (tree_bits n t) in
    let c = tree_bits-length n t in
    omega (arith, length_digits 4 1, length_digits 4 n)

padded-length : (s bs : List ℕ) → Padded s bs → length s ≡ (length bs + 7) / 8
padded-length s bs p =
    let a = length-bits s in
    let b = ap length p.2 ∙ length-append bs (replicate p.0 0) in
    let c = length-replicate {A = ℕ} p.0 0 in
    let d = p.1 in
    omega arith

strip-padded : (n : ℕ) (t : Tree 2) → Padded (strip_of_tree n t) (strip_bits n t)
unfolding strip_of_tree
strip-padded n t =
    pack-bits (strip_bits n t) (let l = length-strip_bits n t in omega arith)
    (bits-append (digits 4 1) (digits 4 n ++ tree_bits n t) (digits-bits 4 1) (bits-append (digits 4 n) (tree_bits n t) (digits-bits 4 n) (tree-bits n t)))

pub tree_strip-length : (n : ℕ) (t : Tree 2) → length (strip_of_tree n t) ≡ tree_bytes n (positions t)
tree_strip-length n t = padded-length (strip_of_tree n t) (strip_bits n t) (strip-padded n t) ∙ ap (λ (k : ℕ). (k + 7) / 8) (length-strip_bits n t)

-- "so at most 320 bytes"
pub tree_bytes-most : (n N : ℕ) → n ≤ 8 → N ≤ 255 → tree_bytes n N ≤ 320
tree_bytes-most n N h k = let i : n + 1 ≤ 9 = omega arith in let m : N * (n + 1) ≤ 255 * 9 = mul-le-mul k i in omega arith

-- ---- what is written is accepted
module _ (s : List ℕ) (n : ℕ) (t : Tree 2) (f : TreeFacts s n t) where
  pub facts_length : length s ≡ tree_bytes n (positions t)
  facts_length = padded-length s (strip_bits n t) f.padded ∙ ap (λ (k : ℕ). (k + 7) / 8) (length-strip_bits n t)

  abbrev zeros : List ℕ
  zeros = replicate f.padded.0 0

  all-bits : bits s ≡ digits 4 1 ++ (digits 4 n ++ (tree_bits n t ++ zeros))
  all-bits = f.padded.2 ∙ grouped n t f.padded.0

  after-version : drop 4 (bits s) ≡ digits 4 n ++ (tree_bits n t ++ zeros)
  after-version = ap (drop 4) all-bits ∙ drop_at (digits 4 1) (digits 4 n ++ (tree_bits n t ++ zeros)) 4 (length_digits 4 1)

  version : field s 0 4 ≡ 1
  unfolding digits
  version = ap (λ (l : List ℕ). number 0 (take 4 l)) all-bits

  pub facts_variables : field s 4 4 ≡ n
  facts_variables =
      ap (λ (l : List ℕ). number 0 (take 4 l)) after-version ∙ ap (number 0) (take_at (digits 4 n) (tree_bits n t ++ zeros) 4 (length_digits 4 n))
      ∙ number_of 4 n (omega arith)

  -- the tree stands at bit place 8
  pub facts_tree : drop 8 (bits s) ≡ tree_bits n t ++ zeros
  facts_tree = sym (drop-drop 4 4 (bits s)) ∙ ap (drop 4) after-version ∙ drop_at (digits 4 n) (tree_bits n t ++ zeros) 4 (length_digits 4 n)

  pub facts_read : read_tree s ≡ parsed t (positions t) zeros
  unfolding read_tree ended
  facts_read =
      let h : length (tree_bits n t ++ zeros) < suc (8 * length s) = omega (arith, ap length facts_tree, length_from s 8) in
      let p = parse-back s n (suc (8 * length s)) 0 t zeros h (omega arith) f.proper f.trimmed in
      rw (
        facts_variables,
        ne_eqb (length s) 0 (λ e. omega (arith, facts_length)),
        eq-eqb (field s 0 4) 1 version,
        le-leb 1 n f.some,
        le-leb n 8 f.at_most,
        facts_tree,
        p,
        zeros-clean (place_of s zeros) f.padded.0 f.padded.1,
      )
      (ap (λ (m : ℕ). parsed t m zeros) (zero-add (positions t)))

  -- no other bytes hold the tree
  pub facts_only : ((i : ℕ) → get_or s i 0 < 256) → s ≡ strip_of_tree n t
  unfolding strip_of_tree
  facts_only g = strip_of_bits s (strip_bits n t) f.padded.0 g f.padded.2 f.padded.1 (let l = length-strip_bits n t in omega arith)

module _ (n : ℕ) (t : Tree 2) (some : 1 ≤ n) (at_most : n ≤ 8) (proper : Proper n t) (trimmed : Trimmed t) (few : positions t ≤ 255) where
  pub strip_facts : TreeFacts (strip_of_tree n t) n t
  strip_facts = record { some = some; at_most = at_most; proper = proper; trimmed = trimmed; few = few; padded = strip-padded n t }

  -- what is written is read back
  pub tree-read-back : (z : ℕ) × (read_tree (strip_of_tree n t) ≡ parsed t (positions t) (replicate z 0)) × (field (strip_of_tree n t) 4 4 ≡ n)
  tree-read-back = (strip_facts.padded.0, facts_read (strip_of_tree n t) n t strip_facts, facts_variables (strip_of_tree n t) n t strip_facts)

-- an accepted strip is the one that is written for its tree
pub tree-only : (s : List ℕ) (t : Tree 2) (m : ℕ) (rest : List ℕ) → ((i : ℕ) → get_or s i 0 < 256) → read_tree s ≡ parsed t m rest → s ≡ strip_of_tree (field s 4 4) t
tree-only s t m rest g e = facts_only s (field s 4 4) t (tree-accepted s t m rest e).1 g

-- ---- the same of the answer of the check
pub checked-accepted : (s : List ℕ) (r : TreeSize) → checked_tree s ≡ Ok r → (t : Tree 2) × (r.positions ≡ positions t) × TreeFacts s r.variables t
checked-accepted s r e = go (read_tree s) refl e
  where
    go : (P : Parsed) → read_tree s ≡ P → answered s P ≡ Ok r → (t : Tree 2) × (r.positions ≡ positions t) × TreeFacts s r.variables t
    go (refused f) p q = absurd cc
    go (parsed t m rest) p q =
        let w = tree-accepted s t m rest p in
        let i : field s 4 4 ≡ r.variables = cc in
        let j : m ≡ r.positions = cc in
        (t, sym j ∙ w.0, subst (λ (k : ℕ). TreeFacts s k t) i w.1)

-- the check answers with the strip's fault
pub checked_refused : (s : List ℕ) (f : Fault) → checked_tree s ≡ Err f → tree_fault s ≡ Err f
unfolding tree_fault
checked_refused s f e = go (read_tree s) e
  where
    go : (P : Parsed) → answered s P ≡ Err f → fault_in P ≡ Err f
    go (refused g) q = cc
    go (parsed t m rest) q = absurd cc

-- a strip without a fault holds a tree
pub sound-read : (s : List ℕ) → tree_fault s ≡ sound → (t : Tree 2) × (met : ℕ) × (rest : List ℕ) × (read_tree s ≡ parsed t met rest)
unfolding tree_fault
sound-read s e = go (read_tree s) refl e
  where
    go : (P : Parsed) → read_tree s ≡ P → fault_in P ≡ sound → (t : Tree 2) × (met : ℕ) × (rest : List ℕ) × (read_tree s ≡ parsed t met rest)
    go (refused f) p q = absurd cc
    go (parsed t m rest) p q = (t, m, rest, p)
