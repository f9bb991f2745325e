-- Each formula's machine decides it, whatever is kept of the machines of its parts, if that decides them.
-- Assumes nothing.
use Prim.Native.Nat.{ℕ, ◌*◌, ◌/◌, ◌%◌, ◌^◌, ◌<◌}
use mathlib.Core.Path.{◌≡◌, refl, ap, ◌∙◌, fun_ext}
use mathlib.Core.List.{List}
use mathlib.Core.Bool.{Bool, true, false, cond, not, ◌&&◌, ◌||◌}
use native.Mathlib.Omega.{arith}
use native.Mathlib.Nat.{div-lt_iff_lt-mul, mod-lt}
use lib.Arith.{digits_lt, digits_div, digits_mod}
use borrow.Author.Tests.{eq-eqb}
use Rattle.logic.specs.Meaning.{Branch, Formula, subset, singleton, successor, root, negation, disjunction, conjunction, exists, Valid}
use Rattle.logic.specs.Tree.{branches, bit}
use Rattle.logic.specs.Machine.{Machine, Decides, complement, product, Simulates, bit_of, any_of, Bounded}
use Rattle.logic.specs.Atom.{subset_machine, singleton_machine, successor_machine, root_machine, successor_step, idle, alone}
use Rattle.logic.specs.Reach.{projection, below, Reached, started, stepped, position, numbered}
use Rattle.logic.specs.Table.{Table, coded_product, build, product_table, projection_table, complement_table, table_by}
use Rattle.logic.proofs.Bits.{bit_of-small}
use Rattle.logic.proofs.Connectives.{decides-negation, decides-disjunction, decides-conjunction, decides_simulated}
use Rattle.logic.proofs.Atoms.{decides-subset, decides-singleton, decides-successor, decides-root}
use Rattle.logic.proofs.Exists.{decides-exists}
use Rattle.logic.proofs.Rounds.{reach-front}
use Rattle.logic.proofs.Numbered.{build-bounded, build-decides}
use Rattle.logic.proofs.Counts.{build-states}
use Rattle.logic.proofs.Projection.{In, projection-bounded, projection-projects}

cond_lt : (v : Bool) (a b c : ℕ) → a < c → b < c → cond v a b < c
cond_lt true a b c h k = h
cond_lt false a b c h k = k

module _ {k : ℕ} (n : ℕ) where
  pub subset-bounded : (x y : ℕ) → Bounded {k = k} n 2 (subset_machine n x y)
  subset-bounded x y = (omega arith, λ l h s u. cond_lt (idle s && (not (bit n l x) || bit n l y)) 0 1 2 (omega arith) (omega arith))

  pub singleton-bounded : (x : ℕ) → Bounded {k = k} n 3 (singleton_machine n x)
  singleton-bounded x = (omega arith, λ l h s u. omega arith)

  pub root-bounded : (x : ℕ) → Bounded {k = k} n 3 (root_machine n x)
  root-bounded x = (omega arith, λ l h s u. cond_lt (idle s) (bit_of (bit n l x)) 2 3 (let b = bit_of-small (bit n l x) in omega arith) (omega arith))

  child_lt : (i : Branch k) (v w : Bool) (s : Branch k → ℕ) → successor_step i v w s < 4
  child_lt i true true s = omega arith
  child_lt i true false s = cond_lt (idle s) 1 3 4 (omega arith) (omega arith)
  child_lt i false true s = cond_lt (alone 1 s i) 2 3 4 (omega arith) (omega arith)
  child_lt i false false s = cond_lt (idle s) 0 (cond (any_of (alone 2 s) (branches k)) 2 3) 4 (omega arith)
      (cond_lt (any_of (alone 2 s) (branches k)) 2 3 4 (omega arith) (omega arith))

  pub successor-bounded : (i : Branch k) (x y : ℕ) → Bounded {k = k} n 4 (successor_machine n i x y)
  successor-bounded i x y = (omega arith, λ l h s u. child_lt i (bit n l x) (bit n l y) s)

  module _ (op : Bool → Bool → Bool) (c d : ℕ) (M N : Machine k ℕ) (BM : Bounded n c M) (BN : Bounded n d N) where
    pos : 0 < d
    pos = let h = BN.0 in omega arith

    pub product-bounded : Bounded n (c * d) (coded_product op d M N)
    unfolding coded_product
    product-bounded = (
      digits_lt BM.0 BN.0,
      λ l h s u. digits_lt (BM.1 l h (λ b. s b / d) (λ b. (div-lt_iff_lt-mul pos).1 (u b))) (BN.1 l h (λ b. s b % d) (λ b. mod-lt (s b) pos)),
    )

    -- q is the number of a pair of states
    abbrev pub Codes : ℕ → ℕ × ℕ → Type 0
    Codes q a = (q / d ≡ a.0) × (q % d ≡ a.1) × (a.0 < c) × (a.1 < d)

    pub product_simulates : Simulates n (coded_product op d M N) (product op M N) Codes
    unfolding coded_product
    product_simulates = record {
      at_start = (digits_div M.start BN.0, digits_mod M.start BN.0, BM.0, BN.0);
      at_step = λ l h s r u.
          let e : M.step l (λ b. s b / d) ≡ M.step l (λ b. (r b).0) = ap (M.step l) (fun_ext (λ b. (u b).0)) in
          let f : N.step l (λ b. s b % d) ≡ N.step l (λ b. (r b).1) = ap (N.step l) (fun_ext (λ b. (u b).1)) in
          let hm = BM.1 l h (λ b. (r b).0) (λ b. (u b).2) in
          let hn = BN.1 l h (λ b. (r b).1) (λ b. (u b).3) in
          (rw (e, f) (digits_div (M.step l (λ b. (r b).0)) hn), rw (e, f) (digits_mod (M.step l (λ b. (r b).0)) hn), hm, hn);
      at-end = λ q a u. rw (u.0, u.1) refl;
    }

  -- the states below the count are those that are reached
  abbrev pub Right : Formula k → Table k → Type 0
  Right f a = Bounded n a.count a.machine × Decides n a.machine f × ((q : ℕ) → q < a.count → Reached a.machine (below (2 ^ n)) q)

  pub build-right : (f : Formula k) (d : ℕ) (M : Machine k ℕ) → Bounded n d M → Decides n M f → Right f (build n d M)
  build-right f d M B D = (build-bounded n d M B, build-decides n d M B f D, λ q. (build-states n d M B q).0)

  pub pair-right : (op : Bool → Bool → Bool) (f : Formula k) (a b : Table k) → Bounded n a.count a.machine → Bounded n b.count b.machine
      → Decides n (product op a.machine b.machine) f → Right f (product_table n op a b)
  unfolding product_table
  pair-right op f a b A B D =
      build-right f (a.count * b.count) (coded_product op b.count a.machine b.machine)
      (product-bounded op a.count b.count a.machine b.machine A B)
      (decides_simulated n (coded_product op b.count a.machine b.machine) (product op a.machine b.machine)
      (Codes op a.count b.count a.machine b.machine A B)
      (product_simulates op a.count b.count a.machine b.machine A B) f D)

  flip-reached : (M : Machine k ℕ) (ls : List ℕ) (q : ℕ) → Reached M ls q → Reached (complement M) ls q
  flip-reached M ls q started = started
  flip-reached M ls q (stepped l t s h) = stepped l t s (λ b. flip-reached M ls (s b) (h b))

  pub flip-right : (f : Formula k) (a : Table k) → Right f a → Right (negation f) (complement_table a)
  unfolding complement_table
  flip-right f a r = (r.0, decides-negation n a.machine f r.1, λ q h. flip-reached a.machine (below (2 ^ n)) q (r.2 q h))

  pub projection-right : (x : ℕ) (f : Formula k) (a : Table k) → x < n → Right f a → Right (exists x f) (projection_table n x a)
  unfolding projection_table
  projection-right x f a hx r =
      build-right (exists x f) (2 ^ a.count) (projection n x a.count a.machine) (projection-bounded n x a.count hx a.machine r.0)
      (decides-exists n x hx a.machine (projection n x a.count a.machine) (λ w. w < 2 ^ a.count) (In n x a.count hx a.machine r.0)
      (projection-projects n x a.count hx a.machine r.0) f r.1)

  -- what is kept of a machine that is right is right
  abbrev pub KeepsRight : (Table k → Table k) → Type 0
  KeepsRight keep = (f : Formula k) (a : Table k) → Right f a → Right f (keep a)

  -- THE THEOREM: the machine of a formula accepts a tree exactly if the formula holds for the assignment
  module _ (keep : Table k → Table k) (keeps : KeepsRight keep) where
    pub table-right : (f : Formula k) → Valid n f → Right f (table_by keep n f)
    unfolding table_by Valid
    table-right (subset x y) v = build-right (subset x y) 2 (subset_machine n x y) (subset-bounded x y) (decides-subset n x y v.0 v.1)
    table-right (singleton x) v = build-right (singleton x) 3 (singleton_machine n x) (singleton-bounded x) (decides-singleton n x v)
    table-right (successor i x y) v =
        build-right (successor i x y) 4 (successor_machine n i x y) (successor-bounded i x y) (decides-successor n x y i v.0 v.1)
    table-right (root x) v = build-right (root x) 3 (root_machine n x) (root-bounded x) (decides-root n x v)
    table-right (negation f) v = flip-right f (keep (table_by keep n f)) (keeps f (table_by keep n f) (table-right f v))
    table-right (disjunction f g) v =
        let a = keep (table_by keep n f) in
        let b = keep (table_by keep n g) in
        let r = keeps f (table_by keep n f) (table-right f v.0) in
        let q = keeps g (table_by keep n g) (table-right g v.1) in
        pair-right ◌||◌ (disjunction f g) a b r.0 q.0 (decides-disjunction n a.machine f r.1 b.machine g q.1)
    table-right (conjunction f g) v =
        let a = keep (table_by keep n f) in
        let b = keep (table_by keep n g) in
        let r = keeps f (table_by keep n f) (table-right f v.0) in
        let q = keeps g (table_by keep n g) (table-right g v.1) in
        pair-right ◌&&◌ (conjunction f g) a b r.0 q.0 (decides-conjunction n a.machine f r.1 b.machine g q.1)
    table-right (exists x f) v = projection-right x f (keep (table_by keep n f)) v.0 (keeps f (table_by keep n f) (table-right f v.1))

-- state 0 is the state of the empty tree
pub built-zero : {k : ℕ} (n d : ℕ) (M : Machine k ℕ) → (build n d M).machine.start ≡ 0
unfolding build numbered position
built-zero n d M =
    let w = reach-front M (below (2 ^ n)) d in
    ap (λ (L : List ℕ). position M.start L) w.1 ∙ rw (eq-eqb M.start M.start refl)

module _ {k : ℕ} (n : ℕ) (keep : Table k → Table k) (keeps : KeepsRight n keep)
    (zero-kept : (f : Formula k) (a : Table k) → Right n f a → a.machine.start ≡ 0 → (keep a).machine.start ≡ 0) where
  pub start-zero : (f : Formula k) → Valid n f → (table_by keep n f).machine.start ≡ 0
  unfolding table_by Valid complement_table product_table projection_table
  start-zero (subset x y) v = built-zero n 2 (subset_machine n x y)
  start-zero (singleton x) v = built-zero n 3 (singleton_machine n x)
  start-zero (successor i x y) v = built-zero n 4 (successor_machine n i x y)
  start-zero (root x) v = built-zero n 3 (root_machine n x)
  start-zero (negation f) v = zero-kept f (table_by keep n f) (table-right n keep keeps f v) (start-zero f v)
  start-zero (disjunction f g) v =
      let a = keep (table_by keep n f) in
      let b = keep (table_by keep n g) in built-zero n (a.count * b.count) (coded_product ◌||◌ b.count a.machine b.machine)
  start-zero (conjunction f g) v =
      let a = keep (table_by keep n f) in
      let b = keep (table_by keep n g) in built-zero n (a.count * b.count) (coded_product ◌&&◌ b.count a.machine b.machine)
  start-zero (exists x f) v = let a = keep (table_by keep n f) in built-zero n (2 ^ a.count) (projection n x a.count a.machine)
