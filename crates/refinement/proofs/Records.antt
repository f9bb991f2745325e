-- The machine that the builder makes of a record, from its parts' joined machines, is the record's construction, and joined it is the record's
-- joined machine; where it makes none, the construction has more than c states. Assumes nothing.
use Rattle.words.proofs.Vocabulary.{ℕ, ◌≤◌, ◌<◌, ◌+◌, ◌*◌, suc, ◌%◌, ◌^◌, ◌/◌, Bool, ◌||◌, ◌&&◌, not, ◌≡◌, ◌∙◌, refl, sym, ap, ap₂, subst, ◌↔◌, List, [], ◌∷◌}
use Rattle.words.proofs.Vocabulary.{some, Option, none, lt-ltb, ltb, length, get_or, arith}
use Rattle.layout.specs.Shape.{Shaped, Each, nil, cons, shape_of}
use Rattle.layout.proofs.Places.{two_of}
use Rattle.logic.specs.Meaning.{Formula, negation, disjunction, conjunction, exists as some_f, Valid}
use Rattle.logic.specs.Machine.{Machine, complement, product, Simulates}
use Rattle.logic.specs.Reach.{below, Reached, stepped, started, numbered}
use Rattle.logic.specs.Alike.{Full, Agrees, Lists, MachineOf, ConstructedOf}
use Rattle.logic.specs.Two.{one, two, pair_of, branching}
use Rattle.logic.proofs.Counts.{lists_index}
use Rattle.logic.proofs.Reach.{elem_below}
use Rattle.logic.proofs.Two.{each}
use Rattle.logic.specs.Table.{Table}
use Rattle.logic.specs.Joined.{join, constructed, joined_table}
use Rattle.logic.proofs.Joining.{joined-fewer}
use Rattle.logic.proofs.Counts.{full-numbered}
use Rattle.logic.proofs.Builders.{states-any, over_index, of_negation, of_disjunction, of_conjunction, of_numbered, of_agrees, full-agrees}
use Rattle.logic.proofs.Builders.{of_join, full-join}
use Rattle.exploring.specs.Explore.{explore}
use Rattle.words.specs.Word.{mem}
use Rattle.table.specs.Entry.{Step}
use Rattle.table.specs.Succ.{pair_code, kind_code, start_code}
use Rattle.records.specs.Machine.{codes_of, step_of, accept_by, accept_of, others_of}
use Rattle.records.specs.Rule.{Mach, mach_of, mach_from, complement_of, numbered_by}
use Rattle.ops.specs.declared.Op.{Op}
use Rattle.ops.specs.declared.Op.TheVariants.{Or, And, Exists}
use Rattle.records.specs.declared.Decoded.{Decoded}
use Rattle.exploring.proofs.Found.{Codes, Found, explore-found, explore-many, explore-closed}
use Rattle.exploring.proofs.Place.{place-own}
use Rattle.words.proofs.WordLaws.{word-mem}
use Rattle.records.specs.Decode.{bit_weight}
use Rattle.joining.specs.Joining.{joined_of}
use Rattle.joining.proofs.Meaning.{join-count, join-agrees}
use Rattle.refinement.proofs.Sets.{of_sets}

-- the machine over codes of a record of kind k
abbrev pub code_machine : Op → Mach → Mach → ℕ → ℕ → Machine 2 ℕ
code_machine k f g wx wy = branching (start_code k 2 f.step wx) (kind_code k f.step g.step wx wy) (accept_by k f.accept g.accept)

-- m decides F, is a's machine up to the names of its states, and has at most c of them, all reached
pub record Good (n c : ℕ) (F : Formula 2) (a : Table 2) (m : Mach) : Type 0 where
  pub machine : MachineOf n F a (mach_of m)
  pub full : Full n m.count (mach_of m)
  pub few : m.count ≤ c

-- as it is built
abbrev pub GoodBuilt : ℕ → ℕ → Formula 2 → Mach → Type 0
GoodBuilt n c F m = Good n c F (constructed n F) m

-- and as it is kept
abbrev pub GoodJoined : ℕ → ℕ → Formula 2 → Mach → Type 0
GoodJoined n c F m = Good n c F (joined_table n F) m

-- a construction of F that comes to more than c states
pub record Large (n c : ℕ) (F : Formula 2) : Type 0 where
  pub large : Machine 2 ℕ
  pub machine : ConstructedOf n F large
  pub reached : (cs : List ℕ) × Codes (Reached large (below (2 ^ n))) cs × (length cs ≡ suc c)

-- what is built has as many states as refusal 14 counts
pub good-few : {n c : ℕ} {F : Formula 2} {m : Mach} → Valid n F → GoodBuilt n c F m → (constructed n F).count ≤ c
good-few {n} {F = F} {m = m} v g = omega (arith, g.few, states-any n F v (mach_of m) g.machine m.count g.full)

pub large-many : {n c : ℕ} {F : Formula 2} → Valid n F → Large n c F → c < (constructed n F).count
large-many {n} {c} {F} v w =
    let z = w.reached in
    let long = z.2 in
    over_index n F v w.large w.machine c (suc c) (λ i. get_or z.0 i 0) (λ i l. z.1.all i (omega arith))
    (λ i j h l e. omega (arith, z.1.distinct i j (omega arith) (omega arith) e)) (omega arith)

-- what the builder makes of a record of formula F
abbrev pub Makes : ℕ → ℕ → Formula 2 → Option Mach → Type 0
Makes n c F none = Large n c F
Makes n c F (some m) = GoodBuilt n c F m

-- z stands for two states, of a and of b states
record Pair (a b z : ℕ) (s : ℕ × ℕ) : Type 0 where
  code : z ≡ s.0 * 64 + s.1
  first : s.0 < a
  second : s.1 < b

module _ (n c : ℕ) (sh : Shaped (shape_of n c)) where
  abbrev Comes : Machine 2 ℕ → ℕ → Type 0
  Comes M q = Reached M (below (2 ^ n)) q

  -- ---- exploration
  module _ (x : Decoded) (f g : Mach) {F : Formula 2} (o : ConstructedOf n F (code_machine x.kind f g x.wx x.wy)) where
    abbrev C : Machine 2 ℕ
    C = code_machine x.kind f g x.wx x.wy

    abbrev succ : Step
    succ = kind_code x.kind f.step g.step x.wx x.wy

    step_comes : (l : ℕ) (xs : List ℕ) → l < 2 ^ n → length xs ≡ 2 → Each (Comes C) xs → Comes C (succ l xs)
    step_comes l xs h e nil = absurd (omega arith)
    step_comes l xs h e (cons p nil) = absurd (omega arith)
    step_comes l xs h e (cons {x = a} p (cons {x = b} q nil)) =
        stepped l ((elem_below l (2 ^ n)).1 h) (pair_of a b) (each (λ d. Comes C (pair_of a b d)) p q)
    step_comes l xs h e (cons p (cons q (cons r t))) = absurd (omega arith)

    module _ (cs : List ℕ) (e : explore succ c (2 ^ n) C.start ≡ some cs) where
      found : Found succ c (2 ^ n) C.start sh.some-state (Comes C) cs
      found = explore-found succ c (2 ^ n) C.start sh.some-state (Comes C) started step_comes cs e

      listed : Lists n C cs
      listed = lists_index n C cs found.codes.distinct found.codes.all (found.some-code, found.first)
          (λ l h s u. explore-closed succ c (2 ^ n) C.start sh.some-state cs e l h (s one ∷ s two ∷ []) (two_of (u one) (u two)))

      same : Agrees n (length cs) (numbered C cs) (mach_of (mach_from x f g cs))
      unfolding numbered step_of accept_of
      same = record {
        starts = place-own C.start cs 0 found.codes.distinct found.some-code found.first;
        steps = λ l h s u. refl;
        accepts = λ q h.
            sym (word-mem 64 q (λ (s : ℕ). ltb s (length cs) && C.accepting (get_or cs s 0)) (omega (arith, found.few)) ∙ rw (lt-ltb q (length cs) h));
      }

      good : GoodBuilt n c F (mach_from x f g cs)
      good =
          let full = full-numbered n C cs listed in
          let m = mach_of (mach_from x f g cs) in
          record {
            machine = of_agrees n (length cs) (numbered C cs) m full.0 same F (of_numbered n C cs listed F o);
            full = full-agrees n (length cs) (numbered C cs) m full.0 same full.1;
            few = found.few;
          }

    pub explored : Makes n c F (numbered_by (mach_from x f g) (codes_of x.kind (shape_of n c) f.step g.step x.wx x.wy))
    unfolding codes_of
    explored = go (explore succ c (2 ^ n) C.start) refl
      where
        go : (q : Option (List ℕ)) → explore succ c (2 ^ n) C.start ≡ q → Makes n c F (numbered_by (mach_from x f g) q)
        go none e = record { large = C; machine = o; reached = explore-many succ c (2 ^ n) C.start sh.some-state (Comes C) started step_comes e }
        go (some cs) e = good cs e

  -- ---- "not"
  comes_other : (g : Step) (a b : ℕ → Bool) (q : ℕ) → Comes (branching 0 g a) q → Comes (branching 0 g b) q
  comes_other g a b q started = started
  comes_other g a b q (stepped l t s h) = stepped l t s (λ d. comes_other g a b (s d) (h d))

  others-agree : (f : Mach) → f.count ≤ c → Agrees n f.count (complement (mach_of f)) (mach_of (complement_of f))
  unfolding others_of
  others-agree f few = record {
    starts = refl;
    steps = λ l h s u. refl;
    accepts = λ q h.
        sym (word-mem 64 q (λ (s : ℕ). ltb s f.count && not (mem s f.accept)) (omega arith) ∙ rw (lt-ltb q f.count h));
  }

  pub complemented : {F : Formula 2} {f : Mach} → GoodJoined n c F f → GoodBuilt n c (negation F) (complement_of f)
  complemented {F} {f} p = record {
    machine =
        of_agrees n f.count (complement (mach_of f)) (mach_of (complement_of f)) p.full.0 (others-agree f p.few) (negation F)
        (of_negation n F (mach_of f) p.machine);
    full = (p.full.0, λ q h. comes_other f.step _ _ q (p.full.1 q h));
    few = p.few;
  }

  -- ---- "or" and "and": the pair of states q and r is q * 64 + r
  module _ {f g : Mach} {F G : Formula 2} (p : GoodJoined n c F f) (q : GoodJoined n c G g) (vf : Valid n F) (vg : Valid n G) where
    abbrev Both : ℕ → ℕ × ℕ → Type 0
    Both z s = Pair f.count g.count z s

    one-pair : (z z' : ℕ) (s s' : ℕ × ℕ) → Both z s → Both z' s' → (z ≡ z') ↔ (s ≡ s')
    one-pair z z' s s' u u' = (
      (λ e. ap₂ (λ (i j : ℕ). (i, j)) (omega arith) (omega arith)),
      λ e. u.code ∙ ap (λ (s : ℕ × ℕ). s.0 * 64 + s.1) e ∙ sym u'.code,
    )

    parts : (z : ℕ) (s : ℕ × ℕ) → Both z s → (z / 64 % 64 ≡ s.0) × (z % 64 ≡ s.1)
    parts z s u = (omega arith, omega arith)

    pairs : (op : Bool → Bool → Bool) (acc : ℕ → Bool) → ((z : ℕ) (s : ℕ × ℕ) → Both z s → acc z ≡ op (mem s.0 f.accept) (mem s.1 g.accept))
        → Simulates n (branching 0 (pair_code f.step g.step) acc) (product op (mach_of f) (mach_of g)) Both
    unfolding pair_code
    pairs op acc h = record {
      at_start = record { code = refl; first = p.full.0.0; second = q.full.0.0 };
      at_step = λ l hl s r u.
          let i = parts (s one) (r one) (u one) in
          let j = parts (s two) (r two) (u two) in
          record {
            code = rw (i.0, j.0, i.1, j.1);
            first = p.full.0.1 l hl (λ b. (r b).0) (λ b. (u b).first);
            second = q.full.0.1 l hl (λ b. (r b).1) (λ b. (u b).second);
          };
      at-end = h;
    }

    pub either-pair : (wx wy : ℕ) → ConstructedOf n (disjunction F G) (code_machine Or f g wx wy)
    unfolding start_code kind_code
    either-pair wx wy =
        of_disjunction n F G vf vg (mach_of f) (mach_of g) p.machine q.machine (code_machine Or f g wx wy) Both one-pair
        (pairs ◌||◌ (accept_by Or f.accept g.accept) (λ z s u. let i = parts z s u in rw (i.0, i.1)))

    pub both-pair : (wx wy : ℕ) → ConstructedOf n (conjunction F G) (code_machine And f g wx wy)
    unfolding start_code kind_code
    both-pair wx wy =
        of_conjunction n F G vf vg (mach_of f) (mach_of g) p.machine q.machine (code_machine And f g wx wy) Both one-pair
        (pairs ◌&&◌ (accept_by And f.accept g.accept) (λ z s u. let i = parts z s u in rw (i.0, i.1)))

  -- ---- "exists"
  pub some-set : {f : Mach} {F : Formula 2} → GoodJoined n c F f → Valid n F → (g : Mach) (x wy : ℕ) → x < n
      → ConstructedOf n (some_f x F) (code_machine Exists f g (bit_weight n x) wy)
  unfolding start_code kind_code
  some-set {f} {F} p vf g x wy hx = of_sets n x f.count hx f.step f.accept (omega arith) p.full.0 F vf p.machine

  -- ---- joined
  pub joined : {F : Formula 2} {m : Mach} → Valid n F → GoodBuilt n c F m → GoodJoined n c F (joined_of (shape_of n c) m)
  joined {F} {m} v g =
      let few : m.count ≤ 64 = omega (arith, g.few, sh.ceiling) in
      let s = shape_of n c in
      let a : Table 2 = record { count = m.count; machine = mach_of m } in
      let count : (join n a).count ≡ (joined_of s m).count = join-count s m g.full.0 few in
      let full : Full n (joined_of s m).count (join n a).machine =
      subst (λ (q : ℕ). Full n q (join n a).machine) count (full-join n F v (mach_of m) g.machine m.count g.full) in
      let agrees = join-agrees s m g.full.0 few in
      record {
        machine = of_agrees n (joined_of s m).count (join n a).machine (mach_of (joined_of s m)) full.0 agrees F
            (of_join n F v (mach_of m) g.machine m.count g.full);
        full = full-agrees n (joined_of s m).count (join n a).machine (mach_of (joined_of s m)) full.0 agrees full.1;
        few = omega (arith, g.few, joined-fewer n a g.full, count);
      }
