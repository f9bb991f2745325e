-- One record: its plan has room, and its machine, explored from its parts' tables, is the machine of its parts' machines. Assumes nothing.
use Rattle.words.proofs.Vocabulary.{ℕ, ◌≤◌, ◌<◌, ◌+◌, ◌-◌, Bool, true, false, ◌&&◌, cond, ◌≡◌, ◌∙◌, refl, sym, ap, subst, ap₂, List, some, Option, none}
use Rattle.words.proofs.Vocabulary.{le-leb, lt-leb, leb-false, leb-true, leb, length, get_or, take, drop, length-take-le, get_or-take, drop-drop, pow_pos, arith}
use Rattle.layout.specs.Shape.{labels_in, share_of, share_at, place_in, label_at, tuple_at, Tuple}
use Rattle.layout.specs.declared.Shape.{Shape}
use Rattle.layout.proofs.Places.{tuple_up, shares_small, share-next, place-one, place-in, place_at, states_at, label-at}
use Rattle.table.specs.Entry.{Power, seen, Bare, entry, through}
use Rattle.table.specs.Rows.{Led}
use Rattle.table.specs.Succ.{PlanRoom, first_step, second_step, kind_code, successor_of, succ_in, start_code, start_of}
use Rattle.ops.specs.declared.Op.{Op}
use Rattle.ops.specs.declared.Op.TheVariants.{Subset, Single, Child1, Child2, Root, Not, Or, And, Exists}
use Rattle.table.specs.declared.plan.Plan.{Plan}
use Rattle.table.proofs.Masks.{seen_le, kind-blind}
use Rattle.exploring.specs.Explore.{are_below}
use Rattle.exploring.specs.Filling.{listed, Entered, Cell, Explored}
use Rattle.exploring.specs.declared.Builder.{Builder}
use Rattle.exploring.proofs.Found.{explore-some}
use Rattle.exploring.proofs.Grow.{are-below, each_below}
use Rattle.records.specs.Machine.{codes_of, step_of, accept_of, TableHolds, share_byte}
use Rattle.records.specs.Rule.{Mach, mach_from, is_not, numbered_by, machine_of, plan_of, Fits, OfParts, Stored, PartsStored, Placed, Added, Spared}
use Rattle.records.specs.declared.Decoded.{Decoded}
use Rattle.records.specs.declared.Summary.{Summary}
use Rattle.records.proofs.Held.{Part, Same, record_same}

pub drop-later : (n m : ℕ) (a b : List ℕ) → n ≤ m → drop n a ≡ drop n b → drop m a ≡ drop m b
drop-later n m a b h e =
    let s : n + (m - n) ≡ m = omega arith in
    ap (λ (k : ℕ). drop k a) (sym s) ∙ sym (drop-drop (m - n) n a) ∙ ap (drop (m - n)) e ∙ drop-drop (m - n) n b ∙ ap (λ (k : ℕ). drop k b) s

pub power_pos : (w : ℕ) → Power w → 0 < w
power_pos w p = rw p.1 (pow_pos p.0)

pub room_of : (x : Decoded) (r : ℕ) (s : Shape) (n f g : ℕ) → Fits x r s n → PlanRoom (plan_of x r s f g) n
unfolding successor_of
room_of x r s n f₁ f₂ f = record {
  ranged = record {
    shape = f.shape;
    table1_small = omega (arith, shares_small s f.shape x.first f.first_in);
    table2_small = omega (arith, shares_small s f.shape x.second f.second_in);
    wx_pos = power_pos x.wx f.wx_power;
    wx_small = f.wx_small;
    wy_pos = power_pos x.wy f.wy_power;
    wy_small = f.wy_small;
  };
  share = f.share;
  blind = λ low l xs.
      kind-blind (entry s low (share_at s x.first)) (entry s low (share_at s x.second)) x.wx x.wy f₁ f₂ f.wx_power f.wy_power l xs x.kind;
}

-- ---- what is asked of the parts
parts-map : (k : Op) {A A' B B' : Type 0} → (A → A') → (B → B') → OfParts k A B → OfParts k A' B'
parts-map Subset f g h = tt
parts-map Single f g h = tt
parts-map Child1 f g h = tt
parts-map Child2 f g h = tt
parts-map Root f g h = tt
parts-map Not f g h = f h
parts-map Or f g h = (f h.0, g h.1)
parts-map And f g h = (f h.0, g h.1)
parts-map Exists f g h = f h

pub parts-both : (k : Op) (A A' B B' : Type 0) → OfParts k A B → OfParts k A' B' → OfParts k (A × A') (B × B')
parts-both Subset A A' B B' p q = tt
parts-both Single A A' B B' p q = tt
parts-both Child1 A A' B B' p q = tt
parts-both Child2 A A' B B' p q = tt
parts-both Root A A' B B' p q = tt
parts-both Not A A' B B' p q = (p, q)
parts-both Or A A' B B' p q = ((p.0, q.0), (p.1, q.1))
parts-both And A A' B B' p q = ((p.0, q.0), (p.1, q.1))
parts-both Exists A A' B B' p q = (p, q)

-- the accepting states go by those of the parts that the kind has
accept-parts : (k : Op) (a b a' b' : ℕ) (cs : List ℕ) → OfParts k (a ≡ a') (b ≡ b') → accept_of k a b cs ≡ accept_of k a' b' cs
unfolding accept_of
accept-parts Subset a b a' b' cs h = refl
accept-parts Single a b a' b' cs h = refl
accept-parts Child1 a b a' b' cs h = refl
accept-parts Child2 a b a' b' cs h = refl
accept-parts Root a b a' b' cs h = refl
accept-parts Not a b a' b' cs h = refl
accept-parts Or a b a' b' cs h = ap₂ (λ (n m : ℕ). accept_of Or n m cs) h.0 h.1
accept-parts And a b a' b' cs h = ap₂ (λ (n m : ℕ). accept_of And n m cs) h.0 h.1
accept-parts Exists a b a' b' cs h = ap (λ (n : ℕ). accept_of Exists n b cs) h

-- ---- a share's bytes: entries, and where none stands what was there
module _ (s : Shape) (r : ℕ) (m : Mach) (k : Summary) (ws ws' : List ℕ) (stored : Stored s (share_at s r) m k ws')
    (bare : (q : ℕ) → Bare s (share_at s r) k.looks m.count q → get_or ws' q 0 ≡ get_or ws q 0) where
  abbrev n : ℕ
  n = m.count

  pos : 0 < s.ceiling
  pos = omega (arith, stored.some-state, stored.few)

  byte : (q : ℕ) → q < share_of s → (u v : Bool) → leb (label_at s q) (seen k.looks (label_at s q)) ≡ u → are_below n (tuple_at s q) ≡ v
      → get_or ws' (share_at s r + q) 0 ≡ cond (u && v) (m.step (label_at s q) (tuple_at s q)) (get_or ws (share_at s r + q) 0)
  unfolding entry through
  byte q h u v eu ev = go u v eu ev
    where
      l : ℕ
      l = label_at s q

      is : List ℕ
      is = tuple_at s q

      -- where no entry stands
      old : (l ≤ seen k.looks l → Tuple s.branches n is → ⊥) → get_or ws' (share_at s r + q) 0 ≡ get_or ws (share_at s r + q) 0
      old gone = bare (share_at s r + q) (λ l' is' hs t e.
          let d = place-one s l l' is is' (states_at s pos q) (tuple_up stored.few t) (place_at s q ∙ omega arith) in
          gone (subst (λ (z : ℕ). z ≤ seen k.looks z) (sym d.0) hs) (subst (Tuple s.branches n) (sym d.1) t))

      go : (u v : Bool) → leb l (seen k.looks l) ≡ u → are_below n is ≡ v
          → get_or ws' (share_at s r + q) 0 ≡ cond (u && v) (m.step l is) (get_or ws (share_at s r + q) 0)
      go true true eu ev =
          let e : seen k.looks l ≡ l = omega (arith, leb-true l (seen k.looks l) eu, seen_le k.looks l) in
          ap (λ (z : ℕ). get_or ws' (share_at s r + z) 0) (sym (place_at s q) ∙ ap (λ (z : ℕ). place_in s z is) (sym e))
          ∙ (stored.holds l is (label-at s pos q h) (record { long = (states_at s pos q).long; below = each_below n is ev })).0
      go false v eu ev = old (λ a t. omega (arith, leb-false l (seen k.looks l) eu))
      go true false eu ev = old (λ a t. let z : true ≡ false = sym (are-below n t.below) ∙ ev in let y : ◌≡◌ {A = ℕ} 0 1 = cc in omega arith)

  pub placed : Placed s r m k ws ws'
  unfolding share_byte
  placed = record { stored = stored; bytes = λ q h. byte q h _ _ refl refl }

-- ---- a record and its parts
module _ (x : Decoded) (r : ℕ) (s : Shape) (kf kg : Summary) (ws : List ℕ) (f g : Mach) (fits : Fits x r s (length ws))
    (stored : PartsStored x s kf kg ws f g) where
  abbrev low : List ℕ
  low = take (share_at s r) ws

  abbrev plan : Plan
  plan = plan_of x r s kf.looks kg.looks

  -- an earlier machine's table lies before the share
  part_at : (a : ℕ) (k : Summary) (m : Mach) → a < r → Stored s (share_at s a) m k ws
      → Part s (through k.looks (entry s low (share_at s a))) m.step m.count
  unfolding entry through
  part_at a k m h st = record {
    zero_in = st.some-state;
    few = omega (arith, st.few, fits.shape.ceiling);
    same = λ l is hl t.
        let b = seen k.looks l in
        let near = place-in s b is (omega (arith, seen_le k.looks l)) (tuple_up st.few t) in
        (get_or-take (share_at s r) ws (share_at s a + place_in s b is) 0 (omega (arith, share-next s a r h)) ∙ (st.holds l is hl t).0, (st.holds l is hl t).1);
  }

  -- the parts that the kind has come before the record, and are stored
  abbrev First : Type 0
  First = (x.first < r) × Stored s (share_at s x.first) f kf ws

  abbrev Second : Type 0
  Second = (x.second < r) × Stored s (share_at s x.second) g kg ws

  parts : OfParts x.kind First Second
  parts =
      parts-both x.kind (x.first < r) (Stored s (share_at s x.first) f kf ws) (x.second < r) (Stored s (share_at s x.second) g kg ws)
      fits.before stored

  same : Same x.kind s x.wx x.wy (first_step low plan) f.step (second_step low plan) g.step
  same =
      record_same s fits.shape x.wx x.wy fits.bit f.count g.count (first_step low plan) f.step (second_step low plan)
      g.step x.kind (parts-map x.kind (λ w. part_at x.first kf f w.0 w.1) (λ w. part_at x.second kg g w.0 w.1) parts)

  -- the table of the part of an "exists" lies before the share, and leads to the part's states
  pub led_of : Led low plan
  unfolding through
  led_of e =
      let w = subst (λ (k : Op). OfParts k First Second) e parts in
      let p = part_at x.first kf f w.0 w.1 in (
        f.count,
        record {
          some-state = p.zero_in;
          few = w.1.few;
          share = omega (arith, share-next s x.first r w.0, length-take-le (share_at s r) ws (omega (arith, fits.share)));
          bit = fits.bit;
          stays = λ l is hl t. let z = p.same l is hl t in omega (arith, z.0, z.1);
        },
      )

  -- the record is explored
  module _ (explored : is_not x.kind ≡ false) (b : Builder) (ws' : List ℕ) (done : Explored (succ_in ws plan) plan (start_of low plan) b ws ws')
      (k : Summary) (is_count : k.count ≡ b.count) where
    from_tables : listed s.ceiling b ≡ codes_of x.kind s (first_step low plan) (second_step low plan) x.wx x.wy
    unfolding codes_of successor_of
    from_tables = done.list

    made : (o : Option (List ℕ)) → listed s.ceiling b ≡ o → machine_of s x f g ≡ numbered_by (mach_from x f g) o
    unfolding machine_of
    made o e = rw explored (ap (numbered_by (mach_from x f g)) (sym same.codes ∙ sym from_tables ∙ e))

    pub added-many : s.ceiling < b.count → Added x s r kf kg f g k ws ws'
    added-many h =
        record { many = λ _. made none (rw (lt-leb b.count s.ceiling h)); few = λ l. absurd (omega arith); looks = λ l. absurd (omega arith) }

    module _ (full : length b.codes ≡ 64) (few : b.count ≤ s.ceiling) where
      abbrev cs : List ℕ
      cs = take b.count b.codes

      abbrev mach : Mach
      mach = mach_from x f g cs

      is_cs : listed s.ceiling b ≡ some cs
      is_cs = rw (le-leb b.count s.ceiling few)

      count_cs : length cs ≡ b.count
      count_cs = length-take-le b.count b.codes (omega (arith, fits.shape.ceiling))

      some-few : (0 < length cs) × (length cs ≤ s.ceiling)
      unfolding codes_of
      some-few =
          let found = explore-some (kind_code x.kind (first_step low plan) (second_step low plan) x.wx x.wy) s.ceiling (labels_in s)
          (start_code x.kind s.branches (first_step low plan) x.wx) fits.shape.some-state cs (sym from_tables ∙ is_cs) in
          (found.some-code, found.few)

      new-holds : TableHolds s ws' (share_at s r) plan.looks (length cs) mach.step
      unfolding entry step_of successor_of through
      new-holds l is hl t =
          let cell : Entered (succ_in ws plan) plan cs ws' (record { label = l; states = is }) =
          subst (λ (o : Option (List ℕ)). Cell (succ_in ws plan) plan o ws' (record { label = l; states = is })) is_cs
          (done.cells (record { label = l; states = is }) hl (tuple_up (omega (arith, count_cs)) t)) in
          let eq = same.steps cs (sym from_tables ∙ is_cs) l is hl t in
          (cell.written ∙ eq, subst (λ (n : ℕ). n < length cs) eq cell.code)

      pub added-few : k.accept ≡ accept_of x.kind kf.accept kg.accept cs → k.looks ≡ plan.looks → Added x s r kf kg f g k ws ws'
      added-few ea el = record {
        many = λ h. absurd (omega arith);
        looks = λ _. el;
        few = λ _. (
          mach,
          made (some cs) is_cs,
          placed s r mach k ws ws' (record {
            count = is_count ∙ sym count_cs;
            accept =
                ea ∙ accept-parts x.kind kf.accept kg.accept f.accept g.accept cs (parts-map x.kind (λ s. s.accept) (λ s. s.accept) stored);
            holds = subst (λ (l : ℕ). TableHolds s ws' (share_at s r) l (length cs) mach.step) (sym el) new-holds;
            some-state = some-few.0;
            few = some-few.1;
          }) (λ q off. done.bare q (λ l is hs t. off l is (subst (λ (b : ℕ). l ≤ seen b l) (sym el) hs) (tuple_up (omega (arith, count_cs)) t))),
        );
      }

-- what a plan's exploration leaves as it was
pub explored-spared : (x : Decoded) (r : ℕ) (s : Shape) (f g : ℕ) (ws ws' : List ℕ) (b : Builder)
    → Explored (succ_in ws (plan_of x r s f g)) (plan_of x r s f g) (start_of (take (share_at s r) ws) (plan_of x r s f g)) b ws ws' → Spared s r ws ws'
explored-spared x r s f g ws ws' b done = record {
  low = λ k h. sym (get_or-take (share_at s r) ws' k 0 h) ∙ ap (λ (l : List ℕ). get_or l k 0) done.kept.low ∙ get_or-take (share_at s r) ws k 0 h;
  high = done.kept.high;
}
