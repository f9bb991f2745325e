-- THE JOINED MACHINE IS STORED: a table joined in place holds the joined machine. Assumes nothing.
use Rattle.words.proofs.Vocabulary.{ℕ, ◌≤◌, ◌<◌, ◌+◌, ◌%◌, suc, zero, Bool, true, false, ◌&&◌, ◌≡◌, ◌∙◌, refl, sym, ap, ap₂, subst, ⊎_elim}
use Rattle.words.proofs.Vocabulary.{List, [], ◌∷◌, ◌++◌, map, length, get_or, take, drop, length-take-le, List·getD-append, T, eqb, ltb, ltb-true, eqb-true, eqb-false, arith}
use Rattle.words.proofs.Vocabulary.{length-drop, length-append, length-map, append_assoc, drop-drop, leb, cond, leb-true, dec_lt, get_or-append_seam, eq-or-lt_of_le}
use native.Mathlib.Nat.{mod-eq_of_lt}
use mathlib.Core.Bool.{true≢false}
use lib.Seq.{drop-append_seam}
use Rattle.words.specs.Word.{mem}
use Rattle.words.proofs.Any.{and_both, and_cong}
use Rattle.words.proofs.WordLaws.{word_cong}
use Rattle.layout.specs.Shape.{Shaped, labels_in, share_of, share_at, place_in, label_at, tuple_at, Each, nil, cons, Tuple}
use Rattle.layout.specs.declared.Shape.{Shape}
use Rattle.layout.proofs.Places.{each_imp, each_map, pair_in, pair-of, place-in, place_at, states_at, label-at, tuple_up}
use Rattle.table.specs.Entry.{Step, seen, entry, through}
use Rattle.table.proofs.Masks.{seen_le, seen-seen}
use Rattle.logic.specs.Meaning.{Branch}
use Rattle.logic.specs.Machine.{Machine, Bounded}
use Rattle.logic.specs.Two.{one, two, pair_of}
use Rattle.logic.specs.Reach.{elem, select, position}
use Rattle.logic.proofs.Two.{each}
use Rattle.logic.proofs.Numbered.{position_lt, get_or-elem}
use Rattle.logic.proofs.Counts.{position-get_or}
use Rattle.records.specs.Machine.{TableHolds, share_byte}
use Rattle.records.specs.Rule.{Mach, mach_of, Stored, Spared}
use Rattle.records.specs.declared.Summary.{Summary}
use Rattle.exploring.specs.Explore.{are_below}
use Rattle.exploring.proofs.Grow.{are-below, each_below}
use Rattle.logic.specs.Joined.{classes, numbers}
use Rattle.joining.specs.Classes.{class_in}
use Rattle.logic.proofs.Classes.{numbers-distinct}
use Rattle.joining.specs.Parting.{state_in, Settled}
use Rattle.joining.specs.Numbering.{leaders_of, accept_in}
use Rattle.joining.specs.Rewriting.{Leaders, joined_entry, joined_byte, Rewritten}
use Rattle.joining.specs.Joining.{first_like, first_members, joined_of, JoinedTable, Joins}
use Rattle.joining.proofs.Alike.{Listing, settled_is}
use Rattle.joining.proofs.Leads.{leader-more, leader-same, leader_iff, leaders_rise, few_lead}
use Rattle.joining.proofs.Parts.{map_same, map_self}
use Rattle.joining.proofs.Lent.{mid_at, put_low, put_mid}
use Rattle.joining.proofs.Rewrites.{byte_at}

-- the same classes: the same first members
classes-same : (g h : ℕ → ℕ) (n : ℕ) → ((q : ℕ) → q < n → g q ≡ h q) → classes n g ≡ classes n h
unfolding classes numbers select
classes-same g h zero e = refl
classes-same g h (suc n) e = go (eqb (g n) n) refl (classes-same g h n (λ q l. e q (omega arith)))
  where
    go : (v : Bool) → eqb (g n) n ≡ v → classes n g ≡ classes n h → classes (suc n) g ≡ classes (suc n) h
    go true x ih = let y = eqb-true (g n) n x in leader-more g n y ∙ ap (λ (L : List ℕ). L ++ (n ∷ [])) ih ∙ sym (leader-more h n (sym (e n (omega arith)) ∙ y))
    go false x ih = let y = eqb-false (g n) n x in leader-same g n y ∙ ih ∙ sym (leader-same h n (λ z. y (e n (omega arith) ∙ z)))

-- the same first members: the same accepting classes
accept-same : (a b m k : ℕ) (F L : List ℕ) → a ≡ b → m ≡ k → ((i : ℕ) → i < m → get_or F i 0 ≡ get_or L i 0) → accept_in a m F ≡ accept_in b k L
unfolding accept_in
accept-same a b m k F L e d h =
    rw (← e, ← d) (word_cong (λ i. ltb i m && mem (get_or F i 0) a) (λ i. ltb i m && mem (get_or L i 0) a) 64
    (λ i. and_cong (ltb i m) (mem (get_or F i 0) a) (mem (get_or L i 0) a) (λ t. ap (λ (x : ℕ). mem x a) (h i (ltb-true i m t)))))

-- as many classes as states: each state is the first member of its own
all-lead : (g : ℕ → ℕ) (n : ℕ) → n ≤ length (classes n g) → classes n g ≡ numbers n
unfolding classes numbers select
all-lead g zero h = refl
all-lead g (suc n) h = go (eqb (g n) n) refl (all-lead g n)
  where
    go : (v : Bool) → eqb (g n) n ≡ v → (n ≤ length (classes n g) → classes n g ≡ numbers n) → classes (suc n) g ≡ numbers n ++ (n ∷ [])
    go true e ih =
        let z = leader-more g n (eqb-true (g n) n e) in
        z ∙ ap (λ (L : List ℕ). L ++ (n ∷ [])) (ih (let y = ap length z in omega (arith, length-append (classes n g) (n ∷ []))))
    go false e ih = absurd (let z = ap length (leader-same g n (eqb-false (g n) n e)) in omega (arith, (leaders_rise g n).0))

numbers-long : (n : ℕ) → length (numbers n) ≡ n
unfolding numbers
numbers-long zero = refl
numbers-long (suc n) = length-append (numbers n) (n ∷ []) ∙ (let e = numbers-long n in omega arith)

number_at : (n i : ℕ) → i < n → get_or (numbers n) i 0 ≡ i
unfolding numbers
number_at zero i h = absurd (omega arith)
number_at (suc n) i h = ⊎_elim
    (λ (e : i ≡ n). ap (λ (k : ℕ). get_or (numbers n ++ (n ∷ [])) k 0) (e ∙ sym (numbers-long n)) ∙ get_or-append_seam (numbers n) n [] 0 ∙ sym e)
    (λ (l : i < n). List·getD-append (numbers n) (n ∷ []) 0 i (omega (arith, numbers-long n)) ∙ number_at n i l) (eq-or-lt_of_le (omega arith))

-- ---- two branches as a list
pub pairs-list : (s : Shape) → Shaped s → Listing 2 (λ (x : Branch 2 → ℕ). x one ∷ x two ∷ [])
pairs-list s h = record {
  tuple = λ n x u. record { long = refl; below = cons (u one) (cons (u two) nil) };
  maps = λ g x. refl;
  onto = λ n is u. pair-of (λ js. (x : Branch 2 → ℕ) × ((d : Branch 2) → x d < n) × ((x one ∷ x two ∷ []) ≡ js))
      (λ i j hi hj. (pair_of i j, each (λ d. pair_of i j d < n) hi hj, refl)) is u;
  one = λ x y e. each (λ d. x d ≡ y d) (cc) (cc);
}

module _ (s : Shape) (shape : Shaped s) (base : ℕ) (m : Mach) (k r : Summary) (ws ws' t t' : List ℕ) (old : Stored s base m k ws)
    (from : (q : ℕ) → q < share_of s → get_or t q 0 ≡ get_or ws (base + q) 0) (into : (q : ℕ) → q < share_of s → get_or ws' (base + q) 0 ≡ get_or t' q 0)
    (J : JoinedTable s k t t' r) where
  abbrev n : ℕ
  n = m.count

  abbrev b : ℕ
  b = k.looks

  abbrev f : Step
  f = state_in s t

  -- the table's bytes are the machine's steps
  byte-is : (l : ℕ) → l < labels_in s → (is : List ℕ) → Tuple s.branches n is → (get_or t (place_in s (seen b l) is) 0 ≡ m.step l is) × (m.step l is < n)
  unfolding entry through
  byte-is l h is u =
      let w = old.holds l is h u in
      let p = place-in s (seen b l) is (omega (arith, seen_le b l)) (tuple_up old.few u) in
      (from (place_in s (seen b l) is) p ∙ w.0, w.1)

  stored-step : (l : ℕ) → l < labels_in s → (is : List ℕ) → Tuple s.branches n is → m.step l is ≡ f (seen b l) is
  stored-step l h is u =
      let w = byte-is l h is u in
      sym (mod-eq_of_lt (omega (arith, w.1, old.few, shape.ceiling))) ∙ ap (λ (x : ℕ). x % 64) (sym w.0)

  abbrev M : Machine 2 ℕ
  M = mach_of m

  bounded : Bounded s.variables n M
  bounded = (old.some-state, λ l h x u. (byte-is l h (x one ∷ x two ∷ []) (pair_in s shape (u one) (u two))).1)

  abbrev gs : List ℕ
  gs = J.parts

  settled : Settled f 2 n b (labels_in s) k.accept gs
  settled = subst (λ (j : ℕ). Settled f j n b (labels_in s) k.accept gs) shape.branches
      (subst (λ (c : ℕ). Settled f s.branches c b (labels_in s) k.accept gs) old.count J.settled)

  -- the classes found are the classes
  found : (q : ℕ) → q < n → class_in gs q ≡ first_like s m q
  unfolding first_like
  found q h =
      settled_is (λ (x : Branch 2 → ℕ). x one ∷ x two ∷ []) (pairs-list s shape) s.variables n b k.accept M f bounded
      (λ l h x u. stored-step l h (x one ∷ x two ∷ []) (pair_in s shape (u one) (u two))) (λ q h. ap (mem q) (sym old.accept)) gs settled q h

  abbrev L : List ℕ
  L = first_members s m

  led : leaders_of k.count gs ≡ L
  unfolding first_members
  led = ap (λ (c : ℕ). leaders_of c gs) old.count ∙ classes-same (class_in gs) (first_like s m) n found

  abbrev mm : ℕ
  mm = J.names.count

  abbrev F : List ℕ
  F = J.names.first

  abbrev N : List ℕ
  N = J.names.number

  counted : mm ≡ length L
  counted = J.named.counted ∙ ap length led

  firsts : (i : ℕ) → i < mm → get_or F i 0 ≡ get_or L i 0
  firsts i h = J.named.firsts i (omega (arith, J.named.counted)) ∙ ap (λ (K : List ℕ). get_or K i 0) led

  numbers_of : (q : ℕ) → q < n → get_or N q 0 ≡ position (first_like s m q) L
  numbers_of q h = J.named.numbers q (omega (arith, old.count)) ∙ ap₂ (λ (x : ℕ) (K : List ℕ). position x K) (found q h) led

  -- a state's class has a place among them
  among : (q : ℕ) → q < n → T (elem (first_like s m q) L)
  among q h =
      subst (λ (K : List ℕ). T (elem (first_like s m q) K)) (ap (λ (c : ℕ). leaders_of c gs) (sym old.count) ∙ led)
      (subst (λ (x : ℕ). T (elem x (leaders_of n gs))) (found q h)
      ((leader_iff (class_in gs) n (class_in gs q)).1 (let a = J.settled.whole.low q in omega arith, J.settled.whole.own q)))

  few-classes : mm ≤ n
  few-classes = omega (arith, few_lead J.names.leaders, J.named.states, old.count)

  leader_in : (i : ℕ) → i < mm → get_or L i 0 < n
  leader_in i h =
      let z = J.named.counted in
      let a = ((leaders_rise (class_in gs) k.count).1 i (omega arith)).1 in
      let e = ap (λ (K : List ℕ). get_or K i 0) led in
      omega (arith, old.count)

  -- an entry of the joined machine, at a label that the table has entries at
  own-entry : (l : ℕ) → l < labels_in s → (is : List ℕ) → Tuple s.branches mm is
      → (joined_entry s mm F N t (seen b l) is ≡ (joined_of s m).step l is) × ((joined_of s m).step l is < length L)
  own-entry l h is u =
      let js : List ℕ = map (λ i. get_or L i 0) is in
      let v : Tuple s.branches n js = record { long = length-map is (λ i. get_or L i 0) ∙ u.long; below = each_map (λ (i : ℕ). i < n) (λ i. get_or L i 0) leader_in u.below } in
      let x : ℕ = m.step l js in
      let lt : x < n = (byte-is l h js v).1 in (
        rw (are-below mm u.below) (ap (λ (ks : List ℕ). get_or N (f (seen b l) ks) 0) (map_same (λ i. get_or F i 0) (λ i. get_or L i 0) mm firsts u.below)
            ∙ ap (λ (y : ℕ). get_or N y 0) (sym (stored-step l h js v)) ∙ numbers_of x lt),
        position_lt (first_like s m x) L (among x lt),
      )

  -- ---- where no class has two states, the table is that of the joined machine already
  module _ (all : n ≤ mm) where
    every : L ≡ numbers n
    unfolding first_members
    every = all-lead (first_like s m) n (omega (arith, counted))

    self_first : (i : ℕ) → i < n → get_or F i 0 ≡ i
    self_first i h = firsts i (omega arith) ∙ ap (λ (K : List ℕ). get_or K i 0) every ∙ number_at n i h

    self_like : (q : ℕ) → q < n → first_like s m q ≡ q
    unfolding first_members
    self_like q h =
        ((leader_iff (first_like s m) n q).0 (subst (λ (K : List ℕ). T (elem q K)) (sym every)
        (subst (λ (x : ℕ). T (elem x (numbers n))) (number_at n q h) (get_or-elem (numbers n) q (omega (arith, numbers-long n)))))).1

    self_number : (q : ℕ) → q < n → get_or N q 0 ≡ q
    self_number q h =
        numbers_of q h ∙ ap₂ (λ (x : ℕ) (K : List ℕ). position x K) (self_like q h) every
        ∙ ap (λ (x : ℕ). position x (numbers n)) (sym (number_at n q h)) ∙ position-get_or (numbers n) (numbers-distinct n) q (omega (arith, numbers-long n))

    same_byte : (q : ℕ) → q < share_of s → get_or t q 0 ≡ joined_byte s b k.count mm F N t q
    unfolding joined_byte
    same_byte q h = go (leb l (seen b l) && are_below k.count is) refl
      where
        l : ℕ
        l = label_at s q

        is : List ℕ
        is = tuple_at s q

        go : (v : Bool) → (leb l (seen b l) && are_below k.count is) ≡ v → get_or t q 0 ≡ cond v (joined_entry s mm F N t l is) (get_or t q 0)
        go false e = refl
        go true e =
            let w = and_both (leb l (seen b l)) (are_below k.count is) e in
            let hl = label-at s shape.some-state q h in
            let o : seen b l ≡ l = omega (arith, leb-true l (seen b l) w.0, seen_le b l) in
            let below : Each (λ (i : ℕ). i < n) is = each_imp (λ i x. omega (arith, old.count)) (each_below k.count is w.1) in
            let u : Tuple s.branches n is = record { long = (states_at s shape.some-state q).long; below = below } in
            let x : ℕ = m.step l is in
            let y = byte-is l hl is u in
            let here : get_or t q 0 ≡ x = ap (λ (p : ℕ). get_or t p 0) (sym (place_at s q) ∙ ap (λ (i : ℕ). place_in s i is) (sym o)) ∙ y.0 in
            here ∙ sym (rw (are-below mm (each_imp (λ i z. omega arith) below))
            (ap (λ (js : List ℕ). get_or N (f l js) 0) (map_self (λ i. get_or F i 0) n self_first below) ∙ ap (λ (i : ℕ). get_or N (f i is) 0) (sym o)
            ∙ ap (λ (y : ℕ). get_or N y 0) (sym (stored-step l hl is u)) ∙ self_number x y.1))

  -- either way the bytes are those of the joined machine
  rewritten : Rewritten (joined_byte s b k.count mm F N t) (share_of s) t t'
  rewritten = elim (dec_lt mm k.count) [
    | yes l ↦ J.bytes l
    | no l ↦
        let e = J.kept (omega arith) in
        record {
          long = ap length e;
          done = λ q h. ap (λ (u : List ℕ). get_or u q 0) e ∙ same_byte (omega (arith, old.count)) q h;
          rest = λ q h. ap (λ (u : List ℕ). get_or u q 0) e;
        }
  ]

  joined_step : (l : ℕ) → l < labels_in s → (is : List ℕ) → Tuple s.branches mm is
      → (entry s ws' base (seen b l) is ≡ (joined_of s m).step l is) × ((joined_of s m).step l is < length L)
  unfolding entry
  joined_step l h is u =
      let few = few-classes in
      let o : ℕ = seen b l in
      let own : o ≤ seen b o = omega (arith, seen-seen b l) in
      let v : Tuple s.branches k.count is = tuple_up (omega (arith, old.count)) u in
      let c : k.count ≤ s.ceiling = omega (arith, old.count, old.few) in
      let p = place-in s o is (omega (arith, seen_le b l)) (tuple_up c v) in
      let e = own-entry l h is u in (
        into (place_in s o is) p ∙ rewritten.done (place_in s o is) p
            ∙ byte_at s shape mm k.count F N ((subst (λ (c : ℕ). Leaders mm c F) J.named.states J.names.leaders)) b c t o is own v ∙ e.0,
        e.1,
      )

  -- THE JOINED MACHINE is stored
  pub joined-stored : Stored s base (joined_of s m) r ws'
  unfolding through
  joined-stored = record {
    count = J.count ∙ counted;
    accept = J.accept ∙ accept-same k.accept m.accept mm (length L) F L old.accept counted firsts;
    holds = subst (λ (c : ℕ). TableHolds s ws' base c (length L) (joined_of s m).step) (sym J.looks)
        (λ l is h u. joined_step l h is (subst (λ (c : ℕ). Tuple s.branches c is) (sym counted) u));
    some-state = omega (arith, position_lt (first_like s m 0) L (among 0 old.some-state));
    few = omega (arith, counted, few-classes, old.few);
  }

  -- ---- the bytes, over a share that was 0 where the old machine had no entry
  pub joined-byte : (q : ℕ) → q < share_of s → get_or ws (base + q) 0 ≡ share_byte s b n m.step q 0
      → get_or ws' (base + q) 0 ≡ share_byte s b (length L) (joined_of s m).step q 0
  unfolding share_byte joined_byte
  joined-byte q h e = into q h ∙ rewritten.done q h ∙ go (leb l (seen b l)) (are_below k.count is) (are_below mm is) refl refl refl
    where
      l : ℕ
      l = label_at s q

      is : List ℕ
      is = tuple_at s q

      was : (u v : Bool) → leb l (seen b l) ≡ u → are_below n is ≡ v → (u && v) ≡ false → get_or t q 0 ≡ 0
      was u v x y z = from q h ∙ e ∙ rw (x, y, z) refl

      counts : are_below k.count is ≡ are_below n is
      counts = ap (λ (c : ℕ). are_below c is) old.count

      fewer : are_below mm is ≡ true → are_below n is ≡ true
      fewer y = are-below n (each_imp (λ i x. omega (arith, few-classes)) (each_below mm is y))

      entry_here : leb l (seen b l) ≡ true → are_below mm is ≡ true → joined_entry s mm F N t l is ≡ (joined_of s m).step l is
      entry_here x y =
          let o : seen b l ≡ l = omega (arith, leb-true l (seen b l) x, seen_le b l) in
          subst (λ (z : ℕ). joined_entry s mm F N t z is ≡ (joined_of s m).step l is) o
          (own-entry l (label-at s shape.some-state q h) is (record { long = (states_at s shape.some-state q).long; below = each_below mm is y })).0

      new : (w : Bool) → are_below mm is ≡ w → are_below (length L) is ≡ w
      new w z = ap (λ (c : ℕ). are_below c is) (sym counted) ∙ z

      go : (u v w : Bool) → leb l (seen b l) ≡ u → are_below k.count is ≡ v → are_below mm is ≡ w
          → cond (leb l (seen b l) && are_below k.count is) (joined_entry s mm F N t l is) (get_or t q 0)
          ≡ cond (leb l (seen b l) && are_below (length L) is) ((joined_of s m).step l is) 0
      go true true true x y z = rw (x, y, new true z) (entry_here x z)
      go true true false x y z = rw (x, y, new false z, z) refl
      go true false true x y z = absurd (true≢false (sym (fewer z) ∙ sym counts ∙ y))
      go true false false x y z = rw (x, y, new false z) (was true false x (sym counts ∙ y) refl)
      go false v w x y z = rw x (was false v x (sym counts ∙ y) refl)

joined-long : (s : Shape) (k : Summary) (t u : List ℕ) (r : Summary) → JoinedTable s k t u r → length u ≡ length t
joined-long s k t u r J = elim (dec_lt J.names.count k.count) [ yes l ↦ (J.bytes l).long | no l ↦ ap length (J.kept (omega arith)) ]

-- record r's share is joined, and nothing else is changed
pub states-joined : (s : Shape) → Shaped s → (r : ℕ) (k q : Summary) (ws t : List ℕ) (a e : ℕ) → a ≡ share_at s r → e ≡ share_of s → share_at s r + share_of s ≤ length ws
    → JoinedTable s k (take e (drop a ws)) t q → Joins s r k q ws (take a ws ++ (t ++ drop e (drop a ws))) × Spared s r ws (take a ws ++ (t ++ drop e (drop a ws)))
states-joined s h r k q ws t a e ea ee room J =
    let fits : a + e ≤ length ws = omega arith in
    let long : length t ≡ e = joined-long s k (take e (drop a ws)) t q J ∙ length-take-le e (drop a ws) (omega (arith, length-drop a ws)) in
    let ws' : List ℕ = take a ws ++ (t ++ drop e (drop a ws)) in
    let from : (x : ℕ) → x < share_of s → get_or (take e (drop a ws)) x 0 ≡ get_or ws (share_at s r + x) 0 =
    λ x b. mid_at a e ws t fits x (omega arith) ∙ ap (λ (z : ℕ). get_or ws (z + x) 0) ea in
    let into : (x : ℕ) → x < share_of s → get_or ws' (share_at s r + x) 0 ≡ get_or t x 0 =
    λ x b. ap (λ (z : ℕ). get_or ws' (z + x) 0) (sym ea) ∙ put_mid a e ws t fits long x (omega arith) in (
      (λ m old. record {
        stored = joined-stored s h (share_at s r) m k q ws ws' (take e (drop a ws)) t old from into J;
        looks = J.looks;
        bytes = joined-byte s h (share_at s r) m k q ws ws' (take e (drop a ws)) t old from into J;
      }),
      record {
        low = λ x b. put_low a e ws t fits x (omega arith);
        high =
            let y : share_at s r + share_of s ≡ length (take a ws ++ t) = omega (arith, length-append (take a ws) t, length-take-le a ws (omega arith)) in
            let z : a + e ≡ share_at s r + share_of s = omega arith in
            ap (λ (l : List ℕ). drop (share_at s r + share_of s) l) (sym (append_assoc (take a ws) t (drop e (drop a ws))))
            ∙ ap (λ (l : ℕ). drop l ((take a ws ++ t) ++ drop e (drop a ws))) y ∙ drop-append_seam (take a ws ++ t) (drop e (drop a ws))
            ∙ drop-drop e a ws ∙ ap (λ (l : ℕ). drop l ws) z;
      },
    )
