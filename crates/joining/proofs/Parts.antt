-- Laws of classes and of parting them. Assumes nothing.
use Rattle.words.proofs.Vocabulary.{ℕ, ◌≤◌, ◌<◌, ◌+◌, ◌*◌, suc, zero, Bool, true, false, ◌≡◌, ◌∙◌, refl, sym, ap, subst, ⊎_elim, inl, inr, ◌⊎◌}
use Rattle.words.proofs.Vocabulary.{List, map, length, get_or, set, length-set, get_or-set_same, get_or-set_other, eqb, eq-eqb, ne_eqb, eqb-true, arith}
use Rattle.words.proofs.Vocabulary.{below_more, eq-or-lt_of_le, suc-mul, dec_lt, ℕ_discrete, and-false}
use mathlib.Core.Bool.{beq, true≢false}
use Rattle.words.specs.Word.{mem}
use Rattle.words.proofs.Any.{and_both}
use Rattle.layout.specs.Shape.{Each, nil, cons, Tuple}
use Rattle.table.specs.Entry.{Step}
use Rattle.joining.specs.Classes.{class_in}
use Rattle.joining.specs.Parting.{FirstSuch, Low, Whole, SeenBy, is_such, SplitBy, Keeps, Refines, Same, Clean, total}

pub is_false : (v : Bool) → (v ≡ true → ⊥) → v ≡ false
is_false true h = absurd (h refl)
is_false false h = refl

-- ---- acceptance
pub beq_means : (a b : Bool) → beq a b ≡ true → a ≡ b
beq_means true true e = refl
beq_means true false e = sym e
beq_means false true e = e
beq_means false false e = refl

pub beq_true : (a b : Bool) → a ≡ b → beq a b ≡ true
beq_true true true e = refl
beq_true true false e = sym e
beq_true false true e = e
beq_true false false e = refl

-- ---- the first number that passes
-- there is one such
pub first_one : (d e : ℕ → Bool) {p q r s : ℕ} → ((x : ℕ) → d x ≡ e x) → FirstSuch d p r → FirstSuch e q s → r ≡ s
first_one d e {p} {q} {r} {s} h a b = elim (dec_lt r s) [
  | yes l ↦ absurd (true≢false (sym a.passes ∙ h r ∙ b.none_before r l))
  | no l ↦ ⊎_elim (λ (x : s ≡ r). sym x) (λ (k : s < r). absurd (true≢false (sym b.passes ∙ sym (h s) ∙ a.none_before s k))) (eq-or-lt_of_le (omega arith))
]

-- one state more has its class
pub first_next : (e : ℕ → ℕ → Bool) (hs : List ℕ) (q v : ℕ) → q < length hs → ((r : ℕ) → r < q → FirstSuch (λ p. e p r) r (class_in hs r))
    → FirstSuch (λ p. e p q) q v → (r : ℕ) → r < q + 1 → FirstSuch (λ p. e p r) r (class_in (set hs q v) r)
first_next e hs q v h old new r b = ⊎_elim
    (λ (d : r ≡ q). subst (λ (z : ℕ). FirstSuch (λ p. e p z) z (class_in (set hs q v) z)) (sym d)
    (subst (FirstSuch (λ p. e p q) q) (sym (get_or-set_same hs q v 0 h)) new))
    (λ (d : r < q). subst (FirstSuch (λ p. e p r) r) (sym (get_or-set_other hs q r v 0 (λ x. omega arith))) (old r d))
    (eq-or-lt_of_le (omega arith))

-- ---- classes by acceptance
module _ (accept n : ℕ) (hs : List ℕ) (w : SeenBy accept n hs) where
  seen_low : Low hs
  seen_low q = elim (dec_lt q n) [ yes l ↦ (w.states q l).up_to | no l ↦ omega (arith, w.beyond q (omega arith)) ]

  seen_same : (p q : ℕ) → p < n → q < n → mem p accept ≡ mem q accept → class_in hs p ≡ class_in hs q
  seen_same p q hp hq e =
      first_one (λ x. beq (mem x accept) (mem p accept)) (λ x. beq (mem x accept) (mem q accept))
      (λ x. ap (beq (mem x accept)) e) (w.states p hp) (w.states q hq)

  seen_first : (q : ℕ) → q < n → mem (class_in hs q) accept ≡ mem q accept
  seen_first q h = beq_means (mem (class_in hs q) accept) (mem q accept) (w.states q h).passes

  pub seen-whole : Whole hs
  seen-whole = record {
    long = w.long;
    low = seen_low;
    own = λ q. elim (dec_lt q n) [
      | yes l ↦ seen_same (class_in hs q) q (let a = seen_low q in omega arith) l (seen_first q l)
      | no l ↦ ap (class_in hs) (w.beyond q (omega arith)) ∙ (let a = seen_low 0 in let b = w.beyond q (omega arith) in omega arith)
    ];
  }

  pub seen-accepts : (p q : ℕ) → p < n → q < n → class_in hs p ≡ class_in hs q → mem p accept ≡ mem q accept
  seen-accepts p q hp hq e = sym (seen_first p hp) ∙ ap (λ (x : ℕ). mem x accept) e ∙ seen_first q hq

  pub seen-keeps : (name : ℕ → ℕ) → ((p q : ℕ) → p < n → q < n → name p ≡ name q → mem p accept ≡ mem q accept) → Keeps n name hs
  seen-keeps name h p q hp hq e = seen_same p q hp hq (h p q hp hq e)

-- ---- parting, step after step
module _ {A : (ℕ → ℕ) → Type 0} {n : ℕ} where
  pub refines_self : {gs : List ℕ} → Whole gs → Refines A n gs gs
  refines_self w = record { whole = w; up = λ q. omega arith; finer = λ p q hp hq e. e; keeps = λ name a k. k }

  pub refines_on : {gs hs ks : List ℕ} → Refines A n gs hs → Refines A n hs ks → Refines A n gs ks
  refines_on v w = record {
    whole = w.whole;
    up = λ q. omega (arith, v.up q, w.up q);
    finer = λ p q hp hq e. v.finer p q hp hq (w.finer p q hp hq e);
    keeps = λ name a k. w.keeps name a (v.keeps name a k);
  }

  pub refines_for : {B : (ℕ → ℕ) → Type 0} {gs hs : List ℕ} → ((name : ℕ → ℕ) → B name → A name) → Refines A n gs hs → Refines B n gs hs
  refines_for h w = record { whole = w.whole; up = w.up; finer = w.finer; keeps = λ name b k. w.keeps name (h name b) k }

  -- nothing was parted on the way if nothing was in the end
  pub same_first : {gs hs ks : List ℕ} → Refines A n gs hs → Refines A n hs ks → Same gs ks → Same gs hs
  same_first v w e q h = omega (arith, v.up q, w.up q, e q h)

  pub same-last : {gs hs ks : List ℕ} → Refines A n gs hs → Refines A n hs ks → Same gs ks → Same hs ks
  same-last v w e q h = omega (arith, v.up q, w.up q, e q h)

-- ---- what is clean stays so if nothing is parted
-- lists of the same states
pub map_same : (f g : ℕ → ℕ) (n : ℕ) {is : List ℕ} → ((i : ℕ) → i < n → f i ≡ g i) → Each (λ (i : ℕ). i < n) is → map f is ≡ map g is
map_same f g n h nil = refl
map_same f g n h (cons {x} p e) = let a = h x p in let b = map_same f g n h e in cc

pub map_self : (f : ℕ → ℕ) (n : ℕ) {is : List ℕ} → ((i : ℕ) → i < n → f i ≡ i) → Each (λ (i : ℕ). i < n) is → map f is ≡ is
map_self f n h nil = refl
map_self f n h (cons {x} p e) = let a = h x p in let b = map_self f n h e in cc

pub clean-same : (f : Step) (gs hs : List ℕ) (l k n : ℕ) (is : List ℕ) → ((js : List ℕ) → f l js < 64) → Same gs hs → n ≤ 64 → Tuple k n is
    → Clean f gs l is → Clean f hs l is
clean-same f gs hs l k n is small e h t c =
    sym (e (f l is) (small is)) ∙ c ∙ e (f l (map (class_in gs) is)) (small (map (class_in gs) is))
    ∙ ap (λ (js : List ℕ). class_in hs (f l js)) (map_same (class_in gs) (class_in hs) n (λ i b. e i (omega arith)) t.below)

-- ---- sums
pub total-small : (gs : List ℕ) (m : ℕ) → Low gs → m ≤ 64 → total gs m ≤ m * 64
unfolding total
total-small gs zero low h = omega arith
total-small gs (suc m) low h = let a = total-small gs m low (omega arith) in let b = low m in rw suc-mul (omega arith)

total_up : (gs hs : List ℕ) (m : ℕ) → ((q : ℕ) → class_in gs q ≤ class_in hs q) → total gs m ≤ total hs m
unfolding total
total_up gs hs zero h = omega arith
total_up gs hs (suc m) h = let a = total_up gs hs m h in let b = h m in omega arith

pub total-same : (gs hs : List ℕ) (m : ℕ) → ((q : ℕ) → class_in gs q ≤ class_in hs q) → total gs m ≡ total hs m → (q : ℕ) → q < m → class_in gs q ≡ class_in hs q
unfolding total
total-same gs hs zero h e q b = absurd (omega arith)
total-same gs hs (suc m) h e q b =
    let a = total_up gs hs m h in
    let z = h m in
    ⊎_elim (λ (y : q ≡ m). let w : class_in gs m ≡ class_in hs m = omega arith in ap (class_in gs) y ∙ w ∙ sym (ap (class_in hs) y))
    (λ (l : q < m). total-same gs hs m h (omega arith) q l) (eq-or-lt_of_le (omega arith))

pub total-less : {A : (ℕ → ℕ) → Type 0} {n : ℕ} (gs hs : List ℕ) → Refines A n gs hs → (Same gs hs → ⊥) → total gs 64 < total hs 64
total-less gs hs w d =
    ⊎_elim (λ (e : total gs 64 ≡ total hs 64). absurd (d (total-same gs hs 64 w.up e))) (λ (l : total gs 64 < total hs 64). l)
    (eq-or-lt_of_le (total_up gs hs 64 w.up))

-- the measure of a loop that parts
pub room-less : {A : (ℕ → ℕ) → Type 0} {n : ℕ} (gs hs : List ℕ) → Refines A n gs hs → (Same gs hs → ⊥) → (total gs 64 < total hs 64) × (total hs 64 ≤ 4096)
room-less gs hs w d = (total-less gs hs w d, total-small hs 64 w.whole.low (omega arith))

-- and of one that ends when the sum stays
pub room-left : {A : (ℕ → ℕ) → Type 0} {n : ℕ} (gs hs : List ℕ) → Refines A n gs hs → (total hs 64 ≡ total gs 64 → ⊥) → (total gs 64 < total hs 64) × (total hs 64 ≤ 4096)
room-left gs hs w d =
    let a = total_up gs hs 64 w.up in
    let b = total-small hs 64 w.whole.low (omega arith) in
    (omega arith, omega arith)

-- ---- a class split
such_means : (key : ℕ → ℕ) (gs : List ℕ) (r v p : ℕ) → is_such key gs r v p ≡ true → (class_in gs p ≡ r) × (key p ≡ v)
such_means key gs r v p e =
    let w = and_both (eqb (class_in gs p) r) (eqb (key p) v) e in (eqb-true (class_in gs p) r w.0, eqb-true (key p) v w.1)

such_is : (key : ℕ → ℕ) (gs : List ℕ) (r v p : ℕ) → class_in gs p ≡ r → key p ≡ v → is_such key gs r v p ≡ true
such_is key gs r v p e d = rw (eq-eqb (class_in gs p) r e, eq-eqb (key p) v d) refl

such_other : (key : ℕ → ℕ) (gs : List ℕ) (r v p : ℕ) → (class_in gs p ≡ r → ⊥) → is_such key gs r v p ≡ false
such_other key gs r v p d = rw (ne_eqb (class_in gs p) r d) refl

such_key : (key : ℕ → ℕ) (gs : List ℕ) (r v p : ℕ) → (key p ≡ v → ⊥) → is_such key gs r v p ≡ false
such_key key gs r v p d = rw (ne_eqb (key p) v d, and-false) refl

module _ (key : ℕ → ℕ) (n r : ℕ) (gs hs : List ℕ) (W : Whole gs) (w : SplitBy key n r gs hs) where
  inside : (q : ℕ) → ((q < n) × (class_in gs q ≡ r)) ⊎ (q < n → class_in gs q ≡ r → ⊥)
  inside q = elim (dec_lt q n) [
    | no l ↦ inr (λ h e. l h)
    | yes l ↦ elim (ℕ_discrete (class_in gs q) r) [ yes e ↦ inl (l, e) | no e ↦ inr (λ h. e) ]
  ]

  first_means : (q : ℕ) → q < n → class_in gs q ≡ r → (class_in gs (class_in hs q) ≡ r) × (key (class_in hs q) ≡ key q)
  first_means q h e = such_means key gs r (key q) (class_in hs q) (w.parted q h e).passes

  split_stays : (q : ℕ) → class_in gs (class_in hs q) ≡ class_in gs q
  split_stays q = ⊎_elim (λ (i : (q < n) × (class_in gs q ≡ r)). (first_means q i.0 i.1).0 ∙ sym i.1)
      (λ (o : q < n → class_in gs q ≡ r → ⊥). ap (class_in gs) (w.others q o) ∙ W.own q) (inside q)

  split-low : Low hs
  split-low q = ⊎_elim (λ (i : (q < n) × (class_in gs q ≡ r)). (w.parted q i.0 i.1).up_to)
      (λ (o : q < n → class_in gs q ≡ r → ⊥). omega (arith, w.others q o, W.low q)) (inside q)

  split-same : (p q : ℕ) → p < n → q < n → class_in gs p ≡ r → class_in gs q ≡ r → key p ≡ key q → class_in hs p ≡ class_in hs q
  split-same p q hp hq ep eq e =
      first_one (is_such key gs r (key p)) (is_such key gs r (key q)) (λ x. ap (λ (v : ℕ). is_such key gs r v x) e) (w.parted p hp ep) (w.parted q hq eq)

  split-own : (q : ℕ) → class_in hs (class_in hs q) ≡ class_in hs q
  split-own q = ⊎_elim
      (λ (i : (q < n) × (class_in gs q ≡ r)).
      let m = first_means q i.0 i.1 in
      split-same (class_in hs q) q (let a = split-low q in omega (arith, i.0)) i.0 m.0 i.1 m.1)
      (λ (o : q < n → class_in gs q ≡ r → ⊥).
      let v : ℕ = class_in hs q in
      let e : class_in gs v ≡ v = split_stays q ∙ sym (w.others q o) in
      ⊎_elim (λ (j : (v < n) × (class_in gs v ≡ r)).
      let a = split-low v in
      let b = W.low (class_in hs v) in
      let z = split_stays v in omega arith)
      (λ (u : v < n → class_in gs v ≡ r → ⊥). w.others v u ∙ e) (inside v)) (inside q)

  pub split-whole : Whole hs
  split-whole = record { long = w.long ∙ W.long; low = split-low; own = split-own }

  pub split_refines : {A : (ℕ → ℕ) → Type 0}
      → ((name : ℕ → ℕ) → A name → Keeps n name gs → (p q : ℕ) → p < n → q < n → name p ≡ name q → key p ≡ key q) → Refines A n gs hs
  split_refines {A} respects = record {
    whole = split-whole;
    up = λ q. let a = W.low (class_in hs q) in let e = split_stays q in omega arith;
    finer = λ p q hp hq e. sym (split_stays p) ∙ ap (class_in gs) e ∙ split_stays q;
    keeps = λ name a k p q hp hq e.
        let z = k p q hp hq e in
        ⊎_elim (λ (i : (p < n) × (class_in gs p ≡ r)). split-same p q hp hq i.1 (sym z ∙ i.1) (respects name a k p q hp hq e))
        (λ (o : p < n → class_in gs p ≡ r → ⊥). w.others p o ∙ z ∙ sym (w.others q (λ h x. o hp (z ∙ x)))) (inside p);
  }

  -- two states of the class with different keys: something was parted
  pub split_moves : (p : ℕ) → p < n → n ≤ 64 → class_in gs p ≡ r → (key r ≡ key p → ⊥) → Same gs hs → ⊥
  split_moves p h few e d s =
      let z : class_in hs p ≡ r = sym (s p (omega arith)) ∙ e in
      d (ap key (sym z) ∙ (first_means p h e).1)

-- ---- the loop that splits
-- r is the first state below x that passes, or 64 where none does
abbrev pub SeenFirst : (ℕ → Bool) → ℕ → ℕ → Type 0
SeenFirst e x r = ((r ≡ 64) × ((p : ℕ) → p < x → e p ≡ false)) ⊎ ((r < x) × (e r ≡ true) × ((p : ℕ) → p < r → e p ≡ false))

pub seen_pass : (e : ℕ → Bool) (x r : ℕ) → e x ≡ false → SeenFirst e x r → SeenFirst e (x + 1) r
seen_pass e x r o = ⊎_elim
    (λ (w : (r ≡ 64) × ((p : ℕ) → p < x → e p ≡ false)). inl (w.0, below_more _ _ w.1 o))
    (λ (w : (r < x) × (e r ≡ true) × ((p : ℕ) → p < r → e p ≡ false)). inr (omega (arith, w.0), w.1, w.2))

-- one is seen already
pub seen-again : (e : ℕ → Bool) (x r : ℕ) → (r ≡ 64 → ⊥) → SeenFirst e x r → SeenFirst e (x + 1) r × FirstSuch e x r
seen-again e x r d = ⊎_elim
    (λ (w : (r ≡ 64) × ((p : ℕ) → p < x → e p ≡ false)). absurd (d w.0))
    (λ (w : (r < x) × (e r ≡ true) × ((p : ℕ) → p < r → e p ≡ false)).
    (inr (omega (arith, w.0), w.1, w.2), record { up_to = omega (arith, w.0); passes = w.1; none_before = w.2 }))

pub seen-new : (e : ℕ → Bool) (x r : ℕ) → x < 64 → r ≡ 64 → e x ≡ true → SeenFirst e x r → SeenFirst e (x + 1) x × FirstSuch e x x
seen-new e x r h d t = ⊎_elim
    (λ (w : (r ≡ 64) × ((p : ℕ) → p < x → e p ≡ false)).
    (inr (omega arith, t, w.1), record { up_to = omega arith; passes = t; none_before = w.1 }))
    (λ (w : (r < x) × (e r ≡ true) × ((p : ℕ) → p < r → e p ≡ false)). absurd (omega (arith, w.0)))

-- the states below x are split: the classes so far, and the first state seen with each key
pub record Splitting (key : ℕ → ℕ) (r : ℕ) (gs hs seen : List ℕ) (x : ℕ) : Type 0 where
  pub room : length hs ≡ 64
  pub space : length seen ≡ 64
  pub firsts : (v : ℕ) → v < 64 → SeenFirst (is_such key gs r v) x (get_or seen v 0)
  pub done : SplitBy key x r gs hs

module _ (key : ℕ → ℕ) (r : ℕ) (gs hs seen : List ℕ) (x : ℕ) (w : Splitting key r gs hs seen x) where
  pub split_pass : (class_in gs x ≡ r → ⊥) → Splitting key r gs hs seen (x + 1)
  split_pass d = record {
    room = w.room;
    space = w.space;
    firsts = λ v h. seen_pass (is_such key gs r v) x (get_or seen v 0) (such_other key gs r v x d) (w.firsts v h);
    done = record {
      long = w.done.long;
      parted = λ q h e. ⊎_elim (λ (y : q ≡ x). absurd (d (ap (class_in gs) (sym y) ∙ e))) (λ (l : q < x). w.done.parted q l e) (eq-or-lt_of_le (omega arith));
      others = λ q o. w.done.others q (λ h e. o (omega arith) e);
    };
  }

  -- with the first states seen, x among them, and the one with its key
  take : (seen' : List ℕ) → x < 64 → class_in gs x ≡ r → length seen' ≡ 64 → ((v : ℕ) → v < 64 → SeenFirst (is_such key gs r v) (x + 1) (get_or seen' v 0))
      → FirstSuch (is_such key gs r (key x)) x (get_or seen' (key x) 0) → Splitting key r gs (set hs x (get_or seen' (key x) 0)) seen' (x + 1)
  take seen' h e long firsts f =
      let u : ℕ = get_or seen' (key x) 0 in
      record {
        room = length-set hs x u ∙ w.room;
        space = long;
        firsts = firsts;
        done = record {
          long = length-set hs x u ∙ w.done.long;
          parted = λ q b eq. ⊎_elim
              (λ (y : q ≡ x). subst (λ (z : ℕ). FirstSuch (is_such key gs r (key z)) z (class_in (set hs x u) z)) (sym y)
              (subst (FirstSuch (is_such key gs r (key x)) x) (sym (get_or-set_same hs x u 0 (omega (arith, w.room)))) f))
              (λ (l : q < x). subst (FirstSuch (is_such key gs r (key q)) q) (sym (get_or-set_other hs x q u 0 (λ z. omega arith))) (w.done.parted q l eq))
              (eq-or-lt_of_le (omega arith));
          others = λ q o. elim (ℕ_discrete q x) [
            | yes y ↦ absurd (o (omega arith) (ap (class_in gs) y ∙ e))
            | no y ↦ get_or-set_other hs x q u 0 y ∙ w.done.others q (λ b eq. o (omega arith) eq)
          ];
        };
      }

  other_key : (v : ℕ) → (v ≡ key x → ⊥) → v < 64 → SeenFirst (is_such key gs r v) (x + 1) (get_or seen v 0)
  other_key v d h = seen_pass (is_such key gs r v) x (get_or seen v 0) (such_key key gs r v x (λ e. d (sym e))) (w.firsts v h)

  pub split-old : x < 64 → key x < 64 → class_in gs x ≡ r → (get_or seen (key x) 0 ≡ 64 → ⊥) → Splitting key r gs (set hs x (get_or seen (key x) 0)) seen (x + 1)
  split-old h hk e d =
      let z = seen-again (is_such key gs r (key x)) x (get_or seen (key x) 0) d (w.firsts (key x) hk) in
      take seen h e w.space
      (λ v b. elim (ℕ_discrete v (key x)) [
        | yes y ↦ subst (λ (u : ℕ). SeenFirst (is_such key gs r u) (x + 1) (get_or seen u 0)) (sym y) z.0
        | no y ↦ other_key v y b
      ]) z.1

  pub split-new : x < 64 → key x < 64 → class_in gs x ≡ r → get_or seen (key x) 0 ≡ 64
      → Splitting key r gs (set hs x (get_or (set seen (key x) x) (key x) 0)) (set seen (key x) x) (x + 1)
  split-new h hk e d =
      let z = seen-new (is_such key gs r (key x)) x (get_or seen (key x) 0) h d (such_is key gs r (key x) x e refl) (w.firsts (key x) hk) in
      let y = get_or-set_same seen (key x) x 0 (omega (arith, w.space)) in
      take (set seen (key x) x) h e (length-set seen (key x) x ∙ w.space)
      (λ v b. elim (ℕ_discrete v (key x)) [
        | yes u ↦ subst (λ (k : ℕ). SeenFirst (is_such key gs r k) (x + 1) (get_or (set seen (key x) x) k 0)) (sym u)
            (subst (SeenFirst (is_such key gs r (key x)) (x + 1)) (sym y) z.0)
        | no u ↦ subst (SeenFirst (is_such key gs r v) (x + 1)) (sym (get_or-set_other seen (key x) v x 0 u)) (other_key v u b)
      ])
      (subst (FirstSuch (is_such key gs r (key x)) x) (sym y) z.1)

  -- one state of the class more: its key k is new or seen already
  pub split_step : (k : ℕ) (seen' : List ℕ) → k ≡ key x → x < 64 → key x < 64 → class_in gs x ≡ r
      → ((get_or seen k 0 ≡ 64) × (seen' ≡ set seen k x)) ⊎ ((get_or seen k 0 ≡ 64 → ⊥) × (seen' ≡ seen))
      → Splitting key r gs (set hs x (get_or seen' k 0)) seen' (x + 1)
  split_step k seen' ek h hk e o = ⊎_elim
      (λ (w : (get_or seen k 0 ≡ 64) × (seen' ≡ set seen k x)). rw (w.1, ek) (split-new h hk e (ap (λ (z : ℕ). get_or seen z 0) (sym ek) ∙ w.0)))
      (λ (w : (get_or seen k 0 ≡ 64 → ⊥) × (seen' ≡ seen)). rw (w.1, ek) (split-old h hk e (λ z. w.0 (ap (λ (z : ℕ). get_or seen z 0) ek ∙ z)))) o

pub split-start : (key : ℕ → ℕ) (r : ℕ) (gs seen : List ℕ) → length gs ≡ 64 → length seen ≡ 64 → ((v : ℕ) → v < 64 → get_or seen v 0 ≡ 64) → Splitting key r gs gs seen 0
split-start key r gs seen a b h = record {
  room = a;
  space = b;
  firsts = λ v l. inl (h v l, λ p c. absurd (omega arith));
  done = record { long = refl; parted = λ q l. absurd (omega arith); others = λ q o. refl };
}
