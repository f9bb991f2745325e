-- The bits that a record looks at: it does not tell apart two labels that differ in other bits alone. Assumes nothing.
use Rattle.words.proofs.Vocabulary.{ℕ, ◌≤◌, ◌<◌, ◌+◌, ◌*◌, suc, ◌%◌, zero, ◌^◌, ◌/◌, Bool, true, false, ◌||◌, ◌&&◌, cond, or-true, and-true, and_self}
use Rattle.words.proofs.Vocabulary.{◌≡◌, ◌∙◌, refl, sym, ap, ap₂, eq-eqb, mod-mul, bit_or, and_le_l, eqb, eqb·suc-suc, eqb·suc-zero, eqb·zero-suc}
use Rattle.words.proofs.Vocabulary.{List, map, pow_pos, pow_mono, add-zero, pow-suc, div-div-eq-div-mul, mul_assoc, arith}
use Rattle.table.specs.Entry.{seen, Step, through, off, on, Power}
use Rattle.table.specs.Succ.{first_part, second_part, pair_code, hit, choice, exists_code, atom_index, rule_at, subset_rule, single_rule, child1_rule, child2_rule}
use Rattle.table.specs.Succ.{root_rule, kind_code, looks_of}
use Rattle.words.specs.Word.{mem, digit, word_where}
use Rattle.ops.specs.declared.Op.{Op}
use Rattle.ops.specs.declared.Op.TheVariants.{Subset, Single, Child1, Child2, Root, Not, Or, And, Exists}
use Rattle.words.proofs.WordLaws.{mem_or, mem_and, mem-one, mem_shr, digit-mem, word_ext}

-- ---- numbers with the same members are the same
lt_two : (n : ℕ) → n < 2 ^ n
lt_two zero = pow_pos 0
lt_two (suc n) = omega (arith, lt_two n, pow-suc 2 n)

pub mem_ext : (a b : ℕ) → ((q : ℕ) → mem q a ≡ mem q b) → a ≡ b
mem_ext a b h =
    let ha : a < 2 ^ (a + b) = omega (arith, lt_two a, pow_mono {i = a} {j = a + b} (omega arith)) in
    let hb : b < 2 ^ (a + b) = omega (arith, lt_two b, pow_mono {i = b} {j = a + b} (omega arith)) in
    word_ext (a + b) a (λ (q : ℕ). mem q b) ha (λ q l. h q) ∙ sym (word_ext (a + b) b (λ (q : ℕ). mem q b) hb (λ q l. refl))

-- ---- a label as it is seen
pub seen_le : (f l : ℕ) → seen f l ≤ l
unfolding seen
seen_le f l = and_le_l l f

mem-seen : (q f l : ℕ) → mem q (seen f l) ≡ (mem q l && mem q f)
unfolding seen
mem-seen q f l = mem_and q l f

-- what h leaves out is not in f
within : (a h f : Bool) → (f && h) ≡ f → ((a && h) && f) ≡ (a && f)
within false h f e = refl
within true true f e = refl
within true false true e = e
within true false false e = refl

seen-within : (f h l : ℕ) → ((q : ℕ) → (mem q f && mem q h) ≡ mem q f) → seen f (seen h l) ≡ seen f l
seen-within f h l e = mem_ext (seen f (seen h l)) (seen f l) λ q. simp mem-seen (within (mem q l) (mem q h) (mem q f) (e q))

pub seen-seen : (f l : ℕ) → seen f (seen f l) ≡ seen f l
seen-seen f l = seen-within f f l (λ q. and_self (mem q f))

left : (a b : Bool) → (a && (a || b)) ≡ a
left true b = refl
left false b = refl

right : (a b : Bool) → (b && (a || b)) ≡ b
right a true = or-true a
right a false = refl

seen-left : (f g l : ℕ) → seen f (seen (bit_or f g) l) ≡ seen f l
seen-left f g l = seen-within f (bit_or f g) l (λ q. simp mem_or (left (mem q f) (mem q g)))

seen-right : (f g l : ℕ) → seen g (seen (bit_or f g) l) ≡ seen g l
seen-right f g l = seen-within g (bit_or f g) l (λ q. simp mem_or (right (mem q f) (mem q g)))

-- ---- the bit of an atom's variable
digit_of : (k a : ℕ) → a / 2 ^ k % 2 ≡ digit (mem k a)
unfolding mem
digit_of k a = sym (digit-mem (a / 2 ^ k % 2) (omega arith)) ∙ ap digit (mem_shr k zero a ∙ ap (λ (m : ℕ). mem m a) (add-zero k))

bit-seen : (k h l : ℕ) → mem k h ≡ true → seen h l / 2 ^ k % 2 ≡ l / 2 ^ k % 2
bit-seen k h l e = simp (digit_of, mem-seen, e, and-true)

bit-here : (k : ℕ) → mem k (2 ^ k) ≡ true
bit-here k = mem-one k k ∙ eq-eqb k k refl

atom-seen : (wx wy l x y : ℕ) → Power wx → Power wy → atom_index wx wy (seen (bit_or wx wy) l) x y ≡ atom_index wx wy l x y
unfolding atom_index
atom-seen wx wy l x y px py =
    let k = px.0 in
    let j = py.0 in
    let a = bit-seen k (bit_or (2 ^ k) (2 ^ j)) l (simp (mem_or, bit-here)) in
    let b = bit-seen j (bit_or (2 ^ k) (2 ^ j)) l (simp (mem_or, bit-here, or-true)) in
    rw (px.1, py.1, a, b)

-- a rule at the place of a label and two states
pub rule-bits : (f : ℕ → ℕ → ℕ → ℕ → ℕ) (wx wy l x y : ℕ) → rule_at f (atom_index wx wy l x y) ≡ f (l / wx % 2) (l / wy % 2) (x % 4) (y % 4)
unfolding atom_index
rule-bits f wx wy l x y =
    let p = l / wx % 2 in
    let q = l / wy % 2 in
    let k = p * 32 + q * 16 + x % 4 * 4 + y % 4 in
    let a : k / 32 ≡ p = omega arith in
    let b : k / 16 % 2 ≡ q = omega arith in
    let c : k / 4 % 4 ≡ x % 4 = omega arith in
    let d : k % 4 ≡ y % 4 = omega arith in
    rw (a, b, c, d)

-- an atom with one variable
module _ (f : ℕ → ℕ → ℕ → ℕ → ℕ) (one : (p q q' i j : ℕ) → f p q i j ≡ f p q' i j) where
  unary_seen : (wx wy l x y : ℕ) → Power wx → rule_at f (atom_index wx wy (seen wx l) x y) ≡ rule_at f (atom_index wx wy l x y)
  unary_seen wx wy l x y px =
      let k = px.0 in
      let m = seen (2 ^ k) l in
      let a : m / 2 ^ k % 2 ≡ l / 2 ^ k % 2 = bit-seen k (2 ^ k) l (bit-here k) in
      rw (px.1, rule-bits f (2 ^ k) wy m x y, rule-bits f (2 ^ k) wy l x y, a) (one (l / 2 ^ k % 2) (m / wy % 2) (l / wy % 2) (x % 4) (y % 4))

-- ---- the bound bit
off_suc : (k l : ℕ) → off (2 ^ suc k) l ≡ off (2 ^ k) (l / 2) * 2 + l % 2
unfolding off
off_suc k l =
    let w = 2 ^ k in
    let q = l / 2 / (2 * w) in
    let d : 2 * (w * 2) ≡ 2 * (2 * w) = omega arith in
    let e : 2 * (2 * w) ≡ 2 * w * 2 = omega arith in
    let c : q * (2 * (2 * w)) ≡ q * (2 * w) * 2 = rw (e, mul_assoc q (2 * w) 2) in
    rw (pow-suc 2 k, d, ← div-div-eq-div-mul l 2 (2 * w), mod-mul l {m = w} {c = 2} (pow_pos k) (omega arith)) (omega arith)

-- the label with the bit of weight w put to b
abbrev put : Bool → ℕ → ℕ → ℕ
put true w l = on w l
put false w l = off w l

put_one : (b : Bool) (l : ℕ) → (put b 1 l % 2 ≡ digit b) × (put b 1 l / 2 ≡ l / 2)
unfolding off on
put_one true l = (omega arith, omega arith)
put_one false l = (omega arith, omega arith)

put_suc : (b : Bool) (k l : ℕ) → put b (2 ^ suc k) l ≡ put b (2 ^ k) (l / 2) * 2 + l % 2
unfolding on
put_suc true k l = omega (arith, off_suc k l, pow-suc 2 k)
put_suc false k l = off_suc k l

digit-one : (b : Bool) → eqb (digit b) 1 ≡ b
digit-one true = refl
digit-one false = refl

mem-put : (b : Bool) (k q l : ℕ) → mem q (put b (2 ^ k) l) ≡ cond (eqb k q) b (mem q l)
unfolding mem
mem-put b zero zero l = rw (put_one b l).0 (digit-one b)
mem-put b zero (suc q) l = rw (eqb·zero-suc q, (put_one b l).1)
mem-put b (suc k) zero l =
    let e : put b (2 ^ suc k) l % 2 ≡ l % 2 = omega (arith, put_suc b k l) in
    rw (eqb·suc-zero k, e)
mem-put b (suc k) (suc q) l =
    let e : put b (2 ^ suc k) l / 2 ≡ put b (2 ^ k) (l / 2) = omega (arith, put_suc b k l) in
    rw (eqb·suc-suc k q, e) (mem-put b k q (l / 2))

put-seen : (e b a f : Bool) → (cond e b (a && cond e false f) && f) ≡ (cond e b a && f)
put-seen true b a f = refl
put-seen false b true true = refl
put-seen false b true false = refl
put-seen false b false f = refl

seen-put : (b : Bool) (w f l : ℕ) → Power w → seen f (put b w (seen (off w f) l)) ≡ seen f (put b w l)
seen-put b w f l p =
    let k = p.0 in
    let v = 2 ^ k in
    rw p.1 (mem_ext (seen f (put b v (seen (off v f) l))) (seen f (put b v l)) λ q.
    simp (mem-seen, mem-put b k, mem-put false k) (put-seen (eqb k q) b (mem q l) (mem q f)))

-- ---- so a record has the same successors under labels that it sees alike
module _ (e d : Step) (wx wy f g : ℕ) (px : Power wx) (py : Power wy) (l : ℕ) (xs : List ℕ) where
  -- the pair of successors, and the successor code for "exists", from the two labels as the parts see them
  abbrev pair : ℕ → ℕ → ℕ
  pair a b = e a (map first_part xs) * 64 + d b (map second_part xs)

  abbrev union : ℕ → ℕ → ℕ
  union a b = word_where (λ (q : ℕ). choice (λ (is : List ℕ). eqb (e a is % 64) q || eqb (e b is % 64) q) xs) 64

  pub kind-blind : (k : Op)
      → kind_code k (through f e) (through g d) wx wy (seen (looks_of k wx wy f g) l) xs ≡ kind_code k (through f e) (through g d) wx wy l xs
  unfolding kind_code through pair_code exists_code hit
  kind-blind Subset = ap (rule_at subset_rule) (atom-seen wx wy l _ _ px py)
  kind-blind Single = unary_seen single_rule (λ p q q' i j. refl) wx wy l _ _ px
  kind-blind Child1 = ap (rule_at child1_rule) (atom-seen wx wy l _ _ px py)
  kind-blind Child2 = ap (rule_at child2_rule) (atom-seen wx wy l _ _ px py)
  kind-blind Root = unary_seen root_rule (λ p q q' i j. refl) wx wy l _ _ px
  kind-blind Not = refl
  kind-blind Or = ap₂ pair (seen-left f g l) (seen-right f g l)
  kind-blind And = ap₂ pair (seen-left f g l) (seen-right f g l)
  kind-blind Exists = ap₂ union (seen-put false wx f l px) (seen-put true wx f l px)
