-- What request A8 changed: the machines, refusal 14 and the answers as they were before it, when nothing was joined. Where 14 did not apply
-- then it does not now, and the answers differ in the number of states alone, which is never more. Assumes nothing.
use Prim.Native.Nat.{ℕ, ◌*◌, ◌^◌, ◌≤◌, ◌<◌}
use mathlib.Core.Path.{◌≡◌, refl, sym, ap, ◌∙◌}
use mathlib.Core.Bool.{Bool, ◌&&◌, ◌||◌}
use mathlib.Core.List.{List, []}
use native.Mathlib.Decide.{dec_lt}
use native.Mathlib.Omega.{arith}
use lib.ListN.{length}
use Rattle.logic.specs.Meaning.{Formula, subset, singleton, successor, root, negation, disjunction, conjunction, exists, Valid}
use Rattle.logic.specs.Tree.{Tree, empty, Proper}
use Rattle.logic.specs.Rule.{Record, extend, formula_at, last_of, Accepted}
use Rattle.logic.specs.ReachedRecords.{ReachedRecord, names_in, is_reached}
use Rattle.logic.specs.Machine.{Machine, Bounded, run}
use Rattle.logic.specs.Reach.{projection}
use Rattle.logic.specs.Alike.{Full, Comes}
use Rattle.logic.specs.Table.{Table, coded_product, build, product_table, projection_table, complement_table, table_by, Built, over, built, build_all}
use Rattle.logic.specs.Joined.{join, constructed, joined_table}
use Rattle.logic.specs.Search.{Sought, tree, large, absent, search}
use Rattle.logic.specs.Claims.{Outcome, refused14, shown, none, larger, Judgement, Roomy, LeastForRule}
use Rattle.logic.specs.Decide.{report, conclude, last_table, decide_of, say, ruling, judge_of}
use Rattle.logic.proofs.Connectives.{run-complement}
use Rattle.logic.proofs.Projection.{projection-bounded}
use Rattle.logic.proofs.Tables.{Right, table-right, product-bounded}
use Rattle.logic.proofs.Alike.{build-alike, product-kernel, projection-kernel}
use Rattle.logic.proofs.Rules.{record_valid, rule-reached, reached-within, extend-length, tables_in, Says, built-says}
use Rattle.logic.proofs.Satisfiable.{reached-tree}
use Rattle.logic.proofs.Apart.{apart-≢}
use Rattle.logic.proofs.Classes.{at_most}
use Rattle.logic.proofs.Joining.{joined-kernel}
use Rattle.logic.proofs.Joined.{deciders_agree, join-right, constructed-right, joined-right, least-below, below_unique, joined-few}
use Rattle.logic.proofs.Shown.{search-same}
use Rattle.logic.proofs.Answers.{last-valid, decide-roomy, judge_roomy}

-- ---- as it was
-- document 01's machine of a formula: its parts' machines are kept as they are built
abbrev pub plain_table : {k : ℕ} → ℕ → Formula k → Table k
plain_table n f = table_by (λ a. a) n f

-- refusal 14 did not apply
abbrev pub PlainRoomy : (k n : ℕ) → List Record → ℕ → Type 0
PlainRoomy k n rs c = (r : ℕ) → ReachedRecord rs r → (plain_table {k = k} n (formula_at rs r)).count ≤ c

abbrev pub plain_rule : {k : ℕ} → ℕ → ℕ → List Record → Built k
plain_rule n c rs = build_all (λ a. a) n c (is_reached (names_in rs) (length rs)) rs []

-- the answers
unfoldable pub plain_decide : (k n : ℕ) → List Record → ℕ → ℕ → Outcome k
plain_decide k n rs c P = conclude n rs P (plain_rule n c rs)

unfoldable pub plain_judge : {k : ℕ} → ℕ → List Record → ℕ → Tree k → Judgement
plain_judge n rs c t = ruling n rs t (plain_rule n c rs)

-- the same answer with q for the reported states
unfoldable pub restate : {k : ℕ} → ℕ → Outcome k → Outcome k
restate q (refused14 r) = refused14 r
restate q (shown places states t) = shown places q t
restate q (none states) = none q
restate q (larger states) = larger q

pub plain-right : {k : ℕ} (n : ℕ) (f : Formula k) → Valid n f → Right n f (plain_table n f)
plain-right n f v = table-right n (λ a. a) (λ g a r. r) f v

-- ---- fewer states
-- M tells apart no trees that N does not tell apart
abbrev pub Coarser : {k : ℕ} → ℕ → Machine k ℕ → Machine k ℕ → Type 0
Coarser {k} n M N = (t u : Tree k) → Proper n t → Proper n u → run N t ≡ run N u → run M t ≡ run M u

-- it then has no more states
pub coarser-count : {k : ℕ} (n c d : ℕ) (M N : Machine k ℕ) → Coarser n M N → Full n c M → Full n d N → c ≤ d
coarser-count {k} n c d M N h F G = at_most n c d N G.0 ((λ i. (at i).0), (λ i l. ((at i).1 l).0), distinct)
  where
    at : (i : ℕ) → (t : Tree k) × (i < c → Proper n t × (run M t ≡ i))
    at i = elim (dec_lt i c) [ yes p ↦ (let w = reached-tree n M i (F.1 i p) in (w.0, λ _. (w.1, w.2))) | no p ↦ (empty, λ l. absurd (p l)) ]

    distinct : (i j : ℕ) → i < j → j < c → run N (at i).0 ≡ run N (at j).0 → ⊥
    distinct i j l p e =
        let a = (at i).1 (omega arith) in let b = (at j).1 p in
        let z : i ≡ j = sym a.1 ∙ h (at i).0 (at j).0 a.0 b.0 e ∙ b.1 in
        omega arith

module _ {k : ℕ} (n : ℕ) where
  -- joining tells no more apart
  joined-coarser : (a : Table k) → Full n a.count a.machine → Coarser n (join n a).machine a.machine
  joined-coarser a F t u o o' e = (joined-kernel n a F t u o o').1 (λ x. apart-≢ n a.count a.machine F.0 x e)

  coarser-built : (c d : ℕ) (M N : Machine k ℕ) → Bounded n c M → Bounded n d N → Coarser n M N → Coarser n (build n c M).machine (build n d N).machine
  coarser-built c d M N B C h t u o o' e = (build-alike n c M B t u o o').1 (h t u o o' ((build-alike n d N C t u o o').0 e))

  coarser-product : (op : Bool → Bool → Bool) (a b a' b' : Table k) → Bounded n a.count a.machine → Bounded n b.count b.machine → Bounded n a'.count a'.machine → Bounded n b'.count b'.machine
      → Coarser n a.machine a'.machine → Coarser n b.machine b'.machine → Coarser n (product_table n op a b).machine (product_table n op a' b').machine
  unfolding product_table
  coarser-product op a b a' b' A B A' B' h h' =
      coarser-built (a.count * b.count) (a'.count * b'.count) (coded_product op b.count a.machine b.machine) (coded_product op b'.count a'.machine b'.machine)
      (product-bounded n op a.count b.count a.machine b.machine A B) (product-bounded n op a'.count b'.count a'.machine b'.machine A' B')
      (λ t u o o' e.
      let w = (product-kernel n op a'.count b'.count a'.machine b'.machine A' B' t u o o').0 e in
      (product-kernel n op a.count b.count a.machine b.machine A B t u o o').1 (h t u o o' w.0, h' t u o o' w.1))

  comes_coarser : (x : ℕ) (M N : Machine k ℕ) → Coarser n M N → (t u : Tree k) → ((q : ℕ) → Comes n x N t q → Comes n x N u q) → (q : ℕ) → Comes n x M t q → Comes n x M u q
  comes_coarser x M N h t u f q w =
      let v = f (run N w.0) (w.0, w.1, w.2, refl) in
      (v.0, v.1, v.2, h v.0 w.0 v.2 w.2 v.3 ∙ w.3)

  coarser-projection : (x : ℕ) → x < n → (a a' : Table k) → Bounded n a.count a.machine → Bounded n a'.count a'.machine
      → Coarser n a.machine a'.machine → Coarser n (projection_table n x a).machine (projection_table n x a').machine
  unfolding projection_table
  coarser-projection x hx a a' A A' h =
      coarser-built (2 ^ a.count) (2 ^ a'.count) (projection n x a.count a.machine) (projection n x a'.count a'.machine)
      (projection-bounded n x a.count hx a.machine A) (projection-bounded n x a'.count hx a'.machine A')
      (λ t u o o' e.
      let w = (projection-kernel n x a'.count hx a'.machine A' t u o o').0 e in
      (projection-kernel n x a.count hx a.machine A t u o o').1
      (λ q. (comes_coarser x a.machine a'.machine h t u (λ r. (w r).0) q, comes_coarser x a.machine a'.machine h u t (λ r. (w r).1) q)))

  -- the joined machine of a part
  part : (f : Formula k) → Valid n f → Coarser n (constructed n f).machine (plain_table n f).machine → Coarser n (join n (constructed n f)).machine (plain_table n f).machine
  part f v h t u o o' e = let r = constructed-right n f v in joined-coarser (constructed n f) (r.0, r.2) t u o o' (h t u o o' e)

  joined-bounded : (f : Formula k) → Valid n f → Bounded n (join n (constructed n f)).count (join n (constructed n f)).machine
  joined-bounded f v = (join-right n f (constructed n f) (constructed-right n f v)).0

  pub constructed-coarser : (f : Formula k) → Valid n f → Coarser n (constructed n f).machine (plain_table n f).machine
  unfolding constructed table_by Valid complement_table
  constructed-coarser (subset x y) v = λ t u o o' e. e
  constructed-coarser (singleton x) v = λ t u o o' e. e
  constructed-coarser (successor i x y) v = λ t u o o' e. e
  constructed-coarser (root x) v = λ t u o o' e. e
  constructed-coarser (negation f) v = λ t u o o' e.
      let J = (join n (constructed n f)).machine in let M = (plain_table n f).machine in
      run-complement J t ∙ part f v (constructed-coarser f v) t u o o' (sym (run-complement M t) ∙ e ∙ run-complement M u) ∙ sym (run-complement J u)
  constructed-coarser (disjunction f g) v =
      coarser-product ◌||◌ (join n (constructed n f)) (join n (constructed n g)) (plain_table n f) (plain_table n g) (joined-bounded f v.0) (joined-bounded g v.1)
      (plain-right n f v.0).0 (plain-right n g v.1).0 (part f v.0 (constructed-coarser f v.0)) (part g v.1 (constructed-coarser g v.1))
  constructed-coarser (conjunction f g) v =
      coarser-product ◌&&◌ (join n (constructed n f)) (join n (constructed n g)) (plain_table n f) (plain_table n g) (joined-bounded f v.0) (joined-bounded g v.1)
      (plain-right n f v.0).0 (plain-right n g v.1).0 (part f v.0 (constructed-coarser f v.0)) (part g v.1 (constructed-coarser g v.1))
  constructed-coarser (exists x f) v =
      coarser-projection x v.0 (join n (constructed n f)) (plain_table n f) (joined-bounded f v.1) (plain-right n f v.1).0 (part f v.1 (constructed-coarser f v.1))

  pub constructed-fewer : (f : Formula k) → Valid n f → (constructed n f).count ≤ (plain_table n f).count
  constructed-fewer f v =
      let r = constructed-right n f v in let s = plain-right n f v in
      coarser-count n (constructed n f).count (plain_table n f).count (constructed n f).machine (plain_table n f).machine (constructed-coarser f v) (r.0, r.2) (s.0, s.2)

  -- THE STATES ARE NEVER MORE than before
  pub joined-fewest : (f : Formula k) → Valid n f → (joined_table n f).count ≤ (plain_table n f).count
  joined-fewest f v = let a = constructed-fewer f v in let b = joined-few n f v in omega arith

-- ---- the same answers
restate-report : {k : ℕ} (q s : ℕ) (x : Sought k) → restate q (report s x) ≡ report q x
unfolding restate report
restate-report q s (tree t) = refl
restate-report q s large = refl
restate-report q s absent = refl

module _ (k n : ℕ) (rs : List Record) (c : ℕ) (ok : Accepted k n rs) where
  -- WHERE 14 DID NOT APPLY it does not now
  pub no_new_refusal : PlainRoomy k n rs c → Roomy k n rs c
  no_new_refusal R r u =
      let a = constructed-fewer {k = k} n (formula_at rs r) (record_valid k n rs ok.1 r (reached-within k n rs ok r u)) in let b = R r u in omega arith

  abbrev F : Formula k
  F = formula_at rs (last_of rs)

  abbrev Last : Table k
  Last = plain_table n F

  abbrev used : ℕ → Bool
  used = is_reached (names_in rs) (length rs)

  abbrev Told : Built k → Type 0
  Told = Says k (λ a. a) n c used (extend [] rs)

  told : Told (plain_rule n c rs)
  told = built-says k (λ a. a) n c used rs

  long : length (extend {k = k} [] rs) ≡ length rs
  long = extend-length rs [] ∙ omega arith

  plain-last : (ts : List (Table k)) → Told (built ts) → last_table n rs ts ≡ Last
  unfolding Says formula_at
  plain-last ts w =
      ap (λ (us : List (Table k)). last_table n rs us) w.0
      ∙ tables_in k (λ a. a) n c used (extend [] rs) (last_of rs) (let e = long in let h = ok.0 in omega arith) (joined_table n (root 0))

  module _ (R : PlainRoomy k n rs c) where
    no_over : (r : ℕ) → Told (over r) → ⊥
    unfolding Says formula_at
    no_over r w = let a = R r ((rule-reached k n rs ok r).0 w.0) in let b = w.1 in omega arith

    plain-decided : (P : ℕ) → plain_decide k n rs c P ≡ report Last.count (search (2 ^ n) Last P)
    unfolding plain_decide conclude
    plain-decided P = go (plain_rule n c rs) told
      where
        go : (b : Built k) → Told b → conclude n rs P b ≡ report Last.count (search (2 ^ n) Last P)
        go (over r) w = absurd (no_over r w)
        go (built ts) w = ap (λ (a : Table k). report a.count (search (2 ^ n) a P)) (plain-last ts w)

    plain-judged : (t : Tree k) → plain_judge n rs c t ≡ say (Last.machine.accepting (run Last.machine t))
    unfolding plain_judge ruling
    plain-judged t = go (plain_rule n c rs) told
      where
        go : (b : Built k) → Told b → ruling n rs t b ≡ say (Last.machine.accepting (run Last.machine t))
        go (over r) w = absurd (no_over r w)
        go (built ts) w = ap (λ (a : Table k). say (a.machine.accepting (run a.machine t))) (plain-last ts w)

    -- SHOWN TREES DO NOT CHANGE, nor does "none" or "larger": the reported states do, and nothing else
    pub only-states_change : (P q : ℕ) → LeastForRule k n rs q → decide_of k n rs c P ≡ restate q (plain_decide k n rs c P)
    only-states_change P q l =
        let v = last-valid k n rs c P ok in
        let j = joined-right n F v in
        let r = plain-right n F v in
        decide-roomy k n rs c P ok (no_new_refusal R)
        ∙ ap (report (joined_table n F).count) (search-same n P (joined_table n F) Last (j.0, j.2) (r.0, r.2)
        (deciders_agree n F (joined_table n F).machine Last.machine j.1 r.1))
        ∙ ap (λ (z : ℕ). report z (search (2 ^ n) Last P)) (below_unique n F (joined_table n F).count q (least-below n F v) l)
        ∙ sym (restate-report q Last.count (search (2 ^ n) Last P)) ∙ ap (restate q) (sym (plain-decided P))

    -- NOR DOES A JUDGEMENT
    pub same-judgement : (t : Tree k) → Proper n t → judge_of n rs c t ≡ plain_judge n rs c t
    same-judgement t o =
        let v = last-valid k n rs c 0 ok in
        judge_roomy k n rs c 0 ok t (no_new_refusal R)
        ∙ ap say (deciders_agree n F (joined_table n F).machine Last.machine (joined-right n F v).1 (plain-right n F v).1 t o)
        ∙ sym (plain-judged t)
