-- A8, "Smaller machines", by computation on the definitions, from the bytes of rule strips. Assumes nothing.
use Prim.Native.Nat.{ℕ, ◌/◌, ◌%◌, ◌<◌}
use mathlib.Core.Path.{◌≡◌, refl, sym, ap, ap₂, subst, ◌∙◌}
use mathlib.Core.Logic.{◌↔◌, ◌⊎◌, inl, inr, ⊎_elim}
use mathlib.Core.Bool.{Bool, true, false, cond, not, ◌&&◌, ◌||◌, beq}
use mathlib.Core.List.{List, [], ◌∷◌, map}
use native.Mathlib.Omega.{arith}
use native.Mathlib.Decide.{dec_lt}
use lib.Dec.{T, T_not, eqb, eqb→eq, lit<}
use Rattle.logic.specs.Meaning.{Branch, Formula, Holds}
use Rattle.logic.specs.Tree.{Tree, empty, node, Proper, branches, down_from, sum_of, low, bit}
use Rattle.logic.specs.Trim.{is_empty, bare, Trimmed}
use Rattle.logic.specs.Rule.{Record, successor_at, formula_of, extend, formula_at, last_of, good, good_from}
use Rattle.logic.specs.Machine.{Machine, Bounded, run, all_of, any_of, set_low, with_bit}
use Rattle.logic.specs.Reach.{elem, below, flat, select, outcomes, successors, add, closure, reach, position, numbered, word_of, members, projection}
use Rattle.logic.specs.Table.{table_by, coded_product, build, product_table, projection_table, complement_table}
use Rattle.logic.specs.Joined.{pairs, seeds, splits_at, splits, spread, apart_pairs, numbers, first, class_of, merged, classes, join_by, join, constructed}
use Rattle.logic.specs.Two.{one, two, pair_of, branching}
use Rattle.logic.specs.Least.{DecidesAssigned}
use Rattle.logic.specs.Table.{Table}
use Rattle.logic.specs.Claims.{LeastForRule}
use Rattle.logic.proofs.Branches.{all_iff}
use Rattle.logic.proofs.Connectives.{and_iff}
use Rattle.logic.proofs.Reach.{elem_below}
use Rattle.logic.proofs.Two.{each, two-branches, all-elem}
use Rattle.logic.specs.Alike.{Full}
use Rattle.logic.proofs.Tables.{Right}
use Rattle.logic.proofs.Settle.{run-below}
use Rattle.logic.proofs.Assignments.{tree_of-trimmed}
use Rattle.logic.proofs.Rules.{record_valid}
use Rattle.bits.specs.Bits.{digits, bits}
use Rattle.rule_strip.specs.RuleStrip.{record_at, records_from, records_of}
use Rattle.decide.specs.declared.Verdict.{Verdict}
use Rattle.refusals.specs.declared.Refusal.{Refusal}
use Rattle.std.specs.Prelude.{Result}
use Rattle.examples.proofs.Decided.{Question, answer, with, rec, none, over}
use Rattle.examples.proofs.Drawn.{listed, grid, picked, written, short, drawn, drawn-least, short-drawn-right}

-- "Refusal 14 now compares c with the reachable states of the construction": e, n = 1, X0 = X0 1, of which 2 are built and 1 is left; i, n = 2,
-- X0 = ε and X0 = X1 1, of which 6 are built and 1 is left
pub questions : List Question
questions =
    with 1 255 (0x11 ∷ 0x01 ∷ 0x20 ∷ 0x00 ∷ 0x00 ∷ [])
    ∷ with 2 255 (0x11 ∷ 0x01 ∷ 0x20 ∷ 0x00 ∷ 0x00 ∷ [])
    ∷ with 5 255 (0x12 ∷ 0x03 ∷ 0x40 ∷ 0x00 ∷ 0x08 ∷ 0x00 ∷ 0x17 ∷ 0x00 ∷ 0x04 ∷ [])
    ∷ with 6 255 (0x12 ∷ 0x03 ∷ 0x40 ∷ 0x00 ∷ 0x08 ∷ 0x00 ∷ 0x17 ∷ 0x00 ∷ 0x04 ∷ [])
    ∷ []

pub verdicts : List (Result Verdict Refusal)
verdicts = over 0 ∷ none 1 ∷ over 2 ∷ none 1 ∷ []

pub smaller_told : map (λ q. (answer q).verdict) questions ≡ verdicts
unfolding answer questions verdicts
smaller_told = refl

-- "those with label 0 above two empty branches included": the records of X0 has every prefix of its members. 0: X1 = X2 1; 1: X1 = X2 2; 2: 0 or 1;
-- 3: X1 ⊆ X0; 4: 2 and 3; 5: X2 ⊆ X0; 6: not 5; 7: 4 and 6; 8: exists X1: 7; 9: exists X2: 8; 10: not 9; its strip; and the strip of the same with
-- X1 ⊆ X0 and X2 ⊆ X0, n = 3
unfoldable pub prefixes : List ℕ
prefixes =
    0x13 ∷ 0x0B ∷ 0x20 ∷ 0x20 ∷ 0x8C ∷ 0x08 ∷ 0x26 ∷ 0x00 ∷ 0x04 ∷ 0x00 ∷ 0x80 ∷ 0x70 ∷ 0x40 ∷ 0xC0 ∷ 0x10 ∷ 0x05 ∷ 0x0A ∷ 0x01 ∷ 0xC2 ∷ 0x06 ∷ 0x80
    ∷ 0x21 ∷ 0xE0 ∷ 0x10 ∷ 0x85 ∷ 0x12 ∷ 0x00 ∷ []

unfoldable pub within : List ℕ
within =
    0x13 ∷ 0x0D ∷ 0x20 ∷ 0x20 ∷ 0x8C ∷ 0x08 ∷ 0x26 ∷ 0x00 ∷ 0x04 ∷ 0x00 ∷ 0x80 ∷ 0x70 ∷ 0x40 ∷ 0xC0 ∷ 0x10 ∷ 0x05 ∷ 0x0A ∷ 0x01 ∷ 0xC2 ∷ 0x06 ∷ 0x80
    ∷ 0x21 ∷ 0xE0 ∷ 0x10 ∷ 0x85 ∷ 0x12 ∷ 0x01 ∷ 0xC5 ∷ 0x03 ∷ 0x71 ∷ 0x61 ∷ 0x40 ∷ []

unfoldable pub prefix_records : List Record → List Record
prefix_records rest =
    rec 2 1 2 ∷ rec 3 1 2 ∷ rec 6 0 1 ∷ rec 0 1 0 ∷ rec 7 2 3 ∷ rec 0 2 0 ∷ rec 5 5 0 ∷ rec 7 4 6 ∷ rec 8 1 7 ∷ rec 8 2 8 ∷ rec 5 9 0 ∷ rest

abbrev pub inside_records : List Record
inside_records = rec 7 10 3 ∷ rec 7 11 5 ∷ []

prefixes-read : records_of prefixes ≡ prefix_records []
unfolding prefixes prefix_records records_of records_from record_at bits digits
prefixes-read = refl

within-read : records_of within ≡ prefix_records inside_records
unfolding within prefix_records records_of records_from record_at bits digits
within-read = refl

abbrev last_in : List Record → Formula 2
last_in rs = formula_at rs (last_of rs)

-- the joined machine, written out
abbrev M : List Record → Table 2
M rs = short 3 (drawn 3 (last_in rs))

three : ((M (prefix_records [])).count ≡ 3) × ((M (prefix_records inside_records)).count ≡ 3)
unfolding prefix_records formula_at extend formula_of successor_at dec_lt listed grid picked written short drawn constructed table_by join join_by classes
    merged class_of first numbers apart_pairs spread splits splits_at seeds pairs build product_table projection_table complement_table coded_product reach
    closure add successors flat outcomes below elem position numbered bit low sum_of down_from projection with_bit set_low word_of members select any_of
    all_of
three = (refl, refl)

records-good : T (good_from 2 3 0 (prefix_records [])) × T (good_from 2 3 0 (prefix_records inside_records))
unfolding prefix_records good_from good
records-good = (tt, tt)

records-least : LeastForRule 2 3 (prefix_records []) 3
unfolding prefix_records
records-least =
    let rs = prefix_records [] in drawn-least 3 (last_in rs) (record_valid 2 3 rs records-good.0 (last_of rs) (lit< tt)) 3 three.0

inside-least : LeastForRule 2 3 (prefix_records inside_records) 3
unfolding prefix_records
inside-least =
    let rs = prefix_records inside_records in drawn-least 3 (last_in rs) (record_valid 2 3 rs records-good.1 (last_of rs) (lit< tt)) 3 three.1

-- THE LEAST NUMBER of states for each strip's rule is 3
pub prefix_least : LeastForRule 2 3 (records_of prefixes) 3
prefix_least = subst (λ (rs : List Record). LeastForRule 2 3 rs 3) (sym prefixes-read) records-least

pub within-least : LeastForRule 2 3 (records_of within) 3
within-least = subst (λ (rs : List Record). LeastForRule 2 3 rs 3) (sym within-read) inside-least

-- ---- of the trees of assignments alone, two states would do for the second: a node that is not in X0 is bad, for it has label 0 only above others
abbrev in_first : ℕ → Bool
in_first l = eqb (l / 4 % 2) 1

unfoldable pub two_states : Machine 2 ℕ
two_states = branching 0 (λ l is. cond (in_first l && all_of (λ q. eqb q 0) is) 0 1) (λ q. eqb q 0)

abbrev N : Machine 2 ℕ
N = (M (prefix_records inside_records)).machine

-- but for label 0 above two empty trees, the three states do as the two: they accept alike, and are the empty tree's no more
fits : ℕ → ℕ → ℕ → Bool
fits l i j =
    let q = N.step l (pair_of i j) in
    (eqb l 0 && (eqb i 0 && eqb j 0)) || (not (eqb q 0) && beq (N.accepting q) (in_first l && (N.accepting i && (N.accepting j && true))))

all_fit : T (all_of (λ l. all_of (λ i. all_of (fits l i) (below 3)) (below 3)) (below 8))
unfolding fits prefix_records formula_at extend formula_of successor_at dec_lt listed grid picked written short drawn constructed table_by join join_by
    classes merged class_of first numbers apart_pairs spread splits splits_at seeds pairs build product_table projection_table complement_table coded_product
    reach closure add successors flat outcomes below elem position numbered bit low sum_of down_from projection with_bit set_low word_of members select
    any_of all_of
all_fit = tt

fit : (l i j : ℕ) → l < 8 → i < 3 → j < 3 → T (fits l i j)
fit l i j hl hi hj =
    all-elem (fits l i) (below 3) (all-elem (λ i. all_of (fits l i) (below 3)) (below 3)
    (all-elem (λ l. all_of (λ i. all_of (fits l i) (below 3)) (below 3)) (below 8) all_fit l ((elem_below l 8).1 hl)) i ((elem_below i 3).1 hi)) j
    ((elem_below j 3).1 hj)

starts : (N.start ≡ 0) × (N.accepting 0 ≡ true)
unfolding prefix_records formula_at extend formula_of successor_at dec_lt listed grid picked written short drawn constructed table_by join join_by classes
    merged class_of first numbers apart_pairs spread splits splits_at seeds pairs build product_table projection_table complement_table coded_product reach
    closure add successors flat outcomes below elem position numbered bit low sum_of down_from projection with_bit set_low word_of members select any_of
    all_of
starts = (refl, refl)

right : Right 3 (last_in (prefix_records inside_records)) (M (prefix_records inside_records))
unfolding prefix_records
right =
    let rs = prefix_records inside_records in short-drawn-right 3 (last_in rs) (record_valid 2 3 rs records-good.1 (last_of rs) (lit< tt))

full : Full 3 3 N
full = subst (λ (c : ℕ). Full 3 c N) three.1 (right.0, right.2)

both_of : (a b : Bool) → T (a && b) → T a × T b
both_of a b = (and_iff a b (λ t. t, λ t. t) (λ t. t, λ t. t)).0

either_of : (a b : Bool) → T (a || b) → T a ⊎ T b
either_of true b t = inl tt
either_of false b t = inr t

equal : (a b : Bool) → T (beq a b) → a ≡ b
equal true true t = refl
equal true false t = absurd t
equal false true t = absurd t
equal false false t = refl

chosen : (v : Bool) → eqb (cond v 0 1) 0 ≡ v
chosen true = refl
chosen false = refl

-- what is not empty has another state than the empty tree
abbrev Told : Tree 2 → Type 0
Told t = (N.accepting (run N t) ≡ eqb (run two_states t) 0) × (T (not (is_empty t)) → run N t ≡ 0 → ⊥)

empty_of : (t : Tree 2) → Told t → run N t ≡ 0 → T (is_empty t)
empty_of t w e = go (is_empty t) refl
  where
    go : (v : Bool) → is_empty t ≡ v → T v
    go true d = tt
    go false d = absurd (w.1 (subst (λ (v : Bool). T (not v)) (sym d) tt) e)

node-told : (l : ℕ) (f : Branch 2 → Tree 2) → Trimmed (node l f) → Proper 3 (node l f) → Told (f one) → Told (f two) → Told (node l f)
unfolding run Trimmed Proper two_states all_of fits
node-told l f r o first-told second-told =
    ⊎_elim
    (λ w.
    let a = both_of (eqb l 0) (eqb i 0 && eqb j 0) w in
    let b = both_of (eqb i 0) (eqb j 0) a.1 in
    absurd (T_not (bare l f) r.0 ((and_iff (eqb l 0) (all_of (λ b. is_empty (f b)) (branches 2)) (λ t. t, λ t. t) (λ t. t, λ t. t)).1 (
      a.0,
      (all_iff (λ b. is_empty (f b))).1 (each (λ b. T (is_empty (f b)))
          (empty_of (f one) first-told (eqb→eq i 0 b.0)) (empty_of (f two) second-told (eqb→eq j 0 b.1))),
    ))))
    (λ w.
    let a = both_of (not (eqb q 0)) (beq (N.accepting q) (in_first l && (N.accepting i && (N.accepting j && true)))) w in (
      ap N.accepting step ∙ equal (N.accepting q) _ a.1
          ∙ ap₂ (λ (u v : Bool). in_first l && (u && (v && true))) first-told.0 second-told.0 ∙ sym (chosen _),
      λ u e. T_not (eqb q 0) a.0 (subst (λ (z : ℕ). T (eqb z 0)) (sym (sym step ∙ e)) tt),
    ))
    (either_of (eqb l 0 && (eqb i 0 && eqb j 0))
    (not (eqb q 0) && beq (N.accepting q) (in_first l && (N.accepting i && (N.accepting j && true)))) (fit l i j o.0 (run-below 3 3 N full (f one) (o.1 one)) (run-below 3 3 N full (f two) (o.1 two))))
  where
    i : ℕ
    i = run N (f one)

    j : ℕ
    j = run N (f two)

    q : ℕ
    q = N.step l (pair_of i j)

    step : N.step l (λ b. run N (f b)) ≡ q
    step = ap (N.step l) (sym (two-branches (λ b. run N (f b))))

told : (t : Tree 2) → Trimmed t → Proper 3 t → Told t
unfolding run Trimmed Proper two_states
told empty r o = (ap N.accepting starts.0 ∙ starts.1, λ u e. u)
told (node l f) r o = node-told l f r o (told (f one) (r.1 one) (o.1 one)) (told (f two) (r.1 two) (o.1 two))

-- TWO STATES WOULD DO for the trees of assignments alone
pub two_would_do : Bounded 3 2 two_states × DecidesAssigned 3 two_states (formula_at (records_of within) (last_of (records_of within)))
unfolding two_states
two_would_do = (
  ((omega arith), λ l h s u. small (in_first l && all_of (λ q. eqb q 0) (s one ∷ s two ∷ []))),
  λ t A o.
      subst (λ (rs : List Record). T (eqb (run two_states t) 0) ↔ Holds (last_in rs) A) (sym within-read)
      (subst (λ (v : Bool). T v ↔ Holds (last_in (prefix_records inside_records)) A) (told t (tree_of-trimmed 3 A t o) o.proper).0
      (right.1 t o.proper A o.bits)),
)
  where
    small : (v : Bool) → cond v 0 1 < 2
    small true = omega arith
    small false = omega arith
