-- Trials, and whole answers of A6, by computation on the definitions.
-- Assumes nothing.
use Prim.Native.Nat.{ℕ, zero, suc}
use mathlib.Core.Path.{◌≡◌, refl}
use mathlib.Core.Bool.{Bool, true, ◌&&◌, ◌||◌}
use mathlib.Core.List.{List, [], ◌∷◌, ◌++◌}
use native.Mathlib.Decide.{dec_lt}
use Rattle.logic.specs.Tree.{down_from, sum_of, low, bit}
use Rattle.logic.specs.Rule.{Record, successor_at, formula_of, extend, formula_at}
use Rattle.logic.specs.ReachedRecords.{names_of, named_after, mark, marks, is_reached}
use Rattle.logic.specs.Machine.{all_of, any_of, set_low, with_bit}
use Rattle.logic.specs.Reach.{elem, below, flat, select, outcomes, successors, add, closure, reach, position, numbered, word_of, members, projection}
use Rattle.logic.specs.Joined.{pairs, seeds, splits_at, splits, spread, apart_pairs, numbers, first, class_of, merged, classes, join_by, join, constructed, joined_table}
use Rattle.logic.specs.Table.{Table, table_by, coded_product, build, product_table, projection_table, complement_table, table_of, admit, kind_of, build_all}
use Rattle.logic.specs.Search.{any_below}
use Rattle.parts.specs.Parts.{is_and, walk, fresh, parts_of}
use Rattle.trials.specs.Clash.{tried_with, kept_of}
use Rattle.trials.specs.Joins.{Joiner, rule_joiner, accepts, no_joint, join_one, join_from, over14, kept_list, trial_says, trials, trials_from}
use Rattle.trials.specs.Answer.{ClashAnswer, refused_for, satisfiable, clashing, trials_answer, after_built, clash_of}

r : ℕ → ℕ → ℕ → Record
r o a b = record { op = o; first = a; second = b }

-- ---- the trials, by a test that a table gives

-- 0 and 1 clash, and so do 1 and 2: 0 is dropped, since 1 and 2 are left; tried in reverse, 0 and 1 would stay
neighbours : List ℕ → Bool
neighbours L = (elem 0 L && elem 1 L) || (elem 1 L && elem 2 L)

neighbours-kept : kept_of neighbours (0 ∷ 1 ∷ 2 ∷ []) ≡ 1 ∷ 2 ∷ []
unfolding neighbours tried_with elem
neighbours-kept = refl

-- 4, 0 and 5 clash: those between are dropped, and the order stays
three : List ℕ → Bool
three L = elem 4 L && elem 0 L && elem 5 L

three-kept : kept_of three (3 ∷ 4 ∷ 7 ∷ 0 ∷ 2 ∷ 5 ∷ 1 ∷ []) ≡ 4 ∷ 0 ∷ 5 ∷ []
unfolding three tried_with elem
three-kept = refl

-- 6 alone is unsatisfiable; all together are needed
six_kept : kept_of (λ L. elem 6 L) (2 ∷ 6 ∷ 4 ∷ []) ≡ 6 ∷ []
unfolding tried_with elem
six_kept = refl

all-kept : kept_of (λ L. elem 0 L && elem 1 L && elem 2 L && elem 3 L) (3 ∷ 1 ∷ 0 ∷ 2 ∷ []) ≡ 3 ∷ 1 ∷ 0 ∷ 2 ∷ []
unfolding tried_with elem
all-kept = refl

-- ---- refusal 14 in a trial, of machines with made-up numbers of states

one_state : Table 2
one_state = record { count = 1; machine = record { start = 0; step = λ l s. 0; accepting = λ q. true } }

-- every join counts five states
wide : Joiner 2
wide = record { at = λ p. one_state; states = λ a b. 5; join = λ a b. one_state }

-- the first trial leaves 4, 7 and 2: joining 7 to 4 goes over, and 7 is named; with two parts nothing is joined
wide-over : trials wide 4 [] (3 ∷ 4 ∷ 7 ∷ 2 ∷ []) ≡ over14 7
unfolding wide one_state trials trial_says join_from join_one accepts any_below
wide-over = refl

wide_fits : trials wide 5 [] (3 ∷ 4 ∷ 7 ∷ 2 ∷ []) ≡ kept_list (3 ∷ 4 ∷ 7 ∷ 2 ∷ [])
unfolding wide one_state trials trial_says join_from join_one accepts any_below
wide_fits = refl

wide-two : trials wide 4 [] (3 ∷ 4 ∷ []) ≡ kept_list (3 ∷ 4 ∷ [])
unfolding wide one_state trials trial_says join_from join_one accepts any_below
wide-two = refl

-- ---- whole answers

again : ℕ → List Record
again zero = []
again (suc d) = r 1 0 0 ∷ again d

chain : ℕ → ℕ → ℕ → List Record
chain a b zero = []
chain a b (suc d) = r 7 a b ∷ chain (suc a) (suc b) d

-- Sing(X0) m times, m above 1: record m is 0 and 1, m + 1 is m and 2, and so on
many : ℕ → ℕ → List Record
many m d = again m ++ (r 7 0 1 ∷ chain m 2 d)

record Example : Type 0 where
  vars : ℕ
  rule : List Record
  ceiling : ℕ

abbrev plain : ℕ → List Record → Example
plain n rs = record { vars = n; rule = rs; ceiling = 64 }

answers : List Example → List ClashAnswer
answers [] = []
answers (x ∷ xs) = clash_of 2 x.vars x.rule x.ceiling ∷ answers xs

-- document 01's i: X0 = ε and X0 = X1 1
never : List Record
never = r 4 0 0 ∷ r 2 0 1 ∷ r 7 0 1 ∷ []

-- X0 ⊆ X1, Sing(X0), X0 = ε, not Sing(X0): the last is needed, and of the two that it clashes with the second stays
tried : List Record
tried = r 1 0 0 ∷ r 4 0 0 ∷ r 0 0 1 ∷ r 5 0 0 ∷ r 7 2 0 ∷ r 7 1 3 ∷ r 7 4 5 ∷ []

-- the sample of kinds in a circle: X0 ⊆ X1 ⊆ X2 ⊆ X0, but not X0 ⊆ X2: the third is not needed
circle : List Record
circle = r 0 0 1 ∷ r 0 1 2 ∷ r 7 0 1 ∷ r 0 2 0 ∷ r 7 2 3 ∷ r 0 0 2 ∷ r 5 5 0 ∷ r 7 4 6 ∷ []

-- X0 = X0 1, Sing(X0), X0 = ε: with c = 3 the rule has room, but the join of the last two has not, though 3 states would be left of it
tight : List Record
tight = r 2 0 0 ∷ r 1 0 0 ∷ r 4 0 0 ∷ r 7 0 1 ∷ r 7 3 2 ∷ []

-- X0 = X0 2, Sing(X0), X0 = X0 1, not X0 = ε: with c = 3 a third part can be joined only because one state is left of the first two
shrinking : List Record
shrinking = r 3 0 0 ∷ r 1 0 0 ∷ r 2 0 0 ∷ r 4 0 0 ∷ r 5 3 0 ∷ r 7 1 2 ∷ r 7 5 4 ∷ r 7 0 6 ∷ []

examples : List Example
examples =
    plain 2 never
    ∷ (record { vars = 2; rule = never; ceiling = 5 })
    ∷ plain 1 (r 2 0 0 ∷ [])
    ∷ plain 1 (r 1 0 0 ∷ [])
    ∷ plain 2 tried
    ∷ plain 3 circle
    ∷ plain 1 (many 16 14)
    ∷ (record { vars = 1; rule = tight; ceiling = 3 })
    ∷ plain 1 tight
    ∷ (record { vars = 1; rule = shrinking; ceiling = 3 })
    ∷ []

expected : List ClashAnswer
expected =
    clashing (0 ∷ 1 ∷ [])
    ∷ refused_for 2
    ∷ clashing (0 ∷ [])
    ∷ satisfiable
    ∷ clashing (1 ∷ 3 ∷ [])
    ∷ clashing (0 ∷ 1 ∷ 6 ∷ [])
    ∷ satisfiable
    ∷ refused_for 2
    ∷ clashing (0 ∷ [])
    ∷ clashing (2 ∷ [])
    ∷ []

answers-right : answers examples ≡ expected
unfolding answers examples expected never tried circle tight shrinking many again chain r clash_of after_built trials_answer trials trial_says join_from join_one accepts
    parts_of fresh walk is_and joined_table constructed join join_by classes merged class_of first numbers apart_pairs spread splits splits_at seeds pairs
    table_by table_of admit kind_of build_all successor_at dec_lt is_reached marks mark named_after names_of build product_table
    projection_table complement_table coded_product reach closure add successors flat outcomes below elem position numbered bit low sum_of down_from
    projection with_bit set_low word_of members select any_of all_of any_below
answers-right = refl

-- the trials of one of them with the kept parts joined once
once-right : trials_from (rule_joiner 2 2 tried) 64 no_joint [] (2 ∷ 0 ∷ 1 ∷ 3 ∷ []) ≡ kept_list (1 ∷ 3 ∷ [])
unfolding tried r formula_at extend formula_of trials_from trial_says join_from join_one accepts joined_table constructed
    join join_by classes merged class_of first numbers apart_pairs spread splits splits_at seeds pairs table_by successor_at dec_lt build product_table
    projection_table complement_table coded_product reach closure add successors flat outcomes below elem position numbered bit low sum_of down_from
    projection with_bit set_low word_of members select any_of all_of any_below
once-right = refl
