-- The parts of some rules, by computation on the definitions.
-- Assumes nothing.
use Prim.Native.Nat.{ℕ, zero, suc}
use mathlib.Core.Path.{◌≡◌, refl, sym, ◌∙◌}
use mathlib.Core.List.{List, [], ◌∷◌, ◌++◌}
use native.Mathlib.Omega.{arith}
use Rattle.logic.specs.Rule.{Record, good, good_from, Accepted}
use Rattle.logic.specs.Reach.{elem}
use Rattle.parts.specs.Parts.{is_and, walk, fresh, parts_of}
use Rattle.parts.specs.Taking.{taken_up, turn_on, turn, turns, parts_taken}
use Rattle.parts.proofs.Taking.{rule-parts}

r : ℕ → ℕ → ℕ → Record
r o a b = record { op = o; first = a; second = b }

-- records 0, 1 and 3 are no "and"; 2 is 0 and 1, 4 is 3 and 2: the first field's come first
mixed : List Record
mixed = r 0 0 1 ∷ r 1 0 0 ∷ r 7 0 1 ∷ r 4 0 0 ∷ r 7 3 2 ∷ []

-- 3 is 1 and 0, 4 is 2 and 3, 5 is 2 and 4: records and an "and" met twice
shared : List Record
shared = r 0 0 1 ∷ r 1 0 0 ∷ r 7 0 1 ∷ r 7 1 0 ∷ r 7 2 3 ∷ r 7 2 4 ∷ []

-- "not", "or" and "exists" are not looked into; two records that say the same are two parts; a leftover is none
closed : List Record
closed = r 1 0 0 ∷ r 1 0 0 ∷ r 7 0 1 ∷ r 5 2 0 ∷ r 6 2 3 ∷ r 8 0 2 ∷ r 7 3 4 ∷ r 7 6 5 ∷ r 7 7 0 ∷ r 4 0 0 ∷ r 7 8 1 ∷ []

-- a rule that is no "and"
alone : List Record
alone = r 1 0 0 ∷ r 7 0 0 ∷ r 5 1 0 ∷ []

rules : List (List Record)
rules = mixed ∷ shared ∷ closed ∷ alone ∷ []

all_parts : List (List Record) → List (List ℕ)
all_parts [] = []
all_parts (x ∷ xs) = parts_of x ∷ all_parts xs

all_taken : List (List Record) → List (List ℕ)
all_taken [] = []
all_taken (x ∷ xs) = parts_taken x ∷ all_taken xs

expected : List (List ℕ)
expected = (3 ∷ 0 ∷ 1 ∷ []) ∷ (0 ∷ 1 ∷ []) ∷ (3 ∷ 4 ∷ 5 ∷ 0 ∷ 1 ∷ []) ∷ (2 ∷ []) ∷ []

parts-right : all_parts rules ≡ expected
unfolding all_parts rules mixed shared closed alone expected r is_and walk fresh parts_of elem
parts-right = refl

taken-right : all_taken rules ≡ expected
unfolding all_taken rules mixed shared closed alone expected r is_and taken_up turn_on turn turns parts_taken elem
taken-right = refl

-- 127 "and", each of the record before it with itself: the plain walk would take 2^127 steps, the marks one for each
doubling : ℕ → ℕ → List Record
doubling i zero = []
doubling i (suc d) = r 7 i i ∷ doubling (suc i) d

doubled : List Record
doubled = r 1 0 0 ∷ doubling 0 127

doubled-taken : parts_taken doubled ≡ 0 ∷ []
unfolding doubled doubling r is_and taken_up turn_on turn turns parts_taken elem
doubled-taken = refl

doubled-accepted : Accepted 2 1 doubled
unfolding doubled doubling r good good_from
doubled-accepted = (omega arith, tt)

doubled-parts : parts_of doubled ≡ 0 ∷ []
doubled-parts = sym (rule-parts 2 1 doubled doubled-accepted) ∙ doubled-taken

-- sixteen and seventeen parts, between which 28 draws the line; here Sing(X0) again and again
again : ℕ → List Record
again zero = []
again (suc d) = r 1 0 0 ∷ again d

chain : ℕ → ℕ → ℕ → List Record
chain a b zero = []
chain a b (suc d) = r 7 a b ∷ chain (suc a) (suc b) d

-- m parts, m above 1: record m is 0 and 1, m + 1 is m and 2, and so on
many : ℕ → ℕ → List Record
many m d = again m ++ (r 7 0 1 ∷ chain m 2 d)

sixteen : parts_of (many 16 14) ≡ 0 ∷ 1 ∷ 2 ∷ 3 ∷ 4 ∷ 5 ∷ 6 ∷ 7 ∷ 8 ∷ 9 ∷ 10 ∷ 11 ∷ 12 ∷ 13 ∷ 14 ∷ 15 ∷ []
unfolding many again chain r parts_of fresh walk is_and elem
sixteen = refl

seventeen : parts_of (many 17 15) ≡ 0 ∷ 1 ∷ 2 ∷ 3 ∷ 4 ∷ 5 ∷ 6 ∷ 7 ∷ 8 ∷ 9 ∷ 10 ∷ 11 ∷ 12 ∷ 13 ∷ 14 ∷ 15 ∷ 16 ∷ []
unfolding many again chain r parts_of fresh walk is_and elem
seventeen = refl
