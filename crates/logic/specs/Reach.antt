-- The states that a machine can come to, found round by round, and the machine with those states numbered.
-- Assumes nothing.
use Rattle.std.specs.Prelude.{ℕ, zero, suc, ◌+◌, ◌*◌, Bool, true, false, cond, ◌||◌, List, [], ◌∷◌, ◌++◌, T, eqb, length, get_or}
use Rattle.logic.specs.Tree.{low, branches}
use Rattle.logic.specs.Meaning.{Branch, is_same_branch}
use Rattle.logic.specs.Machine.{Machine, with_bit, bit_of, any_of}

unfoldable pub elem : ℕ → List ℕ → Bool
elem q [] = false
elem q (r ∷ L) = eqb q r || elem q L

-- the numbers below m
unfoldable pub below : ℕ → List ℕ
below zero = []
below (suc m) = m ∷ below m

unfoldable pub flat : {A B : Type 0} → (A → List B) → List A → List B
flat g [] = []
flat g (q ∷ L) = g q ++ flat g L

unfoldable pub select : {A : Type 0} → (A → Bool) → List A → List A
select g [] = []
select g (q ∷ L) = cond (g q) (q ∷ select g L) (select g L)

-- f at all choices of a state from L b for each branch b of the list
unfoldable pub outcomes : {k : ℕ} → List (Branch k) → (Branch k → List ℕ) → ((Branch k → ℕ) → ℕ) → List ℕ
outcomes [] L f = f (λ b. 0) ∷ []
outcomes (b ∷ bs) L f = flat (λ q. outcomes bs L (λ r. f (λ c. cond (is_same_branch c b) q (r c)))) (L b)

-- where M comes to in one step, under the labels ls, from states of L b at each branch b
unfoldable pub successors : {k : ℕ} → Machine k ℕ → List ℕ → (Branch k → List ℕ) → List ℕ
successors {k} M ls L = flat (λ l. outcomes (branches k) L (M.step l)) ls

-- the states that M comes to on trees with labels in ls
pub data Reached {k : ℕ} (M : Machine k ℕ) (ls : List ℕ) : ℕ → Type 0 where
  started : Reached M ls M.start
  stepped : (l : ℕ) → T (elem l ls) → (s : Branch k → ℕ) → ((b : Branch k) → Reached M ls (s b)) → Reached M ls (M.step l s)

-- L with the numbers of qs that it lacks
unfoldable pub add : List ℕ → List ℕ → List ℕ
add [] L = L
add (q ∷ qs) L = add qs (cond (elem q L) L (L ++ (q ∷ [])))

-- L with what F finds from it, and again, until nothing is new, d times at most
unfoldable pub closure : (List ℕ → List ℕ) → ℕ → List ℕ → List ℕ
closure F zero L = L
closure F (suc d) L =
    let N = add (F L) L in
    let R = closure F d N in
    cond (eqb (length N) (length L)) L R

-- the states reached, for a machine whose states are below d
unfoldable pub reach : {k : ℕ} → Machine k ℕ → List ℕ → ℕ → List ℕ
reach M ls d = closure (λ L. successors M ls (λ b. L)) d (M.start ∷ [])

unfoldable pub position : ℕ → List ℕ → ℕ
position q [] = 0
position q (r ∷ L) = cond (eqb q r) 0 (suc (position q L))

-- M with the states of L for its states, each by its place in L
unfoldable pub numbered : {k : ℕ} → Machine k ℕ → List ℕ → Machine k ℕ
numbered M L = record {
  start = position M.start L;
  step = λ l s. position (M.step l (λ b. get_or L (s b) 0)) L;
  accepting = λ q. M.accepting (get_or L q 0);
}

-- the number whose digit q is g q, for q below c
unfoldable pub word_of : ℕ → (ℕ → Bool) → ℕ
word_of zero g = 0
word_of (suc c) g = word_of c (λ q. g (suc q)) * 2 + bit_of (g 0)

unfoldable pub members : ℕ → ℕ → List ℕ
members c w = select (low w) (below c)

-- exists x, over a machine with states below c: a set of states is a number, whose digits are its members
unfoldable pub projection : {k : ℕ} → ℕ → ℕ → ℕ → Machine k ℕ → Machine k ℕ
projection n x c M = record {
  start = word_of c (λ q. elem q (reach M (with_bit n x false 0 ∷ with_bit n x true 0 ∷ []) c));
  step = λ l s. word_of c (λ q. elem q (successors M (with_bit n x false l ∷ with_bit n x true l ∷ []) (λ b. members c (s b))));
  accepting = λ w. any_of M.accepting (members c w);
}
