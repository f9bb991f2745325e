-- The machine of a record, from the machines of its parts. Document 01, "Machines": which states of each atom accept; "Not flips
-- acceptance. Or and and run pairs. Exists runs sets of states. .. A set accepts if it holds an accepting state."
-- Assumes nothing.
use Rattle.std.specs.Prelude.{ℕ, ◌<◌, List, ◌≡◌, Bool, false, not, ◌&&◌, ◌||◌, cond, eqb, ltb, leb, length, get_or}
use Rattle.std.proofs.Math.Option.{Option}
use Rattle.layout.specs.Shape.{labels_in, label_at, tuple_at, Tuple}
use Rattle.layout.specs.declared.Shape.{Shape}
use Rattle.words.specs.Word.{mem, any, word_where}
use Rattle.table.specs.Entry.{seen, Step, step_in}
use Rattle.table.specs.Succ.{first_part, second_part, kind_code, start_code}
use Rattle.ops.specs.declared.Op.{Op}
use Rattle.ops.specs.declared.Op.TheVariants.{Subset, Single, Child1, Child2, Root, Not, Or, And, Exists}
use Rattle.exploring.specs.Explore.{codes_at, are_below, explore}
use Rattle.logic.specs.Reach.{position}

-- the codes of a record's states, or none where there are more than the ceiling
unfoldable pub codes_of : Op → Shape → Step → Step → ℕ → ℕ → Option (List ℕ)
codes_of k s f g wx wy = explore (kind_code k f g wx wy) s.ceiling (labels_in s) (start_code k s.branches f wx)

-- a record's step, from its successor codes and its codes
unfoldable pub step_of : Step → List ℕ → Step
step_of succ cs l is = position (succ l (codes_at cs is)) cs

-- the table at place a holds the steps of a machine of n states that looks at the bits b
abbrev pub TableHolds : Shape → List ℕ → ℕ → ℕ → ℕ → Step → Type 0
TableHolds s low a b n f = (l : ℕ) (is : List ℕ) → l < labels_in s → Tuple s.branches n is → (step_in s low a b l is ≡ f l is) × (f l is < n)

-- the byte at place q of a share in which a machine of n states is stored that looks at the bits b: where an entry stands, its step, and
-- else the byte that was there
unfoldable pub share_byte : Shape → ℕ → ℕ → Step → ℕ → ℕ → ℕ
share_byte s b n f q old = cond (leb (label_at s q) (seen b (label_at s q)) && are_below n (tuple_at s q)) (f (label_at s q) (tuple_at s q)) old

-- does the state with code x accept, where a and b are the accepting states of the parts; "not" is not explored
abbrev pub accept_by : Op → ℕ → ℕ → ℕ → Bool
accept_by Subset a b x = eqb x 0
accept_by Single a b x = eqb x 1
accept_by Child1 a b x = eqb x 2
accept_by Child2 a b x = eqb x 2
accept_by Root a b x = eqb x 1
accept_by Not a b x = false
accept_by Or a b x = mem (first_part x) a || mem (second_part x) b
accept_by And a b x = mem (first_part x) a && mem (second_part x) b
accept_by Exists a b x = any (λ (q : ℕ). mem q x && mem q a) 64

-- the accepting states of a record
unfoldable pub accept_of : Op → ℕ → ℕ → List ℕ → ℕ
accept_of k a b cs = word_where (λ (s : ℕ). ltb s (length cs) && accept_by k a b (get_or cs s 0)) 64

-- the states below n that are not in a
unfoldable pub others_of : ℕ → ℕ → ℕ
others_of a n = word_where (λ (s : ℕ). ltb s n && not (mem s a)) 64
