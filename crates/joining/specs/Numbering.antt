-- The classes numbered in the order of their first members, and the accepting ones among them. Document 02, A8: "join its states". Assumes
-- nothing.
use Rattle.std.specs.Prelude.{ℕ, ◌<◌, ◌≡◌, ◌&&◌, List, ltb, length, get_or}
use Rattle.words.specs.Word.{mem, word_where}
use Rattle.logic.specs.Reach.{position}
use Rattle.logic.specs.Joined.{classes}
use Rattle.joining.specs.Classes.{class_in}
use Rattle.joining.specs.declared.numbering.Numbered.{Numbered}

-- the first members of the classes, in order
abbrev pub leaders_of : ℕ → List ℕ → List ℕ
leaders_of n gs = classes n (class_in gs)

-- the classes of n states: so many, their first members, and the number of each state's class
pub record Numbers (n : ℕ) (gs : List ℕ) (r : Numbered) : Type 0 where
  pub states : r.states ≡ n
  pub counted : r.count ≡ length (leaders_of n gs)
  pub firsts : (i : ℕ) → i < length (leaders_of n gs) → get_or r.first i 0 ≡ get_or (leaders_of n gs) i 0
  pub numbers : (q : ℕ) → q < n → get_or r.number q 0 ≡ position (class_in gs q) (leaders_of n gs)

-- the classes below m whose first member is in a
unfoldable pub accept_in : ℕ → ℕ → List ℕ → ℕ
accept_in a m first = word_where (λ i. ltb i m && mem (get_or first i 0) a) 64
