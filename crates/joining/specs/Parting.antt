-- Parting the states of a stored machine until those that are together behave alike. Document 02, A8: "join its states until no complete
-- deterministic machine with fewer accepts the same trees". A class goes by its first member. Assumes nothing.
use Rattle.std.specs.Prelude.{ℕ, zero, suc, ◌+◌, ◌%◌, ◌≤◌, ◌<◌, ◌≡◌, Bool, true, false, ◌&&◌, List, map, eqb, length, get_or}
use Rattle.std.specs.Bool.{beq}
use Rattle.words.specs.Word.{mem}
use Rattle.layout.specs.Shape.{Shaped, labels_in, share_of, place_in, Tuple}
use Rattle.layout.specs.Slots.{in_slots, FirstSlots}
use Rattle.layout.specs.declared.Shape.{Shape}
use Rattle.table.specs.Entry.{Step, seen}
use Rattle.joining.specs.Classes.{class_in}

-- the state at a place of a table; a byte is read by its last six bits, which are all that a state has
abbrev pub state_at : List ℕ → ℕ → ℕ
state_at t p = get_or t p 0 % 64

-- the state at an entry
abbrev pub state_in : Shape → List ℕ → Step
state_in s t l is = state_at t (place_in s l is)

-- the class of the state at a place
abbrev pub class_at : List ℕ → List ℕ → ℕ → ℕ
class_at gs t p = class_in gs (state_at t p)

-- t is a share's bytes, and n states are no more than the ceiling
pub record Span (s : Shape) (t : List ℕ) (n : ℕ) : Type 0 where
  pub shape : Shaped s
  pub whole : share_of s ≤ length t
  pub few : n ≤ s.ceiling

-- the same with a label, and with states in the first two slots
pub record RowSpan (s : Shape) (t : List ℕ) (n l a b : ℕ) : Type 0 where
  pub span : Span s t n
  pub label : l < labels_in s
  pub slots : FirstSlots s.branches n a b

-- r is the first number that passes the test, and no later than q
pub record FirstSuch (e : ℕ → Bool) (q r : ℕ) : Type 0 where
  pub up_to : r ≤ q
  pub passes : e r ≡ true
  pub none_before : (p : ℕ) → p < r → e p ≡ false

-- no class goes by a later state than its members
abbrev pub Low : List ℕ → Type 0
Low gs = (q : ℕ) → class_in gs q ≤ q

-- a class for each state that a byte can have, by its first member, which is its own
pub record Whole (gs : List ℕ) : Type 0 where
  pub long : length gs ≡ 64
  pub low : Low gs
  pub own : (q : ℕ) → class_in gs (class_in gs q) ≡ class_in gs q

-- the classes of the n states by acceptance alone; there are no others
pub record SeenBy (accept n : ℕ) (hs : List ℕ) : Type 0 where
  pub long : length hs ≡ 64
  pub states : (q : ℕ) → q < n → FirstSuch (λ p. beq (mem p accept) (mem q accept)) q (class_in hs q)
  pub beyond : (q : ℕ) → n ≤ q → class_in hs q ≡ 0

-- is p of the class that goes by r, with the key v
abbrev pub is_such : (ℕ → ℕ) → List ℕ → ℕ → ℕ → ℕ → Bool
is_such key gs r v p = eqb (class_in gs p) r && eqb (key p) v

-- hs is gs with the class that goes by r split: each of its states below n goes by the first of them with the same key
pub record SplitBy (key : ℕ → ℕ) (n r : ℕ) (gs hs : List ℕ) : Type 0 where
  pub long : length hs ≡ length gs
  pub parted : (q : ℕ) → q < n → class_in gs q ≡ r → FirstSuch (is_such key gs r (key q)) q (class_in hs q)
  pub others : (q : ℕ) → (q < n → class_in gs q ≡ r → ⊥) → class_in hs q ≡ class_in gs q

-- names that the steps under label l respect: under it states of the same names lead to one of the same name
pub record Respected (f : Step) (k n l : ℕ) (name : ℕ → ℕ) : Type 0 where
  pub inside : (is : List ℕ) → Tuple k n is → f l is < n
  pub alike : (is js : List ℕ) → Tuple k n is → Tuple k n js → map name is ≡ map name js → name (f l is) ≡ name (f l js)

-- under every label with no bit but those given
abbrev pub RespectedBy : Step → ℕ → ℕ → ℕ → ℕ → (ℕ → ℕ) → Type 0
RespectedBy f k n bits labels name = (l : ℕ) → l < labels → l ≤ seen bits l → Respected f k n l name

-- states of the same name are together
abbrev pub Keeps : ℕ → (ℕ → ℕ) → List ℕ → Type 0
Keeps n name gs = (p q : ℕ) → p < n → q < n → name p ≡ name q → class_in gs p ≡ class_in gs q

-- hs parts the classes gs, but not states of the same name, whichever admitted names they have. A class only moves up
pub record Refines (Admits : (ℕ → ℕ) → Type 0) (n : ℕ) (gs hs : List ℕ) : Type 0 where
  pub whole : Whole hs
  pub up : (q : ℕ) → class_in gs q ≤ class_in hs q
  pub finer : (p q : ℕ) → p < n → q < n → class_in hs p ≡ class_in hs q → class_in gs p ≡ class_in gs q
  pub keeps : (name : ℕ → ℕ) → Admits name → Keeps n name gs → Keeps n name hs

-- nothing was parted: no class of a byte's states has moved
abbrev pub Same : List ℕ → List ℕ → Type 0
Same gs hs = (q : ℕ) → q < 64 → class_in gs q ≡ class_in hs q

-- under label l the states lead to the class to which the first members of their classes do
abbrev pub Clean : Step → List ℕ → ℕ → List ℕ → Type 0
Clean f gs l is = class_in gs (f l is) ≡ class_in gs (f l (map (class_in gs) is))

-- all that begin with the states in the first two slots
abbrev pub CleanRow : Step → ℕ → ℕ → List ℕ → ℕ → ℕ → ℕ → Type 0
CleanRow f k n gs l a b = (d : ℕ) → d < n → Clean f gs l (in_slots k a b d)

-- all
abbrev pub CleanLabel : Step → ℕ → ℕ → List ℕ → ℕ → Type 0
CleanLabel f k n gs l = (is : List ℕ) → Tuple k n is → Clean f gs l is

-- under every label with no bit but those given
abbrev pub CleanBy : Step → ℕ → ℕ → List ℕ → ℕ → ℕ → Type 0
CleanBy f k n gs bits labels = (l : ℕ) → l < labels → l ≤ seen bits l → CleanLabel f k n gs l

-- with the states below n the row leads to the class to which the leading row does with the state's class
abbrev pub LikeBelow : List ℕ → List ℕ → ℕ → ℕ → ℕ → Type 0
LikeBelow gs t row lead n = (d : ℕ) → d < n → class_at gs t (row + d) ≡ class_at gs t (lead + class_in gs d)

-- r is the first state with which it leads to another
pub record FirstUnlike (gs t : List ℕ) (row lead r : ℕ) : Type 0 where
  pub before : LikeBelow gs t row lead r
  pub there : class_at gs t (row + r) ≡ class_at gs t (lead + class_in gs r) → ⊥

-- the sum of the first m classes
unfoldable pub total : List ℕ → ℕ → ℕ
total gs zero = 0
total gs (suc m) = total gs m + class_in gs m

-- parted as far as acceptance and the labels with no bit but those given part: what is together stays together under each of these, and
-- states of the same name are together, whichever names these respect
pub record Settled (f : Step) (k n bits labels accept : ℕ) (hs : List ℕ) : Type 0 where
  pub whole : Whole hs
  pub accepts : (p q : ℕ) → p < n → q < n → class_in hs p ≡ class_in hs q → mem p accept ≡ mem q accept
  pub clean : CleanBy f k n hs bits labels
  pub keeps : (name : ℕ → ℕ) → ((p q : ℕ) → p < n → q < n → name p ≡ name q → mem p accept ≡ mem q accept) → RespectedBy f k n bits labels name
      → Keeps n name hs
