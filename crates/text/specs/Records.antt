-- The records written for a text: document 01, "How trainers type a rule". Their order, which the papers leave to us, is this file's, and
-- docs/TEXT.md shows it. Assumes nothing.
use Rattle.std.specs.Prelude.{ℕ, suc, ◌+◌, max, cond, List, [], ◌∷◌, ◌++◌, length}
use Rattle.logic.specs.Rule.{Record, last_of}
use Rattle.text.specs.Token.{same_bytes}
use Rattle.text.specs.Syntax.{Name, first, second, variable, branch, root, Atom, sub, member, equal, Sentence, atom, denied, both, either}
use Rattle.text.specs.Syntax.{implies, alike, for_some, for_every, Scope, Text}

-- the track of the latest of the names x in use: "Free variables take tracks (variable numbers) in order of declaration; a bound one takes the next
-- after those in use around it". A name that another hides keeps its track
unfoldable pub track_of : Scope → Name → ℕ
track_of [] x = 0
track_of (d ∷ sc) x = cond (same_bytes x d.name) (length sc) (track_of sc x)

-- "n is one more than the highest track taken"; i names are in use around the sentence
unfoldable pub tracks : ℕ → Sentence → ℕ
tracks i (atom a) = i
tracks i (denied f) = tracks i f
tracks i (both f g) = max (tracks i f) (tracks i g)
tracks i (either f g) = max (tracks i f) (tracks i g)
tracks i (implies f g) = max (tracks i f) (tracks i g)
tracks i (alike f g) = max (tracks i f) (tracks i g)
tracks i (for_some o x f) = tracks (suc i) f
tracks i (for_every o x f) = tracks (suc i) f

-- n: a declared variable counts, used or not
unfoldable pub variables_in : Text → ℕ
variables_in t = tracks (length t.declared) t.sentence

-- "Each atom, `~`, `&`, `|` and `ex2` makes one record, `=>` two, `ex1` and `all2` three, `all1` and `<=>` five .. none are shared"
unfoldable pub count : Sentence → ℕ
count (atom a) = 1
count (denied f) = count f + 1
count (both f g) = count f + count g + 1
count (either f g) = count f + count g + 1
count (implies f g) = count f + count g + 2
count (alike f g) = count f + count g + 5
count (for_some first x f) = count f + 3
count (for_some second x f) = count f + 1
count (for_every first x f) = count f + 5
count (for_every second x f) = count f + 3

-- "and each free first-order variable two more"
unfoldable pub free_count : Scope → ℕ
free_count [] = 0
free_count (d ∷ sc) = free_count sc + elim d.order [ first ↦ 2 | second ↦ 0 ]

-- m
unfoldable pub count_in : Text → ℕ
count_in t = count t.sentence + free_count t.declared

-- one record more; what was written last has number last_of rs
abbrev pub put : ℕ → ℕ → ℕ → List Record → List Record
put op a b rs = rs ++ (record { op = op; first = a; second = b } ∷ [])

-- "each atom": `x in X` and `x = y` are X ⊆ Y, of singletons; `x = y.0`, `x = y.1` and `x = root` are X = Y1, X = Y2 and X = ε
unfoldable pub write_atom : Scope → Atom → List Record → List Record
write_atom sc (sub x y) rs = put 0 (track_of sc x) (track_of sc y) rs
write_atom sc (member x y) rs = put 0 (track_of sc x) (track_of sc y) rs
write_atom sc (equal x (variable y)) rs = put 0 (track_of sc x) (track_of sc y) rs
write_atom sc (equal x (branch b y)) rs = put (2 + b.number) (track_of sc x) (track_of sc y) rs
write_atom sc (equal x root) rs = put 4 (track_of sc x) 0 rs

-- "not" of the record written before
abbrev pub put_not : List Record → List Record
put_not rs = put 5 (last_of rs) 0 rs

-- Sing of variable x, and "and" of that with the record written before
abbrev pub put_single : ℕ → List Record → List Record
put_single x rs = put 7 (length rs) (last_of rs) (put 1 x 0 rs)

-- "exists" of variable x and the record written before
abbrev pub put_exists : ℕ → List Record → List Record
put_exists x rs = put 8 x (last_of rs) rs

-- `<=>`: not a, not b, (not a) or b, (not b) or a, and both; the last of fs is a, the last of gs is b
abbrev pub put_alike : List Record → List Record → List Record
put_alike fs gs =
    let i = length gs in
    let rs = put 5 (last_of gs) 0 (put 5 (last_of fs) 0 gs) in
    put 7 (i + 2) (i + 3) (put 6 (i + 1) (last_of fs) (put 6 i (last_of gs) rs))

-- the records of a sentence after the records rs: those of its parts in the order of the text, then its own; its own last one is its meaning
unfoldable pub write : Scope → Sentence → List Record → List Record
write sc (atom a) rs = write_atom sc a rs
write sc (denied f) rs = put_not (write sc f rs)
write sc (both f g) rs = let fs = write sc f rs in let gs = write sc g fs in put 7 (last_of fs) (last_of gs) gs
write sc (either f g) rs = let fs = write sc f rs in let gs = write sc g fs in put 6 (last_of fs) (last_of gs) gs
write sc (implies f g) rs = let fs = put_not (write sc f rs) in let gs = write sc g fs in put 6 (last_of fs) (last_of gs) gs
write sc (alike f g) rs = let fs = write sc f rs in put_alike fs (write sc g fs)
write sc (for_some first x f) rs = put_exists (length sc) (put_single (length sc) (write (record { name = x; order = first } ∷ sc) f rs))
write sc (for_some second x f) rs = put_exists (length sc) (write (record { name = x; order = second } ∷ sc) f rs)
write sc (for_every first x f) rs = put_not (put_exists (length sc) (put_single (length sc) (put_not (write (record { name = x; order = first } ∷ sc) f rs))))
write sc (for_every second x f) rs = put_not (put_exists (length sc) (put_not (write (record { name = x; order = second } ∷ sc) f rs)))

-- the two records of each free first-order variable, in order of declaration
unfoldable pub write_free : Scope → List Record → List Record
write_free [] rs = rs
write_free (d ∷ sc) rs = let ss = write_free sc rs in elim d.order [ first ↦ put_single (length sc) ss | second ↦ ss ]

-- all records of a text: its last one is the rule
unfoldable pub records_in : Text → List Record
records_in t = write_free t.declared (write t.declared t.sentence [])
