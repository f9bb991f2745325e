-- What is put for an atom, and that a sentence never makes the records fewer. Assumes nothing.
use Prim.Native.Nat.{ℕ, zero, suc, ◌+◌, ◌<◌, ◌≤◌}
use mathlib.Core.Path.{◌≡◌, refl, sym, ◌∙◌, ap, subst}
use mathlib.Core.Bool.{cond}
use mathlib.Core.List.{List, ◌∷◌}
use native.Mathlib.Nat.{le_trans}
use native.Mathlib.Omega.{arith}
use lib.ListN.{length}
use lib.Dec.{eqb}
use Rattle.logic.specs.Meaning.{Branch as ChildOf}
use Rattle.logic.specs.Rule.{Record, last_of}
use Rattle.logic.specs.Two.{pair_of}
use Rattle.ops.specs.Ops.{op_number}
use Rattle.ops.specs.declared.Op.{Op}
use Rattle.ops.specs.declared.Op.TheVariants as op
use Rattle.text.specs.Syntax.{first, second, variable, branch, root, Atom, sub, member, equal, Scope}
use Rattle.text.specs.Syntax.{Sentence, atom, denied, both, either, implies, alike, for_some, for_every}
use Rattle.text.specs.Records.{track_of, put, put_not, put_single, put_exists, put_alike, write_atom, write}
use Rattle.drafting.specs.Draft.{Drafted, Drafts, Puts}
use Rattle.drafting.specs.Coded.{branch_op, coded_atom, SpotBelow, AtomBelow}
use Rattle.drafting.specs.declared.Branch.TheVariants.{One, Two}
use Rattle.drafting.specs.declared.Draft.{Draft}
use Rattle.drafting.specs.declared.Spot.{Spot as SpotCode}
use Rattle.drafting.specs.declared.Spot.TheVariants.{Variable, Branch, Root}
use Rattle.drafting.specs.declared.Atom.{Atom as AtomCode}
use Rattle.drafting.specs.declared.Atom.TheVariants.{Sub, Member, Equal}
use Rattle.drafting.proofs.Drafts.{put-length}

-- nothing that is put makes the records fewer: those of a left side are no more than those of both
put-longer : (op a b : ℕ) (rs : List Record) → length rs ≤ length (put op a b rs)
put-longer op a b rs = let l = put-length op a b rs in omega arith

pub not_longer : (rs : List Record) → length rs ≤ length (put_not rs)
not_longer rs = put-longer 5 (last_of rs) 0 rs

exists-longer : (x : ℕ) (rs : List Record) → length rs ≤ length (put_exists x rs)
exists-longer x rs = put-longer 8 x (last_of rs) rs

some-longer : (x : ℕ) (rs : List Record) → length rs ≤ length (put_exists x (put_single x rs))
some-longer x rs =
    le_trans (put-longer 1 x 0 rs)
    (le_trans (put-longer 7 (length rs) (last_of rs) (put 1 x 0 rs)) (exists-longer x (put_single x rs)))

alike-longer : (fs gs : List Record) → length gs ≤ length (put_alike fs gs)
alike-longer fs gs =
    let i = length gs in
    let r₁ = put 5 (last_of fs) 0 gs in
    let r₂ = put 5 (last_of gs) 0 r₁ in
    let r₃ = put 6 i (last_of gs) r₂ in
    let l₁ = put-longer 5 (last_of fs) 0 gs in
    let l₂ = put-longer 5 (last_of gs) 0 r₁ in
    let l₃ = put-longer 6 i (last_of gs) r₂ in
    let l₄ = put-longer 6 (i + 1) (last_of fs) r₃ in
    let l₅ = put-longer 7 (i + 2) (i + 3) (put 6 (i + 1) (last_of fs) r₃) in
    omega arith

atom-longer : (sc : Scope) (a : Atom) (rs : List Record) → length rs ≤ length (write_atom sc a rs)
unfolding write_atom
atom-longer sc (sub x y) rs = put-longer _ _ _ rs
atom-longer sc (member x y) rs = put-longer _ _ _ rs
atom-longer sc (equal x (variable y)) rs = put-longer _ _ _ rs
atom-longer sc (equal x (branch b y)) rs = put-longer _ _ _ rs
atom-longer sc (equal x root) rs = put-longer _ _ _ rs

pub write-longer : (sc : Scope) (f : Sentence) (rs : List Record) → length rs ≤ length (write sc f rs)
unfolding write
write-longer sc (atom a) rs = atom-longer sc a rs
write-longer sc (denied f) rs = le_trans (write-longer sc f rs) (not_longer (write sc f rs))
write-longer sc (both f g) rs =
    let fs = write sc f rs in
    let gs = write sc g fs in
    le_trans (write-longer sc f rs) (le_trans (write-longer sc g fs) (put-longer 7 (last_of fs) (last_of gs) gs))
write-longer sc (either f g) rs =
    let fs = write sc f rs in
    let gs = write sc g fs in
    le_trans (write-longer sc f rs) (le_trans (write-longer sc g fs) (put-longer 6 (last_of fs) (last_of gs) gs))
write-longer sc (implies f g) rs =
    let es = write sc f rs in
    let fs = put_not es in
    let gs = write sc g fs in
    le_trans (write-longer sc f rs) (le_trans (not_longer es) (le_trans (write-longer sc g fs) (put-longer 6 (last_of fs) (last_of gs) gs)))
write-longer sc (alike f g) rs =
    let fs = write sc f rs in
    le_trans (write-longer sc f rs) (le_trans (write-longer sc g fs) (alike-longer fs (write sc g fs)))
write-longer sc (for_some first x f) rs =
    let fs = write (record { name = x; order = first } ∷ sc) f rs in
    le_trans (write-longer (record { name = x; order = first } ∷ sc) f rs) (some-longer (length sc) fs)
write-longer sc (for_some second x f) rs =
    let fs = write (record { name = x; order = second } ∷ sc) f rs in
    le_trans (write-longer (record { name = x; order = second } ∷ sc) f rs) (exists-longer (length sc) fs)
write-longer sc (for_every first x f) rs =
    let fs = write (record { name = x; order = first } ∷ sc) f rs in
    let es = put_exists (length sc) (put_single (length sc) (put_not fs)) in
    le_trans (write-longer (record { name = x; order = first } ∷ sc) f rs)
    (le_trans (not_longer fs) (le_trans (some-longer (length sc) (put_not fs)) (not_longer es)))
write-longer sc (for_every second x f) rs =
    let fs = write (record { name = x; order = second } ∷ sc) f rs in
    let es = put_exists (length sc) (put_not fs) in
    le_trans (write-longer (record { name = x; order = second } ∷ sc) f rs)
    (le_trans (not_longer fs) (le_trans (exists-longer (length sc) (put_not fs)) (not_longer es)))

-- an atom's record, as the code holds the atom
abbrev pub atom_op : AtomCode → Op
atom_op (Sub x y) = op.Subset
atom_op (Member x y) = op.Subset
atom_op (Equal x (Variable y)) = op.Subset
atom_op (Equal x (Branch b y)) = branch_op b
atom_op (Equal x Root) = op.Root

abbrev pub atom_first : AtomCode → ℕ
atom_first (Sub x y) = x
atom_first (Member x y) = x
atom_first (Equal x p) = x

abbrev pub atom_second : AtomCode → ℕ
atom_second (Sub x y) = y
atom_second (Member x y) = y
atom_second (Equal x (Variable y)) = y
atom_second (Equal x (Branch b y)) = y
atom_second (Equal x Root) = 0

branch-number : (b : ChildOf 2) → 2 + b.number ≡ op_number (branch_op (pair_of One Two b))
branch-number b = go b.number b.below
  where
    go : (n : ℕ) → n < 2 → 2 + n ≡ op_number (branch_op (cond (eqb n 0) One Two))
    go zero h = refl
    go (suc zero) h = refl
    go (suc (suc n)) h = absurd (omega arith)

write_coded : (sc : Scope) (a : Atom) (rs : List Record)
    → write_atom sc a rs ≡ put (op_number (atom_op (coded_atom sc a))) (atom_first (coded_atom sc a)) (atom_second (coded_atom sc a)) rs
unfolding write_atom
write_coded sc (sub x y) rs = refl
write_coded sc (member x y) rs = refl
write_coded sc (equal x (variable y)) rs = refl
write_coded sc (equal x (branch b y)) rs = ap (λ (n : ℕ). put n (track_of sc x) (track_of sc y) rs) (branch-number b)
write_coded sc (equal x root) rs = refl

spot-below : (n m : ℕ) (p : SpotCode) → n ≤ m → SpotBelow n p → SpotBelow m p
spot-below n m (Variable y) h b = omega arith
spot-below n m (Branch k y) h b = omega arith
spot-below n m Root h b = tt

-- the tracks of a scope of at most 8 names have room in a field
pub atom-below : (n m : ℕ) (k : AtomCode) → n ≤ m → AtomBelow n k → AtomBelow m k
atom-below n m (Sub x y) h b = (omega arith, omega arith)
atom-below n m (Member x y) h b = (omega arith, omega arith)
atom-below n m (Equal x p) h b = (omega arith, spot-below n m p h b.1)

-- an equality whose place is known too
pub place_is : {k : AtomCode} {x : ℕ} {p q : SpotCode} → k ≡ Equal x p → p ≡ q → k ≡ Equal x q
place_is {x = x} g h = g ∙ ap (Equal x) h

-- an atom that is put as the code holds it
pub atom_is : {d e : Draft} {k : AtomCode} {o : Op} (m : AtomCode) → k ≡ m → o ≡ atom_op m → Puts d (op_number o) (atom_first m) (atom_second m) e
    → (sc : Scope) (a : Atom) → k ≡ coded_atom sc a → Drafts d e (write_atom sc a)
atom_is {e = e} m g f p sc a h rs D =
    rw write_coded
    (subst (λ (n : AtomCode). Drafted e (put (op_number (atom_op n)) (atom_first n) (atom_second n) rs)) (sym g ∙ h)
    (rw (← f) (p rs (atom_first m) (atom_second m) D (λ _. refl) (λ _. refl))))
