-- `rows_of` meets its contract: the successors of each kind.
use Rattle.std.proofs.Common.{◌≢◌}
use Rattle.words.proofs.Vocabulary.{ℕ, ◌≡◌, ◌∙◌, refl, inl, inr, List, rules}
use Rattle.layout.proofs.Places.{few-labels}
use Rattle.table.specs.Entry.{Step}
use Rattle.table.specs.Succ.{atom_code, tabled, kind_code, successor_of}
use Rattle.ops.specs.declared.Op.{Op}
use Rattle.ops.specs.declared.Op.TheVariants.{Subset, Single, Child1, Child2, Root, Not, Or, And, Exists}
use Rattle.table.proofs.rows.rows_of.Goals as goal

-- what is left is an atom, or "not", which is not explored
atom-code : (k : Op) (f g : Step) (wx wy l : ℕ) (xs : List ℕ) → k ≢ Or → k ≢ And → k ≢ Exists
    → tabled (atom_code k) wx wy l xs ≡ kind_code k f g wx wy l xs
unfolding kind_code
atom-code Subset f g wx wy l xs a b e = refl
atom-code Single f g wx wy l xs a b e = refl
atom-code Child1 f g wx wy l xs a b e = refl
atom-code Child2 f g wx wy l xs a b e = refl
atom-code Root f g wx wy l xs a b e = refl
atom-code Not f g wx wy l xs a b e = refl
atom-code Or f g wx wy l xs a b e = absurd (a refl)
atom-code And f g wx wy l xs a b e = absurd (b refl)
atom-code Exists f g wx wy l xs a b e = absurd (e refl)

pub exists_rows-requires : goal.exists_rows-requires
exists_rows-requires c =
    c.requires.rows_ready c.in-Exists.is

pub pair_rows-requires : goal.pair_rows-requires
pair_rows-requires c =
    let f = few-labels c.args.p.shape c.requires.ranged.shape in search rules

pub returns-in-Exists : goal.returns-in-Exists
unfolding successor_of kind_code
returns-in-Exists c =
    record { serves = rw c.in-Exists.is c.exists_rows.ensures }

pub returns-in-Or : goal.returns-in-Or
unfolding successor_of kind_code
returns-in-Or c =
    record { serves = elim c.in-Or.is [ inl e ↦ rw e c.pair_rows.ensures | inr e ↦ rw e c.pair_rows.ensures ] }

pub returns-in_default : goal.returns-in_default
unfolding successor_of
returns-in_default c =
    let a = c.args in
    let p = a.p in
    let v = c.atom_rows.ensures in
    let d = c.in_default in
    let is : (xs : List ℕ) → tabled (atom_code p.kind) p.wx p.wy a.l xs ≡ successor_of a.low.now p a.l xs =
    λ xs. atom-code p.kind _ _ p.wx p.wy a.l xs d.not-Or d.not-And d.not-Exists in
    record { serves = λ i h. ((v i h).0 ∙ is _, (v i h).1 ∙ is _) }
