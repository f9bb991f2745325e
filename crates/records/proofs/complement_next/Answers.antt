-- `complement_next` meets its contract.
use Rattle.words.proofs.Vocabulary.{◌≤◌, ◌<◌, refl, subst, arith}
use Rattle.layout.specs.Shape.{labels_in, share_at}
use Rattle.layout.proofs.Places.{share-next}
use Rattle.ops.specs.declared.Op.{Op}
use Rattle.records.specs.Complement.{Copied, Entries}
use Rattle.records.specs.Rule.{OfParts}
use Rattle.records.proofs.Copies.{few-part, added_not, copied_spared}
use Rattle.records.proofs.complement_next.Goals as goal
use Rattle.records.proofs.complement_next.Goals.{Start, After-copy_table}

few : (c : Start) → c.args.f.count ≤ c.args.s.ceiling
few c =
    let a = c.args in
    let w = c.requires.some_parts in
    few-part a.x a.r a.s a.f a.g a.ws.now w.0 w.1 c.requires.kind_value w.2

copied : (c : After-copy_table) → Copied (Entries c.args.s c.args.f.looks c.args.f.count (labels_in c.args.s)) (share_at c.args.s c.args.x.first) (share_at c.args.s c.args.r) c.args.ws.now c.copy_table.new.ws
copied c = rw (c.share_at-from.ensures.0, c.share_at-to.ensures.0) at c.copy_table.ensures

pub copy_table-requires-clause-n_le_ceiling : goal.copy_table-requires-clause-n_le_ceiling
copy_table-requires-clause-n_le_ceiling c =
    let a = c.args in
    let from = c.share_at-from.ensures.0 in
    let to = c.share_at-to.ensures.0 in
    let h : a.x.first < a.r = subst (λ (k : Op). OfParts k (a.x.first < a.r) (a.x.second < a.r)) c.requires.kind_value c.requires.fits.before in
    (few (goal.at.copy_table-requires-clause-n_le_ceiling c).Start, omega (arith, share-next a.s a.x.first a.r h), omega (arith, c.requires.fits.share))

pub flipped-accept-requires : goal.flipped-accept-requires
flipped-accept-requires c =
    omega (arith, few (goal.at.flipped-accept-requires c).Start, c.requires.fits.shape.ceiling)

pub returns-clause-adds : goal.returns-clause-adds
returns-clause-adds c = λ f g parts.
    let a = c.args in
    let w = c.flipped-accept in
    added_not a.x a.r a.s a.f a.g a.ws.now f g c.requires.kind_value parts c.copy_table.new.ws
    (record { count = a.f.count; accept = w.result; looks = a.f.looks }) (copied (goal.at.returns-clause-adds c).After-copy_table) refl w.ensures refl

pub returns-clause-spared : goal.returns-clause-spared
returns-clause-spared c =
    let a = c.args in
    copied_spared a.s a.r a.f.looks a.f.count (few (goal.at.returns-clause-spared c).Start) (copied (goal.at.returns-clause-spared c).After-copy_table)
