-- `read_atom` meets its contract, from those of `look_up`, `token_at`, `left_good` and `read_related`. Assumes nothing.
use mathlib.Core.Path.{sym}
use Rattle.text.proofs.KindNumbers.{ne_true, ne_false}
use Rattle.phrases.proofs.Atoms.{atom_no_name, atom_unknown, atom_wrong, atom-goes}
use Rattle.phrases.proofs.read_atom.Goals as goal

pub returns-then-ne : goal.returns-then-ne
returns-then-ne c =
    rw c.refused.ensures (atom_no_name _ c.requires (ne_true _ _ c.if-ne.ensures))

pub returns-in_default : goal.returns-in_default
returns-in_default c =
    rw c.refused-wrong.ensures (atom_unknown _ c.requires (ne_false _ _ c.if-ne.ensures) c.in_default.ensures)

pub returns-then-not-left_good : goal.returns-then-not-left_good
returns-then-not-left_good c =
    rw c.refused-wrong.ensures (atom_wrong _ c.requires (ne_false _ _ c.if-ne.ensures) c.in-Some.ensures c.token_at-relation.ensures (sym c.if-not-left_good.ensures))

pub returns : goal.returns
returns c =
    atom-goes _ c.requires (ne_false _ _ c.if-ne.ensures) c.in-Some.ensures c.token_at-relation.ensures (sym c.if-not-left_good.ensures) _ c.read_related.ensures
