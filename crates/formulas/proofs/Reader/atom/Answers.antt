-- `formulas::Reader::atom` meets its contract.
use Rattle.std.proofs.Common.{refl}
use Rattle.formulas.proofs.Levels.{same, atom-refused, atom-reads}
use Rattle.formulas.proofs.Reader.atom.Goals as goal

pub returns-in-Err : goal.returns-in-Err
returns-in-Err c = atom-refused (same refl refl refl) c.refuse.ensures (rw c.in-Err.is at c.read_atom.ensures)

pub returns : goal.returns
returns c = atom-reads (rw c.in-Ok.is at c.read_atom.ensures) (same refl refl refl) c.put_atom.ensures c.look.ensures
