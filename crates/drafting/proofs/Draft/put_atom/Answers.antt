-- `put_atom` meets its contract: the tracks are those of the variant that each arm knows. Assumes nothing.
use mathlib.Core.Path.{refl}
use Rattle.drafting.specs.declared.Spot.TheVariants.{Variable, Branch, Root}
use Rattle.drafting.specs.declared.Atom.TheVariants.{Sub, Member, Equal}
use Rattle.drafting.proofs.Sentences.{atom_is, place_is}
use Rattle.drafting.proofs.Draft.put_atom.Goals as goal

pub returns-in-Sub : goal.returns-in-Sub
returns-in-Sub c =
    atom_is (Sub _ _) c.in-Sub.is refl c.put.ensures.puts

pub returns-in-Member : goal.returns-in-Member
returns-in-Member c =
    atom_is (Member _ _) c.in-Member.is refl c.put-in-Member.ensures.puts

pub returns-in-Variable : goal.returns-in-Variable
returns-in-Variable c =
    atom_is (Equal _ (Variable _)) (place_is c.in-Equal.is c.in-Variable.is) refl c.put-in-Variable.ensures.puts

pub returns-in-Branch : goal.returns-in-Branch
returns-in-Branch c =
    atom_is (Equal _ (Branch _ _)) (place_is c.in-Equal.is c.in-Branch.is) c.op.ensures c.put-in-Branch.ensures.puts

pub returns-in-Root : goal.returns-in-Root
returns-in-Root c =
    atom_is (Equal _ Root) (place_is c.in-Equal.is c.in-Root.is) refl c.put-in-Root.ensures.puts
