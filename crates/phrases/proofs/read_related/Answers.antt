-- `read_related` meets its contract, from those of `read_equal` and `read_right`. Assumes nothing.
use Rattle.phrases.proofs.Atoms.{related-equal, related-right, related_in, related-other}
use Rattle.phrases.proofs.read_related.Goals as goal

pub returns-in-Equals : goal.returns-in-Equals
returns-in-Equals c =
    related-equal _ _ _ _ _ c.in-Equals.is c.read_equal.ensures

pub returns-in-Sub : goal.returns-in-Sub
returns-in-Sub c =
    related-right _ _ _ _ _ c.in-Sub.is c.read_right.ensures

pub returns-in-In : goal.returns-in-In
returns-in-In c =
    related_in _ _ _ _ _ c.in-In.is c.read_right-in-In.ensures

pub returns-in_default : goal.returns-in_default
returns-in_default c =
    rw c.refused.ensures (related-other _ _ _ _ c.in_default.not-Equals c.in_default.not-Sub c.in_default.not-In)
