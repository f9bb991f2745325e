-- `read_branch` meets its contract, from that of `token_at`. Assumes nothing.
use Rattle.phrases.proofs.Atoms.{branch_one, branch-two, branch-none}
use Rattle.phrases.proofs.read_branch.Goals as goal

pub returns-in-Branch1 : goal.returns-in-Branch1
returns-in-Branch1 c =
    branch_one c.token_at-mark.ensures _ c.requires c.in-Branch1.is

pub returns-in-Branch2 : goal.returns-in-Branch2
returns-in-Branch2 c =
    branch-two c.token_at-mark.ensures _ c.requires c.in-Branch2.is

pub returns-in_default : goal.returns-in_default
returns-in_default c =
    branch-none c.token_at-mark.ensures _ c.requires c.in_default.not-Branch1 c.in_default.not-Branch2
