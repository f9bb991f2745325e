-- `check::check_bits` meets its contract, by what the tree and the bits after it answer.
use Rattle.std.proofs.lemmas.Result.{err_from_is_err_and}
use Rattle.tree_strip.proofs.TreeEnd.{end_refused, end-room, end-over, end_clean}
use Rattle.tree_strip.proofs.check.check_bits.Goals as goal

pub returns-in_err-tree : goal.returns-in_err-tree
returns-in_err-tree c =
    let p = err_from_is_err_and c.from_residual.result c.from_residual.ensures.1 in
    rw (p.1, p.2) (end_refused c.args.s.now c.args.n c.in_err-tree.ensures)

pub read_end-requires : goal.read_end-requires
read_end-requires c =
    let e = end-room c.args.s.now c.args.n c.in_ok-tree.ensures c.requires.some_byte c.requires.few-variables in
    record { near = e.0; within = e.1 }

pub returns-in_err-read_end : goal.returns-in_err-read_end
returns-in_err-read_end c =
    let p = err_from_is_err_and c.from_residual-in_err-read_end.result c.from_residual-in_err-read_end.ensures.1 in
    rw (p.1, p.2) (end-over c.args.s.now c.args.n c.in_ok-tree.ensures c.requires.some_byte c.in_err-read_end.ensures)

pub returns : goal.returns
returns c =
    end_clean c.args.s.now c.args.n c.in_ok-tree.ensures c.requires.some_byte c.in_ok-read_end.ensures c.requires.said
