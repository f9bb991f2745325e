-- `check::read_tree` meets its contract, by what its head and its branches answer.
use native.Mathlib.Omega.{arith}
use Rattle.std.proofs.lemmas.Result.{err_from_is_err_and}
use Rattle.tree_strip.proofs.TreeHead.{told-refused, told-empty, first-room, first-refused, second-room, second-refused, told-node}
use Rattle.tree_strip.proofs.check.+read_tree.Goals as goal

pub returns-in_err-next : goal.returns-in_err-next
returns-in_err-next t c =
    let a = c.args in
    let p = err_from_is_err_and c.from_residual.result c.from_residual.ensures.1 in
    rw (p.1, p.2) (told-refused a.s.now a.n a.met a.at c.in_err-next.ensures)

pub read_tree-requires : goal.read_tree-requires
read_tree-requires t c =
    let a = c.args in
    let p = c.requires in
    let r = first-room a.s.now a.n a.met a.at c.in_ok-next.ensures c.in-Node.is p.few-variables p.few p.near in
    (omega (arith, c.decreases), record { some-variable = p.some-variable; few-variables = p.few-variables; few = r.0; near = r.1 })

pub returns-in_err-first-in-Node : goal.returns-in_err-first-in-Node
returns-in_err-first-in-Node t c =
    let a = c.args in
    let p = err_from_is_err_and c.from_residual-in_err-first-in-Node.result c.from_residual-in_err-first-in-Node.ensures.1 in
    rw (p.1, p.2) (first-refused a.s.now a.n a.met a.at c.in_ok-next.ensures c.in-Node.is c.in_err-first-in-Node.ensures)

pub read_tree-requires-in-Node : goal.read_tree-requires-in-Node
read_tree-requires-in-Node t c =
    let a = c.args in
    let p = c.requires in
    let r = second-room a.s.now a.n a.met a.at c.in_ok-next.ensures c.in-Node.is c.in_ok-first-in-Node.ensures p.few-variables p.few p.near in
    (omega (arith, c.decreases), record { some-variable = p.some-variable; few-variables = p.few-variables; few = r.1; near = r.2 })

pub returns-in_err-second-in-Node : goal.returns-in_err-second-in-Node
returns-in_err-second-in-Node t c =
    let a = c.args in
    let p = err_from_is_err_and c.from_residual-in_err-second-in-Node.result c.from_residual-in_err-second-in-Node.ensures.1 in
    rw (p.1, p.2)
    (second-refused a.s.now a.n a.met a.at c.in_ok-next.ensures c.in-Node.is c.in_ok-first-in-Node.ensures c.requires.few c.in_err-second-in-Node.ensures)

pub returns-in-Empty : goal.returns-in-Empty
returns-in-Empty t c =
    let a = c.args in told-empty a.s.now a.n a.met a.at c.in_ok-next.ensures c.in-Empty.is

pub returns-in_ok-second-in-Node : goal.returns-in_ok-second-in-Node
returns-in_ok-second-in-Node t c =
    let a = c.args in
    rw c.close_node.ensures
    (told-node a.s.now a.n a.met a.at c.in_ok-next.ensures c.in-Node.is c.in_ok-first-in-Node.ensures c.requires.few c.in_ok-second-in-Node.ensures)
