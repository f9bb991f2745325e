-- `exists_rows` meets its contract: the two labels have the bound bit cleared and set.
use Rattle.words.proofs.Vocabulary.{◌+◌, rules, and_le_l, arith}
use Rattle.layout.proofs.Places.{few-labels}
use Rattle.table.specs.Entry.{on}
use Rattle.table.proofs.RowLaws.{serves, joined-below}
use Rattle.table.proofs.rows.exists_rows.Goals as goal

pub overflow_add-on : goal.overflow_add-on
unfolding on
overflow_add-on c =
    let f = few-labels c.args.p.now.shape c.requires.table.shape in search rules

pub invariant_of-steps : goal.invariant_of-steps
unfolding on
invariant_of-steps c =
    let p = c.args.p.now in
    let n = c.cleared-off.result in
    let first = and_le_l n p.look1 in
    let second = and_le_l (n + p.wx) p.look1 in
    record { readable = record { table = c.requires.table; first-label = omega arith; second-label = omega arith } }

pub fill-requires : goal.fill-requires
fill-requires c =
    let a = c.args in
    let j = c.joined in
    let states = c.requires.states in
    (states a.k (omega arith), joined-below a.p.now.shape.ceiling a.sets.now a.k j.result j.ensures states)

pub returns : goal.returns
returns c =
    let a = c.args in
    let p = a.p.now in
    let j = c.joined in
    serves p.look1 p.wx a.l a.sets.now a.k j.result _ _ c.cleared-off.ensures.0 j.ensures c.fill.ensures c.unions.ensures
