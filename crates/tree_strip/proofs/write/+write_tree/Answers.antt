-- `write::write_tree` meets its contract: a node, then each of its branches.
use native.Mathlib.Omega.{arith}
use Rattle.tree_strip.proofs.Ranks.{empty-written, backward, head_room, first_writable, second_writable, node-written}
use Rattle.tree_strip.proofs.write.+write_tree.Goals as goal

pub returns-then-r-eq0 : goal.returns-then-r-eq0
returns-then-r-eq0 t c =
    let e = empty-written c.requires c.if-r-eq0.true in record { value = e.0; d_after = e.1 }

pub put_node-requires : goal.put_node-requires
put_node-requires t c =
    let w = c.requires in
    record { few-variables = w.few-variables; short = w.short; room = head_room w c.if-r-eq0.false; clear = w.clear }

pub write_tree-next-requires : goal.write_tree-next-requires
write_tree-next-requires t c =
    let w = c.requires in
    let z = c.if-r-eq0.false in
    let p = c.put_node in
    (omega (arith, c.decreases, (backward w z).0), first_writable w z p.new.d p.auto.d p.ensures)

pub write_tree-requires : goal.write_tree-requires
write_tree-requires t c =
    let w = c.requires in
    let z = c.if-r-eq0.false in
    let p = c.put_node in
    let f = c.write_tree-next in (
      omega (arith, c.decreases, (backward w z).1),
      second_writable w z p.new.d p.auto.d p.ensures f.result f.ensures.value f.new.d f.auto.d f.ensures.d_after,
    )

pub returns : goal.returns
returns t c =
    let p = c.put_node in
    let f = c.write_tree-next in
    let g = c.write_tree in
    let e = node-written c.requires c.if-r-eq0.false p.new.d p.auto.d p.ensures
    f.result f.ensures.value f.new.d f.auto.d f.ensures.d_after g.result g.ensures.value _ g.ensures.d_after in
    record { value = e.0; d_after = e.1 }
