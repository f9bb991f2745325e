-- `write::write_strip` meets its contract.
use Prim.Native.Nat.{◌+◌}
use native.Mathlib.Omega.{arith}
use Rattle.tree_strip.specs.Ranks.{tree_of_rank}
use Rattle.tree_strip.proofs.TreeWriting.{blank, after-version, after_head, strip-size, strip-written}
use Rattle.tree_strip.proofs.write.write_strip.Goals as goal

pub put_field-requires-clause-by_index : goal.put_field-requires-clause-by_index
put_field-requires-clause-by_index c = λ i l. blank _ _ (c.fill.ensures.after (λ y e. e)) (0 + i) (omega arith)

pub put_field-requires-2-clause-by_index : goal.put_field-requires-2-clause-by_index
put_field-requires-2-clause-by_index c =
    λ i l. after-version _ _ (c.fill.ensures.after (λ y e. e)) c.put_field.new.d c.put_field.ensures (4 + i) (omega arith)

pub write_tree-requires : goal.write_tree-requires
write_tree-requires c =
    let a = c.args in
    let h = c.requires in
    let w = c.fill in
    let v = c.put_field in
    let u = c.put_field-2 in
    let k = w.auto.self in
    let k₂ = v.auto.d in
    let k₃ = u.auto.d in
    let r = strip-size a.n (tree_of_rank a.ranks.now.nodes a.ranks.now.count a.r) h.few-variables h.few-positions in
    record {
      few-variables = h.few-variables;
      few = h.few;
      settled = h.settled;
      back = h.back;
      short = omega arith;
      room = omega arith;
      clear = after_head _ _ (w.ensures.after (λ y e. e)) v.new.d v.ensures a.n u.new.d u.ensures;
    }

pub returns : goal.returns
returns c =
    let a = c.args in
    let v = c.put_field in
    let u = c.put_field-2 in
    let x = c.write_tree in
    strip-written _ _ (c.fill.ensures.after (λ y e. e)) v.new.d v.ensures a.n u.new.d u.ensures (tree_of_rank a.ranks.now.nodes a.ranks.now.count a.r) c.requires.size
    x.new.d x.ensures.d_after (λ i. omega (arith, c.type_inv.out i))
