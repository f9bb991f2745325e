-- `decide::conclude` meets its contract.
use Rattle.words.proofs.Vocabulary.{refl, sym, arith, length-take-le}
use Rattle.decide.proofs.Deciding.{shown-room, shown-long, shown-front, tells-shown}
use Rattle.decide.proofs.conclude.Goals as goal

pub strip_bytes-len-requires : goal.strip_bytes-len-requires
strip_bytes-len-requires c =
    let a = c.args in
    let p = rw c.in-Shown.is at c.requires in
    (p.0, (shown-room a.n a.states _ a.out.now (p.1.shown _ refl) p.2).0)

pub slice_bounds-write_strip-end : goal.slice_bounds-write_strip-end
slice_bounds-write_strip-end c =
    let a = c.args in
    let p = rw c.in-Shown.is at c.requires in
    shown-long a.n a.states _ a.out.now (p.1.shown _ refl) p.2 c.strip_bytes-len.ensures

pub slice_bounds-write_strip-end-in-Shown : goal.slice_bounds-write_strip-end-in-Shown
slice_bounds-write_strip-end-in-Shown c =
    let a = c.args in
    let p = rw c.in-Shown.is at c.requires in
    sym (length-take-le _ _ (shown-long a.n a.states _ a.out.now (p.1.shown _ refl) p.2 c.strip_bytes-len.ensures))

pub write_strip-requires : goal.write_strip-requires
write_strip-requires c =
    let a = c.args in
    let p = rw c.in-Shown.is at c.requires in
    let s = p.1.shown _ refl in
    record {
      few-variables = p.0;
      few = s.high;
      settled = let w = s.low in omega arith;
      back = s.back;
      few-positions = (shown-room a.n a.states _ a.out.now s p.2).1;
      size = shown-front a.n a.states _ a.out.now s p.2 c.strip_bytes-len.ensures;
    }

pub returns-in-Shown : goal.returns-in-Shown
returns-in-Shown c =
    let a = c.args in
    let p = rw c.in-Shown.is at c.requires in
    let told = tells-shown a.n a.states _ a.out.now (p.1.shown _ refl) p.2 c.strip_bytes-len.ensures c.write_strip.ensures in
    rw c.in-Shown.is (record { value = told.0; out_after = told.1 })
