-- `accepted` meets its contract: the table in the share runs as the machine that is stored there. Assumes nothing.
use Rattle.words.proofs.Vocabulary.{◌∙◌, ap, ap₂, arith}
use Rattle.words.specs.Word.{mem}
use Rattle.running.specs.declared.Ran.{Ran}
use Rattle.reading.proofs.Bytes.{part-all, whole_of, run-alike}
use Rattle.reading.proofs.accepted.Goals as goal

pub run-ran-requires : goal.run-ran-requires
run-ran-requires c =
    let a = c.args in
    let w = c.requires.has_machine in
    let t = c.requires.has_tree in
    let table = part-all a.ws.now c.share_at-start.ensures.0 in
    record {
      whole = rw (c.from-looks.ensures, c.from-count.ensures) (whole_of a.s w.shape _ w.machine a.k a.ws.now _ w.stored table w.share);
      short = t.short;
      tree = t.tree;
      proper = t.proper;
      stands = t.stands;
    }

pub has-requires : goal.has-requires
has-requires c =
    let w = c.requires.has_machine in
    omega (arith, c.run-ran.ensures.below, w.stored.count, w.stored.few, w.shape.ceiling)

pub returns : goal.returns
returns c =
    let a = c.args in
    let table = part-all a.ws.now c.share_at-start.ensures.0 in
    let ran = rw c.from-looks.ensures at c.run-ran.ensures.ran in
    λ m t st proper stands.
    c.has.ensures
    ∙ ap₂ mem (ap (λ (r : Ran). r.state) (ran a.k.accept t proper stands)
    ∙ run-alike a.s c.requires.has_machine.shape _ m a.k a.ws.now _ st table t proper) st.accept
