-- `earliest` meets its contract: the table in the share is searched as the machine that is stored there. Assumes nothing.
use Rattle.words.proofs.Vocabulary.{subst}
use Rattle.logic.specs.Search.{Sought}
use Rattle.search.specs.Rounds.{Ended}
use Rattle.reading.proofs.Bytes.{part-all, whole_of, searched_alike}
use Rattle.reading.proofs.earliest.Goals as goal

pub find-requires : goal.find-requires
find-requires c =
    let a = c.args in
    let w = c.requires.has_machine in
    let table = part-all a.ws.now c.share_at-base.ensures.0 in
    record {
      whole = rw (c.from.ensures, c.from-2.ensures) (whole_of a.s w.shape _ w.machine a.k a.ws.now _ w.stored table w.share);
      p_bound = c.requires.p_bound;
    }

pub returns : goal.returns
returns c =
    let a = c.args in
    let table = part-all a.ws.now c.share_at-base.ensures.0 in
    λ m st. subst (λ (x : Sought 2). Ended x c.find.result) (searched_alike a.s c.requires.has_machine.shape _ m a.k a.ws.now _ st table a.p)
    (rw (c.from.ensures, c.from-2.ensures) at c.find.ensures)
