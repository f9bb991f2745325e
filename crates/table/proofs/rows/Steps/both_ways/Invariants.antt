-- `both_ways` meets its contract. The invariant: what is left of the set is still to be walked.
use Rattle.words.proofs.Vocabulary.{[], ◌∷◌}
use Rattle.words.specs.Word.{Below}
use Rattle.table.specs.Stepping.{entries}
use Rattle.table.specs.Succ.{hit}
use Rattle.words.proofs.Members.{Walk}
use Rattle.table.proofs.rows.Steps.both_ways.Given as goal

abbrev pub invariant-loop-i : goal.invariant-loop-i
invariant-loop-i l =
    let rest = l.i-iterator.rest in
    let hits = hit (entries l.self) l.self.off l.self.on in
    Below l.self.shape.ceiling rest × Walk l.s rest l.left (λ q i. hits q (i ∷ l.t ∷ [])) × Walk l.s rest l.right (λ q i. hits q (l.t ∷ i ∷ []))
