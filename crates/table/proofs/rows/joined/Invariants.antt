-- `joined` meets its contract. The invariant: the sets before the index are in.
use Rattle.words.proofs.Vocabulary.{ℕ, ◌≡◌, get_or}
use Rattle.words.specs.Word.{mem, any}
use Rattle.table.proofs.rows.joined.Given as goal

abbrev pub invariant-loop-s : goal.invariant-loop-s
invariant-loop-s l = (q : ℕ) → mem q l.r ≡ any (λ (t : ℕ). mem q (get_or l.sets t 0)) l.s-index
