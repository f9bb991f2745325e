-- `pair_code` meets its contract.
use Rattle.words.proofs.Vocabulary.{ℕ, ◌+◌, ◌*◌, ap₂}
use Rattle.table.specs.Entry.{through, seen}
use Rattle.table.specs.Succ.{pair_code}
use Rattle.table.proofs.rows.pair_code.Goals as goal

pub returns : goal.returns
unfolding pair_code through seen
returns c =
    ap₂ (λ (a b : ℕ). a * 64 + b) c.entry_at-first.ensures.0 c.entry_at-second.ensures.0
