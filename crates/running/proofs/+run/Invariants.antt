-- The measure of `run`: the bits from the place on.
use Rattle.words.proofs.Vocabulary.{◌-◌, ◌*◌, length}
use Rattle.running.proofs.+run.Given as goal

abbrev pub decreases-run : goal.decreases-run
decreases-run l = 8 * length l.strip.now - l.at
