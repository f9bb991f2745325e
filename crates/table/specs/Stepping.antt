-- The entries that a function reads which walks through sets of states. Assumes nothing.
use Rattle.table.specs.Entry.{Step, entry}
use Rattle.table.specs.declared.rows.Steps.{Steps}

abbrev pub entries : Steps → Step
entries s = entry s.shape s.low.now s.table
