-- `find` meets its contract. The loop's invariant: none of the names from number i on is the one. Assumes nothing.
use Rattle.tokens.specs.Spans.{part}
use Rattle.tokens.proofs.Scopes.{Passed}
use Rattle.tokens.proofs.names.Names.find.Given as goal

abbrev pub invariant-loop-i : goal.invariant-loop-i
invariant-loop-i l = Passed l.self (part l.self.text.now l.start l.stop) l.i
