-- `join_entries` meets its contract. The invariant: the labels below l are written.
use Rattle.layout.specs.Slots.{slot_place}
use Rattle.joining.specs.Parting.{Span}
use Rattle.joining.specs.Rewriting.{joined_byte, Rewritten}
use Rattle.joining.proofs.entries.join_entries.Given as goal

abbrev pub invariant-loop-l : goal.invariant-loop-l
invariant-loop-l l = Span l.s l.table l.names.states
    × Rewritten (joined_byte l.s l.looks l.names.states l.names.count l.names.first l.names.number l.initial.table) (slot_place l.s l.l 0 0 0) l.initial.table l.table
