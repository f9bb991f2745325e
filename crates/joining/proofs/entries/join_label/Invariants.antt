-- `join_label` meets its contract. The invariant: what was right up to the label is right up to its plane a.
use Rattle.words.proofs.Vocabulary.{ℕ, ◌≤◌, ◌≡◌, length}
use Rattle.layout.specs.Slots.{slot_place}
use Rattle.table.specs.Entry.{seen}
use Rattle.joining.specs.Parting.{Span}
use Rattle.joining.specs.Rewriting.{joined_byte, Rewrites}
use Rattle.joining.proofs.entries.join_label.Given as goal

abbrev pub invariant-loop-a : goal.invariant-loop-a
invariant-loop-a l = (length l.table ≡ length l.initial.table) × Span l.s l.table l.names.states
    × ((bits : ℕ) → l.l ≤ seen bits l.l → Rewrites (joined_byte l.s bits l.names.states l.names.count l.names.first l.names.number) (slot_place l.s l.l 0 0 0) (slot_place l.s l.l l.a 0 0) l.initial.table l.table)
