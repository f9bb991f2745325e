-- `join_plane` meets its contract. The invariant: what was right up to the plane is right up to its row b.
use Rattle.words.proofs.Vocabulary.{ℕ, ◌≤◌, ◌≡◌, length}
use Rattle.layout.specs.Slots.{slot_place}
use Rattle.table.specs.Entry.{seen}
use Rattle.joining.specs.Parting.{Span}
use Rattle.joining.specs.Rewriting.{joined_byte, Rewrites}
use Rattle.joining.proofs.entries.join_plane.Given as goal

abbrev pub invariant-loop-b : goal.invariant-loop-b
invariant-loop-b l = (length l.table ≡ length l.initial.table) × Span l.s l.table l.names.states
    × ((bits : ℕ) → l.l ≤ seen bits l.l → Rewrites (joined_byte l.s bits l.names.states l.names.count l.names.first l.names.number) (slot_place l.s l.l l.a 0 0) (slot_place l.s l.l l.a l.b 0) l.initial.table l.table)
