-- `import::put_free` meets its contract.
use Rattle.std.proofs.Common.{sym}
use denote.Enum.Bare.{same_true, same_false}
use Rattle.tokens.specs.contracts.names.Order as order
use Rattle.import.proofs.Whole.{freed_none, freed_first, freed_second}
use Rattle.import.proofs.put_free.Goals as goal
use Rattle.import.proofs.put_free.Goals.{then-eq, else-eq}

pub loop-track-init : goal.loop-track-init
loop-track-init c = freed_none c.args.names.now

pub loop-track-preserved : goal.loop-track-preserved
loop-track-preserved c =
    elim c.if-eq.branch [
      | then-eq w ↦
          rw w.draft-is (freed_first c.args.names.now _ c.loop-track.invariant (same_true order.the_type tt _ _ (sym w.if-eq.ensures)) w.put_single.ensures)
      | else-eq w ↦ rw w.draft-is (freed_second c.args.names.now _ c.loop-track.invariant (same_false order.the_type _ _ (sym w.if-eq.ensures)))
    ]
