use Rattle.std.proofs.Common.{length}
use Rattle.gref_log.proofs.Writing.{Listed}
use Rattle.gref_log.proofs.making.list_entries.Given as goal

abbrev pub invariant-loop-step : goal.invariant-loop-step
invariant-loop-step l = Listed l.h.entries l.walk l.making l.list.items

abbrev pub decreases-loop-step : goal.decreases-loop-step
decreases-loop-step l = length l.walk
