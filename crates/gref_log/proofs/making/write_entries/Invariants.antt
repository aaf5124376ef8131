use Rattle.std.proofs.Common.{length}
use Rattle.gref_log.proofs.Writing.{Walked}
use Rattle.gref_log.proofs.making.write_entries.Given as goal

abbrev pub invariant-loop-step : goal.invariant-loop-step
invariant-loop-step g l = Walked l.h.entries l.walk l.making l.count (g.K.Sink.held l.fn.out) (g.K.Sink.held l.out) l.fn.line.text l.line.text (g.K.Sink.faults l.fn.out) (g.K.Sink.faults l.out) l.sent

abbrev pub decreases-loop-step : goal.decreases-loop-step
decreases-loop-step g l = length l.walk
