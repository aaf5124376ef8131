use Rattle.std.proofs.Common.{◌≤◌, length}
use Rattle.history_report.proofs.Written.{Reported}
use Rattle.history_report.proofs.reports.write_entries.Given as goal

abbrev pub invariant-loop-step : goal.invariant-loop-step
invariant-loop-step g l = record {
  reported : Reported l.h l.walk (g.K.Sink.held l.fn.out) (g.K.Sink.held l.out) l.fn.line.text l.line.text;
  later : g.K.Sink.faults l.fn.out ≤ g.K.Sink.faults l.out;
}

abbrev pub decreases-loop-step : goal.decreases-loop-step
decreases-loop-step g l = length l.walk
