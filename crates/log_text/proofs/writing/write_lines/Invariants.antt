use Rattle.std.proofs.Common.{◌≤◌, drop}
use Rattle.log_text.proofs.LinesWritten.{Wrote}
use Rattle.log_text.proofs.writing.write_lines.Given as goal

abbrev pub invariant-loop-entry : goal.invariant-loop-entry
invariant-loop-entry g l = record {
  wrote : Wrote l.entries (drop l.entry-index l.entries) (g.K.Sink.held l.fn.out) (g.K.Sink.held l.out) l.fn.line.text l.line.text;
  later : g.K.Sink.faults l.fn.out ≤ g.K.Sink.faults l.out;
}
