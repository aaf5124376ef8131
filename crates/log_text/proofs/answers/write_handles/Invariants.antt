use Rattle.std.proofs.Common.{◌≤◌, drop}
use Rattle.log_text.specs.Answers.{handle_text}
use Rattle.log_text.proofs.Pieces.{Sent}
use Rattle.log_text.proofs.answers.write_handles.Given as goal

abbrev pub invariant-loop-h : goal.invariant-loop-h
invariant-loop-h g l = record {
  sent : Sent handle_text l.handles (drop l.h-index l.handles) (g.K.Sink.held l.fn.out) (g.K.Sink.held l.out) l.fn.line.text l.line.text;
  later : g.K.Sink.faults l.fn.out ≤ g.K.Sink.faults l.out;
}
