use Rattle.std.proofs.Common.{◌≡◌, ◌++◌, [], ap, sym, ◌∙◌}
use Rattle.byte_streams.proofs.Passing.{passed_on}
use Rattle.byte_streams.proofs.Written.{Sends-put, Sends-short}
use Rattle.history_report.specs.Report.{entry_text}
use Rattle.history_report.specs.Candidates.{candidate_text}
use Rattle.history_report.proofs.CandidateLines.{candidate-line}
use Rattle.history_report.proofs.reports.write_told.Goals as goal

pub returns-in_err-make_room-in-Some : goal.returns-in_err-make_room-in-Some
returns-in_err-make_room-in-Some g c =
    rw (passed_on c.from_residual.result c.in_err-make_room-in-Some.field-0.0 c.from_residual.ensures.0 c.from_residual.ensures.1)
    (Sends-short (g.K.Sink.held c.args.out.now) (g.K.Sink.held c.make_room.new.out) c.args.line.now.text c.make_room.new.self.text (g.K.Sink.faults c.args.out.now)
    (g.K.Sink.faults c.make_room.new.out) c.in_err-make_room-in-Some.field-0.0 [] (entry_text c.args.h.now c.args.entry.now) c.in_err-make_room-in-Some.ensures.sent)
