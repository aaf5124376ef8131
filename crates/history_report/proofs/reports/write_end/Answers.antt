use Rattle.std.proofs.Common.{◌≡◌, ◌++◌, [], ◌∙◌}
use Rattle.byte_streams.proofs.Passing.{passed_on}
use Rattle.byte_streams.proofs.Written.{Sends-put, Sends-short}
use Rattle.history_report.specs.Report.{end_text}
use Rattle.history_report.proofs.Written.{end_joined}
use Rattle.history_report.proofs.reports.write_end.Goals as goal

pub returns-in_err-make_room : goal.returns-in_err-make_room
returns-in_err-make_room g c =
    rw (passed_on c.from_residual.result c.in_err-make_room.field-0.0 c.from_residual.ensures.0 c.from_residual.ensures.1)
    (Sends-short (g.K.Sink.held c.args.out.now) (g.K.Sink.held c.make_room.new.out) c.args.line.now.text c.make_room.new.self.text (g.K.Sink.faults c.args.out.now)
    (g.K.Sink.faults c.make_room.new.out) c.in_err-make_room.field-0.0 [] (end_text c.args.count) c.in_err-make_room.ensures.sent)

pub returns : goal.returns
returns g c =
    let w = c.in_ok-make_room.ensures.sent in
    let o = c.make_room.new.self.text in
    let piece : c.text-2.new.self.text ≡ o ++ end_text c.args.count = c.text-2.ensures.added ∙ rw (c.number.ensures.added, c.text.ensures.added) (end_joined o c.args.count) in
    Sends-put (g.K.Sink.held c.args.out.now) (g.K.Sink.held c.make_room.new.out) c.args.line.now.text o c.text-2.new.self.text
    (g.K.Sink.faults c.args.out.now) (g.K.Sink.faults c.make_room.new.out) _ [] (end_text c.args.count) w.whole w.cause.later piece
