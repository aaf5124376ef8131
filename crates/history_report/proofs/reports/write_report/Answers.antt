use Rattle.std.proofs.Common.{[], length, arith}
use Rattle.history_report.specs.Report.{entries_text, end_text}
use Rattle.byte_streams.proofs.Passing.{passed_on}
use Rattle.byte_streams.proofs.Written.{BuffersText-then, Sends-after, Sends-short, Writes-flushed, Writes-open}
use Rattle.history_report.proofs.reports.write_report.Goals as goal

pub returns-in_err-write_entries : goal.returns-in_err-write_entries
returns-in_err-write_entries g c =
    let es = c.args.h.now.entries in
    let w = rw c.new-line.ensures.text at c.in_err-write_entries.ensures in
    rw (passed_on c.from_residual.result c.in_err-write_entries.field-0.0 c.from_residual.ensures.0 c.from_residual.ensures.1)
    (Writes-open (g.K.Sink.held c.args.out.now) (g.K.Sink.held c.write_entries.new.out) c.write_entries.new.line.text
    (g.K.Sink.faults c.args.out.now) (g.K.Sink.faults c.write_entries.new.out) c.in_err-write_entries.field-0.0 _
    (Sends-short (g.K.Sink.held c.args.out.now) (g.K.Sink.held c.write_entries.new.out) [] c.write_entries.new.line.text (g.K.Sink.faults c.args.out.now)
    (g.K.Sink.faults c.write_entries.new.out) c.in_err-write_entries.field-0.0 (entries_text c.args.h.now es) (end_text (length es)) w))

pub returns-in_err-write_end : goal.returns-in_err-write_end
returns-in_err-write_end g c =
    let es = c.args.h.now.entries in
    let w = rw c.new-line.ensures.text at c.in_ok-write_entries.ensures in
    let v = rw c.len.ensures at c.in_err-write_end.ensures in
    rw (passed_on c.from_residual-in_err-write_end.result c.in_err-write_end.field-0.0 c.from_residual-in_err-write_end.ensures.0 c.from_residual-in_err-write_end.ensures.1)
    (Writes-open (g.K.Sink.held c.args.out.now) (g.K.Sink.held c.write_end.new.out) c.write_end.new.line.text
    (g.K.Sink.faults c.args.out.now) (g.K.Sink.faults c.write_end.new.out) c.in_err-write_end.field-0.0 _
    (Sends-after (g.K.Sink.held c.args.out.now) (g.K.Sink.held c.write_entries.new.out) (g.K.Sink.held c.write_end.new.out)
    [] c.write_entries.new.line.text c.write_end.new.line.text (g.K.Sink.faults c.args.out.now) (g.K.Sink.faults c.write_entries.new.out) (g.K.Sink.faults c.write_end.new.out) _
    (entries_text c.args.h.now es) (end_text (length es)) w.whole w.cause.later v))

pub returns : goal.returns
returns g c =
    let es = c.args.h.now.entries in
    let w = rw c.new-line.ensures.text at c.in_ok-write_entries.ensures in
    let v = rw c.len.ensures at c.in_ok-write_end.ensures in
    let p = BuffersText-then (g.K.Sink.held c.args.out.now) (g.K.Sink.held c.write_entries.new.out) (g.K.Sink.held c.write_end.new.out)
    [] c.write_entries.new.line.text c.write_end.new.line.text (entries_text c.args.h.now es) (end_text (length es)) w.whole v.whole in
    Writes-flushed (g.K.Sink.held c.args.out.now) (g.K.Sink.held c.write_end.new.out) (g.K.Sink.held c.flush.new.out) c.write_end.new.line.text
    (g.K.Sink.faults c.args.out.now) (g.K.Sink.faults c.write_end.new.out) (g.K.Sink.faults c.flush.new.out) c.flush.result _
    p (omega (arith, w.cause.later, v.cause.later)) c.flush.ensures.written
