use Rattle.std.proofs.Common.{◌++◌, ◌∷◌, [], length, arith}
use Rattle.byte_streams.proofs.Passing.{passed_on}
use Rattle.byte_streams.proofs.Written.{BuffersText-then, Sends-after, Sends-short, Writes-flushed, Writes-open}
use Rattle.log_text.specs.Text.{lines_text, end_text}
use Rattle.log_text.proofs.writing.write_log.Goals as goal

pub returns-in_err-write_lines : goal.returns-in_err-write_lines
returns-in_err-write_lines g c =
    let ls = c.args.log.now in
    let w = rw (c.new-line.ensures.text, c.lines.ensures.lines) at c.in_err-write_lines.ensures in
    rw (passed_on c.from_residual.result c.in_err-write_lines.field-0.0 c.from_residual.ensures.0 c.from_residual.ensures.1)
    (Writes-open (g.K.Sink.held c.args.out.now) (g.K.Sink.held c.write_lines.new.out) c.write_lines.new.line.text
    (g.K.Sink.faults c.args.out.now) (g.K.Sink.faults c.write_lines.new.out) c.in_err-write_lines.field-0.0 _
    (Sends-short (g.K.Sink.held c.args.out.now) (g.K.Sink.held c.write_lines.new.out) [] c.write_lines.new.line.text (g.K.Sink.faults c.args.out.now)
    (g.K.Sink.faults c.write_lines.new.out) c.in_err-write_lines.field-0.0 (lines_text ls) (end_text (length ls) ++ 10 ∷ []) w))

pub returns-in_err-write_end : goal.returns-in_err-write_end
returns-in_err-write_end g c =
    let ls = c.args.log.now in
    let w = rw (c.new-line.ensures.text, c.lines.ensures.lines) at c.in_ok-write_lines.ensures in
    let v = rw c.len.ensures at c.in_err-write_end.ensures in
    rw (passed_on c.from_residual-in_err-write_end.result c.in_err-write_end.field-0.0 c.from_residual-in_err-write_end.ensures.0 c.from_residual-in_err-write_end.ensures.1)
    (Writes-open (g.K.Sink.held c.args.out.now) (g.K.Sink.held c.write_end.new.out) c.write_end.new.line.text
    (g.K.Sink.faults c.args.out.now) (g.K.Sink.faults c.write_end.new.out) c.in_err-write_end.field-0.0 _
    (Sends-after (g.K.Sink.held c.args.out.now) (g.K.Sink.held c.write_lines.new.out) (g.K.Sink.held c.write_end.new.out)
    [] c.write_lines.new.line.text c.write_end.new.line.text (g.K.Sink.faults c.args.out.now) (g.K.Sink.faults c.write_lines.new.out) (g.K.Sink.faults c.write_end.new.out) _
    (lines_text ls) (end_text (length ls) ++ 10 ∷ []) w.whole w.cause.later v))

pub returns : goal.returns
returns g c =
    let ls = c.args.log.now in
    let w = rw (c.new-line.ensures.text, c.lines.ensures.lines) at c.in_ok-write_lines.ensures in
    let v = rw c.len.ensures at c.in_ok-write_end.ensures in
    let p = BuffersText-then (g.K.Sink.held c.args.out.now) (g.K.Sink.held c.write_lines.new.out) (g.K.Sink.held c.write_end.new.out)
    [] c.write_lines.new.line.text c.write_end.new.line.text (lines_text ls) (end_text (length ls) ++ 10 ∷ []) w.whole v.whole in
    Writes-flushed (g.K.Sink.held c.args.out.now) (g.K.Sink.held c.write_end.new.out) (g.K.Sink.held c.flush.new.out) c.write_end.new.line.text
    (g.K.Sink.faults c.args.out.now) (g.K.Sink.faults c.write_end.new.out) (g.K.Sink.faults c.flush.new.out) c.flush.result _
    p (omega (arith, w.cause.later, v.cause.later)) c.flush.ensures.written
