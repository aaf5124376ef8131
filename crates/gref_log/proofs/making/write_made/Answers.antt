use Rattle.std.proofs.Common.{◌++◌, ◌∷◌, [], length, arith}
use Rattle.byte_streams.proofs.Passing.{passed_on}
use Rattle.byte_streams.proofs.Written.{BuffersText-then, Sends-after, Sends-short, Writes-flushed, Writes-open}
use Rattle.log_text.specs.Text.{lines_text, end_text}
use Rattle.gref_log.specs.Tracking.{logged_all, nothing_logged}
use Rattle.gref_log.proofs.making.write_made.Goals as goal

pub returns-in_err-sent-clause-written : goal.returns-in_err-sent-clause-written
returns-in_err-sent-clause-written g c =
    let n = c.write_entries-count.new in
    let ls = (logged_all nothing_logged c.args.h.now.entries).lines in
    let w = rw (c.new-line.ensures.text, c.in_err-sent.was) at c.write_entries-count.ensures.sends in
    rw (passed_on c.from_residual.result c.in_err-sent.field-0.0 c.from_residual.ensures.0 c.from_residual.ensures.1)
    (Writes-open (g.K.Sink.held c.args.out.now) (g.K.Sink.held n.out) n.line.text (g.K.Sink.faults c.args.out.now) (g.K.Sink.faults n.out) c.in_err-sent.field-0.0 _
    (Sends-short (g.K.Sink.held c.args.out.now) (g.K.Sink.held n.out) [] n.line.text (g.K.Sink.faults c.args.out.now)
    (g.K.Sink.faults n.out) c.in_err-sent.field-0.0 (lines_text ls) (end_text (length ls) ++ 10 ∷ []) w))

pub returns-in_err-write_end-clause-written : goal.returns-in_err-write_end-clause-written
returns-in_err-write_end-clause-written g c =
    let n = c.write_entries-count.new in
    let k = c.write_end.new in
    let ls = (logged_all nothing_logged c.args.h.now.entries).lines in
    let w = rw (c.new-line.ensures.text, c.in_ok-sent.was) at c.write_entries-count.ensures.sends in
    let v = rw c.write_entries-count.ensures.count at c.in_err-write_end.ensures in
    rw (passed_on c.from_residual-in_err-write_end.result c.in_err-write_end.field-0.0 c.from_residual-in_err-write_end.ensures.0 c.from_residual-in_err-write_end.ensures.1)
    (Writes-open (g.K.Sink.held c.args.out.now) (g.K.Sink.held k.out) k.line.text (g.K.Sink.faults c.args.out.now) (g.K.Sink.faults k.out) c.in_err-write_end.field-0.0 _
    (Sends-after (g.K.Sink.held c.args.out.now) (g.K.Sink.held n.out) (g.K.Sink.held k.out)
    [] n.line.text k.line.text (g.K.Sink.faults c.args.out.now) (g.K.Sink.faults n.out) (g.K.Sink.faults k.out) _
    (lines_text ls) (end_text (length ls) ++ 10 ∷ []) w.whole w.cause.later v))

pub returns-clause-written : goal.returns-clause-written
returns-clause-written g c =
    let n = c.write_entries-count.new in
    let k = c.write_end.new in
    let ls = (logged_all nothing_logged c.args.h.now.entries).lines in
    let w = rw (c.new-line.ensures.text, c.in_ok-sent.was) at c.write_entries-count.ensures.sends in
    let v = rw c.write_entries-count.ensures.count at c.in_ok-write_end.ensures in
    let p = BuffersText-then (g.K.Sink.held c.args.out.now) (g.K.Sink.held n.out) (g.K.Sink.held k.out) [] n.line.text k.line.text (lines_text ls) (end_text (length ls) ++ 10 ∷ []) w.whole v.whole in
    Writes-flushed (g.K.Sink.held c.args.out.now) (g.K.Sink.held k.out) (g.K.Sink.held c.flush.new.out) k.line.text
    (g.K.Sink.faults c.args.out.now) (g.K.Sink.faults k.out) (g.K.Sink.faults c.flush.new.out) c.flush.result _
    p (omega (arith, w.cause.later, v.cause.later)) c.flush.ensures.written
