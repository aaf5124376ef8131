use Rattle.byte_streams.proofs.Passing.{passed_on}
use Rattle.byte_streams.proofs.Written.{Writes-flushed, Writes-open}
use Rattle.log_text.proofs.answers.write_unreleased.Goals as goal

pub returns-in_err-write_both : goal.returns-in_err-write_both
returns-in_err-write_both g c =
    let w = rw c.new-line.ensures.text at c.in_err-write_both.ensures in
    rw (passed_on c.from_residual.result c.in_err-write_both.field-0.0 c.from_residual.ensures.0 c.from_residual.ensures.1)
    (Writes-open (g.K.Sink.held c.args.out.now) (g.K.Sink.held c.write_both.new.out) c.write_both.new.line.text
    (g.K.Sink.faults c.args.out.now) (g.K.Sink.faults c.write_both.new.out) c.in_err-write_both.field-0.0 _ w)

pub returns : goal.returns
returns g c =
    let w = rw c.new-line.ensures.text at c.in_ok-write_both.ensures in
    Writes-flushed (g.K.Sink.held c.args.out.now) (g.K.Sink.held c.write_both.new.out) (g.K.Sink.held c.flush.new.out) c.write_both.new.line.text
    (g.K.Sink.faults c.args.out.now) (g.K.Sink.faults c.write_both.new.out) (g.K.Sink.faults c.flush.new.out) c.flush.result _ w.whole w.cause.later c.flush.ensures.written
