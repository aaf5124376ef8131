use Rattle.byte_streams.proofs.Passing.{passed_on}
use Rattle.byte_streams.proofs.Written.{Sends-after, Sends-short}
use Rattle.log_text.specs.Answers.{list_text}
use Rattle.log_text.proofs.answers.write_strength.Goals as goal

pub returns-in_err-write_piece : goal.returns-in_err-write_piece
returns-in_err-write_piece g c =
    rw (passed_on c.from_residual.result c.in_err-write_piece.field-0.0 c.from_residual.ensures.0 c.from_residual.ensures.1)
    (Sends-short (g.K.Sink.held c.args.out.now) (g.K.Sink.held c.write_piece.new.out) c.args.line.now.text c.write_piece.new.line.text (g.K.Sink.faults c.args.out.now)
    (g.K.Sink.faults c.write_piece.new.out) c.in_err-write_piece.field-0.0 c.args.word.now (list_text c.args.handles.now) c.in_err-write_piece.ensures)

pub returns : goal.returns
returns g c =
    let w = c.in_ok-write_piece.ensures in
    Sends-after (g.K.Sink.held c.args.out.now) (g.K.Sink.held c.write_piece.new.out) (g.K.Sink.held c.write_list.new.out) c.args.line.now.text c.write_piece.new.line.text c.write_list.new.line.text
    (g.K.Sink.faults c.args.out.now) (g.K.Sink.faults c.write_piece.new.out) (g.K.Sink.faults c.write_list.new.out) c.write_list.result
    c.args.word.now (list_text c.args.handles.now) w.whole w.cause.later c.write_list.ensures
