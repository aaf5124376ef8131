use Rattle.std.proofs.Common.{◌∷◌, []}
use Rattle.byte_streams.proofs.Passing.{passed_on}
use Rattle.byte_streams.proofs.Written.{Sends-put, Sends-short}
use Rattle.log_text.specs.Text.{lines_text}
use Rattle.log_text.proofs.writing.write_two.Goals as goal

pub returns-in_err-make_room : goal.returns-in_err-make_room
returns-in_err-make_room g c =
    rw (passed_on c.from_residual.result c.in_err-make_room.field-0.0 c.from_residual.ensures.0 c.from_residual.ensures.1)
    (Sends-short (g.K.Sink.held c.args.out.now) (g.K.Sink.held c.make_room.new.out) c.args.line.now.text c.make_room.new.self.text (g.K.Sink.faults c.args.out.now)
    (g.K.Sink.faults c.make_room.new.out) c.in_err-make_room.field-0.0 [] (lines_text (c.args.first.now ∷ c.args.second.now ∷ [])) c.in_err-make_room.ensures.sent)

pub returns : goal.returns
returns g c =
    let w = c.in_ok-make_room.ensures.sent in
    Sends-put (g.K.Sink.held c.args.out.now) (g.K.Sink.held c.make_room.new.out) c.args.line.now.text c.make_room.new.self.text c.put_two.new.self.text
    (g.K.Sink.faults c.args.out.now) (g.K.Sink.faults c.make_room.new.out) _ [] (lines_text (c.args.first.now ∷ c.args.second.now ∷ [])) w.whole w.cause.later c.put_two.ensures.added
