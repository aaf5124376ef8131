use Rattle.std.proofs.Common.{[]}
use Rattle.byte_streams.proofs.Passing.{passed_on}
use Rattle.byte_streams.proofs.Written.{Sends-short}
use Rattle.graph_listing.specs.Listing.{head_text}
use Rattle.graph_listing.proofs.listing.write_head.Goals as goal

pub returns-in_err-make_room-clause-sent : goal.returns-in_err-make_room-clause-sent
returns-in_err-make_room-clause-sent g c =
    rw (passed_on c.from_residual.result c.in_err-make_room.field-0.0 c.from_residual.ensures.0 c.from_residual.ensures.1)
    (Sends-short (g.K.Sink.held c.args.out.now) (g.K.Sink.held c.make_room.new.out) c.args.line.now.text c.make_room.new.self.text
    (g.K.Sink.faults c.args.out.now) (g.K.Sink.faults c.make_room.new.out) c.in_err-make_room.field-0.0 [] (head_text c.args.c) c.in_err-make_room.ensures.sent)
