use Rattle.std.proofs.Common.{[]}
use Rattle.byte_streams.proofs.Passing.{passed_on}
use Rattle.byte_streams.proofs.Written.{Sends-short}
use Rattle.graph_listing.specs.Listing.{reference_text}
use Rattle.graph_listing.proofs.listing.write_reference.Goals as goal

pub returns-in_err-make_room : goal.returns-in_err-make_room
returns-in_err-make_room g c =
    rw (passed_on c.from_residual.result c.in_err-make_room.field-0.0 c.from_residual.ensures.0 c.from_residual.ensures.1)
    (Sends-short (g.K.Sink.held c.args.out.now) (g.K.Sink.held c.make_room.new.out) c.args.line.now.text c.make_room.new.self.text (g.K.Sink.faults c.args.out.now)
    (g.K.Sink.faults c.make_room.new.out) c.in_err-make_room.field-0.0 [] (reference_text c.args.pair) c.in_err-make_room.ensures.sent)
