use Rattle.std.proofs.Common.{◌≡◌, ◌∷◌, ◌∙◌, Some, ap, drop, get_or, map, take, arith}
use Rattle.std.specs.Prelude.{decimal, slice_get}
use Rattle.std.specs.Option.{option_map}
use Rattle.std.proofs.lemmas.Option.{slice_get-get_or, slice_get-map}
use Rattle.byte_streams.specs.Spaced.{after_spaces}
use Rattle.byte_streams.proofs.Passing.{passed_on}
use Rattle.byte_streams.proofs.Written.{BuffersText-put, BuffersText-room, Sends-no_room}
use Rattle.history_report.specs.Lists.{lettered}
use Rattle.graph_listing.specs.Numbers.{number_in}
use Rattle.graph_listing.proofs.Lines.{number_is, numbers_next, numbers_split}
use Rattle.graph_listing.proofs.listing.write_numbers.Goals as goal

pub returns-in_err-make_room : goal.returns-in_err-make_room
returns-in_err-make_room g c =
    let xs = map (number_in c.args.graph.now.nodes) c.args.objs.now in
    let k = c.loop-x.x-index in
    rw (passed_on c.from_residual.result c.in_err-make_room.field-0.0 c.from_residual.ensures.0 c.from_residual.ensures.1)
    (Sends-no_room (g.K.Sink.held c.args.out.now) (g.K.Sink.held c.loop-x.out) (g.K.Sink.held c.make_room.new.out) c.args.line.now.text c.loop-x.line.text c.make_room.new.self.text
    (g.K.Sink.faults c.args.out.now) (g.K.Sink.faults c.loop-x.out) (g.K.Sink.faults c.make_room.new.out) c.in_err-make_room.field-0.0
    (after_spaces (lettered 109 (take k xs))) (after_spaces (lettered 109 (drop k xs))) (after_spaces (lettered 109 xs))
    (numbers_split xs k) c.loop-x.invariant.so_far c.loop-x.invariant.later c.in_err-make_room.ensures.sent)

pub loop-x-preserved : goal.loop-x-preserved
loop-x-preserved g c =
    let nodes = c.args.graph.now.nodes in
    let objs = c.args.objs.now in
    let xs = map (number_in nodes) objs in
    let k = c.loop-x.x-index in
    let n = c.number.result.0 in
    let w = c.in_ok-make_room.ensures.sent in
    let o = c.make_room.new.self.text in
    let there : slice_get xs k ≡ Some n =
    slice_get-map (number_in nodes) objs k ∙ (ap (option_map (number_in nodes)) (slice_get-get_or objs k 0 c.loop-x-test.true)
    ∙ ap (λ m. Some m) (number_is nodes (get_or objs k 0) c.number.result c.number.ensures)) in
    let room = BuffersText-room (g.K.Sink.held c.args.out.now) (g.K.Sink.held c.loop-x.out)
    (g.K.Sink.held c.make_room.new.out) c.args.line.now.text c.loop-x.line.text o (after_spaces (lettered 109 (take k xs))) c.loop-x.invariant.so_far w.whole in
    record {
      so_far = rw (numbers_next xs k n there)
          (BuffersText-put (g.K.Sink.held c.args.out.now) (g.K.Sink.held c.make_room.new.out) c.args.line.now.text o c.lettered.new.self.text
          (after_spaces (lettered 109 (take k xs))) (32 ∷ 109 ∷ decimal n) room c.lettered.ensures.added);
      later = omega (arith, w.cause.later);
    }
