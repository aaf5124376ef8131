use Rattle.std.proofs.Common.{◌++◌, refl, arith}
use Rattle.byte_streams.specs.Spaced.{after_spaces}
use Rattle.byte_streams.proofs.Passing.{passed_on}
use Rattle.byte_streams.proofs.Written.{BuffersText-room, Sends-no_room, Sends-put, Sends-short}
use Rattle.history_report.specs.Lists.{list_words}
use Rattle.history_report.specs.Report.{tail_text}
use Rattle.history_report.proofs.reports.write_listed.Goals as goal

pub returns-in_err-write_list : goal.returns-in_err-write_list
returns-in_err-write_list g c =
    let list = after_spaces (list_words c.args.h.now c.args.numbers c.args.span) in
    rw (passed_on c.from_residual.result c.in_err-write_list.field-0.0 c.from_residual.ensures.0 c.from_residual.ensures.1)
    (Sends-short (g.K.Sink.held c.args.out.now) (g.K.Sink.held c.write_list.new.out) c.args.line.now.text c.write_list.new.line.text
    (g.K.Sink.faults c.args.out.now) (g.K.Sink.faults c.write_list.new.out) c.in_err-write_list.field-0.0 list (tail_text c.args.cites) c.in_err-write_list.ensures)

pub returns-in_err-make_room : goal.returns-in_err-make_room
returns-in_err-make_room g c =
    let list = after_spaces (list_words c.args.h.now c.args.numbers c.args.span) in
    let w = c.in_ok-write_list.ensures in
    rw (passed_on c.from_residual-in_err-make_room.result c.in_err-make_room.field-0.0 c.from_residual-in_err-make_room.ensures.0 c.from_residual-in_err-make_room.ensures.1)
    (Sends-no_room (g.K.Sink.held c.args.out.now) (g.K.Sink.held c.write_list.new.out) (g.K.Sink.held c.make_room.new.out) c.args.line.now.text c.write_list.new.line.text c.make_room.new.self.text
    (g.K.Sink.faults c.args.out.now) (g.K.Sink.faults c.write_list.new.out) (g.K.Sink.faults c.make_room.new.out) c.in_err-make_room.field-0.0
    list (tail_text c.args.cites) (list ++ tail_text c.args.cites) refl w.whole w.cause.later c.in_err-make_room.ensures.sent)

pub returns : goal.returns
returns g c =
    let list = after_spaces (list_words c.args.h.now c.args.numbers c.args.span) in
    let w = c.in_ok-write_list.ensures in
    let m = c.in_ok-make_room.ensures.sent in
    let room = BuffersText-room (g.K.Sink.held c.args.out.now) (g.K.Sink.held c.write_list.new.out)
    (g.K.Sink.held c.make_room.new.out) c.args.line.now.text c.write_list.new.line.text c.make_room.new.self.text list w.whole m.whole in
    Sends-put (g.K.Sink.held c.args.out.now) (g.K.Sink.held c.make_room.new.out) c.args.line.now.text c.make_room.new.self.text c.add_tail.new.line.text
    (g.K.Sink.faults c.args.out.now) (g.K.Sink.faults c.make_room.new.out) _ list (tail_text c.args.cites)
    room (omega (arith, w.cause.later, m.cause.later)) c.add_tail.ensures.added
