use Rattle.std.proofs.Common.{◌≡◌, ◌++◌, [], ap, ◌∙◌, append_assoc}
use Rattle.byte_streams.specs.Spaced.{after_spaces}
use Rattle.byte_streams.proofs.Passing.{passed_on}
use Rattle.byte_streams.proofs.Written.{BuffersText-put, Sends-after, Sends-put, Sends-short}
use Rattle.history_report.specs.Lists.{list_words}
use Rattle.history_report.specs.Report.{head_text, tail_text, entry_text}
use Rattle.history_report.proofs.reports.write_entry.Goals as goal

pub returns-in_err-make_room : goal.returns-in_err-make_room
returns-in_err-make_room g c =
    rw (passed_on c.from_residual.result c.in_err-make_room.field-0.0 c.from_residual.ensures.0 c.from_residual.ensures.1)
    (Sends-short (g.K.Sink.held c.args.out.now) (g.K.Sink.held c.make_room.new.out) c.args.line.now.text c.make_room.new.self.text (g.K.Sink.faults c.args.out.now)
    (g.K.Sink.faults c.make_room.new.out) c.in_err-make_room.field-0.0 [] (entry_text c.args.h.now (g.E.EntryParts.entry c.args.entry.now)) c.in_err-make_room.ensures.sent)

pub returns-in-Some : goal.returns-in-Some
returns-in-Some g c =
    let head = head_text (g.E.EntryParts.entry c.args.entry.now) in
    let tail = tail_text (g.E.EntryParts.entry c.args.entry.now).made.cites in
    let list = after_spaces (list_words c.args.h.now c.in-Some.numbers c.in-Some.span) in
    let w = c.in_ok-make_room.ensures.sent in
    let held = BuffersText-put (g.K.Sink.held c.args.out.now) (g.K.Sink.held c.make_room.new.out) c.args.line.now.text
    c.make_room.new.self.text c.add_head.new.line.text [] head w.whole c.add_head.ensures.added in
    let is = rw c.reply.ensures at c.in-Some.ensures in
    rw (← is)
    (Sends-after (g.K.Sink.held c.args.out.now) (g.K.Sink.held c.make_room.new.out) (g.K.Sink.held c.write_listed.new.out) c.args.line.now.text c.add_head.new.line.text c.write_listed.new.line.text
    (g.K.Sink.faults c.args.out.now) (g.K.Sink.faults c.make_room.new.out) (g.K.Sink.faults c.write_listed.new.out) c.write_listed.result
    head (list ++ tail) held w.cause.later (rw c.cites.ensures at c.write_listed.ensures))

pub returns-in-None : goal.returns-in-None
returns-in-None g c =
    let head = head_text (g.E.EntryParts.entry c.args.entry.now) in
    let tail = tail_text (g.E.EntryParts.entry c.args.entry.now).made.cites in
    let w = c.in_ok-make_room.ensures.sent in
    let o = c.make_room.new.self.text in
    let piece : c.add_tail.new.line.text ≡ o ++ (head ++ tail) = (rw c.cites-in-None.ensures at c.add_tail.ensures.added) ∙ (ap (λ t. t ++ tail) c.add_head.ensures.added ∙ append_assoc o head tail) in
    let is = rw c.reply.ensures at c.in-None.ensures in
    rw (← is)
    (Sends-put (g.K.Sink.held c.args.out.now) (g.K.Sink.held c.make_room.new.out) c.args.line.now.text o c.add_tail.new.line.text
    (g.K.Sink.faults c.args.out.now) (g.K.Sink.faults c.make_room.new.out) _ [] (head ++ tail) w.whole w.cause.later piece)
