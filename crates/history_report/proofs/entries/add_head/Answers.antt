use Rattle.std.proofs.Common.{decimal, arith}
use Rattle.history_report.specs.Report.{event_words, reply_words, place_text}
use Rattle.history_report.proofs.Written.{head_joined}
use Rattle.history_report.proofs.entries.add_head.Goals as goal

pub returns : goal.returns
returns g c = let e = g.E.EntryParts.entry c.args.entry.now in record {
  added = rw (
    c.add_reply.ensures.added,
    c.word.ensures.added,
    c.add_event.ensures.added,
    c.add_place.ensures.added,
    c.count.ensures.added,
    c.go_to.ensures,
    c.number-number.ensures,
    c.caller.ensures,
    c.index.ensures,
    c.caller-2.ensures,
    c.op.ensures,
    c.reply.ensures,
  )
      (head_joined c.args.line.now.text (decimal e.number) (place_text e.made.caller e.made.index)
      (event_words e.made.caller e.made.op) (reply_words e.made.reply));
  left = omega arith;
}
