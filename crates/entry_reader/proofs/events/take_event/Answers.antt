use Rattle.entry_reader.proofs.EventParts.{event_by_line, event_rest}
use Rattle.entry_reader.proofs.events.take_event.Goals as goal

pub returns-in-Some : goal.returns-in-Some
returns-in-Some c = event_by_line c.args.thread c.args.words.now c.take_line.new.words c.in-Some.op (rw c.fork-ahead.ensures at c.in-Some.ensures)

pub returns : goal.returns
returns c = event_rest c.args.thread c.args.words.now c.take_line.new.words c.take_step.new.words c.take_step.result c.requires
    (rw c.fork-ahead.ensures at c.in_default-take_line.ensures) c.take_step.ensures
