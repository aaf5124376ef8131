use Rattle.entry_reader.proofs.EventParts.{driver_by_step, driver_rest}
use Rattle.entry_reader.proofs.events.take_driver_event.Goals as goal

pub returns-in-Some : goal.returns-in-Some
returns-in-Some c = driver_by_step c.args.words.now c.take_step.new.words c.in-Some.op c.in-Some.ensures

pub returns : goal.returns
returns c = driver_rest c.args.words.now c.take_step.new.words c.take_line.new.words c.take_line.result c.in_default.ensures (rw c.fork-all.ensures at c.take_line.ensures)
