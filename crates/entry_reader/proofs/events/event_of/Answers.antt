use Rattle.entry_reader.proofs.Steps.{begin_taken, sweep_taken}
use Rattle.entry_reader.proofs.events.event_of.Goals as goal

pub returns-in-Begin : goal.returns-in-Begin
returns-in-Begin c = rw c.in-Begin.is (begin_taken c.args.words.now)

pub returns-in-Sweep : goal.returns-in-Sweep
returns-in-Sweep c = rw c.in-Sweep.is (sweep_taken c.args.words.now)
