use Rattle.entry_reader.proofs.Steps.{cycle_none, cycle_some}
use Rattle.entry_reader.proofs.events.take_of_cycle.Goals as goal

pub returns-in_err-cycle : goal.returns-in_err-cycle
returns-in_err-cycle c = rw c.from_residual.ensures (cycle_none c.args.word c.args.words.now c.take_cycle.new.words c.requires c.in_err-cycle.ensures)

pub returns : goal.returns
returns c = rw c.with_cycle.ensures (cycle_some c.args.word c.in_ok-cycle.cycle c.args.words.now c.take_cycle.new.words c.requires c.in_ok-cycle.ensures)
