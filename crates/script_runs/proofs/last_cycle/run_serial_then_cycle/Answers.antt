use Rattle.std.proofs.Common.{◌∙◌}
use Rattle.script_runs.proofs.Last.{can_run_cycle, serial_in_order, serial_then_cycle}
use Rattle.script_runs.proofs.last_cycle.run_serial_then_cycle.Goals as goal

pub end_serial-ended-requires : goal.end_serial-ended-requires
end_serial-ended-requires g c = record { lines = can_run_cycle c.args.script.items c.deref.result.now (c.deref.ensures.value ∙ c.in_ok-lines.ensures) c.requires.lines c.requires.room }

pub returns-clause-in_order : goal.returns-clause-in_order
returns-clause-in_order g c = serial_in_order c.end_serial-ended.result c.args.script.items c.deref.result.now (c.deref.ensures.value ∙ c.in_ok-lines.ensures) c.end_serial-ended.ensures.history

pub returns-clause-history : goal.returns-clause-history
returns-clause-history g c = serial_then_cycle c.end_serial-ended.result c.args.script.items c.deref.result.now
    (c.deref.ensures.value ∙ c.in_ok-lines.ensures) c.requires.cycles c.end_serial-ended.ensures.history
