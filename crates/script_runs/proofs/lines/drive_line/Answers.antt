use Rattle.script_runs.proofs.Driving.{drives_line}
use Rattle.script_runs.proofs.lines.drive_line.Goals as goal

pub returns-clause-ok : goal.returns-clause-ok
returns-clause-ok g c = drives_line c.args.driver.now c.line.new.self c.args.index c.args.act.now c.in_ok-line.field-0 c.requires.act c.in_ok-line.ensures.ok
