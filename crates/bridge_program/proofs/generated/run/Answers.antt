use Rattle.std.proofs.Common.{sym, subst}
use Rattle.run_laws.specs.LastCycle.{DrivesCycles}
use Rattle.bridge_program.proofs.generated.run.Goals as goal

pub run_serial_then_cycle-requires-clause-cycles : goal.run_serial_then_cycle-requires-clause-cycles
run_serial_then_cycle-requires-clause-cycles g c = subst DrivesCycles (sym c.into_lines.ensures) c.requires
