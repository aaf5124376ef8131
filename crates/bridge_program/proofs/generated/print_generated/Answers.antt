use Rattle.std.proofs.Common.{sym, subst}
use Rattle.run_laws.specs.LastCycle.{DrivesCycles}
use Rattle.bridge_program.proofs.DriversLines.{drives_cycles}
use Rattle.bridge_program.proofs.generated.print_generated.Goals as goal

pub run-requires-after_bounds : goal.run-requires-after_bounds
run-requires-after_bounds g c κs within = subst DrivesCycles (sym c.in-Ok.ensures) (drives_cycles c.args.seed c.args.size)
