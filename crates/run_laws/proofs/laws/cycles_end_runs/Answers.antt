use Rattle.run_laws.proofs.LastCycle.{cycle_lines_end_runs, cycles_end_runs}
use Rattle.run_laws.proofs.laws.cycles_end_runs.Goals as goal

pub returns : goal.returns
returns c = record { threads = cycles_end_runs; in_order = cycle_lines_end_runs }
