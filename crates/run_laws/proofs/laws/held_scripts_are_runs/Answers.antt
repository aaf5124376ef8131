use Rattle.run_laws.proofs.Finals.{held_in_order_is_run, held_by_threads_is_run, runs_in_order_are_one}
use Rattle.run_laws.proofs.laws.held_scripts_are_runs.Goals as goal

pub returns : goal.returns
returns c = record { in_order = held_in_order_is_run; one = runs_in_order_are_one; by_threads = held_by_threads_is_run }
