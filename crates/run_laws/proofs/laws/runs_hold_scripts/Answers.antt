use Rattle.run_laws.proofs.InOrder.{told_callers_add, drivers_add, nothing_is_run, others_run_on, driver_runs_on}
use Rattle.run_laws.proofs.InOrderEnds.{runs_hold_script, all_are_given}
use Rattle.run_laws.proofs.laws.runs_hold_scripts.Goals as goal

pub returns : goal.returns
returns c = record { told = told_callers_add; driven = drivers_add; first = nothing_is_run; others = others_run_on; driver = driver_runs_on; hold = runs_hold_script; given = all_are_given }
