use Rattle.script_runs.proofs.last_cycle.run_threads_then_cycle.Given as goal

abbrev pub ghosts-run_named : goal.ghosts-run_named
ghosts-run_named g a = record { order = a.order; managed = 8; peers = 8 }
