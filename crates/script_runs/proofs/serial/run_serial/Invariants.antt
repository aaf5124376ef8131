use Rattle.script_runs.proofs.serial.run_serial.Given as goal

abbrev pub ghosts-run_named : goal.ghosts-run_named
ghosts-run_named g a = record { order = a.order; managed = 8; peers = 8 }
