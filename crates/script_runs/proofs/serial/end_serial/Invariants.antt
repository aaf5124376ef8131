use Rattle.script_runs.proofs.serial.end_serial.Given as goal

abbrev pub ghosts-end_named : goal.ghosts-end_named
ghosts-end_named g a = record { order = a.order; managed = 8; peers = 8 }
