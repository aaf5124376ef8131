use Rattle.script_runs.proofs.compared.run_compared.Given as goal

abbrev pub ghosts-compare_named : goal.ghosts-compare_named
ghosts-compare_named g a = record { order = a.order; managed = 8; peers = 8 }
