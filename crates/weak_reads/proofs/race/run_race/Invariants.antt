use Rattle.weak_reads.proofs.race.run_race.Given as goal

abbrev pub ghosts-run : goal.ghosts-run
ghosts-run g a = record { order = a.order; managed = 8; peers = 1 }
