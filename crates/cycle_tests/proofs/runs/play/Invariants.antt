use Rattle.cycle_tests.proofs.runs.play.Given as goal

abbrev pub ghosts-miss_of : goal.ghosts-miss_of
ghosts-miss_of g a = record { order = a.order; managed = 1; peers = 1 }
