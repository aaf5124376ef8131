use Rattle.cycle_tests.proofs.abandoned.a_cycle_without_memory_is_made_by_the_next_one.Given as goal

abbrev pub ghosts-run : goal.ghosts-run
ghosts-run g a = record { order = a.order; managed = 1; peers = 1 }
