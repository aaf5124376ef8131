use Rattle.shared_tests.proofs.memory.a_caller_without_memory_keeps_what_it_made_and_goes_on.Given as goal

abbrev pub ghosts-run : goal.ghosts-run
ghosts-run g a = record { order = a.order; managed = 1; peers = 0 }
