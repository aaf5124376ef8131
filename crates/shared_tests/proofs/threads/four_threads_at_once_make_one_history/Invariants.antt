use Rattle.shared_tests.proofs.threads.four_threads_at_once_make_one_history.Given as goal

abbrev pub ghosts-run : goal.ghosts-run
ghosts-run g a = record { order = a.order; managed = 2; peers = 2 }
