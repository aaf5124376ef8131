use Rattle.shared_tests.proofs.runs.a_finished_history_has_the_events_of_both_threads.Given as goal

abbrev pub ghosts-run : goal.ghosts-run
ghosts-run g a = record { order = a.order; managed = 1; peers = 1 }
