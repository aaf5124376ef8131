use Rattle.shared_tests.proofs.readers.eight_threads_read_at_once_while_cycles_go_on.Given as goal

abbrev pub ghosts-run : goal.ghosts-run
ghosts-run g a = record { order = a.order; managed = 8; peers = 0 }
