use Rattle.shared_tests.proofs.told.who_is_told_of_a_cell_reads_its_object.Given as goal

abbrev pub ghosts-run : goal.ghosts-run
ghosts-run g a = record { order = a.order; managed = 2; peers = 0 }
