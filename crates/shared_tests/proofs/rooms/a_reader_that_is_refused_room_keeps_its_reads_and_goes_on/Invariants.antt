use Rattle.shared_tests.proofs.rooms.a_reader_that_is_refused_room_keeps_its_reads_and_goes_on.Given as goal

abbrev pub ghosts-run : goal.ghosts-run
ghosts-run g a = record { order = a.order; managed = 1; peers = 0 }
