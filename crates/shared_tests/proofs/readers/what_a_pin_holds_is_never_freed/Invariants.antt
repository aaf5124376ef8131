use Rattle.shared_tests.proofs.readers.what_a_pin_holds_is_never_freed.Given as goal

abbrev pub ghosts-run : goal.ghosts-run
ghosts-run g a = record { order = a.order; managed = 8; peers = 0 }
