use Rattle.cycle_tests.proofs.gaps.play.Given as goal

abbrev pub ghosts-seen_of : goal.ghosts-seen_of
ghosts-seen_of g a = record { order = a.order; managed = 1; peers = 1 }
