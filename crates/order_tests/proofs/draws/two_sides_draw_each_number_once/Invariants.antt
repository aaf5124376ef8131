use Rattle.order_tests.proofs.draws.two_sides_draw_each_number_once.Given as goal

abbrev pub ghosts-run : goal.ghosts-run
ghosts-run g a = record { order = a.order; managed = 8; peers = 8 }
