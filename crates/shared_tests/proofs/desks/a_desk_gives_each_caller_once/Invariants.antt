use Rattle.shared_tests.proofs.desks.a_desk_gives_each_caller_once.Given as goal

abbrev pub ghosts-given : goal.ghosts-given
ghosts-given g a = record { order = a.order; managed = 1; peers = 2 }
