use Rattle.shared_tests.proofs.slices.a_chain_is_marked_peer_by_peer_while_its_end_moves.Given as goal

abbrev pub ghosts-run : goal.ghosts-run
ghosts-run g a = record { order = a.order; managed = 1; peers = 2 }
