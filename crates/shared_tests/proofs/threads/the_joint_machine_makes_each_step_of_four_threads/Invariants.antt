use Rattle.shared_tests.proofs.threads.the_joint_machine_makes_each_step_of_four_threads.Given as goal

abbrev pub ghosts-run : goal.ghosts-run
ghosts-run g a = record { order = a.order; managed = 2; peers = 2 }
