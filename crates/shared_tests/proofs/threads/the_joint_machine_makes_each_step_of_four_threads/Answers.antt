use Rattle.shared_tests.proofs.threads.the_joint_machine_makes_each_step_of_four_threads.Goals as goal
use Rattle.joint_history.proofs.KnownCallers.{first_knows_nothing}

pub run-requires-clause-seat : goal.run-requires-clause-seat
run-requires-clause-seat g c within = (c.in_ok-order.ensures.seat.0, c.in_ok-order.ensures.all, first_knows_nothing _ c.in_ok-order.ensures.seat.1, c.in_ok-order.ensures.settled)
